-- A rule of a table, or of every number below one, proved by a test that antt computes. Assumes nothing.
use mathlib.Core.Path.{◌≡◌, refl, sym, ◌∙◌, ap}
use mathlib.Core.Bool.{Bool, true, false, ◌&&◌}
use Prim.Native.Nat.{ℕ, zero, suc, ◌+◌, ◌<◌}
use native.Mathlib.Nat.{add-zero, add-suc, suc-add, le_of_suc-le-suc}
use native.Mathlib.Omega.{arith}
use lib.ListN.{get_or}
use Rattle.spelling.specs.Rows.{table}
use lib.Dec.{eqb}
use borrow.Author.Tests.{eqb-true, eqb-false}

-- what both of two tests say
pub both_hold : (a b : Bool) → a && b ≡ true → (a ≡ true) × (b ≡ true)
both_hold true b e = (refl, e)
both_hold false b e = let z : ◌≡◌ {A = ℕ} 0 1 = cc in absurd (omega arith)

-- a table of the source computes to the table of f, so its entries are what f gives
pub entry : (f : ℕ → ℕ) (i n k : ℕ) → k < n → get_or (table f i n) k 0 ≡ f (i + k)
entry f i zero k h = absurd (omega arith)
entry f i (suc n) zero h = ap f (sym (add-zero i))
entry f i (suc n) (suc k) h = entry f (suc i) n k (le_of_suc-le-suc h) ∙ ap f (suc-add i k ∙ sym (add-suc i k))

-- a test that holds of 0, 1, .., n - 1
unfoldable pub every : (ℕ → Bool) → ℕ → Bool
every f zero = true
every f (suc n) = f n && every f n

pub every-at : (f : ℕ → Bool) (n : ℕ) → every f n ≡ true → (k : ℕ) → k < n → f k ≡ true
unfolding every
every-at f zero t k h = absurd (omega arith)
every-at f (suc n) t k h = go (eqb k n) refl (every-at f n (both_hold (f n) (every f n) t).1 k)
  where
    go : (b : Bool) → eqb k n ≡ b → (k < n → f k ≡ true) → f k ≡ true
    go true e less = ap f (eqb-true k n e) ∙ (both_hold (f n) (every f n) t).0
    go false e less = let other = eqb-false k n e in less (omega (arith, other))
