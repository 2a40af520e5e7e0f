-- A test of every number below a bound, which the prover computes. Assumes nothing.
use Rattle.std.proofs.Common.{◌≡◌, ℕ, zero, suc, ◌<◌, Bool, true, false, ◌&&◌, eqb, refl, arith, eqb-true}
use mathlib.Core.Bool.{and-eq-true_iff}
use borrow.Author.Tests.{eqb-false}

unfoldable pub every : (ℕ → Bool) → ℕ → Bool
every f zero = true
every f (suc n) = f n && every f n

pub every-at : (f : ℕ → Bool) (n : ℕ) → every f n ≡ true → (k : ℕ) → k < n → f k ≡ true
unfolding every
every-at f zero e k l = absurd (omega arith)
every-at f (suc n) e k l = go (eqb k n) refl (every-at f n ((and-eq-true_iff (f n) (every f n)).0 e).1 k)
  where
    go : (t : Bool) → eqb k n ≡ t → (k < n → f k ≡ true) → f k ≡ true
    go true d below = rw (eqb-true k n d) ((and-eq-true_iff (f n) (every f n)).0 e).0
    go false d below = below (omega (arith, eqb-false k n d))
