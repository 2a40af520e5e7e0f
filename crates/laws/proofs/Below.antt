-- Numbers and lists of numbers below n, and what keeps them so. Assumes nothing.
use Prim.Native.Nat.{ℕ, zero, suc, ◌+◌, ◌%◌, ◌^◌, ◌<◌}
use mathlib.Core.Path.{◌≡◌, refl}
use mathlib.Core.Bool.{Bool, true, false, and-eq-true_iff}
use mathlib.Core.List.{List, [], ◌∷◌}
use native.Mathlib.Nat.{mod-lt}
use lib.ListN.{length, get_or, set}
use lib.Dec.{ltb}
use lib.Pow.{pow_pos}
use borrow.Author.Tests.{lt-ltb, ltb-true}
use Rattle.std.specs.Prelude.{Result, Ok, Err}
use Rattle.machine.specs.declared.Cause.{Cause}
use Rattle.machine.specs.Word.{pick}
use Rattle.machine.specs.State.{fill, ring}
use Rattle.machine.specs.Memory.{Field, place_of, load_at, store_at, load, store, stores}
use Rattle.machine.specs.Exchange.{eight}
use Rattle.machine.specs.Run.{zeros}
use Rattle.machine.specs.Refusal.{below}

-- what holds of both holds of the one that is picked
pub picked : {A : Type 0} (Q : A → Type 0) (b : Bool) {x y : A} → Q x → Q y → Q (pick b x y)
picked Q true h g = h
picked Q false h g = g

pub pick-lt : (b : Bool) {x y n : ℕ} → x < n → y < n → pick b x y < n
pick-lt b {n = n} h g = picked (λ x. x < n) b h g

-- the low w bits of a number
pub low : (x w : ℕ) → x % 2 ^ w < 2 ^ w
low x w = mod-lt x (pow_pos w)

-- a list with one more number, with one changed, and a number of it
pub below-cons : (n x : ℕ) (l : List ℕ) → x < n → below n l ≡ true → below n (x ∷ l) ≡ true
unfolding below
below-cons n x l h e = rw (lt-ltb x n h) e

pub below_set : (n : ℕ) (l : List ℕ) (i x : ℕ) → below n l ≡ true → x < n → below n (set l i x) ≡ true
unfolding below
below_set n [] i x e h = e
below_set n (y ∷ l) zero x e h = rw (lt-ltb x n h) ((and-eq-true_iff (ltb y n) (below n l)).0 e).1
below_set n (y ∷ l) (suc i) x e h =
    let g = (and-eq-true_iff (ltb y n) (below n l)).0 e in
    rw g.0 (below_set n l i x g.1 h)

pub below-get_or : (w : ℕ) (l : List ℕ) (i : ℕ) → below (2 ^ w) l ≡ true → get_or l i 0 < 2 ^ w
unfolding below
below-get_or w [] i e = pow_pos w
below-get_or w (x ∷ l) zero e = ltb-true x (2 ^ w) ((and-eq-true_iff (ltb x (2 ^ w)) (below (2 ^ w) l)).0 e).0
below-get_or w (x ∷ l) (suc i) e = below-get_or w l i ((and-eq-true_iff (ltb x (2 ^ w)) (below (2 ^ w) l)).0 e).1

-- places that become f 0, f 1, .., all below n
module _ (n : ℕ) (f : ℕ → ℕ) (h : (e : ℕ) → f e < n) where
  pub below-fill : (at k : ℕ) (l : List ℕ) → below n l ≡ true → below n (fill at f k l) ≡ true
  unfolding fill
  below-fill at zero l e = e
  below-fill at (suc k) l e = below_set n (fill at f k l) (at + k) (f k) (below-fill at k l e) (h k)

  pub below-ring : (first k : ℕ) (l : List ℕ) → below n l ≡ true → below n (ring first f k l) ≡ true
  unfolding ring
  below-ring first zero l e = e
  below-ring first (suc k) l e = below_set n (ring first f k l) ((first + k) % 64) (f k) (below-ring first k l e) (h k)

  pub below-stores : (field : Field) (at : ℕ → ℕ) (k : ℕ) (mem : List ℕ) → below n mem ≡ true → below n (stores field at f k mem) ≡ true
  unfolding stores store
  below-stores field at zero mem e = e
  below-stores field at (suc k) mem e =
      let l = stores field at f k mem in
      go l (place_of field (length l) (at k)) (below-stores field at k mem e)
    where
      go : (l : List ℕ) (o : Result ℕ Cause) → below n l ≡ true → below n (store_at l o (f k)) ≡ true
      go l (Ok w) e = below_set n l w (f k) e (h k)
      go l (Err cause) e = e

  pub below-eight : below n (eight f) ≡ true
  unfolding below
  below-eight =
      rw (
        lt-ltb (f 0) n (h 0),
        lt-ltb (f 1) n (h 1),
        lt-ltb (f 2) n (h 2),
        lt-ltb (f 3) n (h 3),
        lt-ltb (f 4) n (h 4),
        lt-ltb (f 5) n (h 5),
        lt-ltb (f 6) n (h 6),
        lt-ltb (f 7) n (h 7),
      )

-- zeros are below any power
pub below-zeros : (w k : ℕ) → below (2 ^ w) (zeros k) ≡ true
unfolding zeros below
below-zeros w zero = refl
below-zeros w (suc k) = below-cons (2 ^ w) 0 (zeros k) (pow_pos w) (below-zeros w k)

-- a word that is loaded
pub load_lt : (f : Field) (mem : List ℕ) (w : ℕ) → below (2 ^ 64) mem ≡ true → load f mem w < 2 ^ 64
unfolding load
load_lt f mem w e = go (place_of f (length mem) w)
  where
    go : (o : Result ℕ Cause) → load_at mem o < 2 ^ 64
    go (Ok n) = below-get_or 64 mem n e
    go (Err cause) = pow_pos 64
