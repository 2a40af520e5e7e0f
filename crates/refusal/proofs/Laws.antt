-- Numbers or-ed together: what one test of them all says. Assumes nothing.
use Prim.Native.Nat.{ℕ, ◌+◌, ◌^◌, ◌<◌, ◌≤◌}
use mathlib.Core.Path.{◌≡◌, refl, sym, ◌∙◌}
use mathlib.Core.Bool.{Bool, true, false, ◌&&◌, and-true, and_assoc}
use mathlib.Core.List.{List, [], ◌∷◌}
use native.Mathlib.Omega.{arith}
use native.Mathlib.Numerals.{add-one}
use lib.Bits.{bit_or, or_lt, or_add_and, and_le_l, and_le_r}
use lib.Dec.{ltb}
use lib.ListN.{length, get_or, drop, drop_of_length-le}
use lib.Pow.{pow_pos}
use lib.Seq.{drop-cons}
use borrow.Author.Tests.{ltb-true, ltb-false, lt-ltb, le-ltb}
use Rattle.machine.specs.Refusal.{below}
use Rattle.refusal.specs.Joined.{joined}

-- neither number is over both or-ed together
or-le : (x y : ℕ) → (x ≤ bit_or x y) × (y ≤ bit_or x y)
or-le x y = (omega (arith, or_add_and x y, and_le_r x y), omega (arith, or_add_and x y, and_le_l x y))

-- so both are below a power of two just where that is
pub or-test : (k x y : ℕ) → ltb (bit_or x y) (2 ^ k) ≡ ltb x (2 ^ k) && ltb y (2 ^ k)
or-test k x y = go (ltb x (2 ^ k)) (ltb y (2 ^ k)) refl refl
  where
    go : (s t : Bool) → ltb x (2 ^ k) ≡ s → ltb y (2 ^ k) ≡ t → ltb (bit_or x y) (2 ^ k) ≡ s && t
    go true true d e = lt-ltb (bit_or x y) (2 ^ k) (or_lt k x y (ltb-true x (2 ^ k) d) (ltb-true y (2 ^ k) e))
    go true false d e = le-ltb (bit_or x y) (2 ^ k) (omega (arith, ltb-false y (2 ^ k) e, or-le x y))
    go false t d e = le-ltb (bit_or x y) (2 ^ k) (omega (arith, ltb-false x (2 ^ k) d, or-le x y))

-- and so are a number and a list after it
pub joined-test : (k all : ℕ) (l : List ℕ) → ltb (joined all l) (2 ^ k) ≡ below (2 ^ k) (all ∷ l)
unfolding below
joined-test k all [] = sym (and-true (ltb all (2 ^ k)))
joined-test k all (x ∷ l) = joined-test k (bit_or all x) l ∙ rw (or-test, and_assoc)

-- and of a list with nothing before it
pub list-test : (k x : ℕ) (l : List ℕ) → x ≡ joined 0 l → ltb x (2 ^ k) ≡ below (2 ^ k) l
unfolding below
list-test k x l e = rw e (joined-test k 0 l ∙ rw (lt-ltb 0 (2 ^ k) (pow_pos k)))

-- a loop that has joined those before place e: one number more; and all of them
module _ (l : List ℕ) (all e : ℕ) (j : joined all (drop e l) ≡ joined 0 l) where
  pub joins-on : e < length l → joined (bit_or all (get_or l e 0)) (drop (e + 1) l) ≡ joined 0 l
  joins-on h = rw add-one (rw (drop-cons l e 0 h) at j)

  pub joins-all : length l ≤ e → all ≡ joined 0 l
  joins-all h = rw (drop_of_length-le l h) at j
