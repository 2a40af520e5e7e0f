-- Laws of digits and numbers as they are read: what one turn of a loop, and each way out of it, says. Assumes nothing.
use Rattle.std.specs.Prelude.{Some, None}
use Rattle.std.specs.Char.{digit_value}
use Rattle.std.proofs.lemmas.Bool.Decides.{nat_tests}
use Rattle.machine.specs.Word.{pick}
use Rattle.std.proofs.Common.{◌⊎◌, inl, inr}
use mathlib.Core.Path.{◌≡◌, refl, ◌∙◌}
use mathlib.Core.List.{List}
use mathlib.Core.Bool.{Bool, true, false, ◌&&◌}
use Prim.Native.Nat.{ℕ, zero, suc, ◌+◌, ◌*◌, ◌-◌, ◌^◌, ◌≤◌, ◌<◌}
use native.Mathlib.Nat.{add-zero, pow-suc, mul-le-mul_left}
use native.Mathlib.Numerals.{add-one}
use native.Mathlib.Omega.{arith}
use lib.Dec.{leb, ltb}
use lib.ListN.{length}
use borrow.Author.Tests.{lt-ltb, le-ltb, le-leb, lt-leb, leb-true, ltb-true}
use Rattle.text.specs.Digits.{byte_at}
use Rattle.text.proofs.Reading.{left-suc}
use Rattle.octal.specs.Numbers.{within, digit_of, all_digits, number_from, number_of, address_of}

-- what both of two tests say
pub both : (a b : Bool) → a && b ≡ true → (a ≡ true) × (b ≡ true)
both true b e = (refl, e)
both false b e = let z : ◌≡◌ {A = ℕ} 0 1 = cc in absurd (omega arith)

pub range : (low past b : ℕ) → within low past b ≡ true → (low ≤ b) × (b < past)
unfolding within
range low past b e = let t = both (leb low b) (ltb b past) e in (leb-true _ _ t.0, ltb-true _ _ t.1)

-- what the library takes for a digit of a base up to 16 is one here
alike : (b : ℕ) → (digit_value b ≡ digit_of b) ⊎ ((16 ≤ digit_value b) × (16 ≤ digit_of b))
unfolding digit_of within
alike b = grind (arith, nat_tests)

module _ (base b : ℕ) (few : base ≤ 16) where
  pub digit-is : (d : ℕ) → digit_value b < base → d ≡ digit_value b → (d ≡ digit_of b) × (d < base)
  digit-is d h e = go (alike b)
    where
      go : (digit_value b ≡ digit_of b) ⊎ ((16 ≤ digit_value b) × (16 ≤ digit_of b)) → (d ≡ digit_of b) × (d < base)
      go (inl f) = (e ∙ f, omega arith)
      go (inr f) = absurd (omega (arith, f.0))

  pub digit-none : (digit_value b < base → ⊥) → base ≤ digit_of b
  digit-none n = go (alike b)
    where
      go : (digit_value b ≡ digit_of b) ⊎ ((16 ≤ digit_value b) × (16 ≤ digit_of b)) → base ≤ digit_of b
      go (inl f) = omega (arith, n)
      go (inr f) = omega (arith, f.1)

-- a loop over n digits that has passed d of them; v is the value of the next, which stands at q
module _ (base : ℕ) (text : List ℕ) (n d q : ℕ) where
  module _ (more : d < n) (v : ℕ) (e : v ≡ digit_of (byte_at text q)) (q' : ℕ) (onward : q + 1 ≡ q') where
    pub number-next : (p : ℕ) → number_from base (n - d) text q p ≡ number_from base (n - (d + 1)) text q' (p * base + v)
    unfolding number_from
    number-next p = rw (left-suc n d more, e, ← onward)

    pub all-next : v < base → all_digits base (n - d) text q ≡ all_digits base (n - (d + 1)) text q'
    unfolding all_digits
    all-next good = simp (left-suc n d more, ← e, lt-ltb _ _ good, onward)

  pub all-not : d < n → base ≤ digit_of (byte_at text q) → all_digits base (n - d) text q ≡ false
  unfolding all_digits
  all-not more bad = simp (left-suc n d more, le-ltb _ _ bad)

  module _ (none : n ≤ d) where
    none_left : n - d ≡ 0
    none_left = omega arith

    pub number-done : (p : ℕ) → number_from base (n - d) text q p ≡ p
    unfolding number_from
    number-done p = simp none_left

    pub all_done : all_digits base (n - d) text q ≡ true
    unfolding all_digits
    all_done = simp none_left

-- a number of d digits up to 16 in a base up to 16 is below 17 ^ d, and one digit more keeps it so
pub times-base : (p base : ℕ) → base ≤ 16 → p * base ≤ p * 16
times-base p base h = mul-le-mul_left p h

pub digit-wide : (base p v d : ℕ) → base ≤ 16 → v ≤ 16 → p < 17 ^ d → p * base + v < 17 ^ (d + 1)
digit-wide base p v d small digit h = rw (add-one d, pow-suc 17 d) (omega (arith, times-base p base small))

-- an argument: which of its tests it fails first, or none
module _ (base most limit : ℕ) (s : List ℕ) where
  pub no_digit : length s ≡ 0 → address_of base most limit s ≡ None
  unfolding address_of
  no_digit h = simp (le-ltb 0 (length s) (omega arith))

  pub too_long : most < length s → address_of base most limit s ≡ None
  unfolding address_of
  too_long h = simp (lt-ltb 0 (length s) (omega arith), lt-leb _ _ h)

  module _ (some : length s ≡ 0 → ⊥) (few : length s ≤ most) where
    one : 0 < length s
    one = omega arith

    pub other_sign : number_of base s ≡ None → address_of base most limit s ≡ None
    unfolding address_of
    other_sign e = go (all_digits base (length s) s 0) refl e
      where
        go : (t : Bool) → all_digits base (length s) s 0 ≡ t → pick t (Some (number_from base (length s) s 0 0)) None ≡ None → address_of base most limit s ≡ None
        go true f g = cc
        go false f g = simp (lt-ltb 0 (length s) one, le-leb _ _ few, f)

    module _ (n : ℕ) (e : number_of base s ≡ Some n) where
      spelled : (all_digits base (length s) s 0 ≡ true) × (number_from base (length s) s 0 0 ≡ n)
      spelled = go (all_digits base (length s) s 0) refl e
        where
          go : (t : Bool) → all_digits base (length s) s 0 ≡ t → pick t (Some (number_from base (length s) s 0 0)) None ≡ Some n
              → (all_digits base (length s) s 0 ≡ true) × (number_from base (length s) s 0 0 ≡ n)
          go true f g = (f, cc)
          go false f g = cc

      pub too-high : limit ≤ n → address_of base most limit s ≡ None
      unfolding address_of
      too-high h = simp (lt-ltb 0 (length s) one, le-leb _ _ few, spelled.0, spelled.1, le-ltb _ _ h)

      pub spells : n < limit → address_of base most limit s ≡ Some n
      unfolding address_of
      spells h = simp (lt-ltb 0 (length s) one, le-leb _ _ few, spelled.0, spelled.1, lt-ltb _ _ h)

-- digits of one text that stand in another
module _ (base : ℕ) (s t : List ℕ) where
  here : (k i j : ℕ) → ((d : ℕ) → d < suc k → byte_at s (i + d) ≡ byte_at t (j + d)) → byte_at s i ≡ byte_at t j
  here k i j same = simp add-zero at (same 0 (omega arith))

  later : (k i j : ℕ) → ((d : ℕ) → d < suc k → byte_at s (i + d) ≡ byte_at t (j + d)) → (d : ℕ) → d < k → byte_at s (i + 1 + d) ≡ byte_at t (j + 1 + d)
  later k i j same d h =
      let p : i + 1 + d ≡ i + (d + 1) = omega arith in
      let q : j + 1 + d ≡ j + (d + 1) = omega arith in
      rw (p, q) (same (d + 1) (omega arith))

  pub digits-same : (k i j : ℕ) → ((d : ℕ) → d < k → byte_at s (i + d) ≡ byte_at t (j + d)) → all_digits base k s i ≡ all_digits base k t j
  unfolding all_digits
  digits-same zero i j same = refl
  digits-same (suc k) i j same = simp (here k i j same, digits-same k (i + 1) (j + 1) (later k i j same))

  pub number-same : (k i j v : ℕ) → ((d : ℕ) → d < k → byte_at s (i + d) ≡ byte_at t (j + d)) → number_from base k s i v ≡ number_from base k t j v
  unfolding number_from
  number-same zero i j v same = refl
  number-same (suc k) i j v same = rw (here k i j same) (number-same k (i + 1) (j + 1) (v * base + digit_of (byte_at t j)) (later k i j same))
