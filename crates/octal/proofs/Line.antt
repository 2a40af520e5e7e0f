-- Laws of the lines of parcels that are read. Assumes nothing.
use Rattle.std.specs.Prelude.{Some, None}
use mathlib.Core.Path.{◌≡◌, refl, ap, ◌∙◌}
use mathlib.Core.List.{List}
use mathlib.Core.Bool.{Bool, true, false, ◌&&◌}
use Prim.Native.Nat.{ℕ, zero, suc, ◌+◌, ◌-◌, ◌≤◌, ◌<◌}
use native.Mathlib.Numerals.{add-one}
use native.Mathlib.Nat.{zero-add}
use native.Mathlib.Omega.{arith}
use lib.ListN.{length, set, take, drop, length-drop, get_or-eq_default}
use lib.Seq.{sets, get_or-drop, get_or-take, length-take-le}
use lib.Dec.{ltb, eqb}
use borrow.Author.Tests.{lt-ltb, le-ltb, eq-eqb, ne_eqb, ltb-true}
use Rattle.text.specs.Digits.{byte_at}
use Rattle.text.proofs.Reading.{left-suc}
use Rattle.octal.specs.Numbers.{all_digits, number_of}
use Rattle.octal.specs.Lines.{parcel_at, parcel_line, bad_line, parcels_from}
use Rattle.octal.proofs.Digit.{both, digits-same, number-same}

pub one-back : (n : ℕ) → n + 1 - 1 ≡ n
one-back n = omega arith

-- a line that is bad, and one that is good
module _ (text : List ℕ) (at : ℕ) where
  pub no-digits : all_digits 8 6 text at ≡ false → parcel_line text at ≡ false
  unfolding parcel_line
  no-digits e = simp e

  not-ended : (t : Bool) → (byte_at text (at + 6) ≡ 10 → ⊥) → t && eqb (byte_at text (at + 6)) 10 && ltb (parcel_at text at) 65536 ≡ false
  not-ended true e = simp (ne_eqb _ _ e)
  not-ended false e = refl

  pub no_end : (byte_at text (at + 6) ≡ 10 → ⊥) → parcel_line text at ≡ false
  unfolding parcel_line
  no_end e = not-ended (all_digits 8 6 text at) e

  -- past its end a text has zeros
  pub too_short : length text < at + 7 → parcel_line text at ≡ false
  too_short h = no_end (λ e. let z : byte_at text (at + 6) ≡ 0 = get_or-eq_default text 0 (omega arith) in omega arith)

  module _ (good : all_digits 8 6 text at ≡ true) (ended : byte_at text (at + 6) ≡ 10) (p : ℕ) (e : parcel_at text at ≡ p) where
    pub too_large : 65535 < p → parcel_line text at ≡ false
    unfolding parcel_line
    too_large h = simp (good, eq-eqb _ _ ended, e, le-ltb p 65536 (omega arith))

    pub right : p ≤ 65535 → parcel_line text at ≡ true
    unfolding parcel_line
    right h = simp (good, eq-eqb _ _ ended, e, lt-ltb p 65536 (omega arith))

  pub narrow : parcel_line text at ≡ true → parcel_at text at < 65536
  unfolding parcel_line
  narrow e = ltb-true _ _ (both (all_digits 8 6 text at && eqb (byte_at text (at + 6)) 10) (ltb (parcel_at text at) 65536) e).1

  -- what that says of the lines from here on, where line - 1 are passed and n are looked at
  module _ (n line : ℕ) where
    none-at : (k : ℕ) → length text ≤ at → bad_line k text at line ≡ None
    unfolding bad_line
    none-at zero h = simp (le-ltb _ _ h)
    none-at (suc k) h = simp (le-ltb _ _ h)

    pub line-none : length text ≤ at → bad_line (n - line) text at line ≡ None
    line-none h = none-at (n - line) h

    module _ (here : at < length text) where
      bad-at : (k : ℕ) → parcel_line text at ≡ false → bad_line k text at line ≡ Some line
      unfolding bad_line
      bad-at zero e = simp (lt-ltb _ _ here)
      bad-at (suc k) e = simp (lt-ltb _ _ here, e)

      pub line-bad : parcel_line text at ≡ false → bad_line (n - line) text at line ≡ Some line
      line-bad e = bad-at (n - line) e

      pub line-good : line < n → parcel_line text at ≡ true → bad_line (n - line) text at line ≡ bad_line (n - (line + 1)) text (at + 7) (line + 1)
      unfolding bad_line
      line-good more e = simp (left-suc n line more, lt-ltb _ _ here, e)

      pub line-right : bad_line (n - line) text at line ≡ None → parcel_line text at ≡ true
      line-right e = go (parcel_line text at) refl
        where
          go : (t : Bool) → parcel_line text at ≡ t → parcel_line text at ≡ true
          go true f = f
          go false f = let l = line-bad f in cc

-- the digits of a good line, taken by themselves, spell its parcel
pub number-here : (text part : List ℕ) (at : ℕ) → parcel_line text at ≡ true → length part ≡ 6
    → ((d : ℕ) → d < 6 → byte_at part (0 + d) ≡ byte_at text (at + d)) → number_of 8 part ≡ Some (parcel_at text at)
unfolding parcel_line
number-here text part at e six same =
    let t = both (all_digits 8 6 text at && eqb (byte_at text (at + 6)) 10) (ltb (parcel_at text at) 65536) e in
    let u = both (all_digits 8 6 text at) (eqb (byte_at text (at + 6)) 10) t.0 in
    rw (six, digits-same 8 part text 6 0 at same, number-same 8 part text 6 0 at 0 same, u.0) refl

pub number-part : (text : List ℕ) (at k : ℕ) → parcel_line text at ≡ true → k ≡ 6 → at + 6 ≤ length text
    → number_of 8 (take k (drop at text)) ≡ Some (parcel_at text at)
number-part text at k e six fits =
    let left = length-drop at text in
    number-here text (take k (drop at text)) at e (length-take-le k (drop at text) (omega arith) ∙ six)
    (λ d h. rw (zero-add d) (get_or-take k (drop at text) d 0 (omega arith) ∙ get_or-drop at text d 0))

-- parcels stored: n of them, of which i are stored
module _ (text room : List ℕ) (n i at : ℕ) where
  pub store-next : (p : ℕ) → i < n → p ≡ parcel_at text at
      → sets room i (parcels_from (n - i) text at) ≡ sets (set room i p) (i + 1) (parcels_from (n - (i + 1)) text (at + 7))
  unfolding parcels_from
  store-next p more e = rw (left-suc n i more, e, add-one i)

  pub store-done : n ≤ i → sets room i (parcels_from (n - i) text at) ≡ room
  unfolding parcels_from
  store-done none = let z : n - i ≡ 0 = omega arith in simp z

pub parcels-length : (text : List ℕ) (k at : ℕ) → length (parcels_from k text at) ≡ k
unfolding parcels_from
parcels-length text zero at = refl
parcels-length text (suc k) at = ap suc (parcels-length text k (at + 7))
