-- A text that is read is the text of its parcels. Assumes nothing.
use Rattle.std.specs.Prelude.{Option, Some, None}
use mathlib.Core.Path.{◌≡◌, refl, sym, ap, ◌∙◌}
use mathlib.Core.List.{List, [], ◌∷◌, ◌++◌, append_assoc, append-nil}
use mathlib.Core.Bool.{Bool, true, false, ◌&&◌}
use Prim.Native.Nat.{ℕ, zero, suc, ◌+◌, ◌*◌, ◌-◌, ◌/◌, ◌%◌, ◌≤◌, ◌<◌}
use native.Mathlib.Numerals.{add-one}
use native.Mathlib.Nat.{add-zero}
use native.Mathlib.Omega.{arith}
use lib.ListN.{length, drop, drop_of_length-le}
use lib.Seq.{drop-cons}
use lib.Dec.{eqb, ltb}
use borrow.Author.Tests.{ltb-true, lt-ltb, eqb-true, ltb-false}
use Rattle.machine.specs.Word.{pick}
use Rattle.text.specs.Digits.{byte_at, glyph_of, digits}
use Rattle.octal.specs.Numbers.{within, digit_of, all_digits, number_from}
use Rattle.octal.specs.Lines.{parcel_text, parcels_text, parcel_at, parcel_line, bad_line, parcels_from, all_read, octal_by, octal_of, first_bad}
use Rattle.octal.proofs.Digit.{both, range}
use Rattle.octal.proofs.Line.{too_short}

-- a digit below 8 is spelled in one way
pub one-sign : (b : ℕ) → digit_of b < 8 → glyph_of (digit_of b) ≡ b
unfolding digit_of glyph_of
one-sign b h = go (within 48 58 b) (within 65 71 b) (within 97 103 b) refl refl refl h
  where
    go : (t u v : Bool) → within 48 58 b ≡ t → within 65 71 b ≡ u → within 97 103 b ≡ v → pick t (b - 48) (pick u (b - 55) (pick v (b - 87) 16)) < 8
        → pick (ltb (pick t (b - 48) (pick u (b - 55) (pick v (b - 87) 16))) 10) (48 + pick t (b - 48) (pick u (b - 55) (pick v (b - 87) 16)))
        (55 + pick t (b - 48) (pick u (b - 55) (pick v (b - 87) 16))) ≡ b
    go true u v e f g h = let r = range 48 58 b e in rw (lt-ltb (b - 48) 10 (omega arith)) (omega (arith, r))
    go false true v e f g h = let r = range 65 71 b f in absurd (omega (arith, r))
    go false false true e f g h = let r = range 97 103 b g in absurd (omega (arith, r))
    go false false false e f g h = absurd (omega arith)

-- k bytes of a text from a place on
abbrev part : ℕ → List ℕ → ℕ → List ℕ
part zero text at = []
part (suc k) text at = byte_at text at ∷ part k text (at + 1)

module _ (text : List ℕ) where
  -- the digits of the number that they spell are they
  digits_are : (k n at v : ℕ) → all_digits 8 k text at ≡ true → digits 8 (n + k) (number_from 8 k text at v) ≡ digits 8 n v ++ part k text at
  unfolding all_digits number_from digits
  digits_are zero n at v e = simp add-zero (sym (append-nil (digits 8 n v)))
  digits_are (suc k) n at v e =
      let d = digit_of (byte_at text at) in
      let t = both (ltb d 8) (all_digits 8 k text (at + 1)) e in
      let low : d < 8 = ltb-true d 8 t.0 in
      let more : n + suc k ≡ suc n + k = omega arith in
      let high : (v * 8 + d) / 8 ≡ v = omega arith in
      let last : (v * 8 + d) % 8 ≡ d = omega arith in
      rw more (digits_are k (suc n) (at + 1) (v * 8 + d) t.1 ∙ simp (high, last, one-sign (byte_at text at) low, append_assoc))

  part-last : (k at : ℕ) → part (suc k) text at ≡ part k text at ++ (byte_at text (at + k) ∷ [])
  part-last zero at = simp add-zero
  part-last (suc k) at =
      let on : at + 1 + k ≡ at + suc k = omega arith in
      ap (λ (l : List ℕ). byte_at text at ∷ l) (part-last k (at + 1) ∙ simp on)

  part-rest : (k at : ℕ) → at + k ≤ length text → part k text at ++ drop (at + k) text ≡ drop at text
  part-rest zero at h = simp add-zero
  part-rest (suc k) at h =
      let on : at + 1 + k ≡ at + suc k = omega arith in
      let here : at < length text = omega arith in
      let rest = part-rest k (at + 1) (omega arith) in
      simp on at (ap (λ (l : List ℕ). byte_at text at ∷ l) rest) ∙ sym (drop-cons text at 0 here ∙ simp (← add-one at))

  -- so a good line is the text of its parcel
  line-is : (at : ℕ) → parcel_line text at ≡ true → parcel_text (parcel_at text at) ≡ part 7 text at
  unfolding parcel_line digits
  line-is at e =
      let t = both (all_digits 8 6 text at && eqb (byte_at text (at + 6)) 10) (ltb (parcel_at text at) 65536) e in
      let u = both (all_digits 8 6 text at) (eqb (byte_at text (at + 6)) 10) t.0 in
      ap (λ (l : List ℕ). l ++ (10 ∷ [])) (digits_are 6 0 at 0 u.0) ∙ sym (part-last 6 at ∙ simp (eqb-true (byte_at text (at + 6)) 10 u.1))

  -- where no line is bad, the next is good, and so are those after it
  good-next : (most at line : ℕ) → at < length text → bad_line (suc most) text at line ≡ None
      → (parcel_line text at ≡ true) × (bad_line most text (at + 7) (line + 1) ≡ None)
  unfolding bad_line
  good-next most at line here e = go (parcel_line text at) refl (simp (lt-ltb at (length text) here) at e)
    where
      go : (t : Bool) → parcel_line text at ≡ t → pick t (bad_line most text (at + 7) (line + 1)) (Some line) ≡ None → (parcel_line text at ≡ true)
          × (bad_line most text (at + 7) (line + 1) ≡ None)
      go true f g = (f, g)
      go false f g = cc

  good-some : (most at line : ℕ) → at < length text → bad_line most text at line ≡ None → 0 < most
  unfolding bad_line
  good-some zero at line here e = let f : ◌≡◌ {A = Option ℕ} (Some line) None = simp (lt-ltb at (length text) here) at e in cc
  good-some (suc most) at line here e = omega arith

  -- nothing is left, where no whole line is
  none_left : (most at line : ℕ) → bad_line most text at line ≡ None → length text < at + 7 → length text ≤ at
  none_left zero at line e l = go (ltb at (length text)) refl
    where
      go : (t : Bool) → ltb at (length text) ≡ t → length text ≤ at
      go true f = let z = good-some zero at line (ltb-true _ _ f) e in absurd (omega arith)
      go false f = ltb-false _ _ f
  none_left (suc most) at line e l = go (ltb at (length text)) refl
    where
      go : (t : Bool) → ltb at (length text) ≡ t → length text ≤ at
      go true f =
          let good = (good-next most at line (ltb-true _ _ f) e).0 in
          let short = too_short text at l in
          let z : ◌≡◌ {A = ℕ} 0 1 = cc in
          absurd (omega arith)
      go false f = ltb-false _ _ f

  -- the text from there on is that of its parcels
  same_from : (k most at line : ℕ) → bad_line most text at line ≡ None → at + 7 * k ≤ length text → length text < at + 7 * k + 7
      → parcels_text (parcels_from k text at) ≡ drop at text
  unfolding parcels_from parcels_text
  same_from zero most at line e h l = sym (drop_of_length-le text (none_left most at line e (omega arith)))
  same_from (suc k) zero at line e h l = let z = good-some zero at line (omega arith) e in absurd (omega arith)
  same_from (suc k) (suc most) at line e h l =
      let good = good-next most at line (omega arith) e in
      let rest = same_from k most (at + 7) (line + 1) good.1 (omega arith) (omega arith) in
      simp (line-is at good.0, rest) (part-rest 7 at (omega arith))

-- a text that is read is the text of its parcels
pub same_text : (text ps : List ℕ) → octal_of text ≡ all_read ps → parcels_text ps ≡ text
unfolding octal_of
same_text text ps e = go (first_bad text) refl e
  where
    go : (b : Option ℕ) → first_bad text ≡ b → octal_by text b ≡ all_read ps → parcels_text ps ≡ text
    go None f g =
        let ps-are : parcels_from (length text / 7) text 0 ≡ ps = cc in
        rw (← ps-are) (same_from text (length text / 7) (length text) 0 1 f (omega arith) (omega arith))
    go (Some line) f g = cc
