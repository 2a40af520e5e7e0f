-- Laws of the text that is written. Assumes nothing.
use mathlib.Core.Path.{◌≡◌, sym, ap, ◌∙◌, subst}
use mathlib.Core.List.{List, [], ◌++◌}
use Prim.Native.Nat.{ℕ, ◌+◌, ◌*◌, ◌-◌, ◌≤◌, ◌<◌}
use native.Mathlib.Numerals.{add-one}
use native.Mathlib.Omega.{arith}
use lib.ListN.{length, get_or, drop}
use lib.Seq.{drop-cons, drop-length}
use Rattle.text.specs.Report.{Wrote}
use Rattle.text.specs.Names.{name_line}
use Rattle.text.specs.Report.{decimal_line}
use Rattle.text.proofs.Reading.{left-suc}
use Rattle.text.proofs.Writing.{then, wrote_as}
use Rattle.spelling.specs.Assembling.{refusal_number}
use Rattle.spelling.specs.declared.ReadError.{ReadError}
use Rattle.spelling.specs.declared.ReadError.TheVariants.{BadLine}
use Rattle.octal.specs.Refusals.{refused_text, refused_line, error_text}
use Rattle.octal.specs.Lines.{parcel_text, parcels_text}
use Rattle.octal.specs.Words.{word_at, word_text, words_from}

-- the place after a text is known by another name
pub wrote-to : {d m xs : List ℕ} {at r q : ℕ} → r ≡ q → Wrote d at xs m r → Wrote d at xs m q
wrote-to {d} {m} {xs} {at} e w = subst (λ (p : ℕ). Wrote d at xs m p) e w

-- parcels written: i of them are passed
module _ (ps : List ℕ) (i : ℕ) where
  pub parcels-next : i < length ps → parcels_text (drop i ps) ≡ parcel_text (get_or ps i 0) ++ parcels_text (drop (i + 1) ps)
  unfolding parcels_text
  parcels-next h = simp (drop-cons ps i 0 h, add-one i)

  pub parcels-done : i ≡ length ps → parcels_text (drop i ps) ≡ []
  unfolding parcels_text
  parcels-done e = simp (e, drop-length ps)

-- words written: n of them, of which k are passed
module _ (ps : List ℕ) (a n k : ℕ) where
  pub words-next : (w : ℕ) → k < n → w ≡ word_at ps (4 * k)
      → words_from (n - k) (a + k) (4 * k) ps ≡ word_text (a + k) w ++ words_from (n - (k + 1)) (a + (k + 1)) (4 * (k + 1)) ps
  unfolding words_from
  words-next w more e =
      let address : a + k + 1 ≡ a + (k + 1) = omega arith in
      let place : 4 * k + 4 ≡ 4 * (k + 1) = omega arith in
      simp (left-suc n k more, e, address, place)

  pub words-done : n ≤ k → words_from (n - k) (a + k) (4 * k) ps ≡ []
  unfolding words_from
  words-done none = let z : n - k ≡ 0 = omega arith in simp z

-- a refusal's number, and then its line
pub error-line : {d m k : List ℕ} {e : ReadError} {line n at r : ℕ} → e ≡ BadLine line → n ≡ refusal_number e → Wrote d 0 (refused_text n) m at
    → Wrote m at (decimal_line name_line line) k r → Wrote d 0 (error_text e) k r
unfolding refused_line
error-line {d} {m} {k} {e} {line} {n} {at} {r} f g w v =
    wrote_as (ap error_text f) (then (wrote_as (ap refused_text (sym (g ∙ ap refusal_number f))) w) v)
