-- Octal digits: a number that is written is the number that is read. Assumes nothing.
use Prim.Native.Nat.{ℕ, zero, suc, ◌+◌, ◌-◌, ◌*◌, ◌/◌, ◌%◌, ◌^◌, ◌≤◌, ◌<◌}
use mathlib.Core.Path.{◌≡◌, refl, sym, ap, ◌∙◌, subst}
use mathlib.Core.Bool.{Bool, true, false}
use mathlib.Core.List.{List, [], ◌∷◌, ◌++◌, append_assoc}
use native.Mathlib.Nat.{div-lt_iff_lt-mul, pow-suc}
use native.Mathlib.Numerals.{add-one}
use native.Mathlib.Omega.{arith}
use lib.ListN.{length, get_or}
use lib.Seq.{get_or_at, get_or-append-add}
use lib.Dec.{ltb}
use borrow.Author.Tests.{ltb-true, ltb-false, lt-ltb, le-ltb, le-leb}
use Rattle.machine.specs.Word.{pick}
use Rattle.text.specs.Digits.{glyph_of, digits, places_of, width_of, shown}
use Rattle.text.proofs.Writing.{digits-length}
use Rattle.spelling.specs.Candidate.{bytes_of, is_octal, number_from, number_at}
use Rattle.spelling.proofs.Lines.{octal-most}

-- the byte of a digit
pub glyph-small : (d : ℕ) → d < 8 → glyph_of d ≡ 48 + d
unfolding glyph_of
glyph-small d h = let e : d < 10 = omega arith in rw (lt-ltb d 10 e)

octal-byte : (d : ℕ) → d < 8 → is_octal (48 + d) ≡ true
octal-byte d h =
    let low : 48 ≤ 48 + d = omega arith in
    let high : 48 + d < 56 = omega arith in
    rw (le-leb 48 (48 + d) low, lt-ltb (48 + d) 56 high)

-- the last of k + 1 digits, and each of them
digits_last : (k n : ℕ) (after : List ℕ) → digits 8 (suc k) n ++ after ≡ digits 8 k (n / 8) ++ (48 + n % 8) ∷ after
unfolding digits
digits_last k n after =
    let small : n % 8 < 8 = omega arith in
    append_assoc (digits 8 k (n / 8)) (glyph_of (n % 8) ∷ []) after ∙ ap (λ (g : ℕ). digits 8 k (n / 8) ++ g ∷ after) (glyph-small (n % 8) small)

pub digits-octal : (k n q : ℕ) (after : List ℕ) → q < k → is_octal (get_or (digits 8 k n ++ after) q 10) ≡ true
digits-octal zero n q after h = absurd (omega arith)
digits-octal (suc k) n q after h = rw (digits_last k n after) (go (ltb q k) refl (digits-octal k (n / 8) q ((48 + n % 8) ∷ after)))
  where
    go : (b : Bool) → ltb q k ≡ b → (q < k → is_octal (get_or (digits 8 k (n / 8) ++ (48 + n % 8) ∷ after) q 10) ≡ true)
        → is_octal (get_or (digits 8 k (n / 8) ++ (48 + n % 8) ∷ after) q 10) ≡ true
    go true e less = less (ltb-true q k e)
    go false e less =
        let past = ltb-false q k e in
        let here : length (digits 8 k (n / 8)) ≡ q = digits-length 8 k (n / 8) ∙ omega arith in
        rw (get_or_at (digits 8 k (n / 8)) (48 + n % 8) after 10 q here) (octal-byte (n % 8) (omega arith))

-- k digits of a text are read, from a place on
module _ (s before : List ℕ) where
  reads-last : (k n left : ℕ) (after : List ℕ) → s ≡ before ++ (digits 8 k (n / 8) ++ (48 + n % 8) ∷ after) → n < 2 ^ 32
      → number_from (suc left) (bytes_of s) (length before + k) (n / 8) ≡ number_from left (bytes_of s) (length before + suc k) n
  unfolding number_from
  reads-last k n left after e l =
      let small : n % 8 < 8 = omega arith in
      let byte : get_or s (length before + k) 10 ≡ 48 + n % 8 =
      ap (λ (t : List ℕ). get_or t (length before + k) 10) e
      ∙ get_or-append-add before (digits 8 k (n / 8) ++ (48 + n % 8) ∷ after) k 10
      ∙ get_or_at (digits 8 k (n / 8)) (48 + n % 8) after 10 k (digits-length 8 k (n / 8)) in
      let place : length before + k + 1 ≡ length before + suc k = omega arith in
      let value : (n / 8 * 8 + (48 + n % 8) % 8) % 2 ^ 32 ≡ n = omega arith in
      rw (byte, octal-byte (n % 8) small, place, value)

  reads-digits : (k n left : ℕ) (after : List ℕ) → s ≡ before ++ (digits 8 k n ++ after) → n < 8 ^ k → n < 2 ^ 32
      → number_from (k + left) (bytes_of s) (length before) 0 ≡ number_from left (bytes_of s) (length before + k) n
  reads-digits zero n left after e h l =
      let none : n ≡ 0 = omega arith in
      let fuel : 0 + left ≡ left = omega arith in
      let place : length before + 0 ≡ length before = omega arith in
      rw (none, fuel, place)
  reads-digits (suc k) n left after e h l =
      let some : 0 < 8 = omega arith in
      let less : n / 8 < 8 ^ k = (div-lt_iff_lt-mul some).1 (subst (λ (p : ℕ). n < p) (pow-suc 8 k) h) in
      let split : s ≡ before ++ (digits 8 k (n / 8) ++ (48 + n % 8) ∷ after) = e ∙ ap (λ (t : List ℕ). before ++ t) (digits_last k n after) in
      let fuel : suc k + left ≡ k + suc left = omega arith in
      rw fuel (reads-digits k (n / 8) (suc left) ((48 + n % 8) ∷ after) split less (omega arith) ∙ reads-last k n left after split l)

  -- and where another byte follows them, that is the number
  ends_there : (left p v : ℕ) → is_octal (get_or s p 10) ≡ false → number_from left (bytes_of s) p v ≡ record { value = v; end = p }
  unfolding number_from
  ends_there zero p v e = refl
  ends_there (suc left) p v e = rw e

  pub number_read : (k n : ℕ) (after : List ℕ) → s ≡ before ++ (digits 8 k n ++ after) → n < 8 ^ k → n < 2 ^ 32 → length before + k ≤ 16
      → is_octal (get_or after 0 10) ≡ false → number_at (bytes_of s) (length before) ≡ record { value = n; end = length before + k }
  unfolding number_at
  number_read k n after e h l fits other =
      let fuel : 16 - length before ≡ k + (16 - length before - k) = omega arith in
      let last : k ≡ length (digits 8 k n) + 0 = rw (digits-length 8 k n) (omega arith) in
      let next : get_or s (length before + k) 10 ≡ get_or after 0 10 =
      ap (λ (t : List ℕ). get_or t (length before + k) 10) e
      ∙ get_or-append-add before (digits 8 k n ++ after) k 10
      ∙ ap (λ (q : ℕ). get_or (digits 8 k n ++ after) q 10) last
      ∙ get_or-append-add (digits 8 k n) after 0 10 in
      rw fuel (reads-digits k n (16 - length before - k) after e h l ∙ ends_there (16 - length before - k) (length before + k) n (rw next other))

-- a number below 8 ^ k has k digits, for some k of at least 1
record Wide (n w : ℕ) : Type 0 where
  less : ℕ
  width : w ≡ suc less
  below : n < 8 ^ suc less

places-wide : (most n : ℕ) → n ≤ most → Wide n (places_of most 8 n)
unfolding places_of
places-wide zero n h = record { less = 0; width = refl; below = omega arith }
places-wide (suc most) n h = go (ltb n 8) refl (places-wide most (n / 8))
  where
    go : (t : Bool) → ltb n 8 ≡ t → (n / 8 ≤ most → Wide (n / 8) (places_of most 8 (n / 8))) → Wide n (pick t 1 (places_of most 8 (n / 8) + 1))
    go true e more = record { less = 0; width = refl; below = ltb-true n 8 e }
    go false e more =
        let big = ltb-false n 8 e in
        let w = more (omega arith) in
        let some : 0 < 8 = omega arith in
        record {
          less = suc w.less;
          width = ap (λ (p : ℕ). p + 1) w.width ∙ add-one (suc w.less);
          below = subst (λ (p : ℕ). n < p) (sym (pow-suc 8 (suc w.less))) ((div-lt_iff_lt-mul some).0 w.below);
        }

-- so it is with a number as it is shown: at least one digit, and no more than it needs
pub record Shown (n : ℕ) : Type 0 where
  pub width : ℕ
  pub text : shown 8 1 n ≡ digits 8 width n
  pub some : 1 ≤ width
  pub most : (k : ℕ) → 0 < k → n < 8 ^ k → width ≤ k
  pub below : n < 8 ^ width

pub shown-wide : (n : ℕ) → Shown n
unfolding shown width_of
shown-wide n =
    let w : Wide n (places_of n 8 n) = places-wide n n (omega arith) in
    let e = w.width in
    let least : 1 ≤ places_of n 8 n = omega arith in
    let own : width_of 8 1 n ≡ suc w.less = rw (le-ltb (places_of n 8 n) 1 least) e in
    record {
      width = suc w.less;
      text = ap (λ (k : ℕ). digits 8 k n) own;
      some = omega arith;
      most = λ k some h. let few = octal-most n k some h in let size = digits-length 8 (width_of 8 1 n) n in omega (arith, few, size, own);
      below = w.below;
    }
