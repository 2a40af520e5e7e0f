-- Laws of the reader's definitions: what one turn of a loop, and each way out of it, says. Assumes nothing.
use mathlib.Core.Path.{◌≡◌, refl, ◌∙◌}
use mathlib.Core.List.{List, [], ◌∷◌}
use mathlib.Core.Bool.{Bool, true, false, ◌&&◌}
use Prim.Native.Nat.{ℕ, zero, suc, ◌+◌, ◌*◌, ◌-◌, ◌^◌, ◌≤◌, ◌<◌}
use native.Mathlib.Nat.{pow-suc, lt_of_lt_of_le, pow-le-pow_right, mul-le-mul_right}
use native.Mathlib.Numerals.{add-one}
use native.Mathlib.Omega.{arith}
use lib.ListN.{set}
use lib.Dec.{eqb, leb, ltb}
use borrow.Author.Tests.{ltb-true}
use Rattle.text.specs.Digits.{byte_at, is_decimal, is_letter, hex_digit, is_hex, hex_of, all_hex, hex_from}
use Rattle.text.specs.Sheet.{starts_at, ends_at, decimal_from, framed, word_line, bad_line, stored}
use Rattle.text.specs.Bounds.{HeadFits}
use Rattle.text.specs.declared.Head.{Head}
use Rattle.std.proofs.Common.{◌⊎◌, Option, Some, None, unwrap_or}
use Rattle.std.specs.List.{list_all, enumerate_from}
use Rattle.std.proofs.lemmas.Grind.{common_steps}
use Rattle.machine.specs.Word.{pick}

-- a decimal digit, and another byte
pub decimal-yes : (b : ℕ) → 48 ≤ b → b ≤ 57 → is_decimal b ≡ true
unfolding is_decimal
decimal-yes b l h = grind (arith, common_steps)

pub decimal-no : (b : ℕ) → (b < 48) ⊎ (57 < b) → is_decimal b ≡ false
unfolding is_decimal
decimal-no b h = grind (arith, common_steps)

-- a digit is below 16, and so is what another byte counts as
pub hex-below : (b : ℕ) → hex_of b < 16
unfolding hex_digit is_decimal is_letter
hex-below b = go (leb 48 b) refl (ltb b 58) refl (leb 65 b) refl (ltb b 71) refl
  where
    go : (p : Bool) → leb 48 b ≡ p → (q : Bool) → ltb b 58 ≡ q → (r : Bool) → leb 65 b ≡ r → (t : Bool) → ltb b 71 ≡ t
        → unwrap_or (pick (p && q) (Some (b - 48)) (pick (r && t) (Some (b - 55)) None)) 0 < 16
    go true e true f r g t h = omega (arith, ltb-true b 58 f)
    go true e false f true g true h = omega (arith, ltb-true b 71 h)
    go true e false f true g false h = omega arith
    go true e false f false g t h = omega arith
    go false e q f true g true h = omega (arith, ltb-true b 71 h)
    go false e q f true g false h = omega arith
    go false e q f false g t h = omega arith

-- what is left, where something is
pub left-suc : (n d : ℕ) → d < n → n - d ≡ suc (n - (d + 1))
left-suc n d h =
    let e : n - d ≡ (n - (d + 1)) + 1 = omega arith in
    e ∙ add-one (n - (d + 1))

-- a loop over n digits from `at` on that has passed d of them; b is the next
module _ (text : List ℕ) (at n d : ℕ) where
  module _ (more : d < n) (b : ℕ) (e : b ≡ byte_at text (at + d)) where
    onward : at + d + 1 ≡ at + (d + 1)
    onward = omega arith

    pub hex-next : (v x : ℕ) → x ≡ hex_of b → hex_from (n - d) text (at + d) v ≡ hex_from (n - (d + 1)) text (at + (d + 1)) (v * 16 + x)
    unfolding hex_from
    hex-next v x f = rw (left-suc n d more, f, e, ← onward)

    pub all-next : is_hex b ≡ true → all_hex (n - d) text (at + d) ≡ all_hex (n - (d + 1)) text (at + (d + 1))
    unfolding all_hex
    all-next good = simp (left-suc n d more, ← e, good, onward)

    pub all-not : is_hex b ≡ false → all_hex (n - d) text (at + d) ≡ false
    unfolding all_hex
    all-not bad = simp (left-suc n d more, ← e, bad)

    pub decimal-next : (v x : ℕ) → is_decimal b ≡ true → x ≡ b - 48
        → decimal_from (n - d) text (at + d) v ≡ decimal_from (n - (d + 1)) text (at + (d + 1)) (v * 10 + x)
    unfolding decimal_from
    decimal-next v x good f = simp (left-suc n d more, ← e, good, onward, f)

    pub decimal-stop : (v : ℕ) → is_decimal b ≡ false → decimal_from (n - d) text (at + d) v ≡ ends_at text (at + d) v
    unfolding decimal_from
    decimal-stop v bad = simp (left-suc n d more, ← e, bad)

  module _ (none : n ≤ d) where
    none_left : n - d ≡ 0
    none_left = omega arith

    pub hex-done : (v : ℕ) → hex_from (n - d) text (at + d) v ≡ v
    unfolding hex_from
    hex-done v = simp none_left

    pub all_done : all_hex (n - d) text (at + d) ≡ true
    unfolding all_hex
    all_done = simp none_left

    pub decimal-done : d ≤ n → (v : ℕ) → decimal_from (n - d) text (at + d) v ≡ ends_at text (at + n) v
    unfolding decimal_from
    decimal-done all v = let e : d ≡ n = omega arith in rw (none_left, e)

-- a number of d digits is below b ^ d, and one digit more keeps it so
pub digit-more : (b v x d : ℕ) → v < b ^ d → x < b → v * b + x < b ^ (d + 1)
digit-more b v x d h k = rw (add-one d, pow-suc b d) (omega (arith, mul-le-mul_right b h))

pub digits-most : (b v d m : ℕ) → 0 < b → v < b ^ d → d ≤ m → v < b ^ m
digits-most b v d m some h l = lt_of_lt_of_le h (pow-le-pow_right some l)

-- a line of a word
module _ (text : List ℕ) (at low : ℕ) where
  pub no_address : all_hex 4 text at ≡ false → word_line text at low ≡ false
  unfolding word_line
  no_address e = simp e

  module _ (good : all_hex 4 text at ≡ true) where
    pub no_value : all_hex 16 text (at + 5) ≡ false → word_line text at low ≡ false
    unfolding word_line
    no_value e = simp (good, e)

    pub all_digits : (a : ℕ) → hex_from 4 text at 0 ≡ a → all_hex 16 text (at + 5) ≡ true → word_line text at low ≡ framed text at low a
    unfolding word_line
    all_digits a e f = simp (good, f, e)

-- k lines of words, where some are left
module _ (text : List ℕ) (at low line : ℕ) where
  pub line-bad : (k : ℕ) → 0 < k → word_line text at low ≡ false → bad_line k text at low line ≡ Some line
  unfolding bad_line
  line-bad zero some e = absurd (omega arith)
  line-bad (suc k) some e = simp e

  pub line-good : (k a : ℕ) → 0 < k → hex_from 4 text at 0 ≡ a → word_line text at low ≡ true
      → bad_line k text at low line ≡ bad_line (k - 1) text (at + 22) (a + 1) (line + 1)
  unfolding bad_line
  line-good zero a some e f = absurd (omega arith)
  line-good (suc k) a some e f = let one : suc k - 1 ≡ k = omega arith in simp (f, e, one)

-- n lines of words from `start` on, of which k are stored
module _ (text mem : List ℕ) (start n k : ℕ) where
  pub stored_next : k < n → stored (n - k) text (start + 22 * k) mem
      ≡ stored (n - (k + 1)) text (start + 22 * (k + 1)) (set mem (hex_from 4 text (start + 22 * k) 0) (hex_from 16 text (start + 22 * k + 5) 0))
  unfolding stored
  stored_next more = let on : start + 22 * k + 22 ≡ start + 22 * (k + 1) = omega arith in rw (left-suc n k more, ← on)

  pub stored-done : n ≤ k → stored (n - k) text (start + 22 * k) mem ≡ mem
  unfolding stored
  stored-done none = let e : n - k ≡ 0 = omega arith in simp e

-- a name stands in a text if each of its bytes does
pub starts_all : (text name : List ℕ) (at n : ℕ) → list_all (λ (p : ℕ × ℕ). eqb (byte_at text (at + p.0)) p.1) (enumerate_from n name) ≡ starts_at text (at + n) name
unfolding starts_at
starts_all text [] at n = refl
starts_all text (b ∷ name) at n = let on : at + (n + 1) ≡ at + n + 1 = omega arith in rw (starts_all text name at (n + 1), on)

-- what fits, fits in more
pub fits_more : (m l most limit : ℕ) (r : Option Head) → HeadFits m l r → m ≤ most → l ≤ limit → HeadFits most limit r
fits_more m l most limit (Some head) h p q = (omega arith, omega arith)
fits_more m l most limit None h p q = tt
