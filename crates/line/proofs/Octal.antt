-- Octal numbers, two digits at a time, and the texts of operands. Assumes nothing.
use mathlib.Core.Path.{◌≡◌, refl, sym, ◌∙◌, ap}
use mathlib.Core.Bool.{Bool, true, false}
use mathlib.Core.List.{List, [], ◌∷◌, ◌++◌, append_assoc}
use Prim.Native.Nat.{ℕ, zero, suc, ◌+◌, ◌-◌, ◌/◌, ◌%◌, ◌≤◌, ◌<◌}
use native.Mathlib.Numerals.{add-one}
use native.Mathlib.Omega.{arith}
use lib.ListN.{length, set, length-append}
use lib.Dec.{ltb}
use borrow.Author.Tests.{lt-ltb, ltb-false}
use borrow.Rule.Slice.PartMut.{put_mid}
use Rattle.std.proofs.lemmas.List.{drop-drop}
use Rattle.std.proofs.lemmas.List.Edits.{sets-eq}
use Rattle.machine.specs.Word.{pick}
use Rattle.text.specs.Digits.{glyph_of, digits, places_of, width_of, shown}
use Rattle.text.specs.Report.{Wrote}
use Rattle.text.proofs.Writing.{then, wrote-byte, wrote_as, digits-length, places-next, places-last, width-own}
use Rattle.spelling.specs.Words.{signs, operand_text}
use Rattle.spelling.specs.Listing.{data_line}
use Rattle.spelling.specs.declared.Operand.TheVariants.{Register, Indexed}

pub octal-glyph : (n : ℕ) → 48 + n % 8 ≡ glyph_of (n % 8)
unfolding glyph_of
octal-glyph n = rw (lt-ltb (n % 8) 10 (omega arith))

digits-two : (k n : ℕ) → digits 8 (suc (suc k)) n ≡ digits 8 k (n / 64) ++ digits 8 2 n
unfolding digits
digits-two k n =
    let e : n / 8 / 8 ≡ n / 64 = omega arith in
    rw e (append_assoc (digits 8 k (n / 64)) (glyph_of (n / 8 % 8) ∷ []) (glyph_of (n % 8) ∷ []))

-- how many digits a number has does not depend on how many divisions are allowed for, if they are enough
places-some : (most n : ℕ) → 1 ≤ places_of most 8 n
unfolding places_of
places-some zero n = omega arith
places-some (suc most) n = go (ltb n 8)
  where
    go : (b : Bool) → 1 ≤ pick b 1 (places_of most 8 (n / 8) + 1)
    go true = omega arith
    go false = omega arith

places-enough : (most more n : ℕ) → n ≤ most → n ≤ more → places_of most 8 n ≡ places_of more 8 n
unfolding places_of
places-enough zero more n h l = sym (places-last more 8 n (omega arith))
places-enough (suc most) zero n h l = places-last (suc most) 8 n (omega arith)
places-enough (suc most) (suc more) n h l = go (ltb n 8) refl (places-enough most more (n / 8))
  where
    go : (b : Bool) → ltb n 8 ≡ b → (n / 8 ≤ most → n / 8 ≤ more → places_of most 8 (n / 8) ≡ places_of more 8 (n / 8))
        → pick b 1 (places_of most 8 (n / 8) + 1) ≡ pick b 1 (places_of more 8 (n / 8) + 1)
    go true e same = refl
    go false e same = let some = ltb-false n 8 e in ap (λ (k : ℕ). k + 1) (same (omega (arith, some)) (omega (arith, some)))

-- a number's width: one digit, or one more than that of the number without its last
width_one : (n : ℕ) → n < 8 → width_of 8 1 n ≡ 1
width_one n h = width-own 8 1 n 1 (sym (places-last n 8 n h)) (omega arith)

width_is : (n : ℕ) → width_of 8 1 n ≡ places_of n 8 n
width_is n = width-own 8 1 n (places_of n 8 n) refl (places-some n n)

width-next : (n : ℕ) → 8 ≤ n → width_of 8 1 n ≡ suc (width_of 8 1 (n / 8))
width-next n h =
    width_is n
    ∙ places-next n 8 n (omega arith) h (omega arith)
    ∙ ap (λ (k : ℕ). k + 1) (places-enough (n - 1) (n / 8) (n / 8) (omega arith) (omega arith) ∙ sym (width_is (n / 8)))
    ∙ add-one (width_of 8 1 (n / 8))

pub shown-one : (n : ℕ) → n < 8 → shown 8 1 n ≡ glyph_of (n % 8) ∷ []
unfolding shown digits
shown-one n h = rw (width_one n h)

pub shown-two : (n : ℕ) → 8 ≤ n → n < 64 → shown 8 1 n ≡ digits 8 2 n
unfolding shown
shown-two n h l = rw (width-next n h, width_one (n / 8) (omega arith))

pub shown-more : (n : ℕ) → 64 ≤ n → shown 8 1 n ≡ shown 8 1 (n / 64) ++ digits 8 2 n
unfolding shown
shown-more n h =
    let e : n / 8 / 8 ≡ n / 64 = omega arith in
    rw (width-next n (omega arith), width-next (n / 8) (omega arith), e) (digits-two (width_of 8 1 (n / 64)) n)

pub shown-many : (n : ℕ) → 4096 ≤ n → shown 8 1 n ≡ (shown 8 1 (n / 4096) ++ digits 8 2 (n / 64)) ++ digits 8 2 n
shown-many n h =
    let e : n / 64 / 64 ≡ n / 4096 = omega arith in
    shown-more n (omega arith) ∙ rw (shown-more (n / 64) (omega arith), e)

-- how long they are
pub long-more : (n : ℕ) → 64 ≤ n → length (shown 8 1 n) ≡ length (shown 8 1 (n / 64)) + 2
long-more n h = ap length (shown-more n h) ∙ length-append (shown 8 1 (n / 64)) (digits 8 2 n) ∙ rw (digits-length 8 2 n)

pub long-many : (n : ℕ) → 4096 ≤ n → length (shown 8 1 n) ≡ length (shown 8 1 (n / 4096)) + 4
long-many n h =
    let e : n / 64 / 64 ≡ n / 4096 = omega arith in
    let more : length (shown 8 1 (n / 64)) ≡ length (shown 8 1 (n / 4096)) + 2 = long-more (n / 64) (omega arith) ∙ rw e in
    omega (arith, long-more n (omega arith), more)

-- the place after a text is known by another name
pub placed : {d m xs : List ℕ} {at r q : ℕ} → Wrote d at xs m r → r ≡ q → Wrote d at xs m q
placed w e = record { bytes = w.bytes; place = sym e ∙ w.place }

then_at : {d m k xs ys : List ℕ} {at r to q : ℕ} → Wrote d at xs m r → Wrote m to ys k q → r ≡ to → Wrote d at (xs ++ ys) k q
then_at w v e = then (placed w e) v

-- digits written
pub wrote-digit : {d : List ℕ} {at : ℕ} (n a : ℕ) → a ≡ glyph_of (n % 8) → Wrote d at (glyph_of (n % 8) ∷ []) (set d at a) (at + 1)
wrote-digit {d} {at} n a e = wrote-byte (ap (λ (b : ℕ). set d at b) e)

pub wrote-two : {d : List ℕ} {at to : ℕ} (n a b : ℕ) → to ≡ at + 1 → a ≡ glyph_of (n / 8 % 8) → b ≡ glyph_of (n % 8)
    → Wrote d at (digits 8 2 n) (set (set d at a) to b) (at + 2)
unfolding digits
wrote-two n a b t e f = placed (then_at (wrote-digit (n / 8) a e) (wrote-digit n b f) (sym t)) (omega arith)

-- an indexed place: its register has one digit
place-text : (offset register : ℕ) → register < 8
    → operand_text (Indexed offset register) ≡ shown 8 1 offset ++ (44 ∷ 65 ∷ glyph_of (register % 8) ∷ [])
unfolding operand_text
place-text offset register h = rw (shown-one register h)

pub place-long : (offset register : ℕ) → register < 8 → length (operand_text (Indexed offset register)) ≡ length (shown 8 1 offset) + 3
place-long offset register h = ap length (place-text offset register h) ∙ length-append (shown 8 1 offset) (44 ∷ 65 ∷ glyph_of (register % 8) ∷ [])

pub wrote-place : {d m : List ℕ} {at comma : ℕ} (offset register b : ℕ) → register < 8 → Wrote d at (shown 8 1 offset) m comma → b ≡ glyph_of (register % 8)
    → Wrote d at (operand_text (Indexed offset register)) (set (set (set m comma 44) (comma + 1) 65) (comma + 2) b) (comma + 3)
wrote-place offset register b h w e =
    wrote_as (place-text offset register h)
    (then w (placed (then (wrote-byte refl) (then_at (wrote-byte refl) (wrote-digit register b e) (omega arith))) (omega arith)))

-- a register's name: its letter, and two digits or one
module _ (letter number : ℕ) where
  pub register-long : {wide b : Bool} → wide ≡ b → length (operand_text (Register letter number wide)) ≡ suc (pick b 2 1)
  unfolding operand_text
  register-long {wide} {b} e = rw e (ap suc (digits-length 8 (pick b 2 1) number))

  pub wrote-register : {d m : List ℕ} {at r : ℕ} {wide b : Bool} → wide ≡ b → Wrote (set d at letter) (at + 1) (digits 8 (pick b 2 1) number) m r
      → Wrote d at (operand_text (Register letter number wide)) m r
  unfolding operand_text
  wrote-register e w = rw e (then (wrote-byte refl) w)

-- a text copied to its place
pub wrote-copy : {d ys : List ℕ} {at k : ℕ} (xs : List ℕ) → at + length xs ≤ length d → k ≡ length xs → ys ≡ xs
    → Wrote d at xs (put_mid at k d ys) (at + length xs)
wrote-copy {d} {ys} {at} {k} xs h e f = record { bytes = rw (e, f, drop-drop (length xs) at d) (sym (rw append_assoc at (sets-eq xs d at h))); place = refl }

-- a line of data
pub wrote-data : {d m₀ m₁ m₂ m₃ : List ℕ} {at : ℕ} (x : ℕ) → Wrote d at (signs "data=") m₀ (at + 5)
    → Wrote m₀ (at + 5) (digits 8 2 (x / 4096)) m₁ (at + 5 + 2)
    → Wrote m₁ (at + 7) (digits 8 2 (x / 64)) m₂ (at + 7 + 2) → Wrote m₂ (at + 9) (digits 8 2 x) m₃ (at + 9 + 2)
    → Wrote d at (data_line x) (set m₃ (at + 11) 10) (at + 12)
unfolding data_line
wrote-data {d} {m₀} {m₁} {m₂} {m₃} {at} x name a b c =
    let e : x / 64 / 64 ≡ x / 4096 = omega arith in
    let six : digits 8 6 x ≡ (digits 8 2 (x / 4096) ++ digits 8 2 (x / 64)) ++ digits 8 2 x =
    digits-two 4 x ∙ rw (digits-two 2 (x / 64), e) in
    wrote_as (ap (λ (l : List ℕ). signs "data=" ++ l ++ (10 ∷ [])) six)
    (placed (then_at (then name (then_at (then_at a b (omega arith)) c (omega arith))) (wrote-byte refl) (omega arith)) (omega arith))

pub ruleset long_rules = (long-more, long-many, place-long)
