-- A line in simple words: each is a sign, the digit of a field, or a number. Assumes nothing.
use Prim.Native.Nat.{ℕ, zero, suc, ◌+◌, ◌-◌, ◌/◌, ◌%◌, ◌≤◌, ◌<◌}
use mathlib.Core.Path.{◌≡◌, refl, sym, ap, ◌∙◌}
use mathlib.Core.Bool.{Bool, true, false, ◌&&◌}
use mathlib.Core.List.{List, [], ◌∷◌, ◌++◌, append-nil, append_assoc}
use native.Mathlib.Nat.{mod-eq_of_lt}
use native.Mathlib.Omega.{arith}
use lib.Dec.{eqb, ltb, leb}
use borrow.Author.Tests.{eqb-true, eqb-false, leb-true, le-ltb}
use Rattle.machine.specs.Word.{pick}
use Rattle.machine.specs.Parcel.{h_of, j_of, k_of, jk_of}
use Rattle.text.specs.Digits.{digits, width_of, shown}
use Rattle.text.proofs.Writing.{places-last}
use Rattle.spelling.specs.Words.{field_of, operand_of, operand_text, word_text, text_of}
use Rattle.spelling.proofs.Entries.{both_hold}
use Rattle.readback.proofs.Numbers.{glyph-small}

-- an operand as such: a register is its letter and its digits, an indexed place is its number, `,A` and the digit h. So the digits
-- h, i, j and k are 129 to 132, and the numbers jk, jkm and ijkm 133 to 135; 64 - jk is 149
abbrev parts_of : ℕ → List ℕ
parts_of c =
    pick (eqb (c / 8) 0) ((128 + c) ∷ [])
    (pick (eqb (c / 8) 1) ((128 + c % 8) ∷ 44 ∷ 65 ∷ 129 ∷ [])
    (pick (eqb (c / 8) 2) ((128 + c) ∷ [])
    (c / 8 ∷ pick (eqb (c % 8) 5) (131 ∷ 132 ∷ []) ((128 + c % 8) ∷ []))))

-- a line's words, with its newline
unfoldable pub simple : List ℕ → List ℕ
simple [] = 10 ∷ []
simple (w ∷ ws) = pick (ltb w 128) (w ∷ []) (parts_of (w - 128)) ++ simple ws

-- registers are of one digit or of jk, and their letter is a sign
abbrev fits : ℕ → Bool
fits c = pick (ltb (c / 8) 3) true (leb (c % 8) 5 && ltb (c / 8) 128)

unfoldable pub fitting : List ℕ → Bool
fitting [] = true
fitting (w ∷ ws) = pick (ltb w 128) true (fits (w - 128)) && fitting ws

-- a digit as it is shown, and as a register's number
shown-digit : (d : ℕ) → d < 8 → shown 8 1 d ≡ (48 + d) ∷ []
unfolding shown width_of digits
shown-digit d h = rw (places-last d 8 d h, mod-eq_of_lt h, glyph-small d h)

one-digit : (d : ℕ) → d < 8 → digits 8 1 d ≡ (48 + d) ∷ []
unfolding digits
one-digit d h = rw (mod-eq_of_lt h, glyph-small d h)

module _ (x m : ℕ) where
  -- an operand among words; a constant that is a field, and a digit
  word-operand : (c : ℕ) → word_text (128 + c) x m ≡ operand_text (operand_of c x m)
  word-operand c =
      let past : 128 ≤ 128 + c = omega arith in
      let code : 128 + c - 128 ≡ c = omega arith in
      rw (le-ltb (128 + c) 128 past, code)

  pub number-text : (f : ℕ) → f < 8 → word_text (128 + f) x m ≡ shown 8 1 (field_of f x m)
  unfolding operand_of operand_text
  number-text f h =
      let none : f / 8 ≡ 0 = omega arith in
      word-operand f ∙ rw (none, mod-eq_of_lt h)

  pub field-digit : (f : ℕ) → f < 5 → (field_of f x m ≡ field_of f x 0) × (field_of f x 0 < 8)
  field-digit zero h = (refl, omega arith)
  field-digit (suc zero) h = (refl, omega arith)
  field-digit (suc (suc zero)) h = (refl, omega arith)
  field-digit (suc (suc (suc zero))) h = (refl, omega arith)
  field-digit (suc (suc (suc (suc zero)))) h = (refl, omega arith)
  field-digit (suc (suc (suc (suc (suc f))))) h = absurd (omega arith)

  pub digit-text : (f : ℕ) → f < 5 → word_text (128 + f) x m ≡ (48 + field_of f x 0) ∷ []
  digit-text f h =
      let digit = field-digit f h in
      number-text f (omega arith) ∙ ap (shown 8 1) digit.0 ∙ shown-digit (field_of f x 0) digit.1

  -- the parts of an operand are its text
  register-parts : (f : ℕ) → f ≤ 5 → text_of (pick (eqb f 5) (131 ∷ 132 ∷ []) ((128 + f) ∷ [])) x m ≡ digits 8 (pick (eqb f 5) 2 1) (field_of f x m)
  unfolding text_of digits
  register-parts f h = go (eqb f 5) refl
    where
      go : (b : Bool) → eqb f 5 ≡ b → text_of (pick b (131 ∷ 132 ∷ []) ((128 + f) ∷ [])) x m ≡ digits 8 (pick b 2 1) (field_of f x m)
      go true e =
          let is-j : operand_text (operand_of 3 x m) ≡ (48 + j_of x) ∷ [] = digit-text 3 (omega arith) in
          let is-k : operand_text (operand_of 4 x m) ≡ (48 + k_of x) ∷ [] = digit-text 4 (omega arith) in
          let j-same : jk_of x / 8 % 8 ≡ j_of x = omega arith in
          let k-same : jk_of x % 8 ≡ k_of x = omega arith in
          rw (eqb-true f 5 e, is-j, is-k, j-same, k-same, glyph-small (j_of x) (omega arith), glyph-small (k_of x) (omega arith))
      go false e =
          let other = eqb-false f 5 e in
          let small : f < 5 = omega (arith, other) in
          let digit = field-digit f small in
          append-nil (word_text (128 + f) x m) ∙ digit-text f small ∙ sym (one-digit (field_of f x 0) digit.1) ∙ ap (digits 8 1) (sym digit.0)

  plain-part : (c : ℕ) → text_of ((128 + c) ∷ []) x m ≡ operand_text (operand_of c x m)
  unfolding text_of
  plain-part c = append-nil (word_text (128 + c) x m) ∙ word-operand c

  parts-text : (c : ℕ) → fits c ≡ true → text_of (parts_of c) x m ≡ operand_text (operand_of c x m)
  unfolding operand_of operand_text text_of
  parts-text c ok = go (eqb (c / 8) 0) (eqb (c / 8) 1) (eqb (c / 8) 2) refl refl refl
    where
      go : (a b d : Bool) → eqb (c / 8) 0 ≡ a → eqb (c / 8) 1 ≡ b → eqb (c / 8) 2 ≡ d → text_of (parts_of c) x m ≡ operand_text (operand_of c x m)
      go true b d e f g = rw e (plain-part c ∙ rw e)
      go false true d e f g =
          let here = number-text (c % 8) (omega arith) in
          rw (e, f, here, append-nil (shown 8 1 (h_of x)))
      go false false true e f g = rw (e, f, g) (plain-part c ∙ rw (e, f, g))
      go false false false e f g =
          let no_zero = eqb-false (c / 8) 0 e in
          let no_one = eqb-false (c / 8) 1 f in
          let no-two = eqb-false (c / 8) 2 g in
          let big : 3 ≤ c / 8 = omega (arith, no_zero, no_one, no-two) in
          let tests : leb (c % 8) 5 && ltb (c / 8) 128 ≡ true = rw (le-ltb (c / 8) 3 big) at ok in
          let t = both_hold (leb (c % 8) 5) (ltb (c / 8) 128) tests in
          rw (e, f, g, t.1) (ap (λ (l : List ℕ). c / 8 ∷ l) (register-parts (c % 8) (leb-true (c % 8) 5 t.0)))

  text-append : (vs ws : List ℕ) → text_of (vs ++ ws) x m ≡ text_of vs x m ++ text_of ws x m
  unfolding text_of
  text-append [] ws = refl
  text-append (v ∷ vs) ws = rw (text-append vs ws) (sym (append_assoc (word_text v x m) (text_of vs x m) (text_of ws x m)))

  pub simple-text : (ws : List ℕ) → fitting ws ≡ true → text_of (simple ws) x m ≡ text_of ws x m ++ (10 ∷ [])
  unfolding simple fitting text_of
  simple-text [] ok = refl
  simple-text (w ∷ ws) ok =
      let t = both_hold (pick (ltb w 128) true (fits (w - 128))) (fitting ws) ok in
      text-append (pick (ltb w 128) (w ∷ []) (parts_of (w - 128))) (simple ws)
      ∙ ap (λ (l : List ℕ). l ++ text_of (simple ws) x m) (go (ltb w 128) refl t.0)
      ∙ ap (λ (l : List ℕ). word_text w x m ++ l) (simple-text ws t.1)
      ∙ sym (append_assoc (word_text w x m) (text_of ws x m) (10 ∷ []))
    where
      go : (b : Bool) → ltb w 128 ≡ b → pick b true (fits (w - 128)) ≡ true
          → text_of (pick b (w ∷ []) (parts_of (w - 128))) x m ≡ pick b (w ∷ []) (operand_text (operand_of (w - 128) x m))
      go true e ok = rw e
      go false e ok = parts-text (w - 128) ok
