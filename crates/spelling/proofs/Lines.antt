-- An instruction made from a row spells the line of its parcels, and no line has more than 16 bytes. Assumes nothing.
use Prim.Native.Nat.{ℕ, zero, suc, ◌+◌, ◌-◌, ◌*◌, ◌/◌, ◌%◌, ◌^◌, ◌≤◌, ◌<◌}
use mathlib.Core.Path.{◌≡◌, refl, sym, ◌∙◌, ap}
use mathlib.Core.Bool.{Bool, true, false, ◌&&◌, not}
use mathlib.Core.List.{List, [], ◌∷◌, ◌++◌, map, append_assoc}
use native.Mathlib.Omega.{arith}
use lib.ListN.{length, get_or, drop, length-append}
use lib.Dec.{eqb, ltb, leb}
use borrow.Author.Tests.{eqb-true, eqb-false, leb-true, not-true}
use Rattle.machine.specs.Word.{pick}
use Rattle.machine.specs.Codes.{code_of, code001, code002}
use Rattle.text.specs.Digits.{digits, shown}
use Rattle.text.proofs.Writing.{digits-length}
use Rattle.text.proofs.Length.{shown-most}
use Rattle.spelling.specs.Words.{field_of, fields_of, operand_by, operand_of, operand_text, word_text, text_of, signs}
use Rattle.spelling.specs.Spelling.{passing, spelling, words_of}
use Rattle.spelling.specs.Listing.{data_line, line_with, line_of}
use Rattle.spelling.specs.Rows.{row_words, row_of, mark, operands_in, code_at, form_table, with_codes, instruction_by, instruction_of, row_in, operands_held}
use Rattle.spelling.specs.Rows.{signs_of, after_signs, Ends, parts_of, filled, spelled_of, Small, Fills, Spells}
use Rattle.spelling.specs.declared.Operand.{Operand}
use Rattle.spelling.specs.declared.Operand.TheVariants.{Register, Constant, Indexed}
use Rattle.spelling.specs.declared.Instruction.{Instruction}
use Rattle.spelling.specs.declared.Instruction.TheVariants.{Bare, OfOne, OfTwo, OfThree, OfFour}
use Rattle.spelling.proofs.Entries.{both_hold, every, every-at}
use Rattle.spelling.proofs.Forms.{form-bytes}
use Rattle.spelling.proofs.Table.{alike, alike-eq, words-of-row, row_small}

-- an instruction's operands --

pub nonzero : List ℕ → Bool
nonzero [] = true
nonzero (a ∷ l) = not (eqb a 0) && nonzero l

first-is : (a : ℕ) (l : List ℕ) → nonzero (a ∷ l) ≡ true → (eqb a 0 ≡ false) × (nonzero l ≡ true)
unfolding nonzero
first-is a l e = let t = both_hold (not (eqb a 0)) (nonzero l) e in (not-true (eqb a 0) t.0, t.1)

operands_of : ℕ → ℕ → List ℕ → List Operand
operands_of x m [] = []
operands_of x m (a ∷ l) = operand_of a x m ∷ operands_of x m l

-- instructions made of at most four codes hold their operands in order
module _ (r x m : ℕ) where
  made : List ℕ → Instruction
  made l = with_codes r (get_or l 0 0) (get_or l 1 0) (get_or l 2 0) (get_or l 3 0) (fields_of x m)

  operands-made : (l : List ℕ) → nonzero l ≡ true → length l ≤ 4 → operands_held (made l) ≡ operands_of x m l
  unfolding made with_codes operands_held operands_of operand_of
  operands-made [] e few = refl
  operands-made (a ∷ []) e few = let s = first-is a [] e in rw s.0
  operands-made (a ∷ b ∷ []) e few =
      let s = first-is a (b ∷ []) e in
      let t = first-is b [] s.1 in
      rw (s.0, t.0)
  operands-made (a ∷ b ∷ c ∷ []) e few =
      let s = first-is a (b ∷ c ∷ []) e in
      let t = first-is b (c ∷ []) s.1 in
      let u = first-is c [] t.1 in
      rw (s.0, t.0, u.0)
  operands-made (a ∷ b ∷ c ∷ d ∷ []) e few =
      let s = first-is a (b ∷ c ∷ d ∷ []) e in
      let t = first-is b (c ∷ d ∷ []) s.1 in
      let u = first-is c (d ∷ []) t.1 in
      let v = first-is d [] u.1 in
      rw (s.0, t.0, u.0, v.0)
  operands-made (a ∷ b ∷ c ∷ d ∷ f ∷ l) e few = absurd (omega arith)

-- the form of words, filled with their operands, is their text --

-- no sign is 0 or a newline
pub clear : List ℕ → Bool
clear [] = true
clear (w ∷ ws) = pick (ltb w 128) (not (eqb w 0) && not (eqb w 10)) true && clear ws

-- words that begin with a sign, or with an operand
by_first : {A : Type 0} (w : ℕ) (ws : List ℕ) → clear (w ∷ ws) ≡ true
    → (ltb w 128 ≡ true → eqb w 0 ≡ false → eqb w 10 ≡ false → A) → (ltb w 128 ≡ false → A) → A
unfolding clear
by_first {A} w ws e sign operand = go (ltb w 128) refl (both_hold (pick (ltb w 128) (not (eqb w 0) && not (eqb w 10)) true) (clear ws) e).0
  where
    go : (b : Bool) → ltb w 128 ≡ b → pick b (not (eqb w 0) && not (eqb w 10)) true ≡ true → A
    go true l t = let u = both_hold (not (eqb w 0)) (not (eqb w 10)) t in sign l (not-true (eqb w 0) u.0) (not-true (eqb w 10) u.1)
    go false l t = operand l

clear-rest : (w : ℕ) (ws : List ℕ) → clear (w ∷ ws) ≡ true → clear ws ≡ true
unfolding clear
clear-rest w ws e = (both_hold (pick (ltb w 128) (not (eqb w 0) && not (eqb w 10)) true) (clear ws) e).1

-- the form of words, where `past` follows its newline, which does not count
abbrev form_of : List ℕ → List ℕ → List ℕ
form_of past ws = map mark ws ++ (10 ∷ past)

module _ (x m : ℕ) (past : List ℕ) where
  words-filled : (ws : List ℕ) → clear ws ≡ true → filled (form_of past ws) (operands_of x m (operands_in ws)) ≡ text_of ws x m ++ (10 ∷ [])
  unfolding operands_of operands_in text_of signs_of after_signs parts_of
  words-filled [] e = refl
  words-filled (w ∷ ws) e =
      let l = form_of past ws in
      let o = operand_of (w - 128) x m in
      let os = operands_of x m (operands_in ws) in
      let more = words-filled ws (clear-rest w ws e) in
      by_first w ws e
      (λ s n t. rw (s, n, t) (ap (λ (k : List ℕ). w ∷ k) more))
      (λ s.
      rw s
      (append_assoc (operand_text o) (signs_of l) (parts_of (after_signs l) os)
      ∙ ap (λ (k : List ℕ). operand_text o ++ k) more
      ∙ sym (append_assoc (operand_text o) (text_of ws x m) (10 ∷ []))))

-- of each row the words are few, the operands at most four, none with the code 0, the signs clear, and at least one
pub signs_in : List ℕ → ℕ
signs_in [] = 0
signs_in (w ∷ ws) = pick (ltb w 128) (suc (signs_in ws)) (signs_in ws)

-- how long the text of an operand, of a word and of words can be
unfoldable pub field_most : ℕ → ℕ
field_most f = get_or (1 ∷ 1 ∷ 1 ∷ 1 ∷ 1 ∷ 2 ∷ 8 ∷ 8 ∷ []) f 1

operand_most : ℕ → ℕ
operand_most c =
    pick (eqb (c / 8) 0) (field_most (c % 8))
    (pick (eqb (c / 8) 1) (field_most (c % 8) + 3)
    (pick (eqb (c / 8) 2) 3
    (1 + pick (eqb (c % 8) 5) 2 1)))

pub text_most : List ℕ → ℕ
text_most [] = 0
text_most (w ∷ ws) = pick (ltb w 128) 1 (operand_most (w - 128)) + text_most ws

abbrev good_row : ℕ → Bool
good_row r =
    let ws = row_words r in
    nonzero (operands_in ws)
    && (leb (length (operands_in ws)) 4 && (leb (text_most ws) 15 && (leb (length ws) 10 && (clear ws && alike (eqb r 0) (eqb (signs_in ws) 0)))))

good-rows : every good_row 107 ≡ true
unfolding every nonzero clear operands_in text_most operand_most field_most signs_in row_words words_of code_of code001 code002 spelling passing alike
good-rows = refl

-- it keeps its row
pub row_made : (r x m : ℕ) → row_in (instruction_of r x m) ≡ r
unfolding instruction_by with_codes row_in
row_made r x m =
    go (eqb (code_at r 0) 0) (eqb (code_at r 1) 0) (eqb (code_at r 2) 0) (eqb (code_at r 3) 0)
    (operand_by (code_at r 0) (fields_of x m)) (operand_by (code_at r 1) (fields_of x m)) (operand_by (code_at r 2) (fields_of x m))
    (operand_by (code_at r 3) (fields_of x m))
  where
    go : (a b c d : Bool) (p q s t : Operand)
        → row_in (pick a (Bare r) (pick b (OfOne r p) (pick c (OfTwo r p q) (pick d (OfThree r p q s) (OfFour r p q s t))))) ≡ r
    go true b c d p q s t = refl
    go false true c d p q s t = refl
    go false false true d p q s t = refl
    go false false false true p q s t = refl
    go false false false false p q s t = refl

-- what is so of a row
pub record Row (r : ℕ) : Type 0 where
  pub codes : nonzero (operands_in (row_words r)) ≡ true
  pub four : length (operands_in (row_words r)) ≤ 4
  pub fifteen : text_most (row_words r) ≤ 15
  pub ten : length (row_words r) ≤ 10
  pub clean : clear (row_words r) ≡ true
  pub none : eqb r 0 ≡ eqb (signs_in (row_words r)) 0

pub row_is : (r : ℕ) → r < 107 → Row r
row_is r h =
    let ws = row_words r in
    let s = both_hold (nonzero (operands_in ws)) _ (every-at good_row 107 good-rows r h) in
    let t = both_hold (leb (length (operands_in ws)) 4) _ s.1 in
    let u = both_hold (leb (text_most ws) 15) _ t.1 in
    let v = both_hold (leb (length ws) 10) _ u.1 in
    let w = both_hold (clear ws) _ v.1 in
    record {
      codes = s.0;
      four = leb-true _ _ t.0;
      fifteen = leb-true _ _ u.0;
      ten = leb-true _ _ v.0;
      clean = w.0;
      none = alike-eq _ _ w.1;
    }

-- an instruction of a row has the row's form and operands, and spells the row's words
module _ (r x m : ℕ) (h : r < 107) where
  operands-row : operands_held (instruction_of r x m) ≡ operands_of x m (operands_in (row_words r))
  unfolding instruction_by code_at made
  operands-row = operands-made r x m (operands_in (row_words r)) (row_is r h).codes (row_is r h).four

  form-row : drop (row_in (instruction_of r x m) * 12) form_table ≡ form_of (drop (r * 12 + suc (length (row_words r))) form_table) (row_words r)
  form-row = let ten = (row_is r h).ten in rw (row_made r x m) (form-bytes r h (omega (arith, ten)))

  pub spelled-row : spelled_of form_table (instruction_of r x m) ≡ text_of (row_words r) x m ++ (10 ∷ [])
  unfolding spelled_of
  spelled-row = rw (form-row, operands-row) (words-filled x m _ (row_words r) (row_is r h).clean)

-- how long lines are --

pub field-most : (f x m : ℕ) → m < 65536 → (0 < field_most f) × (field_most f ≤ 8) × (field_of f x m < 8 ^ field_most f) × (field_of f x m < 16777216)
unfolding field_most
field-most zero x m h = omega arith
field-most (suc zero) x m h = omega arith
field-most (suc (suc zero)) x m h = omega arith
field-most (suc (suc (suc zero))) x m h = omega arith
field-most (suc (suc (suc (suc zero)))) x m h = omega arith
field-most (suc (suc (suc (suc (suc zero))))) x m h = omega arith
field-most (suc (suc (suc (suc (suc (suc zero)))))) x m h = omega arith
field-most (suc (suc (suc (suc (suc (suc (suc zero))))))) x m h = omega arith
field-most (suc (suc (suc (suc (suc (suc (suc (suc f)))))))) x m h = omega arith

-- an octal number below 8 ^ k has at most k digits
pub octal-most : (n k : ℕ) → 0 < k → n < 8 ^ k → length (shown 8 1 n) ≤ k
octal-most n zero some h = absurd (omega arith)
octal-most n (suc k) some h = shown-most 8 (omega arith) 1 n k h (omega arith)

-- the operand of a code by the tests of its letter
abbrev operand_on : ℕ → ℕ → ℕ → Bool → Bool → Bool → Operand
operand_on c x m a b d =
    pick a (Constant (field_of (c % 8) x m))
    (pick b (Indexed (field_of (c % 8) x m) (x / 512 % 8))
    (pick d (Constant (64 - field_of (c % 8) x m))
    (Register (c / 8) (field_of (c % 8) x m) (eqb (c % 8) 5))))

-- the text of an operand, of a word and of words
operand-most : (c x m : ℕ) → m < 65536 → length (operand_text (operand_of c x m)) ≤ operand_most c
unfolding operand_text operand_of operand_most
operand-most c x m h = go (eqb (c / 8) 0) (eqb (c / 8) 1) (eqb (c / 8) 2)
  where
    number : length (shown 8 1 (field_of (c % 8) x m)) ≤ field_most (c % 8)
    number = let field = field-most (c % 8) x m h in octal-most _ _ field.0 field.2

    go : (a b d : Bool) → length (operand_text (operand_on c x m a b d))
        ≤ pick a (field_most (c % 8)) (pick b (field_most (c % 8) + 3) (pick d 3 (1 + pick (eqb (c % 8) 5) 2 1)))
    go true b d = number
    go false true d =
        let digit : length (shown 8 1 (x / 512 % 8)) ≤ 1 = octal-most _ 1 (omega arith) (omega arith) in
        rw (length-append (shown 8 1 (field_of (c % 8) x m)) (44 ∷ 65 ∷ shown 8 1 (x / 512 % 8))) (omega (arith, number, digit))
    go false false true = octal-most _ 3 (omega arith) (omega arith)
    go false false false = rw (digits-length 8 (pick (eqb (c % 8) 5) 2 1) (field_of (c % 8) x m)) (omega arith)

text-most : (ws : List ℕ) (x m : ℕ) → m < 65536 → length (text_of ws x m) ≤ text_most ws
unfolding text_of text_most
text-most [] x m h = omega arith
text-most (w ∷ ws) x m h =
    rw (length-append (word_text w x m) (text_of ws x m)) (go (ltb w 128) (text-most ws x m h) (operand-most (w - 128) x m h))
  where
    go : (b : Bool) → length (text_of ws x m) ≤ text_most ws → length (operand_text (operand_of (w - 128) x m)) ≤ operand_most (w - 128)
        → length (pick b (w ∷ []) (operand_text (operand_of (w - 128) x m))) + length (text_of ws x m) ≤ pick b 1 (operand_most (w - 128)) + text_most ws
    go true more here = omega arith
    go false more here = omega arith

-- each sign is a byte
text-least : (ws : List ℕ) (x m : ℕ) → signs_in ws ≤ length (text_of ws x m)
unfolding text_of signs_in
text-least [] x m = omega arith
text-least (w ∷ ws) x m = rw (length-append (word_text w x m) (text_of ws x m)) (go (ltb w 128) (text-least ws x m))
  where
    go : (b : Bool) → signs_in ws ≤ length (text_of ws x m)
        → pick b (suc (signs_in ws)) (signs_in ws) ≤ length (pick b (w ∷ []) (operand_text (operand_of (w - 128) x m))) + length (text_of ws x m)
    go true more = omega arith
    go false more = omega arith

-- an instruction's operands are small, and each has its place in the form --

small-operand : (c x m : ℕ) → m < 65536 → Small (operand_of c x m)
unfolding operand_of
small-operand c x m h = go (eqb (c / 8) 0) (eqb (c / 8) 1) (eqb (c / 8) 2)
  where
    number : field_of (c % 8) x m < 16777216
    number = (field-most (c % 8) x m h).3

    go : (a b d : Bool) → Small (operand_on c x m a b d)
    go true b d = number
    go false true d = (number, omega arith)
    go false false true = omega arith
    go false false false = tt

sign-fills : (b : ℕ) (l : List ℕ) (os : List Operand) → eqb b 0 ≡ false → eqb b 10 ≡ false → Fills l os → Fills (b ∷ l) os
unfolding Fills Ends after_signs
sign-fills b l [] n t f = λ z e. f
sign-fills b l (o ∷ os) n t f = ((λ z e. f.0), f.1, rw (n, t) f.2)

module _ (x m : ℕ) (past : List ℕ) (low : m < 65536) where
  words-fill : (ws : List ℕ) → clear ws ≡ true → Fills (form_of past ws) (operands_of x m (operands_in ws))
  unfolding operands_of operands_in Fills Ends after_signs
  words-fill [] e = λ z t. absurd (t refl)
  words-fill (w ∷ ws) e =
      let more = words-fill ws (clear-rest w ws e) in
      by_first w ws e
      (λ s n t. rw s (sign-fills w (form_of past ws) (operands_of x m (operands_in ws)) n t more))
      (λ s. rw s ((λ z t. absurd (z refl)), small-operand (w - 128) x m low, more))

pub row-spells : (r x m : ℕ) → r < 107 → m < 65536 → Spells form_table (instruction_of r x m)
row-spells r x m h low = rw (form-row r x m h, operands-row r x m h) (words-fill x m _ low (row_words r) (row_is r h).clean)

-- the line of an instruction --

pub data-length : (x : ℕ) → length (data_line x) ≡ 12
unfolding data_line
data-length x =
    length-append (signs "data=") (digits 8 6 x ++ (10 ∷ []))
    ∙ ap (λ (n : ℕ). 5 + n) (length-append (digits 8 6 x) (10 ∷ []) ∙ ap (λ (n : ℕ). n + 1) (digits-length 8 6 x))

-- row 0 is the one without words
no_words : (r : ℕ) → r < 107 → (eqb r 0 ≡ true → row_words r ≡ []) × (eqb r 0 ≡ false → 0 < signs_in (row_words r))
unfolding row_words words_of code_of spelling
no_words r h = ((λ e. none_of e), λ e. some_of e)
  where
    none_of : eqb r 0 ≡ true → row_words r ≡ []
    none_of e = rw (eqb-true r 0 e)

    some_of : eqb r 0 ≡ false → 0 < signs_in (row_words r)
    some_of e = let n = eqb-false (signs_in (row_words r)) 0 (sym (row_is r h).none ∙ e) in omega (arith, n)

-- words with a sign among them are some
with-words : (ws : List ℕ) (x m : ℕ) → 0 < signs_in ws → line_with ws x m ≡ text_of ws x m ++ (10 ∷ [])
unfolding signs_in
with-words [] x m h = absurd (omega arith)
with-words (w ∷ ws) x m h = refl

module _ (x m : ℕ) (h : x < 65536) where
  low : row_of x < 107
  low = row_small x h

  pub line-of-none : eqb (row_of x) 0 ≡ true → line_of x m ≡ data_line x
  unfolding line_of
  line-of-none e = rw (words-of-row x h, (no_words (row_of x) low).0 e)

  pub line-of-some : eqb (row_of x) 0 ≡ false → line_of x m ≡ spelled_of form_table (instruction_of (row_of x) x m)
  unfolding line_of
  line-of-some e =
      rw (words-of-row x h) (with-words (row_words (row_of x)) x m ((no_words (row_of x) low).1 e) ∙ sym (spelled-row (row_of x) x m low))

  pub line-most : m < 65536 → (2 ≤ length (line_of x m)) × (length (line_of x m) ≤ 16)
  line-most l = go (eqb (row_of x) 0) refl
    where
      go : (b : Bool) → eqb (row_of x) 0 ≡ b → (2 ≤ length (line_of x m)) × (length (line_of x m) ≤ 16)
      go true e = let n = ap length (line-of-none e) ∙ data-length x in (omega arith, omega arith)
      go false e =
          let r = row_of x in
          let n = ap length (line-of-some e ∙ spelled-row r x m low) ∙ length-append (text_of (row_words r) x m) (10 ∷ []) in
          let some = (no_words r low).1 e in
          let least = text-least (row_words r) x m in
          let most = text-most (row_words r) x m l in
          let fifteen = (row_is r low).fifteen in
          (omega (arith, n, some, least), omega (arith, n, most, fifteen))
