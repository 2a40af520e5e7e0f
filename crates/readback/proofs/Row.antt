-- The row that is seen in a line, told from its simple words. Assumes nothing.
use Prim.Native.Nat.{ℕ, zero, suc, ◌+◌, ◌-◌, ◌*◌, ◌%◌, ◌<◌}
use mathlib.Core.Path.{◌≡◌, refl, sym, ap, ◌∙◌}
use mathlib.Core.Bool.{Bool, true, false, not, ◌&&◌, ◌||◌}
use mathlib.Core.List.{List, [], ◌∷◌, ◌++◌}
use native.Mathlib.Omega.{arith}
use lib.ListN.{get_or}
use lib.Dec.{eqb, ltb}
use borrow.Author.Tests.{eqb-true, ltb-true, ltb-false, lt-ltb, ne_eqb, not-true}
use Rattle.machine.specs.Word.{pick}
use Rattle.spelling.specs.Words.{field_of, text_of}
use Rattle.spelling.specs.Candidate.{Tree, row, ask, told, line_sign, bytes_of, is_octal, number_at, code_row, digit_row, row_seen}
use Rattle.spelling.proofs.Entries.{both_hold, every, every-at}
use Rattle.spelling.proofs.Table.{same, same-eq}
use Rattle.spelling.proofs.Lines.{field_most}
use Rattle.readback.proofs.Simple.{field-digit}
use Rattle.readback.proofs.Places.{from, word_at, is_number, byte_at, octal-at, Read, number-from}

-- what is asked of a place is told by the word there: a sign is compared, and where a digit stands no other sign does
abbrev told_by : ℕ → ℕ → Bool → Bool → Bool
told_by w c here there = pick (ltb w 128) (pick (eqb w c) here there) (is_number w && (not (is_octal c) && there))

-- the questions of a tree lead to the row r
unfoldable pub leads : Tree → List ℕ → ℕ → Bool
leads (row q) ws r = eqb q r
leads (ask p c then else) ws r =
    let here = leads then ws r in
    let there = leads else ws r in
    told_by (word_at ws p) c here there

-- the row r is told by a first sign that is no digit
abbrev by_sign : List ℕ → ℕ → Bool
by_sign ws r = ltb (word_at ws 0) 128 && (not (is_octal (word_at ws 0)) && leads line_sign ws r)

-- by a code, whose last digit is known or may be any d
abbrev code_with : ℕ → ℕ → ℕ → ℕ
code_with v w d = code_row (v % 8 * 8 + pick (ltb w 128) (w % 8) d)

abbrev by_code : List ℕ → ℕ → Bool
by_code ws r =
    let v = word_at ws 1 in
    let w = word_at ws 2 in
    (ltb (word_at ws 0) 128 && is_octal (word_at ws 0)) && (eqb (word_at ws 3) 32 && (ltb v 128 && (ltb w 133 && every (λ d. eqb (code_with v w d) r) 8)))

-- or by the letter a of the register that is stored, behind the number
abbrev pub stored : ℕ → List ℕ
stored a = 44 ∷ 65 ∷ 129 ∷ 32 ∷ a ∷ 130 ∷ 10 ∷ []

abbrev by_store : List ℕ → ℕ → Bool
by_store ws r = let a = get_or ws 5 0 in same ws (134 ∷ stored a) && (ltb a 128 && eqb (pick (eqb a 65) 80 82) r)

-- so they see it
module _ (x m : ℕ) (ws rest : List ℕ) where
  abbrev line : ℕ → ℕ
  line = bytes_of (text_of ws x m ++ rest)

  sign_at : (p : ℕ) → ltb (word_at ws p) 128 ≡ true → line p ≡ word_at ws p
  sign_at p e =
      let small = ltb-true (word_at ws p) 128 e in
      byte_at x m ws rest p (lt-ltb (word_at ws p) 133 (omega (arith, small))) ∙ rw e

  tree-told : (t : Tree) (r : ℕ) → leads t ws r ≡ true → told t line ≡ r
  unfolding told leads
  tree-told (row q) r e = eqb-true q r e
  tree-told (ask p c then else) r e = go (ltb (word_at ws p) 128) refl e (tree-told then r) (tree-told else r)
    where
      go : (b : Bool) → ltb (word_at ws p) 128 ≡ b
          → pick b (pick (eqb (word_at ws p) c) (leads then ws r) (leads else ws r)) (is_number (word_at ws p) && (not (is_octal c) && leads else ws r)) ≡ true
          → (leads then ws r ≡ true → told then line ≡ r) → (leads else ws r ≡ true → told else line ≡ r)
          → pick (eqb (line p) c) (told then line) (told else line) ≡ r
      go true is e here there = rw (sign_at p is) (compared (eqb (word_at ws p) c) e)
        where
          compared : (b : Bool) → pick b (leads then ws r) (leads else ws r) ≡ true → pick b (told then line) (told else line) ≡ r
          compared true e = here e
          compared false e = there e
      go false is e here there =
          let t = both_hold (is_number (word_at ws p)) (not (is_octal c) && leads else ws r) e in
          let u = both_hold (not (is_octal c)) (leads else ws r) t.1 in
          let digit = octal-at x m ws rest p is t.0 in
          let none = not-true (is_octal c) u.0 in
          rw (ne_eqb (line p) c (λ same. let z : ◌≡◌ {A = ℕ} 0 1 = cc in omega (arith, z))) (there u.1)

  sign-seen : (r : ℕ) → by_sign ws r ≡ true → row_seen line ≡ r
  unfolding row_seen
  sign-seen r e =
      let t = both_hold (ltb (word_at ws 0) 128) (not (is_octal (word_at ws 0)) && leads line_sign ws r) e in
      let u = both_hold (not (is_octal (word_at ws 0))) (leads line_sign ws r) t.1 in
      let first : is_octal (line 0) ≡ false = ap is_octal (sign_at 0 t.0) ∙ not-true (is_octal (word_at ws 0)) u.0 in
      rw first (tree-told line_sign r u.1)

  code-seen : (r : ℕ) → by_code ws r ≡ true → row_seen line ≡ r
  unfolding row_seen digit_row
  code-seen r e =
      let v = word_at ws 1 in
      let w = word_at ws 2 in
      let t = both_hold (ltb (word_at ws 0) 128 && is_octal (word_at ws 0)) _ e in
      let f = both_hold (ltb (word_at ws 0) 128) (is_octal (word_at ws 0)) t.0 in
      let u = both_hold (eqb (word_at ws 3) 32) _ t.1 in
      let o = both_hold (ltb v 128) _ u.1 in
      let p = both_hold (ltb w 133) (every (λ d. eqb (code_with v w d) r) 8) o.1 in
      let blank = eqb-true (word_at ws 3) 32 u.0 in
      let sign : ltb (word_at ws 3) 128 ≡ true = rw blank in
      let first : is_octal (line 0) ≡ true = ap is_octal (sign_at 0 f.0) ∙ f.1 in
      let third : eqb (line 3) 32 ≡ true = ap (λ (b : ℕ). eqb b 32) (sign_at 3 sign ∙ blank) in
      rw (first, third, sign_at 1 o.0, byte_at x m ws rest 2 p.0) (second (ltb w 128) refl p.0 p.1)
    where
      second : (b : Bool) → ltb (word_at ws 2) 128 ≡ b → ltb (word_at ws 2) 133 ≡ true
          → every (λ d. eqb (code_row (word_at ws 1 % 8 * 8 + pick b (word_at ws 2 % 8) d)) r) 8 ≡ true
          → code_row (word_at ws 1 % 8 * 8 + pick b (word_at ws 2) (48 + field_of (word_at ws 2 - 128) x 0) % 8) ≡ r
      second true is short all = eqb-true _ _ (every-at _ 8 all 0 (omega arith))
      second false is short all =
          let past = ltb-false (word_at ws 2) 128 is in
          let less = ltb-true (word_at ws 2) 133 short in
          let digit = (field-digit x m (word_at ws 2 - 128) (omega arith)).1 in
          let same : (48 + field_of (word_at ws 2 - 128) x 0) % 8 ≡ field_of (word_at ws 2 - 128) x 0 = omega (arith, digit) in
          rw same (eqb-true _ _ (every-at _ 8 all (field_of (word_at ws 2 - 128) x 0) digit))

-- the bytes behind that number
module _ (x m : ℕ) (rest : List ℕ) (a : ℕ) (sign : ltb a 128 ≡ true) where
  stored-letter : get_or (text_of (stored a) x m ++ rest) 4 10 ≡ a
  unfolding from
  stored-letter =
      let small = ltb-true a 128 sign in
      byte_at x m (stored a) rest 4 (lt-ltb a 133 (omega (arith, small))) ∙ rw sign

  -- no blank is among its first three bytes
  no-blank : (q : ℕ) → q < 3 → get_or (text_of (stored a) x m ++ rest) q 10 ≡ 32 → ⊥
  unfolding from
  no-blank zero h e = let b = byte_at x m (stored a) rest 0 refl in omega (arith, b)
  no-blank (suc zero) h e = let b = byte_at x m (stored a) rest 1 refl in omega (arith, b)
  no-blank (suc (suc zero)) h e = let b = byte_at x m (stored a) rest 2 refl in omega (arith, b)
  no-blank (suc (suc (suc q))) h e = omega arith

module _ (x m : ℕ) (m-below : m < 65536) (ws rest : List ℕ) where
  store-seen : (r : ℕ) → by_store ws r ≡ true → row_seen (line x m ws rest) ≡ r
  unfolding row_seen digit_row from field_most
  store-seen r e =
      let t = both_hold (same ws (134 ∷ stored a)) _ e in
      let u = both_hold (ltb a 128) (eqb (pick (eqb a 65) 80 82) r) t.1 in
      let n = number (same-eq ws (134 ∷ stored a) t.0) in
      let first : is_octal (line x m ws rest 0) ≡ true = n.inside 0 n.some in
      let letter : line x m ws rest ((number_at (line x m ws rest) 0).end + 4) ≡ a = rw n.number (n.past 4 ∙ stored-letter x m rest a u.0) in
      rw (first, ne_eqb (line x m ws rest 3) 32 (third u.0 n), letter) (eqb-true _ r u.1)
    where
      a : ℕ
      a = get_or ws 5 0

      number : ws ≡ 134 ∷ stored a → Read x m 0 134 ws (stored a) rest
      number e = number-from x m m-below 0 134 ws (stored a) rest e (omega arith) refl refl (ap is_octal (byte_at x m (stored a) rest 0 refl))

      third : ltb a 128 ≡ true → Read x m 0 134 ws (stored a) rest → line x m ws rest 3 ≡ 32 → ⊥
      third sign n is = go (ltb 3 n.width) refl
        where
          go : (b : Bool) → ltb 3 n.width ≡ b → ⊥
          go true e =
              let octal = n.inside 3 (ltb-true 3 n.width e) in
              let z : ◌≡◌ {A = ℕ} 0 1 = cc in
              omega (arith, z)
          go false e =
              let few = ltb-false 3 n.width e in
              let some = n.some in
              let place : 0 + n.width + (3 - n.width) ≡ 3 = omega arith in
              no-blank x m rest a sign (3 - n.width) (omega arith) (sym (n.past (3 - n.width)) ∙ ap (λ (p : ℕ). line x m ws rest p) place ∙ is)

-- a row's line is seen as its own
abbrev pub seen_as : List ℕ → ℕ → Bool
seen_as ws r = let a = by_sign ws r in let b = by_code ws r in let c = by_store ws r in a || (b || c)

pub row_seen_lem : (x m : ℕ) → m < 65536 → (ws rest : List ℕ) (r : ℕ) → seen_as ws r ≡ true → row_seen (bytes_of (text_of ws x m ++ rest)) ≡ r
row_seen_lem x m m-below ws rest r e = go (by_sign ws r) (by_code ws r) (by_store ws r) refl refl refl e
  where
    go : (a b c : Bool) → by_sign ws r ≡ a → by_code ws r ≡ b → by_store ws r ≡ c → a || (b || c) ≡ true → row_seen (bytes_of (text_of ws x m ++ rest)) ≡ r
    go true b c e f g h = sign-seen x m ws rest r e
    go false true c e f g h = code-seen x m ws rest r f
    go false false true e f g h = store-seen x m m-below ws rest r g
    go false false false e f g h = let z : ◌≡◌ {A = ℕ} 0 1 = cc in absurd (omega arith)
