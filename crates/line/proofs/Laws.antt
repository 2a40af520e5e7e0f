-- Laws of a parcel's row and of the table of operands. Assumes nothing.
use mathlib.Core.Path.{◌≡◌, refl, sym, ap, ◌∙◌}
use mathlib.Core.Bool.{Bool, true, false, ◌&&◌, not}
use mathlib.Core.List.{List, [], ◌∷◌}
use Prim.Native.Nat.{ℕ, zero, suc, ◌+◌, ◌*◌, ◌/◌, ◌%◌, ◌≤◌, ◌<◌}
use native.Mathlib.Omega.{arith}
use lib.ListN.{get_or, length, get_or-append}
use native.Mathlib.Nat.{le_of_suc-le-suc}
use Rattle.std.proofs.lemmas.List.{get_or-append-add}
use lib.Dec.{eqb, ltb, leb}
use borrow.Author.Tests.{eq-eqb, eqb-true, eqb-false, ne_eqb, lt-ltb, le-ltb, ltb-true, ltb-false, le-leb}
use Rattle.machine.specs.Codes.{code_of, code001, code002}
use Rattle.spelling.specs.Spelling.{passing, spelling, words_of, second}
use Rattle.spelling.specs.Rows.{row_words, plain_rows, row_of, second_row, operands_in, code_at, operand_table}
use Rattle.line.specs.Joined.{codes_in, codes_of}
use Rattle.line.specs.declared.Codes.{Codes}
use Rattle.spelling.proofs.Table.{second-of-row}
use Rattle.spelling.proofs.Entries.{entry, every, every-at}

-- n is none of the numbers below k that f tells, nested as a match's `.rest` is: the last is outermost
abbrev pub Except : Bool → Type 0 → Type 0 → Type 0
Except true A B = A × B
Except false A B = A

abbrev pub NoneOf : (ℕ → Bool) → ℕ → ℕ → Type 0
NoneOf f n zero = Unit {0}
NoneOf f n (suc k) = Except (f k) (NoneOf f n k) (n ≡ k → ⊥)

none_of : (f : ℕ → Bool) (n k : ℕ) → NoneOf f n k → n < k → f n ≡ false
none_of f n zero r h = absurd (omega arith)
none_of f n (suc k) r h = go (f k) refl r (none_of f n k)
  where
    go : (b : Bool) → f k ≡ b → Except b (NoneOf f n k) (n ≡ k → ⊥) → (NoneOf f n k → n < k → f n ≡ false) → f n ≡ false
    go true e r more = let other : n ≡ k → ⊥ = r.1 in more r.0 (omega arith)
    go false e r more = last (eqb n k) refl
      where
        last : (b : Bool) → eqb n k ≡ b → f n ≡ false
        last true t = ap f (eqb-true n k t) ∙ e
        last false t = let other = eqb-false n k t in more r (omega (arith, other))

-- a row tells whether there is a second parcel
pub second-by : {x row : ℕ} → row ≡ row_of x → x < 65536 → second x ≡ second_row row
second-by {x} {row} e h = second-of-row x h ∙ ap second_row (sym e)

-- numbers that a computed test finds small: rows, and the codes of operands
below : (f : ℕ → ℕ) (n most : ℕ) → every (λ k. ltb (f k) most) n ≡ true → (k : ℕ) → k < n → f k < most
below f n most t k h = ltb-true (f k) most (every-at (λ k. ltb (f k) most) n t k h)

-- codes that have a row of their own, whatever the other digits are
abbrev pub has_plain : ℕ → Bool
has_plain c = leb 16 c && not (eqb (get_or plain_rows c 0) 0)

pub no_plain : (c : ℕ) → 16 ≤ c → c < 128 → NoneOf has_plain c 128 → 0 ≡ get_or plain_rows c 0
no_plain c h l r = go (eqb (get_or plain_rows c 0) 0) refl (rw (le-leb 16 c h) at (none_of has_plain c 128 r l))
  where
    go : (b : Bool) → eqb (get_or plain_rows c 0) 0 ≡ b → not b ≡ false → 0 ≡ get_or plain_rows c 0
    go true e t = sym (eqb-true _ _ e)
    go false e t = let z : ◌≡◌ {A = ℕ} 0 1 = cc in absurd (omega arith)

code-small : (n : ℕ) → n < 428 → code_at (n / 4) (n % 4) < 1024
unfolding every code_of code001 code002 passing spelling words_of row_words operands_in code_at
code-small = below (λ n. code_at (n / 4) (n % 4)) 428 1024 refl

-- the codes of a row
abbrev codes_at : List Codes → ℕ → Codes
codes_at cs row = get_or cs row (0, 0, 0, 0)

four-entry : (cs : List Codes) (row t : ℕ) → row < length cs → t < 4 → get_or (codes_of cs) (row * 4 + t) 0 ≡ get_or (codes_in (codes_at cs row)) t 0
unfolding codes_of
four-entry [] row t h k = absurd (omega arith)
four-entry (c ∷ cs) zero t h k =
    let e : 0 * 4 + t ≡ t = omega arith in
    ap (λ (i : ℕ). get_or (codes_of (c ∷ cs)) i 0) e ∙ get_or-append (codes_in c) (codes_of cs) 0 t k
four-entry (c ∷ cs) (suc row) t h k =
    let e : suc row * 4 + t ≡ 4 + (row * 4 + t) = omega arith in
    ap (λ (i : ℕ). get_or (codes_of (c ∷ cs)) i 0) e
    ∙ get_or-append-add (codes_in c) (codes_of cs) (row * 4 + t) 0
    ∙ four-entry cs row t (le_of_suc-le-suc h) k

module _ (cs : List Codes) {row : ℕ} (is : codes_of cs ≡ operand_table) (long : length cs ≡ 107) (h : row < 107) where
  code-entry : (t : ℕ) → t < 4 → get_or (codes_in (codes_at cs row)) t 0 ≡ code_at row t
  unfolding operand_table
  code-entry t k =
      let a : (0 + (row * 4 + t)) / 4 ≡ row = omega arith in
      let b : (0 + (row * 4 + t)) % 4 ≡ t = omega arith in
      let e = entry (λ n. code_at (n / 4) (n % 4)) 0 428 (row * 4 + t) (omega arith) ∙ rw (a, b) in
      sym (four-entry cs row t (omega arith) k) ∙ rw is e

  code-below : (t : ℕ) → t < 4 → get_or (codes_in (codes_at cs row)) t 0 < 1024
  code-below t k =
      let a : (row * 4 + t) / 4 ≡ row = omega arith in
      let b : (row * 4 + t) % 4 ≡ t = omega arith in
      rw (code-entry t k) (rw (a, b) at (code-small (row * 4 + t) (omega arith)))

-- all four, and that they are small
pub codes_found : (cs : List Codes) (row : ℕ) → codes_of cs ≡ operand_table → length cs ≡ 107 → row < 107
    → ((codes_at cs row).0 ≡ code_at row 0) × ((codes_at cs row).1 ≡ code_at row 1)
    × ((codes_at cs row).2 ≡ code_at row 2) × ((codes_at cs row).3 ≡ code_at row 3)
    × ((codes_at cs row).0 < 1024) × ((codes_at cs row).1 < 1024) × ((codes_at cs row).2 < 1024) × ((codes_at cs row).3 < 1024)
codes_found cs row is long h =
    let is_code = code-entry cs is long h in
    let is_low = code-below cs is long h in (
      is_code 0 (omega arith),
      is_code 1 (omega arith),
      is_code 2 (omega arith),
      is_code 3 (omega arith),
      is_low 0 (omega arith),
      is_low 1 (omega arith),
      is_low 2 (omega arith),
      is_low 3 (omega arith),
    )

pub ruleset decode_rules = (eq-eqb, ne_eqb, codes_found)
