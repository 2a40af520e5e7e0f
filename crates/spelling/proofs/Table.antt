-- The row that the program looks up is the one whose words Spelling gives, for every parcel. Assumes nothing.
use Prim.Native.Nat.{ℕ, suc, ◌+◌, ◌*◌, ◌/◌, ◌%◌, ◌<◌}
use mathlib.Core.Path.{◌≡◌, refl, sym, ◌∙◌, ap}
use mathlib.Core.Bool.{Bool, true, false, ◌&&◌, not}
use mathlib.Core.List.{List, [], ◌∷◌}
use native.Mathlib.Omega.{arith}
use lib.ListN.{length, get_or}
use lib.Dec.{eqb, ltb, leb}
use borrow.Author.Tests.{eqb-true, ltb-true, leb-false}
use Rattle.machine.specs.Word.{pick}
use Rattle.machine.specs.Parcel.{i_of, j_of, k_of}
use Rattle.machine.specs.Codes.{Code, nth, rows, code_of, code001, code002}
use Rattle.spelling.specs.Spelling.{passing, spelling, held_as, words_of_code, has_second, words_of, second}
use Rattle.spelling.specs.Rows.{row_words, row_of, row_by, within, row001, row0014, row002, row023, second_row}
use Rattle.spelling.proofs.Entries.{both_hold, every, every-at}

-- two lists, and two truths, are the same
unfoldable pub same : List ℕ → List ℕ → Bool
same [] [] = true
same [] (y ∷ ys) = false
same (x ∷ xs) [] = false
same (x ∷ xs) (y ∷ ys) = eqb x y && same xs ys

different : {A : Type 0} → false ≡ true → A
different e = let z : ◌≡◌ {A = ℕ} 0 1 = cc in absurd (omega arith)

pub same-eq : (xs ys : List ℕ) → same xs ys ≡ true → xs ≡ ys
unfolding same
same-eq [] [] e = refl
same-eq [] (y ∷ ys) e = different e
same-eq (x ∷ xs) [] e = different e
same-eq (x ∷ xs) (y ∷ ys) e =
    let t = both_hold (eqb x y) (same xs ys) e in
    let first = eqb-true x y t.0 in
    let rest = same-eq xs ys t.1 in
    cc

unfoldable pub alike : Bool → Bool → Bool
alike true b = b
alike false b = not b

pub alike-eq : (a b : Bool) → alike a b ≡ true → a ≡ b
unfolding alike
alike-eq true true e = refl
alike-eq true false e = different e
alike-eq false true e = different e
alike-eq false false e = refl

-- the code by its digits
abbrev code_by : ℕ → ℕ → ℕ → ℕ → Code
code_by c i j k = held_as (nth (get_or (rows false i j k) (c / 8) []) (c % 8)) (nth (get_or (rows true i j k) (c / 8) []) (c % 8))

-- the row found is right, of a parcel x with these digits
right : ℕ → ℕ → ℕ → ℕ → ℕ → Bool
right c i j k x =
    let r = row_by c i j k in
    same (words_of_code (code_by c i j k) x) (row_words r) && alike (has_second (code_by c i j k)) (second_row r)

-- from 020 on the codes of which not all digits i, j, k are free, and the place of one among them
abbrev others : List ℕ
others = 0o023 ∷ 0o026 ∷ 0o027 ∷ 0o071 ∷ 0o073 ∷ 0o174 ∷ 0o175 ∷ 0o176 ∷ 0o177 ∷ []

place_in : List ℕ → ℕ → ℕ
place_in [] c = 0
place_in (o ∷ l) c = pick (eqb c o) 0 (suc (place_in l c))

place-right : (l : List ℕ) (c : ℕ) → place_in l c < length l → get_or l (place_in l c) 0 ≡ c
unfolding place_in
place-right [] c h = absurd (omega arith)
place-right (o ∷ l) c h = go (eqb c o) refl h (place-right l c)
  where
    go : (b : Bool) → eqb c o ≡ b → pick b 0 (suc (place_in l c)) < suc (length l) → (place_in l c < length l → get_or l (place_in l c) 0 ≡ c)
        → get_or (o ∷ l) (pick b 0 (suc (place_in l c))) 0 ≡ c
    go true e h more = sym (eqb-true c o e)
    go false e h more = more (omega arith)

plain : ℕ → Bool
plain c = leb 16 c && leb 9 (place_in others c)

-- of these it is right whatever the digits are
all_plain : (i j k x : ℕ) → every (λ c. let r = right c i j k x in pick (plain c) r true) 128 ≡ true
unfolding every right plain place_in same alike words_of code_of code001 code002 spelling passing row_words row_by within row001 row0014 row002 row023 second_row
all_plain i j k x = refl

-- of the others it is right for each parcel
abbrev right_at : ℕ → Bool
right_at x = right (x / 512) (i_of x) (j_of x) (k_of x) x

low-right : every right_at 8192 ≡ true
unfolding every right plain place_in same alike words_of code_of code001 code002 spelling passing row_words row_by within row001 row0014 row002 row023 second_row
low-right = refl

others-right : every (λ n. right_at (get_or others (n / 512) 0 * 512 + n % 512)) 4608 ≡ true
unfolding every right plain place_in same alike words_of code_of code001 code002 spelling passing row_words row_by within row001 row0014 row002 row023 second_row
others-right = refl

other-right : (x n : ℕ) → n < 9 → x / 512 ≡ get_or others n 0 → right_at x ≡ true
other-right x n h e =
    let place : (n * 512 + x % 512) / 512 ≡ n = omega arith in
    let rest : (n * 512 + x % 512) % 512 ≡ x % 512 = omega arith in
    let whole : get_or others n 0 * 512 + x % 512 ≡ x = omega arith in
    ap right_at (sym whole)
    ∙ ap right_at (ap (λ (k : ℕ). get_or others k 0 * 512 + x % 512) (sym place))
    ∙ ap right_at (ap (λ (k : ℕ). get_or others ((n * 512 + x % 512) / 512) 0 * 512 + k) (sym rest))
    ∙ every-at (λ n. right_at (get_or others (n / 512) 0 * 512 + n % 512)) 4608 others-right (n * 512 + x % 512) (omega arith)

-- so it is of all
right-at : (x : ℕ) → x < 65536 → right_at x ≡ true
unfolding plain
right-at x h = go (leb 16 (x / 512)) (leb 9 (place_in others (x / 512))) refl refl
  where
    go : (a b : Bool) → leb 16 (x / 512) ≡ a → leb 9 (place_in others (x / 512)) ≡ b → right_at x ≡ true
    go false b e f = let low = leb-false 16 (x / 512) e in every-at right_at 8192 low-right x (omega (arith, low))
    go true false e f =
        let few : place_in others (x / 512) < 9 = leb-false 9 (place_in others (x / 512)) f in
        other-right x (place_in others (x / 512)) few (sym (place-right others (x / 512) few))
    go true true e f =
        let every-c = every-at (λ c. let r = right c (i_of x) (j_of x) (k_of x) x in pick (plain c) r true) 128
        (all_plain (i_of x) (j_of x) (k_of x) x) (x / 512) (omega arith) in
        simp (e, f) at every-c

module _ (x : ℕ) (h : x < 65536) where
  both : (same (words_of x) (row_words (row_of x)) ≡ true) × (alike (second x) (second_row (row_of x)) ≡ true)
  unfolding right words_of second row_of code_of
  both = both_hold _ _ (right-at x h)

  pub words-of-row : words_of x ≡ row_words (row_of x)
  words-of-row = same-eq _ _ both.0

  pub second-of-row : second x ≡ second_row (row_of x)
  second-of-row = alike-eq _ _ both.1

-- it is one of 107
all-rows : every (λ x. ltb (row_of x) 107) 65536 ≡ true
unfolding every row_of row_by within row001 row0014 row002 row023
all-rows = refl

pub row_small : (x : ℕ) → x < 65536 → row_of x < 107
row_small x h = ltb-true (row_of x) 107 (every-at (λ x. ltb (row_of x) 107) 65536 all-rows x h)
