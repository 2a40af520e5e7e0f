-- Every line listed is guessed right, whatever follows it. Assumes nothing.
use Prim.Native.Nat.{ℕ, ◌<◌}
use mathlib.Core.Path.{◌≡◌, refl, sym, ap, ◌∙◌}
use mathlib.Core.Bool.{Bool, true, false}
use mathlib.Core.List.{List, [], ◌∷◌, ◌++◌, append_assoc}
use native.Mathlib.Omega.{arith}
use lib.ListN.{length, get_or}
use lib.Dec.{eqb}
use borrow.Author.Tests.{eqb-true}
use Rattle.text.specs.Digits.{digits}
use Rattle.spelling.specs.Words.{signs, text_of}
use Rattle.spelling.specs.Spelling.{second}
use Rattle.spelling.specs.Listing.{data_line, line_of}
use Rattle.spelling.specs.Rows.{row_words, row_of, second_row}
use Rattle.spelling.specs.Candidate.{bytes_of, Numeral, number_at, told, row_seen, plan_of, Guess, with_number, guess_with, guess_by, guess_of}
use Rattle.spelling.proofs.Table.{second-of-row, row_small}
use Rattle.spelling.proofs.Lines.{data-length, line-of-none, line-of-some, spelled-row}
use Rattle.readback.proofs.Numbers.{number_read}
use Rattle.readback.proofs.Simple.{simple, simple-text}
use Rattle.readback.proofs.Row.{row_seen_lem}
use Rattle.readback.proofs.Sum.{Right, plan-guess}
use Rattle.readback.proofs.Finite.{row_is, sum_back}

-- what is guessed are parcels
abbrev Parcels : Guess → Type 0
Parcels g = (g.first < 65536) × (g.second < 65536)

number-below : (b : ℕ → ℕ) (kind x : ℕ) (n : Numeral) → Parcels (with_number b kind x n)
unfolding with_number
number-below b kind x n = go (eqb kind 1) (eqb kind 2) (eqb kind 3) (eqb kind 4) refl refl refl refl
  where
    go : (p q r s : Bool) → eqb kind 1 ≡ p → eqb kind 2 ≡ q → eqb kind 3 ≡ r → eqb kind 4 ≡ s → Parcels (with_number b kind x n)
    go true q r s e f g h = rw e (omega arith)
    go false true r s e f g h = rw (e, f) (omega arith)
    go false false true s e f g h = rw (e, f, g) (omega arith)
    go false false false true e f g h = rw (e, f, g, h) (omega arith)
    go false false false false e f g h = rw (e, f, g, h) (omega arith)

plan-below : (b : ℕ → ℕ) (plan : List ℕ) → Parcels (guess_with b plan)
unfolding guess_with
plan-below b plan = go (eqb (get_or plan 6 0) 0) refl
  where
    go : (none : Bool) → eqb (get_or plan 6 0) 0 ≡ none → Parcels (guess_with b plan)
    go true e = rw e (omega arith)
    go false e = rw e (number-below _ _ _ _)

guess-below : (s : List ℕ) → Parcels (guess_of s)
unfolding guess_of guess_by
guess-below s = plan-below _ _

pub first_below : (s : List ℕ) → (guess_of s).first < 65536
first_below s = (guess-below s).0

pub second_below : (s : List ℕ) → (guess_of s).second < 65536
second_below s = (guess-below s).1

-- the line of a parcel that is spelled
module _ (x m : ℕ) (x_below : x < 65536) (m-below : m < 65536) (rest : List ℕ) (spelled : eqb (row_of x) 0 ≡ false) where
  line-text : line_of x m ≡ text_of (simple (row_words (row_of x))) x m
  line-text =
      let low = row_small x x_below in
      line-of-some x m x_below spelled ∙ spelled-row (row_of x) x m low ∙ sym (simple-text x m (row_words (row_of x)) (row_is (row_of x) low spelled).fits)

  spelled-right : Right (guess_of (line_of x m ++ rest)) x m (second x) (length (line_of x m))
  unfolding guess_of guess_by
  spelled-right =
      let row = row_is (row_of x) (row_small x x_below) spelled in
      let ws = simple (row_words (row_of x)) in
      rw (line-text, row_seen_lem x m m-below ws rest (row_of x) row.seen, second-of-row x x_below, row.two)
      (plan-guess x m x_below m-below (plan_of (row_of x)) ws rest row.plan (sum_back x x_below spelled))

-- the line of data
module _ (x : ℕ) (below : x < 65536) (rest : List ℕ) where
  data-text : data_line x ++ rest ≡ signs "data=" ++ (digits 8 6 x ++ (10 ∷ rest))
  unfolding data_line
  data-text = ap (λ (l : List ℕ). signs "data=" ++ l) (append_assoc (digits 8 6 x) (10 ∷ []) rest)

  data-number : number_at (bytes_of (data_line x ++ rest)) 5 ≡ record { value = x; end = 11 }
  data-number = number_read (data_line x ++ rest) (signs "data=") 6 x (10 ∷ rest) data-text (omega arith) (omega arith) (omega arith) refl

  data-row : row_seen (bytes_of (data_line x ++ rest)) ≡ 107
  unfolding row_seen told
  data-row = rw data-text

  data-right : (m : ℕ) → Right (guess_of (data_line x ++ rest)) x m false (length (data_line x))
  unfolding guess_of guess_by guess_with plan_of with_number
  data-right m =
      rw (data-row, data-number, data-length x)
      (record { first = omega arith; second = λ is. cc; two = refl; size = refl })

  pub data-guess : ((guess_of (data_line x ++ rest)).first ≡ x) × ((guess_of (data_line x ++ rest)).two ≡ false)
      × ((guess_of (data_line x ++ rest)).length ≡ length (data_line x))
  data-guess = let g = data-right 0 in (g.first, g.two, g.size)

-- the line of any parcel
module _ (x m : ℕ) (x_below : x < 65536) (m-below : m < 65536) (rest : List ℕ) where
  line-right : Right (guess_of (line_of x m ++ rest)) x m (second x) (length (line_of x m))
  unfolding second_row
  line-right = go (eqb (row_of x) 0) refl
    where
      go : (b : Bool) → eqb (row_of x) 0 ≡ b → Right (guess_of (line_of x m ++ rest)) x m (second x) (length (line_of x m))
      go true e =
          let none : second x ≡ false = second-of-row x x_below ∙ ap second_row (eqb-true (row_of x) 0 e) in
          rw (line-of-none x m x_below e, none) (data-right x x_below rest m)
      go false e = spelled-right x m x_below m-below rest e

  pub line_first : (guess_of (line_of x m ++ rest)).first ≡ x
  line_first = line-right.first

  pub line-two : second x ≡ true → guess_of (line_of x m ++ rest) ≡ record { first = x; second = m; two = true; length = length (line_of x m) }
  line-two is =
      let second = line-right.second is in
      let two = line-right.two ∙ is in
      λ i. record { first = line-right.first i; second = second i; two = two i; length = line-right.size i }

  pub line-one : second x ≡ false → ((guess_of (line_of x m ++ rest)).first ≡ x) × ((guess_of (line_of x m ++ rest)).two ≡ false)
      × ((guess_of (line_of x m ++ rest)).length ≡ length (line_of x m))
  line-one is = (line-right.first, line-right.two ∙ is, line-right.size)
