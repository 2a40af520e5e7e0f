-- Laws of a number read digit by digit, and of the table of plans. Assumes nothing.
use mathlib.Core.Path.{◌≡◌, refl, sym, ap, ◌∙◌}
use mathlib.Core.Bool.{Bool, true, false}
use mathlib.Core.List.{List, [], ◌∷◌, ◌++◌}
use Prim.Native.Nat.{ℕ, zero, suc, ◌+◌, ◌-◌, ◌*◌, ◌/◌, ◌%◌, ◌^◌, ◌≤◌, ◌<◌}
use native.Mathlib.Nat.{le_of_suc-le-suc}
use native.Mathlib.Omega.{arith}
use lib.ListN.{length, get_or, get_or-append}
use Rattle.std.specs.Prelude.{None}
use Rattle.std.proofs.lemmas.List.{get_or-append-add}
use lib.Dec.{eqb, ltb}
use borrow.Author.Tests.{lt-ltb, le-ltb, le-leb, lt-leb, ltb-true}
use Rattle.machine.specs.Codes.{code_of, code001, code002}
use Rattle.spelling.specs.Spelling.{passing, spelling, words_of}
use Rattle.spelling.specs.Rows.{row_words}
use Rattle.spelling.specs.Candidate.{is_octal, number_from, place_of, number_place, number_code, plan_of, plan_table, guess_with}
use Rattle.guess.specs.Numbers.{kind_of, numbers_in, numbers_of}
use Rattle.guess.specs.declared.Kind.{Kind}
use Rattle.guess.specs.declared.Kind.TheVariants.{Jk, Jkm, Rest, Indexed, Leading}
use Rattle.guess.specs.declared.Plan.{Plan}
use Rattle.spelling.proofs.Entries.{entry, every, every-at}

-- in the text the default is nothing
pub default_free : (s : List ℕ) (i d e : ℕ) → i < length s → get_or s i d ≡ get_or s i e
default_free [] i d e h = absurd (omega arith)
default_free (x ∷ s) zero d e h = refl
default_free (x ∷ s) (suc i) d e h = default_free s i d e (le_of_suc-le-suc h)

pub octal : (b : ℕ) → 48 ≤ b → b < 56 → is_octal b ≡ true
octal b low high = rw (le-leb 48 b low, lt-ltb b 56 high)

pub below-octal : (b : ℕ) → b < 48 → is_octal b ≡ false
below-octal b h = rw (lt-leb 48 b h)

pub above-octal : (b : ℕ) → 56 ≤ b → is_octal b ≡ false
above-octal b h = rw (le-leb 48 b (omega arith), le-ltb b 56 h)

-- a digit more; no digit; no place
module _ (b : ℕ → ℕ) (p v : ℕ) where
  pub number_more : p < 16 → is_octal (b p) ≡ true
      → number_from (16 - p) b p v ≡ number_from (16 - (p + 1)) b (p + 1) ((v * 8 + b p % 8) % 2 ^ 32)
  unfolding number_from
  number_more h t = let e : 16 - p ≡ suc (16 - (p + 1)) = omega arith in rw (e, t)

  pub number-stops : p < 16 → is_octal (b p) ≡ false → number_from (16 - p) b p v ≡ record { value = v; end = p }
  unfolding number_from
  number-stops h t = let e : 16 - p ≡ suc (16 - (p + 1)) = omega arith in rw (e, t)

  pub number-full : 16 ≤ p → number_from (16 - p) b p v ≡ record { value = v; end = p }
  unfolding number_from
  number-full h = let e : 16 - p ≡ 0 = omega arith in rw e

-- what the entries of a plan are below: first a parcel, then places in a line
abbrev most : ℕ → ℕ
most zero = 65536
most (suc n) = 16

-- the plan of a row, and eight numbers of it
abbrev pub plan_at : List Plan → ℕ → Plan
plan_at ps row = get_or ps row (0, 0, 0, 0, 0, 0, None)

abbrev eight : List Plan → ℕ → List ℕ
eight ps row = numbers_in (plan_at ps row) ++ 0 ∷ []

eight-entry : (ps : List Plan) (row n : ℕ) → row < length ps → n < 8 → get_or (numbers_of ps) (row * 8 + n) 0 ≡ get_or (eight ps row) n 0
unfolding numbers_of
eight-entry [] row n h k = absurd (omega arith)
eight-entry (p ∷ ps) zero n h k =
    let e : 0 * 8 + n ≡ n = omega arith in
    ap (λ (i : ℕ). get_or (numbers_of (p ∷ ps)) i 0) e ∙ get_or-append (numbers_in p ++ 0 ∷ []) (numbers_of ps) 0 n k
eight-entry (p ∷ ps) (suc row) n h k =
    let e : suc row * 8 + n ≡ 8 + (row * 8 + n) = omega arith in
    ap (λ (i : ℕ). get_or (numbers_of (p ∷ ps)) i 0) e
    ∙ get_or-append-add (numbers_in p ++ 0 ∷ []) (numbers_of ps) (row * 8 + n) 0
    ∙ eight-entry ps row n (le_of_suc-le-suc h) k

-- a number is of some kind
pub some-kind : (k : Kind) → eqb (kind_of k) 0 ≡ false
some-kind Jk = refl
some-kind Jkm = refl
some-kind Rest = refl
some-kind Indexed = refl
some-kind Leading = refl

module _ {row : ℕ} (h : row < 108) where
  plan-small : (n : ℕ) → n < 8 → get_or (plan_of row) n 0 < most n
  unfolding every code_of code001 code002 passing spelling words_of row_words place_of number_place number_code plan_of
  plan-small n k =
      let small : ℕ → ℕ → Bool = λ r n. ltb (get_or (plan_of r) n 0) (most n) in
      ltb-true _ _ (every-at (small row) 8 (every-at (λ r. every (small r) 8) 108 refl row h) n k)

  pub plan-below : (n : ℕ) → n < 7 → get_or (plan_of row) (suc n) 0 < 16
  plan-below n k = plan-small (suc n) (omega arith)

  module _ (ps : List Plan) (is : numbers_of ps ≡ plan_table) (long : length ps ≡ 108) where
    plan-entry : (n : ℕ) → n < 8 → get_or (eight ps row) n 0 ≡ get_or (plan_of row) n 0
    unfolding plan_table
    plan-entry n k =
        let a : (0 + (row * 8 + n)) / 8 ≡ row = omega arith in
        let b : (0 + (row * 8 + n)) % 8 ≡ n = omega arith in
        let e = entry (λ n. get_or (plan_of (n / 8)) (n % 8) 0) 0 864 (row * 8 + n) (omega arith) ∙ rw (a, b) in
        sym (eight-entry ps row n (omega arith) k) ∙ rw is e

    place-small : (n : ℕ) → n < 7 → get_or (eight ps row) (suc n) 0 < 16
    place-small n k = rw (plan-entry (suc n) (omega arith)) (plan-below n k)

    pub plan-read : (b : ℕ → ℕ) → guess_with b (plan_of row) ≡ guess_with b (numbers_in (plan_at ps row))
    unfolding guess_with
    plan-read b =
        rw (
          ← plan-entry 0 (omega arith),
          ← plan-entry 1 (omega arith),
          ← plan-entry 2 (omega arith),
          ← plan-entry 3 (omega arith),
          ← plan-entry 4 (omega arith),
          ← plan-entry 5 (omega arith),
          ← plan-entry 6 (omega arith),
        )

-- its places are small
pub places_found : (ps : List Plan) (row : ℕ) → numbers_of ps ≡ plan_table → length ps ≡ 108 → row < 108
    → ((plan_at ps row).1 < 16) × ((plan_at ps row).2 < 16) × ((plan_at ps row).3 < 16) × ((plan_at ps row).4 < 16) × ((plan_at ps row).5 < 16)
places_found ps row is long h =
    let place = place-small h ps is long in
    (place 0 (omega arith), place 1 (omega arith), place 2 (omega arith), place 3 (omega arith), place 4 (omega arith))
