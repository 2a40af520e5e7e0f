-- What antt computes of each row and each parcel: the row is seen, and its plan gives the parcel back. Assumes nothing.
use Prim.Native.Nat.{ℕ, ◌+◌, ◌*◌, ◌/◌, ◌%◌, ◌<◌}
use mathlib.Core.Path.{◌≡◌, refl, sym, ap, ◌∙◌, subst}
use mathlib.Core.Bool.{Bool, true, false, ◌&&◌, ◌||◌}
use native.Mathlib.Omega.{arith}
use lib.ListN.{get_or}
use lib.Dec.{eqb, ltb}
use borrow.Author.Tests.{eqb-true}
use Rattle.machine.specs.Word.{pick}
use Rattle.machine.specs.Parcel.{i_of, j_of, k_of}
use Rattle.machine.specs.Codes.{code_of, code001, code002}
use Rattle.spelling.specs.Spelling.{passing, spelling, words_of}
use Rattle.spelling.specs.Rows.{row_words, within, row0014, row001, row002, row023, row_by, row_of, second_row}
use Rattle.spelling.specs.Candidate.{code_row, place_of, number_place, number_code, plan_of}
use Rattle.spelling.proofs.Entries.{both_hold, every, every-at}
use Rattle.spelling.proofs.Table.{same, alike, alike-eq}
use Rattle.spelling.proofs.Lines.{field_most}
use Rattle.readback.proofs.Simple.{simple, fitting}
use Rattle.readback.proofs.Places.{from}
use Rattle.readback.proofs.Row.{leads, seen_as}
use Rattle.readback.proofs.Sum.{ends_as, of_two, sum_by, planned, plan_right}

-- a test that is asked of some
asked : (b t : Bool) → b ≡ false → pick b true t ≡ true → t ≡ true
asked true t e h = let z : ◌≡◌ {A = ℕ} 0 1 = cc in absurd (omega arith)
asked false t e h = h

asked-other : (b t : Bool) → b ≡ true → pick b t true ≡ true → t ≡ true
asked-other true t e h = h
asked-other false t e h = let z : ◌≡◌ {A = ℕ} 0 1 = cc in absurd (omega arith)

-- a row
abbrev good_row : ℕ → Bool
good_row r =
    let words = row_words r in
    let ws = simple words in
    let plan = plan_of r in
    fitting words && (seen_as ws r && (plan_right plan ws && alike (second_row r) (of_two (get_or plan 6 0))))

all-rows : every (λ r. let good = good_row r in pick (eqb r 0) true good) 107 ≡ true
unfolding every simple fitting leads ends_as from field_most same alike second_row plan_of place_of number_place number_code code_row row_words
    words_of code_of code001 code002 spelling passing
all-rows = refl

-- what that says
pub record RowFacts (r : ℕ) : Type 0 where
  pub fits : fitting (row_words r) ≡ true
  pub seen : seen_as (simple (row_words r)) r ≡ true
  pub plan : plan_right (plan_of r) (simple (row_words r)) ≡ true
  pub two : second_row r ≡ of_two (get_or (plan_of r) 6 0)

pub row_is : (r : ℕ) → r < 107 → eqb r 0 ≡ false → RowFacts r
row_is r h e =
    let ws = simple (row_words r) in
    let a = both_hold (fitting (row_words r)) _ (asked (eqb r 0) (good_row r) e (every-at _ 107 all-rows r h)) in
    let b = both_hold (seen_as ws r) _ a.1 in
    let c = both_hold (plan_right (plan_of r) ws) _ b.1 in
    record { fits = a.0; seen = b.0; plan = c.0; two = alike-eq _ _ c.1 }

-- parcels: those that are tried are given back by the plan of the row r
abbrev pub sum_of : ℕ → ℕ → ℕ
sum_of r x = planned (plan_of r) (simple (row_words r)) (λ base h i j k kind w. sum_by base h i j k kind w x)

abbrev back : ℕ → ((ℕ → Bool) → Bool) → Bool
back r tried =
    let plan = plan_of r in
    let ws = simple (row_words r) in
    let t = planned plan ws (λ base h i j k kind w. tried (λ x. eqb (sum_by base h i j k kind w x) x)) in
    pick (eqb r 0) true t

-- the codes whose rows depend on j and k
abbrev special : ℕ → Bool
special c =
    ltb c 5 || eqb c 0o023 || eqb c 0o026 || eqb c 0o027 || eqb c 0o071 || eqb c 0o073 || eqb c 0o174 || eqb c 0o175 || eqb c 0o176

-- of any other code the row is that of the parcel where j and k are 0, and the 64 parcels are tried together
all_settled : (j k : ℕ) → every (λ c. every (λ i. let t = eqb (row_by c i j k) (row_by c i 0 0) in pick (special c) true t) 8) 128 ≡ true
unfolding every row_by within row001 row0014 row002 row023
all_settled j k = refl

all_plain : every (λ c. every (λ i. let t = back (row_by c i 0 0) (λ f. every (λ y. f (c * 512 + i * 64 + y)) 64) in pick (special c) true t) 8) 128 ≡ true
unfolding every simple from plan_of place_of number_place number_code row_by within row001 row0014 row002 row023 row_words words_of code_of code001
    code002 spelling passing
all_plain = refl

-- each parcel of a special code
all-special : every (λ c. let t = every (λ y. let x = c * 512 + y in back (row_of x) (λ f. f x)) 512 in pick (special c) t true) 128 ≡ true
unfolding every simple from plan_of place_of number_place number_code row_of row_by within row001 row0014 row002 row023 row_words words_of code_of
    code001 code002 spelling passing
all-special = refl

tried-back : (r x : ℕ) (tried : (ℕ → Bool) → Bool) → ((f : ℕ → Bool) → tried f ≡ true → f x ≡ true) → eqb r 0 ≡ false → back r tried ≡ true → sum_of r x ≡ x
tried-back r x tried at e h = eqb-true (sum_of r x) x (at _ (asked (eqb r 0) _ e h))

-- a parcel of any code but the special ones, and of a special one
module _ (x : ℕ) (below : x < 65536) (spelled : eqb (row_of x) 0 ≡ false) where
  plain_back : special (x / 512) ≡ false → sum_of (row_of x) x ≡ x
  unfolding row_of
  plain_back e =
      let c = x / 512 in
      let i = i_of x in
      let zeroth = c * 512 + i * 64 in
      let c-below : c < 128 = omega arith in
      let i-below : i < 8 = omega arith in
      let is : zeroth + x % 64 ≡ x = omega arith in
      let settled : row_by c i (j_of x) (k_of x) ≡ row_by c i 0 0 =
      eqb-true _ _ (asked _ _ e (every-at _ 8 (every-at _ 128 (all_settled (j_of x) (k_of x)) c c-below) i i-below)) in
      let good = asked _ _ e (every-at _ 8 (every-at _ 128 all_plain c c-below) i i-below) in
      let some : eqb (row_by c i 0 0) 0 ≡ false = ap (λ (r : ℕ). eqb r 0) (sym settled) ∙ spelled in
      rw settled
      (tried-back (row_by c i 0 0) x (λ f. every (λ y. f (zeroth + y)) 64)
      (λ f t. subst (λ (y : ℕ). f y ≡ true) is (every-at _ 64 t (x % 64) (omega arith))) some good)

  special-back : special (x / 512) ≡ true → sum_of (row_of x) x ≡ x
  special-back e =
      let y = x / 512 * 512 + x % 512 in
      let is : y ≡ x = omega arith in
      let good = every-at _ 512 (asked-other _ _ e (every-at _ 128 all-special (x / 512) (omega arith))) (x % 512) (omega arith) in
      tried-back (row_of x) x (λ f. f x) (λ f t. t) spelled (subst (λ (y : ℕ). back (row_of y) (λ f. f y) ≡ true) is good)

  pub sum_back : sum_of (row_of x) x ≡ x
  sum_back = go (special (x / 512)) refl
    where
      go : (b : Bool) → special (x / 512) ≡ b → sum_of (row_of x) x ≡ x
      go true e = special-back e
      go false e = plain_back e
