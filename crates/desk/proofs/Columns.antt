-- Laws of a line of `listing -w`. Assumes nothing.
use mathlib.Core.Path.{◌≡◌, refl, sym, ap}
use mathlib.Core.Bool.{Bool, true, false}
use mathlib.Core.List.{List, [], ◌∷◌, ◌++◌}
use Prim.Native.Nat.{ℕ, zero, suc, ◌+◌, ◌-◌, ◌%◌, ◌≤◌, ◌<◌}
use native.Mathlib.Nat.{mod-lt, le_of_suc-le-suc}
use native.Mathlib.Omega.{arith}
use lib.ListN.{length, take, get_or, replicate}
use lib.Dec.{lit<}
use Rattle.machine.specs.Word.{pick}
use Rattle.text.specs.Digits.{shown}
use Rattle.text.specs.Report.{Wrote}
use Rattle.text.proofs.Writing.{wrote_as}
use Rattle.text.proofs.Length.{shown-most}
use Rattle.spelling.specs.Spelling.{second}
use Rattle.spelling.specs.Listing.{first_line, parcels_in}
use Rattle.desk.specs.Desk.{blanks, column, one_parcel, two_parcels, first_parcels, wide_line}
use Rattle.desk.proofs.Texts.{stored}

-- a text written to a start of a list that has the room for it is found there
pub written : {d xs m : List ℕ} {r : ℕ} → Wrote d 0 xs m r → length xs ≤ length d → take r m ≡ xs
written {d} {xs} {m} {r} w h =
    let e = w.bytes in
    let f : r ≡ length xs = omega (arith, w.place) in
    simp (e, f) (stored d xs h)

-- and copied from there
pub copied : {d xs m out out' : List ℕ} {n at r : ℕ} → Wrote d 0 xs m n → n ≤ length d → Wrote out at (take n m) out' r
    → Wrote out at xs out' r × (r ≡ at + n)
copied {d} {xs} {m} {out} {out'} {n} {at} {r} w h v =
    let fits : length xs ≤ length d = omega (arith, w.place) in
    let e = written w fits in
    (wrote_as (sym e) v, omega (arith, v.place, ap length e, w.place))

-- n blanks
pub blanks-are : (m n : ℕ) → n ≤ m → take n (replicate m 32) ≡ blanks n
blanks-are m zero h = refl
blanks-are zero (suc n) h = absurd (omega arith)
blanks-are (suc m) (suc n) h = ap (λ (l : List ℕ). 32 ∷ l) (blanks-are m n (le_of_suc-le-suc h))

-- an address has at most eight digits
pub address-most : (a : ℕ) → length (shown 8 1 (a % 16777216)) ≤ 8
address-most a = shown-most 8 (lit< tt) 1 (a % 16777216) 7 (mod-lt a (lit< tt)) (omega arith)

pub column-is : (a n : ℕ) → n ≡ length (shown 8 1 (a % 16777216)) → column a ≡ blanks (8 - n) ++ shown 8 1 (a % 16777216)
unfolding column
column-is a n e = simp e

-- the parcels of the first instruction, by how many it takes
pub one_is : (ps : List ℕ) → 0 < length ps → parcels_in ps < 2 → first_parcels ps ≡ one_parcel (get_or ps 0 0)
unfolding first_parcels parcels_in
one_is [] h e = absurd (omega arith)
one_is (x ∷ []) h e = refl
one_is (x ∷ m ∷ ps) h e = go (second x) e
  where
    go : (t : Bool) → pick t 2 1 < 2 → pick t (two_parcels x m) (one_parcel x) ≡ one_parcel x
    go true f = absurd (omega arith)
    go false f = refl

pub two_are : (ps : List ℕ) → 2 ≤ parcels_in ps → first_parcels ps ≡ two_parcels (get_or ps 0 0) (get_or ps 1 0)
unfolding first_parcels parcels_in
two_are [] e = absurd (omega arith)
two_are (x ∷ []) e = absurd (omega arith)
two_are (x ∷ m ∷ ps) e = go (second x) e
  where
    go : (t : Bool) → 2 ≤ pick t 2 1 → pick t (two_parcels x m) (one_parcel x) ≡ two_parcels x m
    go true f = refl
    go false f = absurd (omega arith)

-- the whole line, where there is an instruction, and where there is none
pub wide-some : (a : ℕ) (ps : List ℕ) → 0 < length ps → wide_line a ps ≡ column a ++ blanks 2 ++ first_parcels ps ++ first_line ps
unfolding wide_line
wide-some a [] h = absurd (omega arith)
wide-some a (x ∷ ps) h = refl

pub wide-none : (a : ℕ) (ps : List ℕ) → length ps ≡ 0 → (wide_line a ps ≡ []) × (0 ≡ parcels_in ps)
unfolding wide_line parcels_in
wide-none a [] h = (refl, refl)
wide-none a (x ∷ ps) h = absurd (omega arith)
