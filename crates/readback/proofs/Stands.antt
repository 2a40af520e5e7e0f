-- What a line of a text stands for, in terms of what is listed. Assumes nothing.
use Prim.Native.Nat.{ℕ, suc, ◌<◌}
use mathlib.Core.Path.{◌≡◌}
use mathlib.Core.Bool.{true, false}
use mathlib.Core.List.{List, [], ◌∷◌, ◌++◌}
use lib.ListN.{length, get_or}
use Rattle.spelling.specs.Spelling.{second}
use Rattle.spelling.specs.Listing.{data_line, line_of}

-- all are parcels
abbrev pub Below : List ℕ → Type 0
Below ps = (i : ℕ) → get_or ps i 0 < 65536

-- the text s begins with the line of the parcels ps, and `rest` follows it: an instruction of one parcel, or a parcel without
-- spelling; an instruction of two; or, as the last line, a first parcel whose second is missing
pub data Stands (s : List ℕ) : List ℕ → List ℕ → Type 0 where
  one : {x : ℕ} {rest : List ℕ} → x < 65536 → second x ≡ false → s ≡ line_of x 0 ++ rest → Stands s (x ∷ []) rest
  two : {x m : ℕ} {rest : List ℕ} → x < 65536 → m < 65536 → second x ≡ true → s ≡ line_of x m ++ rest → Stands s (x ∷ m ∷ []) rest
  last : {x : ℕ} → x < 65536 → second x ≡ true → s ≡ data_line x → Stands s (x ∷ []) []

-- the text s is n such lines, and `rest` follows them
pub data Lines : ℕ → List ℕ → List ℕ → Type 0 where
  none : {s : List ℕ} → Lines 0 s s
  more : {s ps mid rest : List ℕ} {n : ℕ} → Stands s ps mid → Lines n mid rest → Lines (suc n) s rest

-- after n such lines something is left that begins with none: the line n + 1 is the first bad one
pub record Broken (n : ℕ) (s : List ℕ) : Type 0 where
  pub rest : List ℕ
  pub lines : Lines n s rest
  pub some : 0 < length rest
  pub bad : (ps more : List ℕ) → Stands rest ps more → ⊥
