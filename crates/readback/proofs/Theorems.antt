-- What is proved of assembling and listing, by the definitions alone: a text is read exactly if it is a listing, and then as what
-- it lists. Examples has the example of each row, and how many parcels are spelled. Assumes nothing.
use Rattle.std.specs.Prelude.{Result, Ok, Err}
use Prim.Native.Nat.{ℕ, ◌+◌, ◌<◌}
use mathlib.Core.Path.{◌≡◌, refl, sym, ap, ◌∙◌}
use mathlib.Core.Logic.{◌↔◌}
use mathlib.Core.Bool.{Bool, true, false}
use mathlib.Core.List.{List, [], ◌∷◌, ◌++◌}
use native.Mathlib.Omega.{arith}
use lib.ListN.{length, get_or}
use lib.Seq.{sets}
use lib.Dec.{leb}
use Rattle.machine.specs.Word.{pick}
use Rattle.spelling.specs.Spelling.{second}
use Rattle.spelling.specs.Listing.{data_line, line_of, list_of, listed, room_listed, listed_numbers}
use Rattle.spelling.specs.Candidate.{Guess, guess_of}
use Rattle.spelling.specs.Assembling.{line_length, line_good, line_bad, read_line, Reading, all_read, wrong}
use Rattle.spelling.specs.Assembling.{read_of, assembled_to, room_after, assembled, room_assembled, assembled_numbers}
use Rattle.spelling.specs.declared.ReadError.{ReadError}
use Rattle.spelling.specs.declared.ReadError.TheVariants.{Overfull}
use Rattle.spelling.specs.declared.TooLong.{TooLong}
use Rattle.readback.proofs.Guessed.{line_first, line-two, line-one, data-guess}
use Rattle.readback.proofs.Stands.{Below, Stands, last, Broken}
use Rattle.readback.proofs.Good.{good-stands, stands_good, bad-stands, none-bad, data-early}
use Rattle.readback.proofs.Whole.{stands-ends, read-lists, list-reads, wrong-broken, broken-wrong}

-- every line that is listed is guessed right, whatever follows it: of an instruction of two parcels, of one, and of data
module _ (x m : ℕ) (x_below : x < 65536) (m-below : m < 65536) (rest : List ℕ) where
  pub guess-of-two : second x ≡ true → guess_of (line_of x m ++ rest) ≡ record { first = x; second = m; two = true; length = length (line_of x m) }
  guess-of-two = line-two x m x_below m-below rest

  pub guess-of-one : second x ≡ false
      → ((guess_of (line_of x m ++ rest)).first ≡ x) × ((guess_of (line_of x m ++ rest)).two ≡ false) × ((guess_of (line_of x m ++ rest)).length ≡ length (line_of x m))
  guess-of-one = line-one x m x_below m-below rest

pub guess-of-data : (x : ℕ) → x < 65536 → (rest : List ℕ)
    → ((guess_of (data_line x ++ rest)).first ≡ x) × ((guess_of (data_line x ++ rest)).two ≡ false) × ((guess_of (data_line x ++ rest)).length ≡ length (data_line x))
guess-of-data = data-guess

-- so no two instructions share a line
module _ (x m y n : ℕ) (x_below : x < 65536) (m-below : m < 65536) (y-below : y < 65536) (n-below : n < 65536) (e : line_of x m ≡ line_of y n) where
  pub same_first : x ≡ y
  same_first = sym (line_first x m x_below m-below []) ∙ ap (λ (l : List ℕ). (guess_of (l ++ [])).first) e ∙ line_first y n y-below n-below []

  pub same_second : second x ≡ true → m ≡ n
  same_second is =
      let also : second y ≡ true = ap second (sym same_first) ∙ is in
      sym (ap (λ (g : Guess). g.second) (line-two x m x_below m-below [] is)) ∙ ap (λ (l : List ℕ). (guess_of (l ++ [])).second) e
      ∙ ap (λ (g : Guess). g.second) (line-two y n y-below n-below [] also)

-- a line is read exactly if it stands for parcels, and as those; it is bad exactly if it stands for none
pub line_read : (s ps rest : List ℕ) → (read_line s ≡ line_good ps rest) ↔ Stands s ps rest
line_read s ps rest = (good-stands s ps rest, stands_good)

pub line-bad : (s : List ℕ) → (read_line s ≡ line_bad) ↔ ((ps rest : List ℕ) → Stands s ps rest → ⊥)
line-bad s = (λ e ps rest. bad-stands e, none-bad s)

-- so no line stands for two
pub line-once : {s ps rest qs more : List ℕ} → Stands s ps rest → Stands s qs more → (ps ≡ qs) × (rest ≡ more)
line-once p q = let a = stands_good p in let b = stands_good q in (cc, cc)

-- it ends with the first newline
pub line-newline : {s ps rest : List ℕ} → Stands s ps rest → line_length s + 1 + length rest ≡ length s
line-newline stands = stands-ends stands

-- a first parcel whose second is missing is data at the end of the text, and nowhere else
pub data-last : (x : ℕ) → x < 65536 → second x ≡ true → read_line (data_line x) ≡ line_good (x ∷ []) []
data-last x below is = stands_good (last below is refl)

pub data-not-last : (x : ℕ) → x < 65536 → second x ≡ true → (b : ℕ) (rest : List ℕ) → read_line (data_line x ++ (b ∷ rest)) ≡ line_bad
data-not-last = data-early

-- a text is read as parcels exactly if it is their listing
pub text-read : (text ps : List ℕ) → (read_of text ≡ all_read ps) ↔ ((list_of ps ≡ text) × Below ps)
unfolding read_of
text-read text ps = (read-lists (length text) text ps, λ lists. rw (← lists.0) (list-reads ps lists.1 (length (list_of ps)) (omega arith)))

-- so any parcels are read back from their listing, and no two lists of parcels have the same
pub list_read : (ps : List ℕ) → Below ps → read_of (list_of ps) ≡ all_read ps
list_read ps below = (text-read (list_of ps) ps).1 (refl, below)

pub list-once : (ps qs : List ℕ) → Below ps → Below qs → list_of ps ≡ list_of qs → ps ≡ qs
list-once ps qs p q e = let a = list_read ps p in let b = list_read qs q in cc

-- any other text has a first bad line, and its number, counted from 0, is how many lines stand before it
pub text-wrong : (text : List ℕ) (n : ℕ) → (read_of text ≡ wrong n) ↔ Broken n text
unfolding read_of
text-wrong text n =
    (wrong-broken (length text) text n (omega arith), λ b. broken-wrong (length text) b.lines b.some (none-bad b.rest b.bad) (omega arith))

-- two results that a call may give are equal, with the room after it; and a refused call leaves the room as found
module _ (text room : List ℕ) where
  pub assembled-once : (r q : Result ℕ ReadError) (m n : List ℕ) → (r ≡ assembled text room) × (m ≡ room_assembled text room)
      → (q ≡ assembled text room) × (n ≡ room_assembled text room) → (r ≡ q) × (m ≡ n)
  assembled-once r q m n a b = (a.0 ∙ sym b.0, a.1 ∙ sym b.1)

  pub assembled-kept : (get_or (assembled_numbers (assembled text room)) 0 0 ≡ 0 → ⊥) → room_assembled text room ≡ room
  unfolding assembled room_assembled
  assembled-kept refused = go (read_of text) refused
    where
      fits : (ps : List ℕ) (b : Bool) → (get_or (assembled_numbers (pick b (Ok (length ps)) (Err Overfull))) 0 0 ≡ 0 → ⊥) → pick b (sets room 0 ps) room ≡ room
      fits ps true h = absurd (h refl)
      fits ps false h = refl

      go : (r : Reading) → (get_or (assembled_numbers (assembled_to room r)) 0 0 ≡ 0 → ⊥) → room_after room r ≡ room
      go (all_read ps) h = fits ps (leb (length ps) (length room)) h
      go (wrong n) h = refl

module _ (ps room : List ℕ) where
  pub listed-once : (r q : Result ℕ TooLong) (m n : List ℕ) → (r ≡ listed ps room) × (m ≡ room_listed ps room)
      → (q ≡ listed ps room) × (n ≡ room_listed ps room) → (r ≡ q) × (m ≡ n)
  listed-once r q m n a b = (a.0 ∙ sym b.0, a.1 ∙ sym b.1)

  pub listed_kept : (get_or (listed_numbers (listed ps room)) 0 0 ≡ 0 → ⊥) → room_listed ps room ≡ room
  unfolding listed room_listed
  listed_kept refused = go (leb (length (list_of ps)) (length room)) refused
    where
      go : (b : Bool) → (get_or (listed_numbers (pick b (Ok (length (list_of ps))) (Err (record {})))) 0 0 ≡ 0 → ⊥) → pick b (sets room 0 (list_of ps)) room ≡ room
      go true h = absurd (h refl)
      go false h = refl
