-- Parcels as text: each a line of six octal digits. Assumes nothing.
use Rattle.std.specs.Prelude.{ℕ, zero, suc, ◌+◌, ◌/◌, Bool, ◌&&◌, List, [], ◌∷◌, ◌++◌, length, leb, ltb, eqb, Option, Some, None, Result, Ok, Err}
use Rattle.std.proofs.lemmas.List.Edits.{sets}
use Rattle.machine.specs.Word.{pick}
use Rattle.text.specs.Digits.{byte_at, digits}
use Rattle.text.specs.Names.{newline}
use Rattle.octal.specs.Numbers.{all_digits, number_from}
use Rattle.spelling.specs.declared.ReadError.{ReadError}
use Rattle.spelling.specs.declared.ReadError.TheVariants.{BadLine, Overfull}

-- written --

abbrev pub parcel_text : ℕ → List ℕ
parcel_text p = digits 8 6 p ++ (newline ∷ [])

unfoldable pub parcels_text : List ℕ → List ℕ
parcels_text [] = []
parcels_text (p ∷ ps) = parcel_text p ++ parcels_text ps

-- read --

abbrev pub parcel_at : List ℕ → ℕ → ℕ
parcel_at text at = number_from 8 6 text at 0

-- the line at a place is good: six octal digits, a newline, and the number has 16 bits
unfoldable pub parcel_line : List ℕ → ℕ → Bool
parcel_line text at = all_digits 8 6 text at && eqb (byte_at text (at + 6)) newline && ltb (parcel_at text at) 65536

-- the first bad line from here on, where a line starts at `at` whose number is `line`. At most `most` lines are looked at: as many
-- as a text has bytes are enough
unfoldable pub bad_line : ℕ → List ℕ → ℕ → ℕ → Option ℕ
bad_line zero text at line = pick (ltb at (length text)) (Some line) None
bad_line (suc most) text at line =
    pick (ltb at (length text)) (pick (parcel_line text at) (bad_line most text (at + 7) (line + 1)) (Some line)) None

abbrev pub first_bad : List ℕ → Option ℕ
first_bad text = bad_line (length text) text 0 1

-- the parcels of k good lines from `at` on
unfoldable pub parcels_from : ℕ → List ℕ → ℕ → List ℕ
parcels_from zero text at = []
parcels_from (suc k) text at = parcel_at text at ∷ parcels_from k text (at + 7)

-- what a text says: all its parcels, or the number of its first bad line
pub data Octal : Type 0 where
  all_read : List ℕ → Octal
  wrong : ℕ → Octal

abbrev pub octal_by : List ℕ → Option ℕ → Octal
octal_by text None = all_read (parcels_from (length text / 7) text 0)
octal_by text (Some line) = wrong line

unfoldable pub octal_of : List ℕ → Octal
octal_of text = octal_by text (first_bad text)

-- what a call answers, and the room after it: the parcels, and what lies past them as it was; refused, as found
abbrev pub read_to : List ℕ → Octal → Result ℕ ReadError
read_to room (all_read ps) = pick (leb (length ps) (length room)) (Ok (length ps)) (Err Overfull)
read_to room (wrong line) = Err (BadLine line)

abbrev pub room_to : List ℕ → Octal → List ℕ
room_to room (all_read ps) = pick (leb (length ps) (length room)) (sets room 0 ps) room
room_to room (wrong line) = room
