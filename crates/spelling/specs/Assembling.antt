-- Assembling a text: line by line, each the line of an instruction or of data. Assumes nothing.
use Rattle.std.specs.Prelude.{ℕ, zero, suc, ◌+◌, Bool, true, false, ◌&&◌, List, [], ◌∷◌, ◌++◌, length, drop, eqb, leb, Result, Ok, Err}
use Rattle.std.proofs.lemmas.List.Edits.{sets}
use Rattle.machine.specs.Word.{pick}
use Rattle.spelling.specs.Spelling.{second}
use Rattle.spelling.specs.Listing.{data_line, line_of}
use Rattle.spelling.specs.Candidate.{Guess, guess_of}
use Rattle.spelling.specs.declared.ReadError.{ReadError}
use Rattle.spelling.specs.declared.ReadError.TheVariants.{BadLine, Overfull}

-- a text begins with a line
unfoldable pub begins : List ℕ → List ℕ → Bool
begins s [] = true
begins [] (b ∷ line) = false
begins (c ∷ s) (b ∷ line) = eqb c b && begins s line

-- how many bytes stand before its first newline
unfoldable pub line_length : List ℕ → ℕ
line_length [] = 0
line_length (b ∷ s) = pick (eqb b 10) 0 (suc (line_length s))

-- the first line of a text: the parcels that it stands for, and what follows it; or it is bad
pub data Line : Type 0 where
  line_good : List ℕ → List ℕ → Line
  line_bad : Line

-- it is `line`, and stands for these parcels
unfoldable pub line_is : List ℕ → List ℕ → List ℕ → Line
line_is s line ps = pick (begins s line) (line_good ps (drop (length line) s)) line_bad

-- it is `line`, the last of the text
abbrev pub if_last : Line → Line
if_last (line_good ps []) = line_good ps []
if_last (line_good ps (b ∷ s)) = line_bad
if_last line_bad = line_bad

-- what is guessed is listed: the line must be that. The first of two parcels is data only where its second is missing
unfoldable pub line_by : List ℕ → Guess → Line
line_by s g =
    pick (second g.first)
    (pick g.two (line_is s (line_of g.first g.second) (g.first ∷ g.second ∷ [])) (if_last (line_is s (data_line g.first) (g.first ∷ []))))
    (line_is s (line_of g.first 0) (g.first ∷ []))

-- the parcels of a guess
abbrev pub parcels_of : Guess → List ℕ
parcels_of g = pick g.two (g.first ∷ g.second ∷ []) (g.first ∷ [])

unfoldable pub read_line : List ℕ → Line
read_line s = line_by s (guess_of s)

-- a text read through: all its parcels, or the number of its first bad line, counted from 0
pub data Reading : Type 0 where
  all_read : List ℕ → Reading
  wrong : ℕ → Reading

abbrev pub before : List ℕ → Reading → Reading
before ps (all_read qs) = all_read (ps ++ qs)
before ps (wrong n) = wrong (n + 1)

abbrev pub on_line : Line → (List ℕ → Reading) → Reading
on_line (line_good ps rest) more = before ps (more rest)
on_line line_bad more = wrong 0

-- at most `most` lines: as many as a text has bytes are enough
unfoldable pub read_from : ℕ → List ℕ → Reading
read_from zero s = pick (eqb (length s) 0) (all_read []) (wrong 0)
read_from (suc most) s = pick (eqb (length s) 0) (all_read []) (on_line (read_line s) (λ rest. read_from most rest))

unfoldable pub read_of : List ℕ → Reading
read_of s = read_from (length s) s

-- what a call answers, and the room after it: the parcels, and what lies past them as it was; refused, as found
abbrev pub assembled_to : List ℕ → Reading → Result ℕ ReadError
assembled_to room (all_read ps) = pick (leb (length ps) (length room)) (Ok (length ps)) (Err Overfull)
assembled_to room (wrong n) = Err (BadLine (n + 1))

abbrev pub room_after : List ℕ → Reading → List ℕ
room_after room (all_read ps) = pick (leb (length ps) (length room)) (sets room 0 ps) room
room_after room (wrong n) = room

unfoldable pub assembled : List ℕ → List ℕ → Result ℕ ReadError
assembled s room = assembled_to room (read_of s)

unfoldable pub room_assembled : List ℕ → List ℕ → List ℕ
room_assembled s room = room_after room (read_of s)

-- the number of a refusal
abbrev pub refusal_number : ReadError → ℕ
refusal_number (BadLine line) = 10
refusal_number Overfull = 18

-- the numbers of an answer: that of a refusal, 0 for none, and the parcels or the line
abbrev pub assembled_numbers : Result ℕ ReadError → List ℕ
assembled_numbers (Ok n) = 0 ∷ n ∷ []
assembled_numbers (Err (BadLine line)) = refusal_number (BadLine line) ∷ line ∷ []
assembled_numbers (Err Overfull) = refusal_number Overfull ∷ []
