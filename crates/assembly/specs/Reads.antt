-- What the functions that read and list one line say of it. Assumes nothing.
use Rattle.std.specs.Prelude.{ℕ, ◌+◌, ◌≤◌, ◌<◌, ◌≡◌, Bool, true, false, not, ◌&&◌, ◌||◌, List, [], ◌∷◌, length, drop, replicate, ltb}
use Rattle.std.specs.Prelude.{Option, Some, None, Result, Ok, Err}
use Rattle.machine.specs.Word.{pick}
use Rattle.spelling.specs.Spelling.{second}
use Rattle.spelling.specs.Listing.{data_line, line_of}
use Rattle.spelling.specs.Candidate.{Guess, guess_of}
use Rattle.spelling.specs.Assembling as cal
use Rattle.spelling.specs.Assembling.{begins, line_good, line_bad, read_line, Reading, all_read, wrong, read_of}
use Rattle.spelling.specs.declared.ReadError.{ReadError}
use Rattle.spelling.specs.declared.ReadError.TheVariants.{BadLine, Overfull}
use Rattle.guess.specs.declared.Guess.{Guess as Told}
use Rattle.assembly.specs.declared.Heard.{Heard}
use Rattle.assembly.specs.declared.Line.{Line}

-- what a guess is listed as, the parcels that it then stands for, and whether no line may follow
abbrev pub line_for : Guess → List ℕ
line_for g = pick (second g.first) (pick g.two (line_of g.first g.second) (data_line g.first)) (line_of g.first 0)

abbrev pub parcels_for : Guess → List ℕ
parcels_for g = pick (second g.first) (pick g.two (g.first ∷ g.second ∷ []) (g.first ∷ [])) (g.first ∷ [])

abbrev pub ends_text : Guess → Bool
ends_text g = pick (second g.first) (not g.two) false

-- the length of a line, if a text begins with it
abbrev pub length_if : List ℕ → List ℕ → Option ℕ
length_if s line = pick (begins s line) (Some (length line)) None

-- the first line of a text: the text begins with what is guessed, or otherwise
abbrev pub Hears : List ℕ → Option Heard → Type 0
Hears s (Some h) =
    (begins s (line_for (guess_of s)) ≡ true)
    × (h.bytes ≡ length (line_for (guess_of s)))
    × (h.parcels ≡ length (parcels_for (guess_of s)))
    × (h.last ≡ ends_text (guess_of s))
Hears s None = begins s (line_for (guess_of s)) ≡ false

-- newlines that a text of fewer than 32 bytes lacks
abbrev pub pads : List ℕ → List ℕ
pads s = drop (length s) (replicate 32 10)

-- what it is read as, where so many bytes are left
abbrev pub read_as : ℕ → Heard → Option Line
read_as left h = pick (ltb left h.bytes || h.last && ltb h.bytes left) None (Some (record { parcels = h.parcels; bytes = h.bytes }))

-- the first line of a text, found to be l: so many parcels, and so many bytes
abbrev pub ReadsAs : List ℕ → cal.Line → Option Line → Type 0
ReadsAs s l (Some r) =
    ((ps : List ℕ) × (l ≡ line_good ps (drop r.bytes s)) × (length ps ≡ r.parcels)) × (r.parcels ≤ r.bytes) × (0 < r.bytes) × (r.bytes ≤ length s)
ReadsAs s l None = l ≡ line_bad

-- what was heard of it is read right
abbrev pub HeardRight : List ℕ → Option Heard → Type 0
HeardRight s (Some h) = ReadsAs s (read_line s) (read_as (length s) h)
HeardRight s None = read_line s ≡ line_bad

-- a whole text: so many parcels, or its first bad line
abbrev pub Checks : List ℕ → Result ℕ ReadError → Type 0
Checks text (Ok n) = (ps : List ℕ) × (read_of text ≡ all_read ps) × (length ps ≡ n)
Checks text (Err (BadLine line)) = (n : ℕ) × (read_of text ≡ wrong n) × (line ≡ n + 1) × (n < length text)
Checks text (Err Overfull) = ⊥

-- the parcels of a reading fit into so many
abbrev pub Fits : ℕ → Reading → Type 0
Fits n (all_read ps) = length ps ≤ n
Fits n (wrong k) = ⊥

-- the parcels that a guess means
abbrev pub parcels_with : ℕ → Option ℕ → List ℕ
parcels_with x None = x ∷ []
parcels_with x (Some m) = x ∷ m ∷ []

abbrev pub parcels_meant : Told → List ℕ
parcels_meant g = parcels_with g.first g.second
