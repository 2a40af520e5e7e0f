-- The whole answers of the programs `cal` and `listing`. Assumes nothing.
use Rattle.std.specs.Prelude.{ℕ, ◌+◌, ◌-◌, ◌%◌, ◌≤◌, ◌≡◌, List, [], ◌∷◌, ◌++◌, length, take, replicate, leb, ltb, Result, Ok, Err}
use Rattle.std.proofs.lemmas.List.Edits.{sets}
use Rattle.machine.specs.Word.{pick}
use Rattle.text.specs.Digits.{digits, shown}
use Rattle.text.specs.Report.{Wrote}
use Rattle.spelling.specs.Spelling.{second}
use Rattle.spelling.specs.Listing.{list_of, first_line}
use Rattle.spelling.specs.Assembling as cal
use Rattle.octal.specs.Lines as octal
use Rattle.octal.specs.Lines.{octal_of, parcels_text}
use Rattle.octal.specs.Words.{words_for, words_text}
use Rattle.octal.specs.Refusals.{refused_text, refused_line, error_text}
use Rattle.spelling.specs.declared.ReadError.{ReadError}
use Rattle.desk.specs.declared.Refused.{Refused}

-- what a text gives: parcels, or the text of a refusal
pub data Given : Type 0 where
  some : List ℕ → Given
  refusal : List ℕ → Given

-- parcels, where there is room for n
abbrev pub in_room : ℕ → List ℕ → Given
in_room n ps = pick (leb (length ps) n) (some ps) (refusal (refused_text 18))

-- a text of more than 1,048,576 bytes is refused with line 0
abbrev pub unless_long : List ℕ → Given → Given
unless_long text g = pick (ltb 1048576 (length text)) (refusal (refused_line 10 0)) g

-- CAL assembled: there lines are counted from 0
abbrev pub cal_read : ℕ → cal.Reading → Given
cal_read n (cal.all_read ps) = in_room n ps
cal_read n (cal.wrong k) = refusal (refused_line 10 (k + 1))

unfoldable pub cal_given : ℕ → List ℕ → Given
cal_given n text = unless_long text (cal_read n (cal.read_of text))

-- octal read
abbrev pub octal_read : ℕ → octal.Octal → Given
octal_read n (octal.all_read ps) = in_room n ps
octal_read n (octal.wrong line) = refusal (refused_line 10 line)

unfoldable pub octal_given : ℕ → List ℕ → Given
octal_given n text = unless_long text (octal_read n (octal_of text))

-- the room after: the parcels from its start on, and what lies past them as it was; refused, as found
abbrev pub room_given : Given → List ℕ → List ℕ
room_given (some ps) room = sets room 0 ps
room_given (refusal s) room = room

-- what is answered: something made of the parcels, or the refusal
abbrev pub answered : (List ℕ → List ℕ) → Given → List ℕ
answered f (some ps) = f ps
answered f (refusal s) = s

-- `cal`, with room for n parcels
unfoldable pub cal_of : ℕ → List ℕ → List ℕ
cal_of n text = answered parcels_text (cal_given n text)

-- `cal ADDRESS`: words from address a on, none past 0FFF
unfoldable pub sheet_words : ℕ → List ℕ → List ℕ
sheet_words a ps = pick (leb (a + words_for (length ps)) 4096) (words_text a ps) (refused_text 18)

unfoldable pub cal_words_of : ℕ → ℕ → List ℕ → List ℕ
cal_words_of n a text = answered (sheet_words a) (cal_given n text)

-- `listing`, with room for n parcels and m bytes
unfoldable pub listed_in : ℕ → List ℕ → List ℕ
listed_in m ps = pick (leb (length (list_of ps)) m) (list_of ps) (refused_text 18)

unfoldable pub listing_of : ℕ → ℕ → List ℕ → List ℕ
listing_of n m text = answered (listed_in m) (octal_given n text)

-- a line of `listing -w` --

abbrev pub blanks : ℕ → List ℕ
blanks n = replicate n 32

-- the address of a parcel, in eight columns
unfoldable pub column : ℕ → List ℕ
column a = blanks (8 - length (shown 8 1 (a % 16777216))) ++ shown 8 1 (a % 16777216)

-- an instruction's parcels in fifteen
abbrev pub one_parcel : ℕ → List ℕ
one_parcel x = digits 8 6 x ++ blanks 9

abbrev pub two_parcels : ℕ → ℕ → List ℕ
two_parcels x m = digits 8 6 x ++ blanks 1 ++ digits 8 6 m ++ blanks 2

unfoldable pub first_parcels : List ℕ → List ℕ
first_parcels [] = []
first_parcels (x ∷ []) = one_parcel x
first_parcels (x ∷ m ∷ ps) = pick (second x) (two_parcels x m) (one_parcel x)

-- the line of the first instruction of parcels, the first of which has address a
unfoldable pub wide_line : ℕ → List ℕ → List ℕ
wide_line a [] = []
wide_line a (x ∷ ps) = column a ++ blanks 2 ++ first_parcels (x ∷ ps) ++ first_line (x ∷ ps)

-- what a call that reads a text into a room says of it: so many parcels are there, or why none are
abbrev pub Stands : Given → List ℕ → Result ℕ ReadError → Type 0
Stands g room (Ok n) = (g ≡ some (take n room)) × (n ≤ length room) × (n ≤ 1048576)
Stands g room (Err e) = g ≡ refusal (error_text e)

-- the same of one that writes the refusal: the buffer was `out` and is `out'`
abbrev pub Gives : Given → List ℕ → List ℕ → List ℕ → Result ℕ Refused → Type 0
Gives g room out out' (Ok n) = (g ≡ some (take n room)) × (n ≤ length room) × (n ≤ 1048576) × (out' ≡ out)
Gives g room out out' (Err r) = ((s : List ℕ) × (g ≡ refusal s) × Wrote out 0 s out' r.bytes) × (r.bytes ≤ 272)
