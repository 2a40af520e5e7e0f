-- The listing of parcels: each instruction's line, ended by a newline. Assumes nothing.
use Rattle.std.specs.Prelude.{ℕ, List, [], ◌∷◌, ◌++◌, length, leb, Result, Ok, Err}
use Rattle.std.proofs.lemmas.List.Edits.{sets}
use Rattle.machine.specs.Word.{pick}
use Rattle.text.specs.Digits.{digits}
use Rattle.spelling.specs.Words.{signs, text_of}
use Rattle.spelling.specs.Spelling.{words_of, second}
use Rattle.spelling.specs.declared.TooLong.{TooLong}

-- a parcel as data
unfoldable pub data_line : ℕ → List ℕ
data_line x = signs "data=" ++ digits 8 6 x ++ (10 ∷ [])

-- the line of an instruction whose parcels are x and m, m being 0 where it has one: its words or, where there are none, data
abbrev pub line_with : List ℕ → ℕ → ℕ → List ℕ
line_with [] x m = data_line x
line_with (w ∷ ws) x m = text_of (w ∷ ws) x m ++ (10 ∷ [])

unfoldable pub line_of : ℕ → ℕ → List ℕ
line_of x m = line_with (words_of x) x m

-- parcels, one instruction after the other; a first parcel whose second is missing is data
unfoldable pub list_of : List ℕ → List ℕ
list_of [] = []
list_of (x ∷ []) = pick (second x) (data_line x) (line_of x 0)
list_of (x ∷ m ∷ ps) = pick (second x) (line_of x m ++ list_of ps) (line_of x 0 ++ list_of (m ∷ ps))

-- the first line of that, and how many parcels it takes
unfoldable pub first_line : List ℕ → List ℕ
first_line [] = []
first_line (x ∷ []) = pick (second x) (data_line x) (line_of x 0)
first_line (x ∷ m ∷ ps) = pick (second x) (line_of x m) (line_of x 0)

unfoldable pub parcels_in : List ℕ → ℕ
parcels_in [] = 0
parcels_in (x ∷ []) = 1
parcels_in (x ∷ m ∷ ps) = pick (second x) 2 1

-- what a call answers, and the room after it: the listing, and what lies past it as it was; too long, as found
unfoldable pub listed : List ℕ → List ℕ → Result ℕ TooLong
listed ps room = pick (leb (length (list_of ps)) (length room)) (Ok (length (list_of ps))) (Err (record {}))

unfoldable pub room_listed : List ℕ → List ℕ → List ℕ
room_listed ps room = pick (leb (length (list_of ps)) (length room)) (sets room 0 (list_of ps)) room

-- the numbers of an answer: that of a refusal, 0 for none, and the bytes
abbrev pub listed_numbers : Result ℕ TooLong → List ℕ
listed_numbers (Ok n) = 0 ∷ n ∷ []
listed_numbers (Err e) = 18 ∷ []
