-- The case sheet: what a good one says, and the first bad line of any other. Assumes nothing.
use Rattle.std.specs.Prelude.{ℕ, zero, suc, ◌+◌, ◌-◌, ◌*◌, Bool, true, ◌&&◌, List, [], ◌∷◌, length, set, leb, ltb, eqb}
use Rattle.std.specs.Prelude.{Option, Some, None, Result, Ok, Err}
use Rattle.machine.specs.Word.{pick}
use Rattle.text.specs.Names.{name_steps, name_words, equals, newline}
use Rattle.text.specs.Digits.{byte_at, is_decimal, all_hex, hex_from}
use Rattle.text.specs.declared.Head.{Head}
use Rattle.text.specs.declared.Checked.{Checked}
use Rattle.text.specs.declared.BadSheet.{BadSheet}

-- the first two lines --

-- the text has `name` from `at` on
unfoldable pub starts_at : List ℕ → ℕ → List ℕ → Bool
starts_at text at [] = true
starts_at text at (b ∷ name) = eqb (byte_at text at) b && starts_at text (at + 1) name

-- a newline ends the line: it says v, and the next line starts after it
unfoldable pub ends_at : List ℕ → ℕ → ℕ → Option Head
ends_at text at v = pick (eqb (byte_at text at) newline) (Some (record { number = v; next = at + 1 })) None

-- at most k decimal digits, v being spelled before them, and the line's end
unfoldable pub decimal_from : ℕ → List ℕ → ℕ → ℕ → Option Head
decimal_from zero text at v = ends_at text at v
decimal_from (suc k) text at v =
    pick (is_decimal (byte_at text at)) (decimal_from k text (at + 1) (v * 10 + (byte_at text at - 48))) (ends_at text at v)

-- a number without needless zeros: `0`, or digits of which `0` is not the first; seven are enough for 1000000
unfoldable pub number_at : List ℕ → ℕ → Option Head
number_at text at =
    pick (eqb (byte_at text at) 48) (ends_at text (at + 1) 0)
    (pick (is_decimal (byte_at text at)) (decimal_from 7 text at 0)
    None)

-- it is at most `most`
unfoldable pub up_to : ℕ → Option Head → Option Head
up_to most None = None
up_to most (Some head) = pick (leb head.number most) (Some head) None

-- a name and a number from 0 to `most`
unfoldable pub head_at : List ℕ → ℕ → List ℕ → ℕ → Option Head
head_at text at name most = pick (starts_at text at name) (up_to most (number_at text (at + length name))) None

-- the lines of words --

abbrev pub address_at : List ℕ → ℕ → ℕ
address_at text at = hex_from 4 text at 0

abbrev pub value_at : List ℕ → ℕ → ℕ
value_at text at = hex_from 16 text (at + 5) 0

-- `=` after the address, a newline after the value, and the address a is from `low` to 0FFF
unfoldable pub framed : List ℕ → ℕ → ℕ → ℕ → Bool
framed text at low a = eqb (byte_at text (at + 4)) equals && eqb (byte_at text (at + 21)) newline && leb low a && ltb a 4096

-- `AAAA=HHHHHHHHHHHHHHHH`, 22 bytes with its newline
unfoldable pub word_line : List ℕ → ℕ → ℕ → Bool
word_line text at low = all_hex 4 text at && all_hex 16 text (at + 5) && framed text at low (address_at text at)

-- the first bad line from here on, if there is one, where k lines of words start at `at` with line number `line` and an address of at
-- least `low`, and nothing follows them
unfoldable pub bad_line : ℕ → List ℕ → ℕ → ℕ → ℕ → Option ℕ
bad_line zero text at low line = pick (eqb at (length text)) None (Some line)
bad_line (suc k) text at low line =
    pick (word_line text at low) (bad_line k text (at + 22) (address_at text at + 1) (line + 1)) (Some line)

-- memory with the words of k lines from `at` on
unfoldable pub stored : ℕ → List ℕ → ℕ → List ℕ → List ℕ
stored zero text at mem = mem
stored (suc k) text at mem = stored k text (at + 22) (set mem (address_at text at) (value_at text at))

-- the whole --

-- a sheet is bad by its first bad line
abbrev pub bad : {T : Type 0} → ℕ → Result T BadSheet
bad line = Err (record { line = line })

abbrev pub good_unless : Option ℕ → Checked → Result Checked BadSheet
good_unless None sheet = Ok sheet
good_unless (Some line) sheet = bad line

unfoldable pub after_words : List ℕ → ℕ → Option Head → Result Checked BadSheet
after_words text steps None = bad 2
after_words text steps (Some words) =
    good_unless (bad_line words.number text words.next 0 3) (record { steps = steps; words = words.number; at = words.next })

-- `words=`
unfoldable pub after_steps : List ℕ → Option Head → Result Checked BadSheet
after_steps text None = bad 1
after_steps text (Some steps) = after_words text steps.number (head_at text steps.next name_words 1024)

-- `steps=`
unfoldable pub check_of : List ℕ → Result Checked BadSheet
check_of text =
    pick (ltb 24576 (length text)) (bad 0)
    (after_steps text (head_at text 0 name_steps 1000000))

-- what the sheet says: the steps, or the line
unfoldable pub sheet_from : Result Checked BadSheet → Result ℕ BadSheet
sheet_from (Ok sheet) = Ok sheet.steps
sheet_from (Err b) = Err b

unfoldable pub sheet_of : List ℕ → Result ℕ BadSheet
sheet_of text = sheet_from (check_of text)

-- the same in numbers: that of its refusal, 0 for none, then the steps or the line
abbrev pub sheet_refusal : ℕ
sheet_refusal = 8

abbrev pub sheet_numbers : Result ℕ BadSheet → List ℕ
sheet_numbers (Ok steps) = 0 ∷ steps ∷ []
sheet_numbers (Err b) = sheet_refusal ∷ b.line ∷ []

-- memory after it: with the words of a good sheet, else as it was
unfoldable pub loaded_of : List ℕ → List ℕ → Result Checked BadSheet → List ℕ
loaded_of text mem (Ok sheet) = stored sheet.words text sheet.at mem
loaded_of text mem (Err b) = mem

unfoldable pub memory_of : List ℕ → List ℕ → List ℕ
memory_of text mem = loaded_of text mem (check_of text)
