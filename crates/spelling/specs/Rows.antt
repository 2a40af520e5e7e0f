-- How the program looks a parcel's row up, and writes the row's line. Nothing here has to be believed: what is proved of it is
-- that it comes to the words that Spelling gives. Assumes nothing.
use Rattle.std.specs.Prelude.{ℕ, zero, suc, ◌+◌, ◌-◌, ◌*◌, ◌/◌, ◌%◌, ◌≤◌, ◌<◌, ◌≡◌, Bool, ◌&&◌, ◌||◌, List, [], ◌∷◌, ◌++◌, length, get_or, drop, eqb, ltb, leb}
use Rattle.machine.specs.Word.{pick}
use Rattle.machine.specs.Parcel.{i_of, j_of, k_of}
use Rattle.spelling.specs.Words.{fields_of, operand_by, operand_text}
use Rattle.spelling.specs.Spelling.{words_of}
use Rattle.spelling.specs.declared.Operand.{Operand}
use Rattle.spelling.specs.declared.Operand.TheVariants.{Register, Constant, Indexed}
use Rattle.spelling.specs.declared.Instruction.{Instruction}
use Rattle.spelling.specs.declared.Instruction.TheVariants.{Bare, OfOne, OfTwo, OfThree, OfFour}

-- a parcel of each row, in the manual's order; row 0 has no spelling
abbrev pub samples : List ℕ
samples =
    0o033000 ∷ 0o000000 ∷ 0o001000 ∷ 0o001001 ∷ 0o001100 ∷ 0o001200 ∷ 0o001201 ∷ 0o001300 ∷ 0o001400 ∷ 0o001401 ∷ 0o001402 ∷ 0o001403
    ∷ 0o001404 ∷ 0o001405 ∷ 0o001406 ∷ 0o001407 ∷ 0o002000 ∷ 0o002300 ∷ 0o002400 ∷ 0o002500 ∷ 0o002600 ∷ 0o002700 ∷ 0o003000 ∷ 0o004000
    ∷ 0o005000 ∷ 0o006000 ∷ 0o007000 ∷ 0o010000 ∷ 0o011000 ∷ 0o012000 ∷ 0o013000 ∷ 0o014000 ∷ 0o015000 ∷ 0o016000 ∷ 0o017000 ∷ 0o010400
    ∷ 0o020000 ∷ 0o021000 ∷ 0o022000 ∷ 0o023000 ∷ 0o023001 ∷ 0o024000 ∷ 0o025000 ∷ 0o026000 ∷ 0o026001 ∷ 0o027000 ∷ 0o030000 ∷ 0o031000
    ∷ 0o032000 ∷ 0o034000 ∷ 0o035000 ∷ 0o036000 ∷ 0o037000 ∷ 0o040000 ∷ 0o041000 ∷ 0o042000 ∷ 0o043000 ∷ 0o044000 ∷ 0o045000 ∷ 0o046000
    ∷ 0o047000 ∷ 0o050000 ∷ 0o051000 ∷ 0o052000 ∷ 0o053000 ∷ 0o054000 ∷ 0o055000 ∷ 0o056000 ∷ 0o057000 ∷ 0o060000 ∷ 0o061000 ∷ 0o071000
    ∷ 0o071010 ∷ 0o073000 ∷ 0o073001 ∷ 0o074000 ∷ 0o075000 ∷ 0o076000 ∷ 0o077000 ∷ 0o100000 ∷ 0o110000 ∷ 0o120000 ∷ 0o130000 ∷ 0o140000
    ∷ 0o141000 ∷ 0o142000 ∷ 0o143000 ∷ 0o144000 ∷ 0o145000 ∷ 0o146000 ∷ 0o147000 ∷ 0o150000 ∷ 0o151000 ∷ 0o152000 ∷ 0o153000 ∷ 0o154000
    ∷ 0o155000 ∷ 0o156000 ∷ 0o157000 ∷ 0o174001 ∷ 0o174002 ∷ 0o175000 ∷ 0o175001 ∷ 0o175002 ∷ 0o175003 ∷ 0o176000 ∷ 0o177000
    ∷ []

unfoldable pub row_words : ℕ → List ℕ
row_words r = words_of (get_or samples r 0o033000)

-- rows that go by a digit d below n, from `first` on
unfoldable pub within : ℕ → ℕ → ℕ → ℕ
within n first d = pick (ltb d n) (first + d) 0

-- 0014jk
unfoldable pub row0014 : ℕ → ℕ → ℕ
row0014 j k =
    pick (eqb k 0) 8
    (pick (eqb k 3) (pick (ltb j 4) 11 0)
    (pick (eqb k 4) 12
    (pick (eqb j 0)
    (pick (eqb k 1) 9
    (pick (eqb k 2) 10
    (pick (eqb k 5) 13
    (pick (eqb k 6) 14
    (pick (eqb k 7) 15
    0)))))
    0)))

-- 001ijk
unfoldable pub row001 : ℕ → ℕ → ℕ → ℕ
row001 i j k =
    pick (eqb i 0) (pick (eqb (j * 8 + k) 0) 2 3)
    (pick (eqb i 1) 4
    (pick (eqb i 2) (within 2 5 k)
    (pick (eqb i 3) (within 1 7 k)
    (pick (eqb i 4) (row0014 j k) 0))))

-- 002ijk
unfoldable pub row002 : ℕ → ℕ → ℕ → ℕ
row002 i j k =
    pick (eqb j 0)
    (pick (eqb i 0) 16
    (pick (eqb k 0) (pick (leb 3 i) (14 + i) 0)
    0))
    0

-- 023ij0 and 023i01
unfoldable pub row023 : ℕ → ℕ → ℕ
row023 j k = pick (eqb k 0) 39 (pick (eqb (j * 8 + k) 1) 40 0)

-- codes whose digits i, j, k are all free
abbrev pub plain_rows : List ℕ
plain_rows =
    0 ∷ 0 ∷ 0 ∷ 0 ∷ 0 ∷ 0 ∷ 25 ∷ 26 ∷ 27 ∷ 28 ∷ 29 ∷ 30 ∷ 31 ∷ 32 ∷ 33 ∷ 34
    ∷ 36 ∷ 37 ∷ 38 ∷ 0 ∷ 41 ∷ 42 ∷ 0 ∷ 0 ∷ 46 ∷ 47 ∷ 48 ∷ 0 ∷ 49 ∷ 50 ∷ 51 ∷ 52
    ∷ 53 ∷ 54 ∷ 55 ∷ 56 ∷ 57 ∷ 58 ∷ 59 ∷ 60 ∷ 61 ∷ 62 ∷ 63 ∷ 64 ∷ 65 ∷ 66 ∷ 67 ∷ 68
    ∷ 69 ∷ 70 ∷ 0 ∷ 0 ∷ 0 ∷ 0 ∷ 0 ∷ 0 ∷ 0 ∷ 0 ∷ 0 ∷ 0 ∷ 75 ∷ 76 ∷ 77 ∷ 78
    ∷ 79 ∷ 79 ∷ 79 ∷ 79 ∷ 79 ∷ 79 ∷ 79 ∷ 79 ∷ 80 ∷ 80 ∷ 80 ∷ 80 ∷ 80 ∷ 80 ∷ 80 ∷ 80
    ∷ 81 ∷ 81 ∷ 81 ∷ 81 ∷ 81 ∷ 81 ∷ 81 ∷ 81 ∷ 82 ∷ 82 ∷ 82 ∷ 82 ∷ 82 ∷ 82 ∷ 82 ∷ 82
    ∷ 83 ∷ 84 ∷ 85 ∷ 86 ∷ 87 ∷ 88 ∷ 89 ∷ 90 ∷ 91 ∷ 92 ∷ 93 ∷ 94 ∷ 95 ∷ 96 ∷ 97 ∷ 98
    ∷ 0 ∷ 0 ∷ 0 ∷ 0 ∷ 0 ∷ 0 ∷ 0 ∷ 0 ∷ 0 ∷ 0 ∷ 0 ∷ 0 ∷ 0 ∷ 0 ∷ 0 ∷ 0
    ∷ []

-- by the code c, the parcel's first three digits, and the other digits
unfoldable pub row_by : ℕ → ℕ → ℕ → ℕ → ℕ
row_by c i j k =
    pick (eqb c 0) (within 1 1 (i * 64 + j * 8 + k))
    (pick (eqb c 1) (row001 i j k)
    (pick (eqb c 2) (row002 i j k)
    (pick (eqb c 3) (pick (eqb i 0) (within 1 22 k) 0)
    (pick (eqb c 4) (within 1 23 (i * 64 + j * 8 + k))
    (pick (eqb c 5) (within 1 24 i)
    (pick (eqb c 6) (pick (ltb i 4) 25 0)
    (pick (eqb c 7) (pick (ltb i 4) 26 0)
    (pick (ltb c 16) (pick (ltb i 4) (19 + c) 35)
    (pick (eqb c 0o023) (row023 j k)
    (pick (eqb c 0o026) (within 2 43 k)
    (pick (eqb c 0o027) (within 1 45 k)
    (pick (eqb c 0o071) (within 2 71 j)
    (pick (eqb c 0o073) (within 2 73 (j * 8 + k))
    (pick (eqb c 0o174) (pick (eqb k 0) 0 (within 3 98 k))
    (pick (eqb c 0o175) (pick (eqb i 0) (within 4 101 k) 0)
    (pick (eqb c 0o176) (within 1 105 j)
    (pick (eqb c 0o177) (within 1 106 i)
    (get_or plain_rows c 0))))))))))))))))))

unfoldable pub row_of : ℕ → ℕ
row_of x = row_by (x / 512) (i_of x) (j_of x) (k_of x)

-- rows with a second parcel
unfoldable pub second_row : ℕ → Bool
second_row r = (leb 25 r && ltb r 38) || (leb 53 r && ltb r 55) || (leb 79 r && ltb r 83)

-- the byte p of a row's form: a sign, 0 for an operand, a newline after the last
abbrev pub mark : ℕ → ℕ
mark w = pick (ltb w 128) w 0

unfoldable pub form_at : ℕ → ℕ → ℕ
form_at r p = pick (ltb p (length (row_words r))) (mark (get_or (row_words r) p 0)) 10

-- the codes of its operands, in the order of the line; 0 past the last
unfoldable pub operands_in : List ℕ → List ℕ
operands_in [] = []
operands_in (w ∷ ws) = pick (ltb w 128) (operands_in ws) ((w - 128) ∷ operands_in ws)

unfoldable pub code_at : ℕ → ℕ → ℕ
code_at r t = get_or (operands_in (row_words r)) t 0

-- both as tables, for a whole text made once: n entries of f from place i on
abbrev pub table : (ℕ → ℕ) → ℕ → ℕ → List ℕ
table f i zero = []
table f i (suc n) = f i ∷ table f (suc i) n

unfoldable pub form_table : List ℕ
form_table = table (λ n. form_at (n / 12) (n % 12)) 0 1284

unfoldable pub operand_table : List ℕ
operand_table = table (λ n. code_at (n / 4) (n % 4)) 0 428

-- an instruction of the row r with operands of these codes
unfoldable pub with_codes : ℕ → ℕ → ℕ → ℕ → ℕ → List ℕ → Instruction
with_codes r a b c d fs =
    pick (eqb a 0) (Bare r)
    (pick (eqb b 0) (OfOne r (operand_by a fs))
    (pick (eqb c 0) (OfTwo r (operand_by a fs) (operand_by b fs))
    (pick (eqb d 0) (OfThree r (operand_by a fs) (operand_by b fs) (operand_by c fs))
    (OfFour r (operand_by a fs) (operand_by b fs) (operand_by c fs) (operand_by d fs)))))

unfoldable pub instruction_by : ℕ → List ℕ → Instruction
instruction_by r fs = with_codes r (code_at r 0) (code_at r 1) (code_at r 2) (code_at r 3) fs

abbrev pub instruction_of : ℕ → ℕ → ℕ → Instruction
instruction_of r x m = instruction_by r (fields_of x m)

-- its row, and its operands
unfoldable pub row_in : Instruction → ℕ
row_in (Bare r) = r
row_in (OfOne r a) = r
row_in (OfTwo r a b) = r
row_in (OfThree r a b c) = r
row_in (OfFour r a b c d) = r

unfoldable pub operands_held : Instruction → List Operand
operands_held (Bare r) = []
operands_held (OfOne r a) = a ∷ []
operands_held (OfTwo r a b) = a ∷ b ∷ []
operands_held (OfThree r a b c) = a ∷ b ∷ c ∷ []
operands_held (OfFour r a b c d) = a ∷ b ∷ c ∷ d ∷ []

-- the bytes of a form up to the first operand, or with the newline; what follows either; and that one of them is to come
unfoldable pub signs_of : List ℕ → List ℕ
signs_of [] = []
signs_of (b ∷ l) = let more = b ∷ signs_of l in pick (eqb b 0) [] (pick (eqb b 10) (b ∷ []) more)

unfoldable pub after_signs : List ℕ → List ℕ
after_signs [] = []
after_signs (b ∷ l) = let more = after_signs l in pick (eqb b 0) l (pick (eqb b 10) l more)

unfoldable pub Ends : List ℕ → Type 0
Ends [] = ⊥
Ends (b ∷ l) = (b ≡ 0 → ⊥) → (b ≡ 10 → ⊥) → Ends l

-- operands, each with the signs after it, where l are the bytes after the first
unfoldable pub parts_of : List ℕ → List Operand → List ℕ
parts_of l [] = []
parts_of l (o ∷ os) = (operand_text o ++ signs_of l) ++ parts_of (after_signs l) os

-- the line of a form's bytes and operands, and of an instruction by a table of forms
abbrev pub filled : List ℕ → List Operand → List ℕ
filled l os = signs_of l ++ parts_of (after_signs l) os

unfoldable pub spelled_of : List ℕ → Instruction → List ℕ
spelled_of forms ins = filled (drop (row_in ins * 12) forms) (operands_held ins)

-- an operand's numbers have at most eight octal digits, and that of an index one
abbrev pub Small : Operand → Type 0
Small (Register letter number wide) = Unit
Small (Constant n) = n < 16777216
Small (Indexed offset register) = (offset < 16777216) × (register < 8)

-- each operand is small, and has its place in the form
unfoldable pub Fills : List ℕ → List Operand → Type 0
Fills l [] = Ends l
Fills l (o ∷ os) = Ends l × Small o × Fills (after_signs l) os

abbrev pub Spells : List ℕ → Instruction → Type 0
Spells forms ins = Fills (drop (row_in ins * 12) forms) (operands_held ins)

-- an instruction's line can be written to a buffer from `at` on
pub record Ready (buffer : List ℕ) (at : ℕ) (forms : List ℕ) (ins : Instruction) : Type 0 where
  pub spells : Spells forms ins
  pub room : at + length (spelled_of forms ins) ≤ length buffer
  pub table : length forms ≡ 1284
