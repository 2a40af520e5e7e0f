-- What a line is made of: signs, which stand for themselves, and operands, which are made from the fields of the instruction's
-- parcels. A sign is its ASCII code, below 128; an operand is 128 and its code. Assumes nothing.
use Rattle.std.specs.Prelude.{ℕ, ◌+◌, ◌-◌, ◌*◌, ◌/◌, ◌%◌, List, [], ◌∷◌, ◌++◌, get_or, eqb, ltb}
use Prim.Native.Char.{code}
use Prim.Native.String.{String, [] as nothing, ◌∷◌ as ◌and◌}
use Rattle.machine.specs.Word.{pick}
use Rattle.machine.specs.Parcel.{h_of, i_of, j_of, k_of, jk_of, jkm_of, ijkm_of}
use Rattle.text.specs.Digits.{digits, shown}
use Rattle.spelling.specs.declared.Operand.{Operand}
use Rattle.spelling.specs.declared.Operand.TheVariants.{Register, Constant, Indexed}

-- signs

-- a text as ASCII codes
abbrev pub signs : String → List ℕ
signs nothing = []
signs (c and s) = code c ∷ signs s

-- a text before what follows it, and between two
abbrev pub text : String → List ℕ → List ℕ
text s after = signs s ++ after

infixr 40 ◌⟨◌⟩◌
abbrev pub ◌⟨◌⟩◌ : List ℕ → String → List ℕ → List ℕ
before ⟨ s ⟩ after = before ++ signs s ++ after

abbrev pub end : List ℕ
end = []

-- operands: a register's letter, or a number below 3, times 8, and the number of a field

-- the fields: 1 h, 2 i, 3 j, 4 k, 5 jk, 6 jkm, 7 ijkm without the high bit of i
abbrev pub fields_of : ℕ → ℕ → List ℕ
fields_of x m = 0 ∷ h_of x ∷ i_of x ∷ j_of x ∷ k_of x ∷ jk_of x ∷ jkm_of x m ∷ ijkm_of x m ∷ []

abbrev pub field_of : ℕ → ℕ → ℕ → ℕ
field_of f x m = get_or (fields_of x m) f 0

abbrev pub operand : ℕ → ℕ → List ℕ
operand letter f = (128 + letter * 8 + f) ∷ []

-- registers of one digit
abbrev pub a_h : List ℕ
a_h = operand 65 1

abbrev pub a_i : List ℕ
a_i = operand 65 2

abbrev pub a_j : List ℕ
a_j = operand 65 3

abbrev pub a_k : List ℕ
a_k = operand 65 4

abbrev pub s_i : List ℕ
s_i = operand 83 2

abbrev pub s_j : List ℕ
s_j = operand 83 3

abbrev pub s_k : List ℕ
s_k = operand 83 4

abbrev pub v_i : List ℕ
v_i = operand 86 2

abbrev pub v_j : List ℕ
v_j = operand 86 3

abbrev pub v_k : List ℕ
v_k = operand 86 4

-- of two
abbrev pub b_jk : List ℕ
b_jk = operand 66 5

abbrev pub t_jk : List ℕ
t_jk = operand 84 5

-- constants: a field, and 64 - jk
abbrev pub h : List ℕ
h = operand 0 1

abbrev pub j : List ℕ
j = operand 0 3

abbrev pub jk : List ℕ
jk = operand 0 5

abbrev pub jkm : List ℕ
jkm = operand 0 6

abbrev pub ijkm : List ℕ
ijkm = operand 0 7

abbrev pub 64-jk : List ℕ
64-jk = operand 2 5

-- the indexed memory place `jkm,Ah`
abbrev pub jkm_a_h : List ℕ
jkm_a_h = operand 1 6

-- the operand of a code, by an instruction's fields, and in an instruction whose parcels are x and m
abbrev pub operand_by : ℕ → List ℕ → Operand
operand_by c fs =
    pick (eqb (c / 8) 0) (Constant (get_or fs (c % 8) 0))
    (pick (eqb (c / 8) 1) (Indexed (get_or fs (c % 8) 0) (get_or fs 1 0))
    (pick (eqb (c / 8) 2) (Constant (64 - get_or fs (c % 8) 0))
    (Register (c / 8) (get_or fs (c % 8) 0) (eqb (c % 8) 5))))

unfoldable pub operand_of : ℕ → ℕ → ℕ → Operand
operand_of c x m = operand_by c (fields_of x m)

-- lines

-- an operand's text: a register's name keeps its digits, any other number has no needless zeros; all are octal
unfoldable pub operand_text : Operand → List ℕ
operand_text (Register letter number wide) = letter ∷ digits 8 (pick wide 2 1) number
operand_text (Constant n) = shown 8 1 n
operand_text (Indexed offset register) = shown 8 1 offset ++ (44 ∷ 65 ∷ shown 8 1 register)

abbrev pub word_text : ℕ → ℕ → ℕ → List ℕ
word_text w x m = pick (ltb w 128) (w ∷ []) (operand_text (operand_of (w - 128) x m))

-- the text of words
unfoldable pub text_of : List ℕ → ℕ → ℕ → List ℕ
text_of [] x m = []
text_of (w ∷ ws) x m = word_text w x m ++ text_of ws x m
