-- How the program guesses which parcels a line may stand for: the signs at a few places tell the line's row, and the row tells
-- where its digits stand. Nothing here has to be believed: a guess is listed and compared with the line, and what is proved of it
-- is that it finds every line that is listed. Assumes nothing.
use Rattle.std.specs.Prelude.{ℕ, zero, suc, ◌+◌, ◌-◌, ◌*◌, ◌/◌, ◌%◌, ◌^◌, Bool, true, false, ◌&&◌, ◌||◌, List, [], ◌∷◌, get_or, eqb, ltb, leb}
use Prim.Native.String.{String}
use Rattle.machine.specs.Word.{pick}
use Rattle.spelling.specs.Words.{signs}
use Rattle.spelling.specs.Rows.{samples, row_words, table}

-- the bytes of a text by their places, newlines past its end
abbrev pub bytes_of : List ℕ → ℕ → ℕ
bytes_of s p = get_or s p 10

-- the row --

-- questions that tell it: is the byte at a place this sign?
pub data Tree : Type 0 where
  row : ℕ → Tree
  ask : ℕ → ℕ → Tree → Tree → Tree

abbrev pub see : ℕ → String → Tree → Tree → Tree
see p s then else = ask p (get_or (signs s) 0 0) then else

unfoldable pub told : Tree → (ℕ → ℕ) → ℕ
told (row r) b = r
told (ask p c then else) b =
    let here = told then b in
    let there = told else b in
    pick (eqb (b p) c) here there

-- of lines that begin with A, a digit and a blank; and so on by the first signs
abbrev pub line_aa : Tree
line_aa = see 5 "+" (row 46) (see 5 "-" (row 47) (row 48))

abbrev pub line_a : Tree
line_a =
    see 3 "A" line_aa
    (see 3 "S" (row 39)
    (see 3 "V" (row 40)
    (see 3 "B" (row 41)
    (see 3 "P" (row 43)
    (see 3 "Q" (row 44)
    (see 3 "Z" (row 45)
    (row 79)))))))

abbrev pub line_ss : Tree
line_ss =
    see 5 "&" (row 57)
    (see 5 "\\" (row 59)
    (see 5 "!" (see 8 "&" (row 61) (row 62))
    (see 5 "," (see 8 "<" (row 67) (row 68))
    (see 5 "+" (row 69)
    (see 5 "-" (row 70)
    (row 74))))))

abbrev pub line_s : Tree
line_s =
    see 3 "S" line_ss
    (see 3 "A" (row 71)
    (see 3 "+" (row 72)
    (see 3 "V" (see 4 "M" (row 73) (row 77))
    (see 3 "T" (row 75)
    (see 3 "<" (row 55)
    (see 3 ">" (row 56)
    (see 3 "#" (see 6 "&" (row 58) (row 60))
    (row 81))))))))

abbrev pub line_vs : Tree
line_vs =
    see 5 "&" (row 83)
    (see 5 "!" (see 8 "&" (row 89) (row 85))
    (see 5 "\\" (row 87)
    (see 5 "+" (row 95)
    (row 97))))

abbrev pub line_vv : Tree
line_vv =
    see 5 "&" (row 84)
    (see 5 "!" (see 8 "&" (row 90) (row 86))
    (see 5 "\\" (row 88)
    (see 5 "<" (row 91)
    (see 5 ">" (row 92)
    (see 5 "," (see 8 "<" (row 93) (row 94))
    (see 5 "+" (row 96)
    (row 98)))))))

abbrev pub line_vm : Tree
line_vm = see 3 "S" (row 22) (see 6 "Z" (row 101) (see 6 "N" (row 102) (see 6 "P" (row 103) (row 104))))

abbrev pub line_vi : Tree
line_vi =
    see 3 "S" line_vs
    (see 3 "V" line_vv
    (see 3 "P" (row 99)
    (see 3 "Q" (row 100)
    (see 3 "," (row 105)
    (row 78)))))

abbrev pub line_v : Tree
line_v = see 1 "L" (row 16) (see 1 "M" line_vm line_vi)

abbrev pub line_e : Tree
line_e = see 1 "R" (see 2 "R" (row 1) (row 17)) (see 1 "C" (row 14) (see 1 "B" (row 20) (row 23)))

abbrev pub line_c : Tree
line_c = see 1 "A" (row 3) (see 1 "L" (see 2 "," (row 4) (row 11)) (see 1 "I" (row 5) (see 1 "C" (row 13) (row 21))))

abbrev pub jumps : ℕ → Tree
jumps r = see 2 "Z" (row r) (see 2 "N" (row (r + 1)) (see 2 "P" (row (r + 2)) (row (r + 3))))

abbrev pub line_j : Tree
line_j = see 1 "A" (jumps 27) (see 1 "S" (jumps 31) (see 2 "B" (row 24) (row 25)))

abbrev pub line_d : Tree
line_d = see 1 "C" (row 15) (see 1 "R" (row 18) (row 19))

abbrev pub line_comma : Tree
line_comma = see 3 "," (row 106) (see 4 "B" (row 50) (row 52))

-- row 107 is a line of data
abbrev pub line_sign : Tree
line_sign =
    see 0 "A" line_a
    (see 0 "S" line_s
    (see 0 "V" line_v
    (see 0 "J" line_j
    (see 0 "B" (see 3 "," (row 49) (row 42))
    (see 0 "T" (see 3 "," (row 51) (row 76))
    (see 0 "," line_comma
    (see 0 "C" line_c
    (see 0 "D" line_d
    (see 0 "E" line_e
    (see 0 "I" (see 3 "1" (row 9) (row 10))
    (see 0 "M" (row 6)
    (see 0 "P" (see 1 "A" (row 2) (row 12))
    (see 0 "R" (see 1 "T" (row 8) (row 26))
    (see 0 "X" (row 7)
    (row 107)))))))))))))))

-- a number: octal digits from a place below 16 on, modulo 2^32, and the place after them
pub record Numeral : Type 0 where
  pub value : ℕ
  pub end : ℕ

abbrev pub is_octal : ℕ → Bool
is_octal b = leb 48 b && ltb b 56

unfoldable pub number_from : ℕ → (ℕ → ℕ) → ℕ → ℕ → Numeral
number_from zero b p v = record { value = v; end = p }
number_from (suc left) b p v =
    let more = number_from left b (p + 1) ((v * 8 + b p % 8) % 2 ^ 32) in
    pick (is_octal (b p)) more (record { value = v; end = p })

unfoldable pub number_at : (ℕ → ℕ) → ℕ → Numeral
number_at b p = number_from (16 - p) b p 0

-- lines that begin with a digit: by their code, or by the register that is stored
unfoldable pub code_row : ℕ → ℕ
code_row c =
    pick (eqb c 0o20) 36
    (pick (eqb c 0o21) 37
    (pick (eqb c 0o22) 38
    (pick (eqb c 0o40) 53
    (pick (eqb c 0o41) 54
    (pick (eqb c 0o52) 63
    (pick (eqb c 0o53) 64
    (pick (eqb c 0o54) 65
    (pick (eqb c 0o55) 66
    35))))))))

unfoldable pub digit_row : (ℕ → ℕ) → ℕ
digit_row b = pick (eqb (b 3) 32) (code_row (b 1 % 8 * 8 + b 2 % 8)) (pick (eqb (b ((number_at b 0).end + 4)) 65) 80 82)

unfoldable pub row_seen : (ℕ → ℕ) → ℕ
row_seen b = pick (is_octal (b 0)) (digit_row b) (told line_sign b)

-- the plan of a row --

-- operands of one or two digits: registers, and the constants h and j
abbrev pub is_fixed : ℕ → Bool
is_fixed c = leb 3 (c / 8) || eqb c 1 || eqb c 3

-- where its digits begin, behind a letter if it has one, and how many they are
abbrev pub letters_of : ℕ → ℕ
letters_of c = pick (leb 3 (c / 8)) 1 0

abbrev pub digits_of : ℕ → ℕ
digits_of c = pick (eqb (c % 8) 5) 2 1

-- the place of the digit of a field, 1 h, 2 i, 3 j, 4 k, in words that stand from place p on; 0 if no place is sure
unfoldable pub place_of : ℕ → List ℕ → ℕ → ℕ
place_of f [] p = 0
place_of f (w ∷ ws) p =
    let c = w - 128 in
    let sign = place_of f ws (p + 1) in
    let later = place_of f ws (p + letters_of c + digits_of c) in
    let second = pick (eqb f 4) (p + 2) later in
    let first = pick (eqb f 3) (p + 1) second in
    let fixed = pick (eqb (c % 8) f) (p + letters_of c) (pick (eqb (c % 8) 5) first later) in
    pick (ltb w 128) sign (pick (is_fixed c) fixed 0)

-- the place of its number and that operand's code, or else of the newline, and 0
unfoldable pub number_place : List ℕ → ℕ → ℕ
number_place [] p = p
number_place (w ∷ ws) p =
    let c = w - 128 in
    let sign = number_place ws (p + 1) in
    let later = number_place ws (p + letters_of c + digits_of c) in
    pick (ltb w 128) sign (pick (is_fixed c) later p)

unfoldable pub number_code : List ℕ → ℕ
number_code [] = 0
number_code (w ∷ ws) = let later = number_code ws in pick (ltb w 128) later (pick (is_fixed (w - 128)) later (w - 128))

-- how that operand is read: 0 there is none, 1 jk, 2 jkm or ijkm, 3 64-jk, 4 an indexed place, 5 one that begins the line
abbrev pub kind_of : ℕ → ℕ → ℕ
kind_of c p =
    pick (eqb c 0) 0
    (pick (eqb (c / 8) 1) (pick (eqb p 0) 5 4)
    (pick (eqb (c / 8) 2) 3
    (pick (eqb c 5) 1 2)))

-- a row's plan: the parcel without its operands; the places of h, i, j and k; the place of the number, and its kind
abbrev pub plan_by : ℕ → List ℕ → List ℕ
plan_by x ws =
    let k = place_of 4 ws 0 in
    let p = number_place ws 0 in
    pick (eqb k 0) x (x / 8 * 8) ∷ place_of 1 ws 0 ∷ place_of 2 ws 0 ∷ place_of 3 ws 0 ∷ k ∷ p ∷ kind_of (number_code ws) p ∷ []

unfoldable pub plan_of : ℕ → List ℕ
plan_of r = let plan = plan_by (get_or samples r 0) (row_words r) in pick (eqb r 107) (0 ∷ 0 ∷ 0 ∷ 0 ∷ 0 ∷ 5 ∷ 1 ∷ []) plan

unfoldable pub plan_table : List ℕ
plan_table = table (λ n. get_or (plan_of (n / 8)) (n % 8) 0) 0 864

-- the guess --

-- two parcels, whether the second is meant, and how many bytes the line has
pub record Guess : Type 0 where
  pub first : ℕ
  pub second : ℕ
  pub two : Bool
  pub length : ℕ

abbrev pub one : ℕ → ℕ → Guess
one x n = record { first = x % 65536; second = 0; two = false; length = n }

abbrev pub both : ℕ → ℕ → ℕ → Guess
both x m n = record { first = x % 65536; second = m % 65536; two = true; length = n }

abbrev pub digit_at : (ℕ → ℕ) → ℕ → ℕ
digit_at b p = pick (eqb p 0) 0 (b p % 8)

-- a number and the fixed part of the parcel
unfoldable pub with_number : (ℕ → ℕ) → ℕ → ℕ → Numeral → Guess
with_number b kind x n =
    let v = n.value in
    let e = n.end in
    pick (eqb kind 1) (one (x + v) (e + 1))
    (pick (eqb kind 2) (both (x + v / 65536) v (e + 1))
    (pick (eqb kind 3) (one (x + 65600 - v % 65536) (e + 1))
    (pick (eqb kind 4) (both (x + v / 65536 + b (e + 2) % 8 * 512) v (e + 4))
    (both (x + v / 65536 + b (e + 2) % 8 * 512 + b (e + 5) % 8 * 64) v (e + 7)))))

unfoldable pub guess_with : (ℕ → ℕ) → List ℕ → Guess
guess_with b plan =
    let at : ℕ → ℕ = λ n. get_or plan n 0 in
    let x = at 0 + digit_at b (at 1) * 512 + digit_at b (at 2) * 64 + digit_at b (at 3) * 8 + digit_at b (at 4) in
    let more = with_number b (at 6) x (number_at b (at 5)) in
    pick (eqb (at 6) 0) (one x (at 5 + 1)) more

unfoldable pub guess_by : (ℕ → ℕ) → Guess
guess_by b = guess_with b (plan_of (row_seen b))

unfoldable pub guess_of : List ℕ → Guess
guess_of s = guess_by (bytes_of s)
