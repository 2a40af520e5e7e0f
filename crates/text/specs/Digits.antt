-- Bytes and digits, read and written; bytes are ASCII. Assumes nothing.
use Rattle.std.specs.Prelude.{ℕ, zero, suc, ◌+◌, ◌-◌, ◌*◌, ◌/◌, ◌%◌, Bool, true, ◌&&◌, List, [], ◌∷◌, ◌++◌, get_or, leb, ltb, Option, Some, None, is_some, unwrap_or}
use Rattle.machine.specs.Word.{pick}

-- the byte at a place; past the end it is 0, which no line may hold
abbrev pub byte_at : List ℕ → ℕ → ℕ
byte_at text at = get_or text at 0

-- `0` to `9`, and `A` to `F`
unfoldable pub is_decimal : ℕ → Bool
is_decimal b = leb 48 b && ltb b 58

unfoldable pub is_letter : ℕ → Bool
is_letter b = leb 65 b && ltb b 71

-- the value of a digit of capital hex
unfoldable pub hex_digit : ℕ → Option ℕ
hex_digit b = pick (is_decimal b) (Some (b - 48)) (pick (is_letter b) (Some (b - 55)) None)

-- a byte is such a digit, and its value, 0 of any other byte
abbrev pub is_hex : ℕ → Bool
is_hex b = is_some (hex_digit b)

abbrev pub hex_of : ℕ → ℕ
hex_of b = unwrap_or (hex_digit b) 0

-- k bytes from `at` on are hex digits
unfoldable pub all_hex : ℕ → List ℕ → ℕ → Bool
all_hex zero text at = true
all_hex (suc k) text at = is_hex (byte_at text at) && all_hex k text (at + 1)

-- the number that they spell, v being spelled before them
unfoldable pub hex_from : ℕ → List ℕ → ℕ → ℕ → ℕ
hex_from zero text at v = v
hex_from (suc k) text at v = hex_from k text (at + 1) (v * 16 + hex_of (byte_at text at))

-- a digit below 16 as a byte
unfoldable pub glyph_of : ℕ → ℕ
glyph_of d = pick (ltb d 10) (48 + d) (55 + d)

-- the last k digits of n in a base, the highest first
unfoldable pub digits : ℕ → ℕ → ℕ → List ℕ
digits base zero n = []
digits base (suc k) n = digits base k (n / base) ++ (glyph_of (n % base) ∷ [])

-- how many digits n has without leading zeros, `0` having one, counted by at most `most` divisions: n are enough
unfoldable pub places_of : ℕ → ℕ → ℕ → ℕ
places_of zero base n = 1
places_of (suc most) base n = let more = places_of most base (n / base) + 1 in pick (ltb n base) 1 more

-- the larger of that and `least`
unfoldable pub width_of : ℕ → ℕ → ℕ → ℕ
width_of base least n = pick (ltb (places_of n base n) least) least (places_of n base n)

-- n in a base, with zeros in front up to `least` digits
unfoldable pub shown : ℕ → ℕ → ℕ → List ℕ
shown base least n = digits base (width_of base least n) n
