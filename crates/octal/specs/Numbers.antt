-- Digits and numbers as they are read, and the addresses that arguments spell; bytes are ASCII. Assumes nothing.
use Rattle.std.specs.Prelude.{ℕ, zero, suc, ◌+◌, ◌-◌, ◌*◌, Bool, true, ◌&&◌, List, length, leb, ltb, Option, Some, None}
use Rattle.machine.specs.Word.{pick}
use Rattle.text.specs.Digits.{byte_at}

-- from `low` on and below `past`
unfoldable pub within : ℕ → ℕ → ℕ → Bool
within low past b = leb low b && ltb b past

-- the value of a hex digit, `0` to `9`, `A` to `F` or `a` to `f`, and 16 of any other byte: so a byte is a digit of a base up to 16
-- if its value is below the base
unfoldable pub digit_of : ℕ → ℕ
digit_of b =
    pick (within 48 58 b) (b - 48)
    (pick (within 65 71 b) (b - 55)
    (pick (within 97 103 b) (b - 87)
    16))

-- k bytes from `at` on are digits of a base
unfoldable pub all_digits : ℕ → ℕ → List ℕ → ℕ → Bool
all_digits base zero text at = true
all_digits base (suc k) text at = ltb (digit_of (byte_at text at)) base && all_digits base k text (at + 1)

-- the number that they spell, v being spelled before them
unfoldable pub number_from : ℕ → ℕ → List ℕ → ℕ → ℕ → ℕ
number_from base zero text at v = v
number_from base (suc k) text at v = number_from base k text (at + 1) (v * base + digit_of (byte_at text at))

-- the number of a text, if it is digits of a base and nothing else
abbrev pub number_of : ℕ → List ℕ → Option ℕ
number_of base s = pick (all_digits base (length s) s 0) (Some (number_from base (length s) s 0 0)) None

-- an address: from 1 to `most` digits of a base and nothing else, their number below `limit`
unfoldable pub address_of : ℕ → ℕ → ℕ → List ℕ → Option ℕ
address_of base most limit s =
    let n = number_from base (length s) s 0 0 in
    pick (ltb 0 (length s) && leb (length s) most && all_digits base (length s) s 0 && ltb n limit) (Some n) None
