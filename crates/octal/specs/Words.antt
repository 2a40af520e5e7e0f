-- Parcels as the words of a case sheet. Assumes nothing.
use Rattle.std.specs.Prelude.{ℕ, zero, suc, ◌+◌, ◌*◌, ◌/◌, List, [], ◌∷◌, ◌++◌, length, get_or}
use Rattle.text.specs.Digits.{digits}
use Rattle.text.specs.Names.{equals, newline}

-- the word of the four parcels from a place on, the first highest; those past the end are zero
abbrev pub word_at : List ℕ → ℕ → ℕ
word_at ps i = ((get_or ps i 0 * 65536 + get_or ps (i + 1) 0) * 65536 + get_or ps (i + 2) 0) * 65536 + get_or ps (i + 3) 0

-- how many words n parcels take
abbrev pub words_for : ℕ → ℕ
words_for n = (n + 3) / 4

-- `AAAA=HHHHHHHHHHHHHHHH`
abbrev pub word_text : ℕ → ℕ → List ℕ
word_text a w = digits 16 4 a ++ (equals ∷ digits 16 16 w ++ (newline ∷ []))

-- the lines of k words from address a on, the first of them the parcels from place i on
unfoldable pub words_from : ℕ → ℕ → ℕ → List ℕ → List ℕ
words_from zero a i ps = []
words_from (suc k) a i ps = word_text a (word_at ps i) ++ words_from k (a + 1) (i + 4) ps

unfoldable pub words_text : ℕ → List ℕ → List ℕ
words_text a ps = words_from (words_for (length ps)) a 0 ps
