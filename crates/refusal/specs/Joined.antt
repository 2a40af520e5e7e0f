-- Numbers or-ed together, so that one test does for all of them. Assumes nothing.
use Rattle.std.specs.Prelude.{ℕ, List, [], ◌∷◌}
use Rattle.std.specs.Int.Bits.{bit_or}

-- the numbers of a list, one after the other, to what was or-ed together before
abbrev pub joined : ℕ → List ℕ → ℕ
joined all [] = all
joined all (x ∷ l) = joined (bit_or all x) l
