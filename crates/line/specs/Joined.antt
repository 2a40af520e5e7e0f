-- The program's tables, row after row, as the definition's. Assumes nothing.
use Rattle.std.specs.Prelude.{ℕ, List, [], ◌∷◌, ◌++◌}
use Rattle.std.specs.List.{flat_map}
use Rattle.line.specs.declared.Codes.{Codes}

abbrev pub joined : List (List ℕ) → List ℕ
joined rows = flat_map (λ row. row) rows

abbrev pub codes_in : Codes → List ℕ
codes_in c = c.0 ∷ c.1 ∷ c.2 ∷ c.3 ∷ []

unfoldable pub codes_of : List Codes → List ℕ
codes_of [] = []
codes_of (c ∷ cs) = codes_in c ++ codes_of cs
