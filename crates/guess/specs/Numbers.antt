-- The plans of the program as the numbers of the table. Assumes nothing.
use Rattle.std.specs.Prelude.{ℕ, List, [], ◌∷◌, ◌++◌, Some, None}
use Rattle.std.specs.declared.option.Option.{Option}
use Rattle.guess.specs.declared.Kind.{Kind}
use Rattle.guess.specs.declared.Kind.TheVariants.{Jk, Jkm, Rest, Indexed, Leading}
use Rattle.guess.specs.declared.Plan.{Plan}

abbrev pub kind_of : Kind → ℕ
kind_of Jk = 1
kind_of Jkm = 2
kind_of Rest = 3
kind_of Indexed = 4
kind_of Leading = 5

-- 0 where there is no number
abbrev pub number_of : Option Kind → ℕ
number_of None = 0
number_of (Some kind) = kind_of kind

abbrev pub numbers_in : Plan → List ℕ
numbers_in p = p.0 ∷ p.1 ∷ p.2 ∷ p.3 ∷ p.4 ∷ p.5 ∷ number_of p.6 ∷ []

-- eight to a plan
unfoldable pub numbers_of : List Plan → List ℕ
numbers_of [] = []
numbers_of (p ∷ ps) = numbers_in p ++ 0 ∷ numbers_of ps
