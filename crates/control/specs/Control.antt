-- What branches test, by the names that the code gives the tests; and which codes name no instruction. Assumes nothing.
use Rattle.std.specs.Prelude.{ℕ, Bool, not, ◌&&◌, ◌||◌, eqb, leb}
use Rattle.machine.specs.Word.{minus24, minus64}
use Rattle.machine.specs.State.{Registers, ai, si}
use Rattle.control.specs.declared.Test.{Test}
use Rattle.control.specs.declared.Test.TheVariants.{ZeroA, NonZeroA, PlusA, MinusA, ZeroS, NonZeroS, PlusS, MinusS}

-- the first three digits of the branch that makes a test
abbrev pub test_code : Test → ℕ
test_code ZeroA = 0o010
test_code NonZeroA = 0o011
test_code PlusA = 0o012
test_code MinusA = 0o013
test_code ZeroS = 0o014
test_code NonZeroS = 0o015
test_code PlusS = 0o016
test_code MinusS = 0o017

-- what it asks of A0 or S0
abbrev pub test_of : Test → Registers → Bool
test_of ZeroA r = eqb (ai r 0) 0
test_of NonZeroA r = not (eqb (ai r 0) 0)
test_of PlusA r = not (minus24 (ai r 0))
test_of MinusA r = minus24 (ai r 0)
test_of ZeroS r = eqb (si r 0) 0
test_of NonZeroS r = not (eqb (si r 0) 0)
test_of PlusS r = not (minus64 (si r 0))
test_of MinusS r = minus64 (si r 0)

-- the first three digits that name no instruction, and 000
abbrev pub nothing_at : ℕ → Bool
nothing_at c = eqb c 0 || eqb c 0o033 || (leb 0o062 c && leb c 0o070) || eqb c 0o072 || (leb 0o160 c && leb c 0o173)
