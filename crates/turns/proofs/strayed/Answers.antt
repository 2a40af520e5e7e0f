use native.Mathlib.Omega.{arith}
use Rattle.turns.proofs.Runs.{strayed-ends}
use borrow.Author.Rules.{rules}
use Rattle.turns.proofs.strayed.Goals as goal

pub of-stray-requires : goal.of-stray-requires
of-stray-requires c =
    record { bounds = (c.requires.fitting.frame.dba, c.requires.fitting.frame.dla) }

pub overflow_add-result : goal.overflow_add-result
overflow_add-result c =
    omega (arith, c.count_of.ensures.1, c.requires.p_bound.1)

pub returns : goal.returns
returns c =
    strayed-ends _ _ _ _ _ _ _ _ _ _ c.requires.fitting c.requires.p_bound.0 (search rules) c.of-stray.ensures c.ranged-answer.ensures (rw c.count_of.ensures.0)
