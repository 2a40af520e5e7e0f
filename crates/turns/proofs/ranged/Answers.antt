use mathlib.Core.Path.{sym, ◌∙◌}
use native.Mathlib.Omega.{arith}
use Rattle.turns.proofs.Steps.{ranged-leaves, ranged-monitor, ranged-passes}
use Rattle.turns.proofs.ranged.Goals as goal
use Rattle.turns.proofs.ranged.Goals.{else-r-eq0-via-then-r-eq0+else-r-eq1, else-r-eq0-via-else-r-eq0}

pub leave-requires : goal.leave-requires
leave-requires c =
    record {
      fitting = c.requires.fitting;
      p_bound = (c.requires.p_bound, omega arith);
    }

pub returns-then-r-eq1 : goal.returns-then-r-eq1
returns-then-r-eq1 c =
    λ s. c.leave.ensures s ∙ sym (ranged-leaves _ _ _ _ c.if-r-eq0.true c.if-r-eq1.true-raw)

pub returns : goal.returns
returns c =
    λ s. rw c.set_p.ensures
    (elim c.else-r-eq0.branch [
      | else-r-eq0-via-then-r-eq0+else-r-eq1 w ↦ sym (ranged-passes _ _ _ _ w.if-r-eq0.true w.if-r-eq1.false-raw)
      | else-r-eq0-via-else-r-eq0 w ↦ sym (ranged-monitor _ _ _ _ w.if-r-eq0.false)
    ])
