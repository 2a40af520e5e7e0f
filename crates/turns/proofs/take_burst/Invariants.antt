use Rattle.turns.proofs.Steps.{Going}
use Rattle.turns.proofs.take_burst.Given as goal

abbrev pub invariant-loop-left : goal.invariant-loop-left
invariant-loop-left l = Going l.initial.r l.initial.mem l.r l.mem l.f l.initial.p l.p l.budget l.left

abbrev pub decreases-loop-left : goal.decreases-loop-left
decreases-loop-left l = l.left
