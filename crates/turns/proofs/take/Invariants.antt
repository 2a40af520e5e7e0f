use lib.ListN.{length}
use Rattle.std.specs.Prelude.{None, Ok}
use Rattle.machine.specs.State.{sharing}
use Rattle.machine.specs.Layout.{state_of}
use Rattle.turns.specs.Turn.{resumed}
use Rattle.turns.proofs.Runs.{Running, togo}
use Rattle.turns.proofs.take.Given as goal

abbrev pub invariant-loop-steps : goal.invariant-loop-steps
invariant-loop-steps l =
    Running (resumed l.through l.budget (Ok None) None 0 (Ok l.initial.last) l.initial.stray l.initial.steps (state_of l.initial.r)
    (sharing l.initial.mem)) (length l.initial.mem) l.r l.mem l.through l.budget (Ok l.last) l.stray l.steps

abbrev pub decreases-loop-steps : goal.decreases-loop-steps
decreases-loop-steps l = togo l.through l.budget l.steps (Ok l.last)
