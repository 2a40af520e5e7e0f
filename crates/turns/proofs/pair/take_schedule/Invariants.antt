use Prim.Native.Nat.{◌-◌}
use lib.ListN.{length}
use Rattle.turns.specs.Pair.{came_end}
use Rattle.turns.proofs.Pairs.{Turning}
use Rattle.turns.proofs.pair.take_schedule.Given as goal

abbrev pub invariant-loop-burst : goal.invariant-loop-burst
invariant-loop-burst l =
    Turning (came_end l.schedule l.initial.burst.at l.initial.burst.p l.initial.burst.steps l.initial.burst.work
    l.initial.strays.first l.initial.strays.second l.initial.pair l.initial.mem) (length l.initial.mem)
    l.schedule l.pair l.mem l.burst l.strays

abbrev pub decreases-loop-burst : goal.decreases-loop-burst
decreases-loop-burst l = length l.schedule - l.burst.steps
