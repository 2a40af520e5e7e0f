use Prim.Native.Nat.{◌-◌}
use lib.ListN.{length}
use Rattle.turns.proofs.Pairs.{Along}
use Rattle.turns.proofs.pair.take.Given as goal

abbrev pub invariant-loop-n : goal.invariant-loop-n
invariant-loop-n l = Along l.schedule l.from l.initial.pair l.initial.mem l.pair l.mem l.first l.second l.next l.n

abbrev pub decreases-loop-n : goal.decreases-loop-n
decreases-loop-n l = length l.schedule - l.n
