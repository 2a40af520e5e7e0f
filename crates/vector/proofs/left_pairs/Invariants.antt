use Rattle.machine.specs.Word.{shift_left_pair}
use Rattle.machine.specs.Parcel.{k_of}
use Rattle.machine.specs.State.{ak}
use Rattle.machine.specs.Act.{after}
use Rattle.machine.specs.Layout.{registers_of}
use Rattle.vector.proofs.Loops.{vj, Doing}
use Rattle.vector.proofs.left_pairs.Given as goal

abbrev pub invariant-loop-e : goal.invariant-loop-e
invariant-loop-e l =
    Doing l.x (registers_of l.fn.r).vl (λ q. shift_left_pair (vj l.fn.r l.x q)
    (after (registers_of l.fn.r).vl (vj l.fn.r l.x) q) (ak (registers_of l.fn.r) (k_of l.x))) l.fn.r l.r l.e
