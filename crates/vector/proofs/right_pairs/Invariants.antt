use mathlib.Core.Path.{◌≡◌}
use Rattle.machine.specs.Word.{shift_right_pair}
use Rattle.machine.specs.Parcel.{k_of}
use Rattle.machine.specs.State.{ak}
use Rattle.machine.specs.Act.{before}
use Rattle.machine.specs.Layout.{registers_of}
use Rattle.vector.proofs.Loops.{vj, Doing}
use Rattle.vector.proofs.right_pairs.Given as goal

abbrev pub invariant-loop-e : goal.invariant-loop-e
invariant-loop-e l =
    Doing l.x l.n (λ q. shift_right_pair (before (vj l.fn.r l.x) q) (vj l.fn.r l.x q)
    (ak (registers_of l.fn.r) (k_of l.x))) l.fn.r l.r l.e × (l.high ≡ before (vj l.fn.r l.x) l.e)
