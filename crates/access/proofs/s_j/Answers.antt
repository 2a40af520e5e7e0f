use Rattle.std.proofs.Common.{arith}
use Rattle.machine.specs.Parcel.{j_of}
use Rattle.access.proofs.Places.{s-at}
use Rattle.access.proofs.s_j.Goals as goal

pub returns : goal.returns
returns c =
    rw (c.operand.ensures, c.j.ensures, s-at c.args.r.now (j_of c.args.x) (omega arith))
