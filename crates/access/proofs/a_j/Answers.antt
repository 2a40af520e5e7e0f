use Rattle.std.proofs.Common.{arith}
use Rattle.machine.specs.Parcel.{j_of}
use Rattle.access.proofs.Places.{a_at}
use Rattle.access.proofs.a_j.Goals as goal

pub returns : goal.returns
returns c =
    rw (c.operand.ensures, c.j.ensures, a_at c.args.r.now (j_of c.args.x) (omega arith))
