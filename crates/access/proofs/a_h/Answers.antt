use Rattle.std.proofs.Common.{arith}
use Rattle.machine.specs.Parcel.{h_of}
use Rattle.access.proofs.Places.{a_at}
use Rattle.access.proofs.a_h.Goals as goal

pub returns : goal.returns
returns c =
    rw (c.operand.ensures, c.h.ensures, a_at c.args.r.now (h_of c.args.x) (omega arith))
