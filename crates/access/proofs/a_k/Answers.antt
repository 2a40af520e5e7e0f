use Rattle.std.proofs.Common.{arith}
use Rattle.machine.specs.Parcel.{k_of}
use Rattle.access.proofs.Places.{a_at}
use Rattle.access.proofs.a_k.Goals as goal

pub returns : goal.returns
returns c =
    rw (c.operand.ensures, c.k.ensures, a_at c.args.r.now (k_of c.args.x) (omega arith))
