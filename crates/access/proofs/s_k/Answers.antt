use Rattle.std.proofs.Common.{arith}
use Rattle.machine.specs.Parcel.{k_of}
use Rattle.access.proofs.Places.{s-at}
use Rattle.access.proofs.s_k.Goals as goal

pub returns : goal.returns
returns c =
    rw (c.operand.ensures, c.k.ensures, s-at c.args.r.now (k_of c.args.x) (omega arith))
