use Rattle.std.proofs.Common.{◌≡◌, ◌%◌, ◌^◌, ap, arith}
use Rattle.machine.specs.Parcel.{onward}
use Rattle.machine.specs.State.{addr}
use Rattle.access.proofs.on.Goals as goal

pub returns : goal.returns
returns c = ap addr e
  where
    e : c.wrapping_add_u64.result % 2 ^ 24 ≡ onward c.args.p.0 c.args.n
    e = omega (arith, c.wrapping_add_u64.ensures.value)
