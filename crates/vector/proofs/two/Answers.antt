use Prim.Native.Nat.{◌+◌}
use native.Mathlib.Omega.{arith}
use lib.ListN.{get_or}
use Rattle.vector.proofs.Merges.{merge-first, merge-second}
use Rattle.vector.proofs.two.Goals as goal

pub returns : goal.returns
returns c =
    let y = merge-first c.args.bits c.at.result (get_or c.args.r.now (c.args.operands.right + c.args.e) 0) (omega arith) (omega arith)
    (omega arith) in
    let z = merge-second c.args.bits c.at-2.result (get_or c.args.r.now (c.args.operands.right + c.args.e + 1) 0) (omega arith) (omega arith)
    (omega arith) in
    rw (c.merged-y.ensures, c.merged-z.ensures, c.requires.whole, y, z, c.at.ensures, c.at-2.ensures)
