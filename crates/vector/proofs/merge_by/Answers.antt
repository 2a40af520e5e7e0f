use Prim.Native.Nat.{◌+◌, ◌*◌}
use mathlib.Core.Path.{◌≡◌}
use native.Mathlib.Omega.{arith}
use Rattle.machine.specs.Layout.{registers_of}
use Rattle.vector.proofs.Loops.{begins, ends}
use Rattle.vector.proofs.Arms.{merging}
use Rattle.vector.proofs.Merges.{shift-more, goes_one, goes-four}
use borrow.Author.Rules.{rules}
use Rattle.vector.proofs.merge_by.Goals as goal

pub loop-q-init : goal.loop-q-init
loop-q-init c = (begins _ _ _ _ (search rules), omega arith)

pub loop-q-preserved : goal.loop-q-preserved
loop-q-preserved c =
    let four : (c.loop-q.q + 1) * 4 ≡ c.loop-q.q * 4 + 4 = omega arith in
    rw four (
      goes-four c.args.scalar c.args.x c.vl-n.result c.args.r.now c.named_by-operands.result c.named_by-operands.ensures (omega arith) (c.loop-q.q * 4) c.loop-q.bits
          _ _ _ c.loop-q.invariant.0 (omega arith) c.loop-q.invariant.1 c.two.ensures c.two-in-loop-q.ensures,
      rw c.loop-q.invariant.1 (shift-more (registers_of c.args.r.now).vm (c.loop-q.q * 4) 4 (omega arith)),
    )

pub loop-e-preserved : goal.loop-e-preserved
loop-e-preserved c =
    goes_one c.args.scalar c.args.x c.vl-n.result c.args.r.now c.named_by-operands.result c.named_by-operands.ensures (omega arith) c.loop-e.e _ _ c.loop-e.invariant
    (omega arith) (cc)

pub returns : goal.returns
returns c = merging _ _ _ c.args.scalar c.requires.2 (ends c.loop-e.invariant (omega arith))
