use Prim.Native.Nat.{◌+◌, ◌^◌, ◌<◌}
use mathlib.Core.Path.{◌∙◌}
use native.Mathlib.Omega.{arith}
use lib.ListN.{get_or}
use Rattle.machine.specs.Parcel.{k_of}
use Rattle.vector.proofs.Loops.{begins, reads, goes, ends, left-reads}
use Rattle.vector.proofs.Arms.{making}
use borrow.Author.Rules.{rules}
use Rattle.vector.proofs.two_words.Goals as goal

pub loop-e-init : goal.loop-e-init
loop-e-init g c = λ word gives. begins _ _ _ _ (search rules)

pub loop-e-preserved : goal.loop-e-preserved
loop-e-preserved g c = λ word gives.
    let d = c.loop-e.invariant word gives in
    let right : get_or c.loop-e.r (c.named_by-operands.result.right + c.loop-e.e) 0 < 2 ^ 64 = omega arith in
    goes d _ _ (omega (arith, c.named_by-operands.ensures.to))
    (gives _ _ _ c.at.type_inv right c.make.ensures
    ∙ cc (
      left-reads c.named_by-operands.ensures d c.loop-e.e (omega arith),
      reads d (k_of c.args.x) c.loop-e.e (c.named_by-operands.result.right + c.loop-e.e) (omega (arith, c.named_by-operands.ensures.right)),
    ))

pub returns : goal.returns
returns g c =
    making _ _ _ c.requires.coded.0 c.args.scalar c.requires.coded.1 (ends (c.loop-e.invariant _ c.requires.coded.2) (omega arith))
