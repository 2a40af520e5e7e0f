use Prim.Native.Nat.{◌+◌, ◌^◌, ◌<◌}
use mathlib.Core.Path.{◌∙◌}
use native.Mathlib.Omega.{arith}
use lib.ListN.{get_or}
use Rattle.machine.specs.Parcel.{j_of}
use Rattle.vector.proofs.Loops.{begins, reads, goes, ends}
use Rattle.vector.proofs.Arms.{of-vj}
use borrow.Author.Rules.{rules}
use Rattle.vector.proofs.one_word.Goals as goal

pub loop-e-init : goal.loop-e-init
loop-e-init g c = λ word gives. begins _ _ _ _ (search rules)

pub loop-e-preserved : goal.loop-e-preserved
loop-e-preserved g c = λ word gives.
    let d = c.loop-e.invariant word gives in
    let from : get_or c.loop-e.r (c.first-from.result + c.loop-e.e) 0 < 2 ^ 64 = omega arith in
    goes d _ _ (omega arith)
    (gives _ _ _ from c.a_k-count.type_inv c.make.ensures
    ∙ cc (reads d (j_of c.args.x) c.loop-e.e (c.first-from.result + c.loop-e.e) (omega arith)))

pub returns : goal.returns
returns g c =
    of-vj _ _ _ c.requires.coded.0 c.requires.coded.1 (ends (c.loop-e.invariant _ c.requires.coded.2) (omega arith))
