use Prim.Native.Nat.{◌+◌}
use mathlib.Core.Path.{refl}
use native.Mathlib.Omega.{arith}
use native.Mathlib.Numerals.{add-one}
use Rattle.machine.specs.Parcel.{j_of}
use Rattle.machine.specs.Act.{right_pair_v, act}
use Rattle.machine.specs.Codes.{code_of}
use Rattle.access.proofs.Leaf.{puts}
use Rattle.vector.proofs.Loops.{begins, reads, goes, ends}
use borrow.Author.Rules.{rules}
use Rattle.vector.proofs.right_pairs.Goals as goal

pub loop-e-init : goal.loop-e-init
loop-e-init c = (begins _ _ _ _ (search rules), refl)

pub loop-e-preserved : goal.loop-e-preserved
loop-e-preserved c =
    let low = reads c.loop-e.invariant.0 (j_of c.args.x) c.loop-e.e (c.first-from.result + c.loop-e.e) (omega arith) in
    (goes c.loop-e.invariant.0 _ _ (omega arith) (cc low), rw add-one low)

pub returns : goal.returns
unfolding code_of act
returns c =
    λ p mem. puts right_pair_v _ _ _ _ mem p _ (refl, ends c.loop-e.invariant.0 (omega arith)) (rw c.requires.1) refl
