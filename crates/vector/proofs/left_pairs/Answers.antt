use Prim.Native.Nat.{◌+◌, ◌-◌}
use mathlib.Core.Path.{◌∙◌, refl}
use native.Mathlib.Omega.{arith}
use borrow.Author.Tests.{eq-eqb, ne_eqb}
use Rattle.machine.specs.Parcel.{j_of}
use Rattle.machine.specs.Act.{left_pair_v, act}
use Rattle.machine.specs.Codes.{code_of}
use Rattle.machine.specs.Layout.{registers_of}
use Rattle.access.proofs.Leaf.{puts}
use Rattle.vector.proofs.Loops.{begins, reads, goes, ends}
use borrow.Author.Rules.{rules}
use Rattle.vector.proofs.left_pairs.Goals as goal

pub loop-e-init : goal.loop-e-init
loop-e-init c = begins _ _ _ _ (search rules)

pub loop-e-preserved : goal.loop-e-preserved
loop-e-preserved c =
    goes c.loop-e.invariant _ _ (omega arith)
    (c.left_pair.ensures
    ∙ rw (
      ne_eqb (c.loop-e.e + 1) (registers_of c.args.r.now).vl (omega arith),
      reads c.loop-e.invariant (j_of c.args.x) c.loop-e.e (c.first-from.result + c.loop-e.e) (omega arith),
      reads c.loop-e.invariant (j_of c.args.x) (c.loop-e.e + 1) (c.first-from.result + c.loop-e.e + 1) (omega arith),
      c.a_k-count.ensures,
    ))

pub returns : goal.returns
unfolding code_of act
returns c =
    λ p mem. puts left_pair_v _ _ _ _ mem p _ (
      refl,
      ends (goes c.loop-e.invariant _ _ (omega arith)
          (c.left_pair-2.ensures
          ∙ rw (
            eq-eqb (c.loop-e.e + 1) (registers_of c.args.r.now).vl (omega arith),
            reads c.loop-e.invariant (j_of c.args.x) c.loop-e.e (c.first-from.result + (c.vl-last.result - 1)) (omega arith),
            c.a_k-count.ensures,
          ))) (omega arith),
    )
    (rw c.requires.1) refl
