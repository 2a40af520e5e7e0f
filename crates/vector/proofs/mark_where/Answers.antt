use Prim.Native.Nat.{◌+◌, ◌*◌, ◌^◌, ◌<◌}
use mathlib.Core.Path.{◌≡◌, refl, ◌∙◌}
use native.Mathlib.Omega.{arith}
use lib.ListN.{get_or}
use Rattle.machine.specs.Parcel.{j_of}
use Rattle.machine.specs.Act.{marks_of}
use Rattle.machine.specs.Layout.{registers_of}
use Rattle.access.proofs.Places.{el-at}
use Rattle.vector.proofs.Marks.{marks-turn, marks-fit}
use Rattle.vector.proofs.Arms.{marking}
use Rattle.vector.proofs.mark_where.Goals as goal

pub loop-e-init : goal.loop-e-init
unfolding marks_of
loop-e-init g c = λ test tells. refl

pub overflow_add-vm : goal.overflow_add-vm
overflow_add-vm g c =
    let y = el-at c.args.r.now (j_of c.args.x) c.loop-e.e (omega arith) (omega arith) in
    let place : c.first-from.result ≡ 160 + j_of c.args.x * 64 = omega arith in
    let from : get_or c.args.r.now (c.first-from.result + c.loop-e.e) 0 < 2 ^ 64 = omega arith in
    omega (
      arith,
      marks-fit _ _ _ c.mark_of-vm.result (omega arith) (c.loop-e.invariant _ c.requires.coded.2)
          (c.mark_of-vm.ensures ∙ rw (c.requires.coded.2 _ _ from c.meets.ensures, place, y)),
    )

pub loop-e-preserved : goal.loop-e-preserved
loop-e-preserved g c = λ test tells.
    let y = el-at c.args.r.now (j_of c.args.x) c.loop-e.e (omega arith) (omega arith) in
    let place : c.first-from.result ≡ 160 + j_of c.args.x * 64 = omega arith in
    let from : get_or c.args.r.now (c.first-from.result + c.loop-e.e) 0 < 2 ^ 64 = omega arith in
    marks-turn _ _ _ _ (c.loop-e.invariant test tells) (c.mark_of-vm.ensures ∙ rw (tells _ _ from c.meets.ensures, place, y))

pub returns : goal.returns
returns g c =
    let e : c.loop-e.e ≡ (registers_of c.args.r.now).vl = omega arith in
    marking _ _ _ c.requires.coded.0 (c.requires.coded.1) (rw (c.loop-e.invariant _ c.requires.coded.2, e) at c.set_control.ensures)
