use Prim.Native.Nat.{◌+◌, ◌*◌, ◌%◌, ◌≤◌}
use mathlib.Core.Path.{◌≡◌}
use native.Mathlib.Omega.{arith}
use Rattle.machine.specs.Parcel.{j_of, k_of}
use Rattle.machine.specs.Act.{s_from_vm, s_from_status, act}
use Rattle.machine.specs.Codes.{code_of}
use Rattle.access.proofs.Leaf.{puts, not-held}
use Rattle.scalar.proofs.Control.{beyond}
use Rattle.scalar.proofs.transmit.read_control.Goals as goal

pub returns-in-0 : goal.returns-in-0
unfolding code_of act
returns-in-0 c =
    let z : c.args.x % 64 ≡ 0 = omega (arith, c.jk.ensures, c.in-0.is) in
    let j : j_of c.args.x ≡ 0 = omega arith in
    let k : k_of c.args.x ≡ 0 = omega arith in
    λ p mem. puts s_from_vm _ _ _ _ mem p _ c.put_s.ensures (rw (c.requires.coded, j, k)) (rw c.vm.ensures)

pub returns-in-1 : goal.returns-in-1
unfolding code_of act
returns-in-1 c =
    let z : c.args.x % 64 ≡ 1 = omega (arith, c.jk.ensures, c.in-1.is) in
    let j : j_of c.args.x ≡ 0 = omega arith in
    let k : k_of c.args.x ≡ 1 = omega arith in
    λ p mem. puts s_from_status _ _ _ _ mem p _ c.put_s-in-1.ensures (rw (c.requires.coded, j, k)) (rw c.status.ensures)

pub returns-in_default : goal.returns-in_default
unfolding code_of
returns-in_default c =
    let l : 2 ≤ j_of c.args.x * 8 + k_of c.args.x = omega arith in
    λ p mem. not-held _ mem p _ (rw c.requires.coded (beyond _ _ l))
