use native.Mathlib.Omega.{arith}
use Prim.Native.Nat.{◌≤◌}
use lib.ListN.{get_or-eq_default}
use Rattle.machine.specs.Act.{s_from_a, s_from_signed_a, act}
use Rattle.machine.specs.Codes.{code_of}
use Rattle.access.proofs.Leaf.{puts, not-held}
use Rattle.scalar.proofs.transmit.from_a.Goals as goal

pub returns-in-0 : goal.returns-in-0
unfolding code_of act
returns-in-0 c =
    λ p mem. puts s_from_a _ _ _ _ mem p _ c.put_s.ensures
    (rw (
      c.requires,
      ← c.j.ensures,
      c.in-0.is,
    )) (rw c.a_k.ensures)

pub returns-in-1 : goal.returns-in-1
unfolding code_of act
returns-in-1 c =
    λ p mem. puts s_from_signed_a _ _ _ _ mem p _ c.put_s-in-1.ensures
    (rw (
      c.requires,
      ← c.j.ensures,
      c.in-1.is,
    )) (rw (
      c.sign_extended.ensures,
      c.a_k-in-1.ensures,
    ))

pub returns-in_default : goal.returns-in_default
unfolding code_of
returns-in_default c = λ p mem.
    let h : 2 ≤ c.j.result = omega arith in
    not-held _ mem p _ (rw (c.requires, ← c.j.ensures, get_or-eq_default _ _ h))
