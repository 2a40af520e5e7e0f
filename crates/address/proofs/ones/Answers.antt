use native.Mathlib.Omega.{arith}
use Prim.Native.Nat.{◌≤◌}
use lib.ListN.{get_or-eq_default}
use Rattle.machine.specs.Act.{a_ones, a_parity, act}
use Rattle.machine.specs.Codes.{code_of}
use Rattle.access.proofs.Leaf.{puts, not-held}
use Rattle.address.proofs.ones.Goals as goal

pub returns-in-0 : goal.returns-in-0
unfolding code_of act
returns-in-0 c =
    λ p mem. puts a_ones _ _ _ _ mem p _ c.put_a.ensures
    (rw (
      c.requires,
      ← c.k.ensures,
      c.in-0.is,
    )) (rw (
      c.count_ones.ensures,
      c.s_j.ensures,
    ))

pub returns-in-1 : goal.returns-in-1
unfolding code_of act
returns-in-1 c =
    λ p mem. puts a_parity _ _ _ _ mem p _ c.put_a-in-1.ensures
    (rw (
      c.requires,
      ← c.k.ensures,
      c.in-1.is,
    )) (rw (
      c.odd_ones.ensures,
      c.s_j-in-1.ensures,
    ))

pub returns-in_default : goal.returns-in_default
unfolding code_of
returns-in_default c = λ p mem.
    let h : 2 ≤ c.k.result = omega (arith, c.in_default.in_default-own.rest) in
    not-held _ mem p _ (rw (c.requires, ← c.k.ensures, get_or-eq_default _ _ h))
