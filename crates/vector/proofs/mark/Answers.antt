use Prim.Native.Nat.{◌≤◌}
use native.Mathlib.Omega.{arith}
use lib.ListN.{get_or-eq_default}
use borrow.Author.Tests.{ne_eqb}
use Rattle.machine.specs.Codes.{code_of}
use Rattle.access.proofs.Leaf.{not-held}
use Rattle.vector.proofs.mark.Goals as goal

pub returns-then-i-ne0 : goal.returns-then-i-ne0
unfolding code_of
returns-then-i-ne0 c =
    λ p mem. not-held _ mem p _ (rw (c.requires.1, ← c.i.ensures, ne_eqb _ _ c.if-i-ne0.true))

pub returns-in_default : goal.returns-in_default
unfolding code_of
returns-in_default c =
    let h : 4 ≤ c.k.result = omega arith in
    λ p mem. not-held _ mem p _ (rw (c.requires.1, ← c.i.ensures, c.if-i-ne0.false, ← c.k.ensures, get_or-eq_default _ _ h))
