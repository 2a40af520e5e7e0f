use mathlib.Core.Path.{refl}
use borrow.Author.Tests.{ne_eqb}
use Rattle.machine.specs.Act.{pass, set_xa, act}
use Rattle.machine.specs.Codes.{code_of, code001}
use Rattle.access.proofs.Leaf.{puts, puts-nothing, not-held}
use Rattle.control.proofs.privileged.Goals as goal

pub returns-then-passes : goal.returns-then-passes
unfolding code_of code001 act
returns-then-passes c =
    λ p mem. puts pass _ _ _ _ mem p _ (refl, puts-nothing _)
    (rw (
      c.requires,
      ← c.i.ensures,
      ne_eqb _ _ c.if-i-ne3.true,
      c.i.ensures,
      ← c.is_user-user.ensures,
      ← c.passes.ensures,
      c.if-passes.true,
    )) refl

pub returns-then-i-ne3 : goal.returns-then-i-ne3
unfolding code_of code001
returns-then-i-ne3 c =
    λ p mem. not-held _ mem p _
    (rw (
      c.requires,
      ← c.i.ensures,
      ne_eqb _ _ c.if-i-ne3.true,
      c.i.ensures,
      ← c.is_user-user.ensures,
      ← c.passes.ensures,
      c.if-passes.false,
    ))

pub returns-then-k-ne0 : goal.returns-then-k-ne0
unfolding code_of code001
returns-then-k-ne0 c =
    λ p mem. not-held _ mem p _ (rw (c.requires, ← c.i.ensures, c.if-i-ne3.false, ← c.k.ensures, ne_eqb _ _ c.if-k-ne0.true))

pub returns-then-user : goal.returns-then-user
unfolding code_of code001 act
returns-then-user c =
    λ p mem. puts pass _ _ _ _ mem p _ (refl, puts-nothing _)
    (rw (c.requires, ← c.i.ensures, c.if-i-ne3.false, ← c.k.ensures, c.if-k-ne0.false, ← c.is_user-user.ensures, c.if-user.true)) refl

pub returns : goal.returns
unfolding code_of code001 act
returns c =
    λ p mem. puts set_xa _ _ _ _ mem p _ c.put_control.ensures
    (rw (c.requires, ← c.i.ensures, c.if-i-ne3.false, ← c.k.ensures, c.if-k-ne0.false, ← c.is_user-user.ensures, c.if-user.false)) (rw c.a_j.ensures)
