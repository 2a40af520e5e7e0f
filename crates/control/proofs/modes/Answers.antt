use borrow.Author.Tests.{ne_eqb}
use native.Mathlib.Omega.{arith}
use Rattle.machine.specs.Act.{set_vl, act}
use Rattle.machine.specs.Codes.{code_of, code002}
use Rattle.access.proofs.Leaf.{puts, not-held}
use Rattle.control.proofs.modes.Goals as goal

pub returns-then-j-ne0 : goal.returns-then-j-ne0
unfolding code_of code002
returns-then-j-ne0 c =
    λ p mem. not-held _ mem p _ (rw (c.requires, ← c.j.ensures, ne_eqb _ _ c.if-j-ne0.true))

pub returns-then-i-eq0 : goal.returns-then-i-eq0
unfolding code_of code002 act
returns-then-i-eq0 c =
    λ p mem. puts set_vl _ _ _ _ mem p _ c.put_control.ensures
    (rw (c.requires, ← c.j.ensures, c.if-j-ne0.false, ← c.i-i.ensures, c.if-i-eq0.true)) (rw (c.vector_length.ensures, c.a_k.ensures))

pub returns-then-k-ne0 : goal.returns-then-k-ne0
unfolding code_of code002
returns-then-k-ne0 c =
    λ p mem. not-held _ mem p _ (rw (
      c.requires,
      ← c.j.ensures,
      c.if-j-ne0.false,
      ← c.i-i.ensures,
      ne_eqb _ _
          c.if-i-eq0.false,
      ← c.k.ensures,
      ne_eqb _ _ c.if-k-ne0.true,
    ))

pub set_mode-requires : goal.set_mode-requires
set_mode-requires c = (
  c.requires,
  rw (
    ← c.j.ensures,
    c.if-j-ne0.false,
  ),
  rw (← c.k.ensures, c.if-k-ne0.false),
  omega (
    arith,
    c.i-i.ensures,
    c.if-i-eq0.false,
  ),
)

pub returns : goal.returns
returns c = c.set_mode.ensures
