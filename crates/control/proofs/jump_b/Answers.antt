use mathlib.Core.Path.{refl}
use borrow.Author.Tests.{ne_eqb}
use Rattle.machine.specs.Act.{jump_b, act}
use Rattle.machine.specs.Codes.{code_of}
use Rattle.machine.specs.State.{apply}
use Rattle.machine.specs.Work.{perform}
use Rattle.access.proofs.Leaf.{one, not-held}
use Rattle.control.proofs.jump_b.Goals as goal

pub returns-then-i-eq0 : goal.returns-then-i-eq0
unfolding code_of act perform apply
returns-then-i-eq0 c =
    λ p mem. one _ _ _ mem _ p _ jump_b (rw (c.requires, ← c.i.ensures, c.if-i-eq0.true)) refl (rw c.b_jk.ensures)

pub returns-else-i-eq0 : goal.returns-else-i-eq0
unfolding code_of
returns-else-i-eq0 c =
    λ p mem. not-held _ mem p _ (rw (c.requires, ← c.i.ensures) (simp (ne_eqb _ _ c.if-i-eq0.false)))
