use borrow.Author.Tests.{ne_eqb}
use Rattle.machine.specs.Act.{vm_from_s, act}
use Rattle.machine.specs.Codes.{code_of}
use Rattle.access.proofs.Leaf.{puts, not-held}
use Rattle.control.proofs.set_mask.Goals as goal
use Rattle.control.proofs.set_mask.Goals.{else-i-eq0-via-then-i-eq0+else-k-eq0, else-i-eq0-via-else-i-eq0}

pub returns-then-k-eq0 : goal.returns-then-k-eq0
unfolding code_of act
returns-then-k-eq0 c =
    λ p mem. puts vm_from_s _ _ _ _ mem p _ c.put_control.ensures
    (rw (c.requires, ← c.i.ensures, c.if-i-eq0.true, ← c.k.ensures, c.if-k-eq0.true)) (rw c.s_j.ensures)

pub returns-else-i-eq0 : goal.returns-else-i-eq0
unfolding code_of
returns-else-i-eq0 c =
    λ p mem. not-held _ mem p _ (rw (c.requires, ← c.i.ensures)
    (elim c.else-i-eq0.branch [
      | else-i-eq0-via-then-i-eq0+else-k-eq0 w ↦ rw (w.if-i-eq0.true, ← w.k.ensures, ne_eqb _ _ w.if-k-eq0.false)
      | else-i-eq0-via-else-i-eq0 w ↦ simp (ne_eqb _ _ w.if-i-eq0.false)
    ]))
