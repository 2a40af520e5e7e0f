use borrow.Author.Tests.{ne_eqb}
use Rattle.machine.specs.Act.{a_from_s, a_from_vl, act}
use Rattle.machine.specs.Codes.{code_of}
use Rattle.access.proofs.Leaf.{puts, not-held}
use Rattle.address.proofs.from_s_or_vl.Goals as goal
use Rattle.address.proofs.from_s_or_vl.Goals.{else-j-eq0-via-then-j-eq0+else-last-eq1, else-j-eq0-via-else-j-eq0}

pub returns-then-last-eq0 : goal.returns-then-last-eq0
unfolding code_of act
returns-then-last-eq0 c =
    λ p mem. puts a_from_s _ _ _ _ mem p _ c.put_a.ensures
    (rw (
      c.requires,
      ← c.k-last.ensures,
      c.if-last-eq0.true,
    )) (rw c.s_j.ensures)

pub returns-then-last-eq1 : goal.returns-then-last-eq1
unfolding code_of act
returns-then-last-eq1 c =
    λ p mem. puts a_from_vl _ _ _ _ mem p _ c.put_a-then-last-eq1.ensures
    (rw (
      c.requires,
      ← c.k-last.ensures,
      ← c.j.ensures,
      c.if-j-eq0.true,
      c.if-last-eq1.true-raw,
    ) (simp
    (ne_eqb _ _ c.if-last-eq0.false))) (rw c.vl.ensures)

pub returns : goal.returns
unfolding code_of
returns c =
    λ p mem. not-held _ mem p _ (rw (c.requires, ← c.k-last.ensures, ← c.j.ensures)
    (simp (ne_eqb _ _ c.if-last-eq0.false) (elim c.else-j-eq0.branch [
      | else-j-eq0-via-then-j-eq0+else-last-eq1 w ↦ rw (w.if-j-eq0.true, w.if-last-eq1.false-raw)
      | else-j-eq0-via-else-j-eq0 w ↦ simp (ne_eqb _ _ w.if-j-eq0.false)
    ])))
