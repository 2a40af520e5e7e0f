use borrow.Author.Tests.{ne_eqb}
use Rattle.machine.specs.Act.{a_zeros, act}
use Rattle.machine.specs.Codes.{code_of}
use Rattle.access.proofs.Leaf.{puts, not-held}
use Rattle.address.proofs.zeros.Goals as goal

pub returns-then-k-eq0 : goal.returns-then-k-eq0
unfolding code_of act
returns-then-k-eq0 c =
    λ p mem. puts a_zeros _ _ _ _ mem p _ c.put_a.ensures
    (rw (
      c.requires,
      ← c.k.ensures,
      c.if-k-eq0.true,
    )) (rw (
      c.count_zeros.ensures,
      c.s_j.ensures,
    ))

pub returns-else-k-eq0 : goal.returns-else-k-eq0
unfolding code_of
returns-else-k-eq0 c = λ p mem. not-held _ mem p _ (rw (c.requires, ← c.k.ensures, ne_eqb _ _ c.if-k-eq0.false))
