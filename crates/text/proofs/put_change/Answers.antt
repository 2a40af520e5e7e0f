use native.Mathlib.Omega.{arith}
use borrow.Author.Tests.{eq-eqb, ne_eqb}
use Rattle.text.specs.Report.{change_text}
use Rattle.text.proofs.Writing.{then, wrote_none}
use Rattle.text.proofs.put_change.Goals as goal

pub returns-then-old-new : goal.returns-then-old-new
unfolding change_text
returns-then-old-new c = (rw (eq-eqb _ _ c.if-old-new.true) (wrote_none _ _), omega arith)

pub returns : goal.returns
unfolding change_text
returns c = (
  rw (ne_eqb _ _ c.if-old-new.false)
      (then c.put_number-equals.ensures.0 c.put_line.ensures.0),
  omega (arith, c.put_number-equals.ensures.1, c.put_line.ensures.1),
)
