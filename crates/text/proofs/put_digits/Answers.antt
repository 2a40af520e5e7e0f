use Rattle.std.proofs.Common.{sym, ◌∙◌}
use Rattle.text.proofs.Writing.{digits-next, digits-done}
use Rattle.text.proofs.put_digits.Goals as goal

pub loop-i-preserved : goal.loop-i-preserved
loop-i-preserved c = c.loop-i.invariant ∙ digits-next _ _ _ _ _ c.loop-i-test.true ∙ simp (← c.glyph.ensures, c.put_byte.ensures)

pub returns : goal.returns
returns c = sym (c.loop-i.invariant ∙ digits-done _ _ _ _ _ c.loop-i-test.false)
