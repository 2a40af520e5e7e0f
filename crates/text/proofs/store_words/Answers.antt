use Rattle.std.proofs.Common.{sym, ◌∙◌}
use Rattle.text.proofs.Reading.{stored_next, stored-done}
use Rattle.text.proofs.store_words.Goals as goal

pub loop-k-preserved : goal.loop-k-preserved
loop-k-preserved c =
    c.loop-k.invariant ∙ stored_next _ _ _ _ _ c.loop-k-test.true
    ∙ simp (← c.hex_number-address.ensures, ← c.hex_number-word.ensures, c.store.ensures)

pub returns : goal.returns
returns c = sym (c.loop-k.invariant ∙ stored-done _ _ _ _ _ c.loop-k-test.false)
