use Rattle.std.proofs.Common.{arith}
use Rattle.text.proofs.Writing.{then, wrote_none, wrote_as, words-next, words-done}
use Rattle.text.proofs.put_changes.Goals as goal

pub loop-a-preserved : goal.loop-a-preserved
loop-a-preserved c = (
  omega (arith, c.put_change-to.ensures.1),
  λ m q w. c.loop-a.invariant.1 m q (wrote_as (words-next _ _ _ _ c.loop-a-test.true) (then c.put_change-to.ensures.0 w)),
)

pub returns : goal.returns
returns c = c.loop-a.invariant.1 _ _ (wrote_as (words-done _ _ _ _ c.loop-a-test.false) (wrote_none _ _))
