use mathlib.Core.Path.{◌∙◌}
use native.Mathlib.Omega.{arith}
use Rattle.text.proofs.Writing.{then, wrote_none, wrote_as}
use Rattle.octal.specs.Words.{words_text}
use Rattle.octal.proofs.Written.{words-next, words-done}
use Rattle.octal.proofs.put_words.Goals as goal

pub loop-k-preserved : goal.loop-k-preserved
loop-k-preserved c = (
  c.put_word-at.auto.out ∙ c.loop-k.invariant.0,
  omega (arith, c.put_word-at.ensures.1),
  λ m q w. c.loop-k.invariant.2 m q (wrote_as (words-next _ _ _ _ _
      c.loop-k-test.true c.word_at.ensures) (then
      c.put_word-at.ensures.0 w)),
)

pub returns-clause-wrote : goal.returns-clause-wrote
unfolding words_text
returns-clause-wrote c =
    rw (← c.words_for-n.ensures) (c.loop-k.invariant.2 _ _ (wrote_as (words-done _ _ _ _ c.loop-k-test.false) (wrote_none _ _)))
