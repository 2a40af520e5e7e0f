use mathlib.Core.Path.{sym, ◌∙◌}
use Rattle.turns.proofs.Runs.{still-fitting, came-spent, came-one, came-two, came-ended}
use borrow.Author.Rules.{rules}
use Rattle.turns.proofs.stretch.Goals as goal

pub returns-then-steps-budget : goal.returns-then-steps-budget
returns-then-steps-budget c =
    came-spent _ _ _ _ _ _ _ _ _ c.take_burst-burst.ensures c.requires.bounds.1 c.requires.fitting (search rules) _ (search rules) c.if-steps-budget.true c.set_p.ensures

pub finish-requires : goal.finish-requires
finish-requires c =
    record {
      fitting = still-fitting _ _ _ _ _ _ _ _ _ c.take_burst-burst.ensures c.requires.bounds.1 c.requires.fitting (search rules);
      p_bound = (c.take_burst-burst.ensures.narrow, c.take_burst-burst.ensures.work);
    }

pub returns-in-One : goal.returns-in-One
returns-in-One c =
    came-one _ _ _ _ _ _ _ _ _ c.take_burst-burst.ensures c.requires.bounds.1 c.requires.fitting (search rules)
    c.if-steps-budget.false (sym c.strays_of.ensures ∙ c.in-One.is)

pub returns-in-Two : goal.returns-in-Two
returns-in-Two c =
    came-two _ _ _ _ _ _ _ _ _ c.take_burst-burst.ensures c.requires.bounds.1 c.requires.fitting (search rules)
    c.if-steps-budget.false (sym c.strays_of.ensures ∙ c.in-Two.is)

pub returns-in-None : goal.returns-in-None
returns-in-None c =
    came-ended _ _ _ _ _ _ _ _ _ c.take_burst-burst.ensures c.requires.bounds.1 c.requires.fitting (search rules) c.if-steps-budget.false _ _ _ (search rules)
    (sym c.strays_of.ensures ∙ c.in-None.is) c.finish.ensures
