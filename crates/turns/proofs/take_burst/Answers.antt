use mathlib.Core.Path.{sym, ◌∙◌}
use Rattle.turns.proofs.Steps.{begins, goes_on_lem, ends, spent}
use borrow.Author.Rules.{rules}
use Rattle.turns.proofs.take_burst.Goals as goal

pub loop-left-init : goal.loop-left-init
loop-left-init c = begins _ _ _ _ _ c.requires.ready c.requires.from_bound

pub work-w-requires : goal.work-w-requires
work-w-requires c =
    record {
      ready = c.loop-left.invariant.ready;
      p_bound = c.loop-left.invariant.narrow;
    }

pub returns-in_default : goal.returns-in_default
returns-in_default c =
    ends _ _ _ _ _ _ _ _ _ _ _ _ c.loop-left.invariant c.loop-left-test.true c.work-w.ensures (search rules)
    (sym c.move_p.ensures ∙ c.in_default.is)

pub loop-left-preserved : goal.loop-left-preserved
loop-left-preserved c =
    goes_on_lem _ _ _ _ _ _ _ _ _ _ _ _ c.loop-left.invariant c.loop-left-test.true c.work-w.ensures (search rules) _ (sym c.move_p.ensures ∙ c.in-Some.is)

pub returns : goal.returns
returns c = spent _ _ _ _ _ _ _ _ _ c.loop-left.invariant c.loop-left-test.false
