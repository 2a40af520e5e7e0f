use mathlib.Core.Path.{◌∙◌}
use native.Mathlib.Omega.{arith}
use Rattle.spelling.specs.Candidate.{guess_with}
use Rattle.guess.proofs.Laws.{plan-read, some-kind}
use Rattle.guess.proofs.Plans.guess_with.Goals as goal

pub returns-in_default : goal.returns-in_default
unfolding guess_with
returns-in_default c =
    rw (
      plan-read c.requires _ c.args.self.now.are_plans (omega arith) _,
      ← c.digit.ensures.0,
      ← c.digit-2.ensures.0,
      ← c.digit-3.ensures.0,
      ← c.digit-4.ensures.0,
      c.in_default.is,
    ) c.one.ensures

pub returns : goal.returns
unfolding guess_with
returns c =
    c.with_number.ensures
    ∙ rw (
      plan-read c.requires _ c.args.self.now.are_plans (omega arith) _,
      ← c.digit.ensures.0,
      ← c.digit-2.ensures.0,
      ← c.digit-3.ensures.0,
      ← c.digit-4.ensures.0,
      c.in-Some.is,
      some-kind c.in-Some.kind,
      c.number.ensures.number.0,
      c.number.ensures.after.0,
    )
