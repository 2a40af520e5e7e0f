use mathlib.Core.Path.{refl, sym, ◌∙◌}
use native.Mathlib.Omega.{arith}
use Rattle.turns.proofs.Runs.{untold, running, runs_on, over}
use Rattle.turns.proofs.take.Goals as goal

pub end-first-requires : goal.end-first-requires
end-first-requires c =
    record {
      fitting = c.stretch-start.ensures.fitting;
      sound = c.stretch-start.ensures.sound;
    }

pub loop-steps-init : goal.loop-steps-init
loop-steps-init c =
    let u = running _ _ _ _ _ _ _ _ _ _ _ c.args.through c.stretch-start.ensures c.end-first.ensures in
    record { fitting = u.fitting; p = u.p; long = refl; within = u.within; rest = refl }

pub stretch-came-requires : goal.stretch-came-requires
stretch-came-requires c =
    record {
      fitting = c.loop-steps.invariant.fitting;
      bounds = (c.loop-steps.invariant.p, omega (arith, c.requires.bounds.1));
    }

pub end-next-requires : goal.end-next-requires
end-next-requires c =
    record {
      fitting = c.stretch-came.ensures.fitting;
      sound = c.stretch-came.ensures.sound;
    }

pub overflow_add-steps : goal.overflow_add-steps
overflow_add-steps c =
    let u = runs_on _ _ _ _ _ _ _ _ _ _ _ _ _ _ _ _ _ c.loop-steps.invariant (omega (arith, c.loop-steps-test.true))
    (sym c.last_goes.ensures ∙ c.if-last_goes.true) c.stretch-came.ensures c.end-next.ensures in
    omega (arith, u.0.within, c.requires.bounds.1)

pub loop-steps-smaller : goal.loop-steps-smaller
loop-steps-smaller c =
    (runs_on _ _ _ _ _ _ _ _ _ _ _ _ _ _ _ _ _ c.loop-steps.invariant (omega (arith, c.loop-steps-test.true))
    (sym c.last_goes.ensures ∙ c.if-last_goes.true) c.stretch-came.ensures c.end-next.ensures).1

pub loop-steps-preserved : goal.loop-steps-preserved
loop-steps-preserved c =
    rw c.or-stray.ensures
    (runs_on _ _ _ _ _ _ _ _ _ _ _ _ _ _ _ _ _ c.loop-steps.invariant (omega (arith, c.loop-steps-test.true))
    (sym c.last_goes.ensures ∙ c.if-last_goes.true) c.stretch-came.ensures c.end-next.ensures).0

pub returns-else-last_goes : goal.returns-else-last_goes
returns-else-last_goes c =
    sym (over _ _ _ _ _ _ _ (λ z. absurd (untold (sym c.if-last_goes.false ∙ c.last_goes.ensures ∙ z)))) ∙ c.loop-steps.invariant.rest
    ∙ (running _ _ _ _ _ _ _ _ _ _ _ c.args.through c.stretch-start.ensures c.end-first.ensures).rest

pub returns-after-loop-steps : goal.returns-after-loop-steps
returns-after-loop-steps c =
    sym (over _ _ _ _ _ _ _ (λ z. omega (arith, c.loop-steps-test.false))) ∙ c.loop-steps.invariant.rest
    ∙ (running _ _ _ _ _ _ _ _ _ _ _ c.args.through c.stretch-start.ensures c.end-first.ensures).rest
