use mathlib.Core.Path.{refl, sym, ◌∙◌}
use native.Mathlib.Omega.{arith}
use Rattle.turns.proofs.Pairs.{turning, turned-out, last_step, both, memory-long, next-step, not-true, not-false}
use borrow.Author.Rules.{rules}
use Rattle.std.specs.Prelude.{None}
use Rattle.turns.proofs.pair.take_schedule.Goals as goal

pub take-burst-requires : goal.take-burst-requires
take-burst-requires c =
    record {
      schedule = (c.requires.schedule, omega arith);
      both = c.requires.both;
    }

pub loop-burst-init : goal.loop-burst-init
loop-burst-init c =
    record { size = search rules; long = refl; coming = c.take-burst.ensures.coming; rest = refl }

pub stray_at-stray-requires : goal.stray_at-stray-requires
stray_at-stray-requires c =
    record {
      side = c.loop-burst.invariant.coming.side;
      bounds = (c.loop-burst.invariant.coming.fitting.frame.dba, c.loop-burst.invariant.coming.fitting.frame.dla);
    }

pub finish_at-answer-requires : goal.finish_at-answer-requires
finish_at-answer-requires c =
    record {
      side = c.loop-burst.invariant.coming.side;
      fitting = c.loop-burst.invariant.coming.fitting;
      p_bound = (c.loop-burst.invariant.coming.narrow, c.loop-burst.invariant.coming.work);
    }

pub overflow_add-result : goal.overflow_add-result
overflow_add-result c =
    omega (arith, c.count_of.ensures.1, c.loop-burst.invariant.coming.steps, c.requires.schedule)

pub shape_of-mem-then-not-answer_goes : goal.shape_of-mem-then-not-answer_goes
shape_of-mem-then-not-answer_goes c =
    search (rules, c.loop-burst.invariant.long)

pub returns-then-not-answer_goes : goal.returns-then-not-answer_goes
returns-then-not-answer_goes c =
    rw c.count_of.ensures.0 (last_step _ _ _ _ _ _ _ _ _ _ _ _ c.loop-burst.invariant c.loop-burst-test.true
    c.stray_at-stray.ensures c.finish_at-answer.ensures.finished c.finish_at-answer.ensures.pair_unchanged
    (search (rules, c.loop-burst.invariant.size))
    c.newer-strays.ensures.0 c.newer-strays.ensures.1 (sym c.answer_goes.ensures ∙ not-true _ c.if-not-answer_goes.true-raw) ∙ c.take-burst.ensures.run None None)

pub overflow_add-n : goal.overflow_add-n
overflow_add-n c =
    omega (arith, c.loop-burst-test.true, c.requires.schedule)

pub take-burst-requires-in-loop-burst : goal.take-burst-requires-in-loop-burst
take-burst-requires-in-loop-burst c =
    record {
      schedule = (c.requires.schedule, omega (arith, c.loop-burst-test.true));
      both = both _ _ _ _ _ _ _ _ _ _ _ _ c.loop-burst.invariant c.loop-burst-test.true c.stray_at-stray.ensures
          c.finish_at-answer.ensures.finished c.finish_at-answer.ensures.pair_unchanged
          (search (rules, c.loop-burst.invariant.size))
          c.newer-strays.ensures.0 c.newer-strays.ensures.1;
    }

pub loop-burst-smaller : goal.loop-burst-smaller
loop-burst-smaller c =
    omega (arith, c.take-burst-in-loop-burst.ensures.least, c.take-burst-in-loop-burst.ensures.coming.steps, c.loop-burst-test.true)

pub loop-burst-preserved : goal.loop-burst-preserved
loop-burst-preserved c =
    turning _ _ _ _ _ _ _ _ _ _ c.take-burst-in-loop-burst.ensures (search (rules, c.loop-burst.invariant.size))
    (memory-long _ _ _ _ _ _ _ _ _ _ _ _ c.loop-burst.invariant c.loop-burst-test.true c.stray_at-stray.ensures
    c.finish_at-answer.ensures.finished c.finish_at-answer.ensures.pair_unchanged (search (rules, c.loop-burst.invariant.size))
    c.newer-strays.ensures.0 c.newer-strays.ensures.1)
    (next-step _ _ _ _ _ _ _ _ _ _ _ _ c.loop-burst.invariant c.loop-burst-test.true c.stray_at-stray.ensures
    c.finish_at-answer.ensures.finished c.finish_at-answer.ensures.pair_unchanged (search (rules, c.loop-burst.invariant.size))
    c.newer-strays.ensures.0 c.newer-strays.ensures.1 (sym c.answer_goes.ensures ∙ not-false _ c.if-not-answer_goes.false-raw))

pub keep_p-requires : goal.keep_p-requires
keep_p-requires c =
    c.loop-burst.invariant.coming.side

pub shape_of-mem : goal.shape_of-mem
shape_of-mem c =
    search (rules, c.loop-burst.invariant.long)

pub returns : goal.returns
returns c =
    turned-out _ _ _ _ _ _ _ _ _ _ c.loop-burst.invariant c.loop-burst-test.false c.keep_p.ensures.pair_after c.keep_p.ensures.pair_unchanged refl c.last_after.ensures
    ∙ c.take-burst.ensures.run None None
