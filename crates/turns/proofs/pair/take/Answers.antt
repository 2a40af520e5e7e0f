use mathlib.Core.Path.{refl, sym, ◌∙◌}
use mathlib.Core.Logic.{inl}
use native.Mathlib.Omega.{arith}
use Rattle.turns.proofs.Pairs.{Named, begins, passed, stayed, goes_on_lem, ends, spent}
use borrow.Author.Rules.{rules}
use Rattle.turns.proofs.pair.take.Goals as goal
use Rattle.turns.proofs.pair.take.Goals.{then-schedule-n, else-schedule-n}

pub reach_at-first-requires : goal.reach_at-first-requires
reach_at-first-requires c =
    record {
      side = (omega arith, inl refl);
      fitting = c.requires.both.first;
    }

pub reach_at-second-requires : goal.reach_at-second-requires
reach_at-second-requires c =
    record {
      side = search rules;
      fitting = search (rules, c.requires.both.first, c.requires.both.second);
    }

pub loop-n-init : goal.loop-n-init
loop-n-init c =
    begins _ _ _ _ _ _ c.requires.schedule.1 (search rules) c.requires.both.first.least
    (record { first = c.reach_at-first.ensures; second = c.reach_at-second.ensures; narrow = c.requires.both.narrow })

pub pass-next-requires : goal.pass-next-requires
pass-next-requires c =
    c.loop-n.invariant.stands.side

pub step_at-w-requires : goal.step_at-w-requires
step_at-w-requires c =
    let here : Named _ _ _ _ _ _ _ _ _ _ c.loop-n.invariant c.if-schedule-n.pair c.if-schedule-n.next = elim c.if-schedule-n.branch [
      | then-schedule-n t ↦ passed _ _ _ _ _ _ _ _ _ _ c.loop-n.invariant _ _ _ _ t.pass-next.ensures.passes
          t.pass-next.ensures.at_value (search rules) t.pair-is t.next-is
      | else-schedule-n t ↦ stayed _ _ _ _ _ _ _ _ _ _ c.loop-n.invariant _ _ t.if-schedule-n.false t.pair-is t.next-is
    ] in
    let s = here.0.stands in record {
      side = s.side;
      ready = s.here;
      p_bound = s.narrow;
    }

pub returns-in_default : goal.returns-in_default
returns-in_default c =
    let here : Named _ _ _ _ _ _ _ _ _ _ c.loop-n.invariant c.if-schedule-n.pair c.if-schedule-n.next = elim c.if-schedule-n.branch [
      | then-schedule-n t ↦ passed _ _ _ _ _ _ _ _ _ _ c.loop-n.invariant _ _ _ _ t.pass-next.ensures.passes
          t.pass-next.ensures.at_value (search rules) t.pair-is t.next-is
      | else-schedule-n t ↦ stayed _ _ _ _ _ _ _ _ _ _ c.loop-n.invariant _ _ t.if-schedule-n.false t.pair-is t.next-is
    ] in
    ends _ _ _ _ _ _ _ _ _ _ _ _ _ here c.loop-n-test.true c.step_at-w.ensures.works c.step_at-w.ensures.pair_unchanged (search (rules, here.0.whole))
    (sym c.move_p.ensures ∙ c.in_default.is)

pub overflow_add-n : goal.overflow_add-n
overflow_add-n c =
    search (rules, c.loop-n-test.true, c.requires.schedule.0)

pub loop-n-preserved : goal.loop-n-preserved
loop-n-preserved c =
    let here : Named _ _ _ _ _ _ _ _ _ _ c.loop-n.invariant c.if-schedule-n.pair c.if-schedule-n.next = elim c.if-schedule-n.branch [
      | then-schedule-n t ↦ passed _ _ _ _ _ _ _ _ _ _ c.loop-n.invariant _ _ _ _ t.pass-next.ensures.passes
          t.pass-next.ensures.at_value (search rules) t.pair-is t.next-is
      | else-schedule-n t ↦ stayed _ _ _ _ _ _ _ _ _ _ c.loop-n.invariant _ _ t.if-schedule-n.false t.pair-is t.next-is
    ] in
    goes_on_lem _ _ _ _ _ _ _ _ _ _ _ _ _ here c.loop-n-test.true c.step_at-w.ensures.works c.step_at-w.ensures.pair_unchanged (search (rules, here.0.whole)) _
    (sym c.move_p.ensures ∙ c.in-Some.is)

pub returns : goal.returns
returns c =
    spent _ _ _ _ _ _ _ _ _ _ c.loop-n.invariant c.loop-n-test.false
