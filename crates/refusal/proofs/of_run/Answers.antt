use borrow.Author.Tests.{lt-ltb, le-ltb}
use Rattle.machine.specs.Refusal.{run_refusal, first_due}
use Rattle.machine.specs.Layout.{frame_of}
use Rattle.refusal.proofs.of_run.Goals as goal

pub returns-then-not-memory_fits : goal.returns-then-not-memory_fits
unfolding run_refusal first_due
returns-then-not-memory_fits c = rw (← c.memory_fits.ensures, c.if-not-memory_fits.true-raw)

pub returns-then-budget-gt1000000 : goal.returns-then-budget-gt1000000
unfolding run_refusal first_due
returns-then-budget-gt1000000 c = rw (← c.memory_fits.ensures, c.if-not-memory_fits.false-raw, lt-ltb _ _ c.if-budget-gt1000000.true)

pub returns-then-r-gt1 : goal.returns-then-r-gt1
unfolding run_refusal first_due frame_of
returns-then-r-gt1 c =
    rw (← c.memory_fits.ensures, c.if-not-memory_fits.false-raw, le-ltb _ _ c.if-budget-gt1000000.false, lt-ltb _ _ c.if-r-gt1.true)

pub returns-then-not-numbers_fit : goal.returns-then-not-numbers_fit
unfolding run_refusal first_due frame_of
returns-then-not-numbers_fit c =
    rw (
      ← c.memory_fits.ensures,
      c.if-not-memory_fits.false-raw,
      le-ltb _ _ c.if-budget-gt1000000.false,
      le-ltb _ _ c.if-r-gt1.false,
      ← c.numbers_fit.ensures,
      c.if-not-numbers_fit.true-raw,
    )

pub returns : goal.returns
unfolding run_refusal first_due frame_of
returns c =
    rw (
      ← c.memory_fits.ensures,
      c.if-not-memory_fits.false-raw,
      le-ltb _ _ c.if-budget-gt1000000.false,
      le-ltb _ _ c.if-r-gt1.false,
      ← c.numbers_fit.ensures,
      c.if-not-numbers_fit.false-raw,
    )
