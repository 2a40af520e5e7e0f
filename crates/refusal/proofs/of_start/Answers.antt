use borrow.Author.Tests.{lt-ltb, le-ltb}
use Rattle.machine.specs.Refusal.{start_refusal, first_due}
use Rattle.refusal.proofs.of_start.Goals as goal

pub returns-then-not-memory_fits : goal.returns-then-not-memory_fits
unfolding start_refusal first_due
returns-then-not-memory_fits c = rw (← c.memory_fits.ensures, c.if-not-memory_fits.true-raw)

pub returns-then-package-gt255 : goal.returns-then-package-gt255
unfolding start_refusal first_due
returns-then-package-gt255 c = rw (← c.memory_fits.ensures, c.if-not-memory_fits.false-raw, lt-ltb _ _ c.if-package-gt255.true)

pub returns-then-processor-gt1 : goal.returns-then-processor-gt1
unfolding start_refusal first_due
returns-then-processor-gt1 c =
    rw (← c.memory_fits.ensures, c.if-not-memory_fits.false-raw, le-ltb _ _ c.if-package-gt255.false, lt-ltb _ _ c.if-processor-gt1.true)

pub returns : goal.returns
unfolding start_refusal first_due
returns c =
    rw (← c.memory_fits.ensures, c.if-not-memory_fits.false-raw, le-ltb _ _ c.if-package-gt255.false, le-ltb _ _ c.if-processor-gt1.false)
