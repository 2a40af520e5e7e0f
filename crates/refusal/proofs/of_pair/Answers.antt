use native.Mathlib.Omega.{arith}
use borrow.Author.Tests.{lt-ltb, le-ltb}
use Rattle.machine.specs.Refusal.{pair_refusal, first_due}
use Rattle.machine.specs.Layout.{frame_of}
use Rattle.refusal.proofs.Laws.{list-test}
use Rattle.refusal.proofs.of_pair.Goals as goal

pub returns-then-not-memory_fits : goal.returns-then-not-memory_fits
unfolding pair_refusal first_due
returns-then-not-memory_fits c = rw (← c.memory_fits.ensures, c.if-not-memory_fits.true-raw)

pub returns-then-not-first-second : goal.returns-then-not-first-second
unfolding pair_refusal first_due frame_of
returns-then-not-first-second c =
    rw (← c.half-first.ensures, ← c.half-second.ensures, ← c.memory_fits.ensures, c.if-not-memory_fits.false-raw, c.if-not-first-second.true-raw)

pub returns-then-schedule-gt65536 : goal.returns-then-schedule-gt65536
unfolding pair_refusal first_due frame_of
returns-then-schedule-gt65536 c =
    rw (
      ← c.half-first.ensures,
      ← c.half-second.ensures,
      ← c.memory_fits.ensures,
      c.if-not-memory_fits.false-raw,
      c.if-not-first-second.false-raw,
      lt-ltb _ _ c.if-schedule-gt65536.true,
    )

pub returns-then-joined_bytes-gt1 : goal.returns-then-joined_bytes-gt1
unfolding pair_refusal first_due frame_of
returns-then-joined_bytes-gt1 c =
    rw (
      ← c.half-first.ensures,
      ← c.half-second.ensures,
      ← c.memory_fits.ensures,
      c.if-not-memory_fits.false-raw,
      c.if-not-first-second.false-raw,
      le-ltb _ _ c.if-schedule-gt65536.false,
      ← list-test 1 _ _ c.joined_bytes.ensures,
      le-ltb _ _ c.if-joined_bytes-gt1.true,
    )

pub returns-then-not-numbers_fit : goal.returns-then-not-numbers_fit
unfolding pair_refusal first_due frame_of
returns-then-not-numbers_fit c =
    rw (
      ← c.half-first.ensures,
      ← c.half-second.ensures,
      ← c.memory_fits.ensures,
      c.if-not-memory_fits.false-raw,
      c.if-not-first-second.false-raw,
      le-ltb _ _ c.if-schedule-gt65536.false,
      ← list-test 1 _ _ c.joined_bytes.ensures,
      lt-ltb c.joined_bytes.result 2 (omega arith),
      ← c.numbers_fit.ensures,
      ← c.numbers_fit-2.ensures,
      c.if-not-numbers_fit.true-raw,
    )

pub returns : goal.returns
unfolding pair_refusal first_due frame_of
returns c =
    rw (
      ← c.half-first.ensures,
      ← c.half-second.ensures,
      ← c.memory_fits.ensures,
      c.if-not-memory_fits.false-raw,
      c.if-not-first-second.false-raw,
      le-ltb _ _ c.if-schedule-gt65536.false,
      ← list-test 1 _ _ c.joined_bytes.ensures,
      lt-ltb c.joined_bytes.result 2 (omega arith),
      ← c.numbers_fit.ensures,
      ← c.numbers_fit-2.ensures,
      c.if-not-numbers_fit.false-raw,
    )
