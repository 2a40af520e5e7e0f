use Rattle.std.proofs.Common.{arith, le-leb}
use borrow.Author.Tests.{lt-leb}
use Rattle.machine.specs.Memory.{place_of}
use Rattle.machine.specs.Layout.{frame_of}
use Rattle.access.proofs.place_of.Goals as goal

pub overflow_mul-base : goal.overflow_mul-base
unfolding frame_of
overflow_mul-base c = record { fits = omega (arith, c.requires.bounds.0) }

pub overflow_mul-limit : goal.overflow_mul-limit
unfolding frame_of
overflow_mul-limit c = record { fits = omega (arith, c.requires.bounds.1) }

pub overflow_add-sum : goal.overflow_add-sum
unfolding frame_of
overflow_add-sum c = record { fits = omega (arith, c.word_at-w.ensures, c.requires.bounds) }

pub returns-then-below : goal.returns-then-below
unfolding place_of frame_of
returns-then-below c = rw (← c.word_at-w.ensures, c.if-below.true-raw)

pub returns-then-over : goal.returns-then-over
unfolding place_of frame_of
returns-then-over c = rw (← c.word_at-w.ensures, c.if-below.false-raw, c.if-over.true-raw)

pub returns-then-words-sum : goal.returns-then-words-sum
unfolding place_of frame_of
returns-then-words-sum c = rw (← c.word_at-w.ensures, c.if-below.false-raw, c.if-over.false-raw, le-leb _ _ c.if-words-sum.true)

pub returns : goal.returns
unfolding place_of frame_of
returns c = rw (← c.word_at-w.ensures, c.if-below.false-raw, c.if-over.false-raw, lt-leb _ _ c.if-words-sum.false)
