use Rattle.std.proofs.Common.{arith, le-leb}
use borrow.Author.Tests.{lt-leb}
use Rattle.access.proofs.words_in.Goals as goal
use Rattle.access.proofs.words_in.Goals.{then-limit-length, else-limit-length}

pub returns-then-low-high : goal.returns-then-low-high
returns-then-low-high c = elim c.if-limit-length.branch [
  | then-limit-length w ↦ rw (le-leb _ _ w.if-limit-length.true) (omega arith)
  | else-limit-length w ↦ rw (lt-leb _ _ w.if-limit-length.false) (omega arith)
]

pub returns-else-low-high : goal.returns-else-low-high
returns-else-low-high c = elim c.if-limit-length.branch [
  | then-limit-length w ↦ rw (le-leb _ _ w.if-limit-length.true) (omega arith)
  | else-limit-length w ↦ rw (lt-leb _ _ w.if-limit-length.false) (omega arith)
]
