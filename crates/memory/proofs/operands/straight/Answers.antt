use Rattle.std.proofs.Common.{ne_eqb}
use Rattle.memory.specs.Moves.{straight_of}
use Rattle.memory.proofs.operands.straight.Goals as goal
use Rattle.memory.proofs.operands.straight.Goals.{else-row-eq1-via-then-row-eq1+then-row-le64+else-w-row}
use Rattle.memory.proofs.operands.straight.Goals.{else-row-eq1-via-then-row-eq1+else-row-le64, else-row-eq1-via-else-row-eq1}

pub returns-then-w-row : goal.returns-then-w-row
unfolding straight_of
returns-then-w-row c =
    rw (c.if-row-eq1.true, c.if-row-le64.true-raw, ← c.word_at-w.ensures, c.if-w-row.true-raw)

pub returns-else-row-eq1 : goal.returns-else-row-eq1
unfolding straight_of
returns-else-row-eq1 c = elim c.else-row-eq1.branch [
  | else-row-eq1-via-then-row-eq1+then-row-le64+else-w-row w ↦
      rw (w.if-row-eq1.true, w.if-row-le64.true-raw, ← c.word_at-w.ensures, w.if-w-row.false-raw)
  | else-row-eq1-via-then-row-eq1+else-row-le64 w ↦ rw (w.if-row-eq1.true, w.if-row-le64.false-raw)
  | else-row-eq1-via-else-row-eq1 w ↦ simp (ne_eqb _ _ w.if-row-eq1.false)
]
