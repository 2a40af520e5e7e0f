use Rattle.vector.proofs.Marks.{bit-of}
use Rattle.vector.proofs.mark_of.Goals as goal

pub returns-then-marked : goal.returns-then-marked
returns-then-marked c = rw c.if-marked.true (bit-of _ c.requires)
