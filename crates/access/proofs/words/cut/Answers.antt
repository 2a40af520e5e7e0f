use Rattle.access.proofs.words.cut.Goals as goal

pub returns-then-narrow : goal.returns-then-narrow
returns-then-narrow c = rw c.if-narrow.true

pub returns-else-narrow : goal.returns-else-narrow
returns-else-narrow c = rw c.if-narrow.false
