use Rattle.std.proofs.Common.{le-ltb, lt-ltb}
use Rattle.memory.proofs.strays.count.Goals as goal

pub returns-then-x-lt64 : goal.returns-then-x-lt64
returns-then-x-lt64 c = rw (lt-ltb _ _ c.if-x-lt64.true, c.a_i.ensures)

pub returns-else-x-lt64 : goal.returns-else-x-lt64
returns-else-x-lt64 c = rw (le-ltb _ _ c.if-x-lt64.false) c.vl.ensures
