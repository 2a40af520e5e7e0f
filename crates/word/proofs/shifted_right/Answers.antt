use Rattle.std.proofs.Common.{sym}
use Rattle.machine.specs.Word.{shift_right}
use Rattle.word.proofs.Laws.{right-past}
use Rattle.word.proofs.shifted_right.Goals as goal

pub returns-else-n-lt64 : goal.returns-else-n-lt64
unfolding shift_right
returns-else-n-lt64 c = sym (right-past _ c.ranges.x.fits c.if-n-lt64.false)
