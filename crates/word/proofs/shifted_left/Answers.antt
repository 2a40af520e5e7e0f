use Rattle.std.proofs.Common.{sym}
use Rattle.machine.specs.Word.{shift_left}
use Rattle.word.proofs.Laws.{left-past}
use Rattle.word.proofs.shifted_left.Goals as goal

pub returns-else-n-lt64 : goal.returns-else-n-lt64
unfolding shift_left
returns-else-n-lt64 c = sym (left-past _ 64 _ c.if-n-lt64.false)
