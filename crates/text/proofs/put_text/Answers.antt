use Rattle.std.proofs.Common.{arith}
use Rattle.text.proofs.Writing.{text-next}
use Rattle.text.proofs.put_text.Goals as goal

pub loop-i-preserved : goal.loop-i-preserved
loop-i-preserved c = λ m q w. c.loop-i.invariant m q (text-next _ _ _ (omega arith) c.put_byte.ensures w)
