use Rattle.std.proofs.Common.{arith}
use Rattle.access.proofs.Places.{to-element}
use Rattle.access.proofs.set_element.Goals as goal

pub returns : goal.returns
returns c = to-element _ _ _ _ (omega arith) (omega arith)
