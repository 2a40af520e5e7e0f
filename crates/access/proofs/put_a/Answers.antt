use Rattle.std.proofs.Common.{refl}
use Rattle.access.proofs.put_a.Goals as goal

pub returns : goal.returns
returns c = (refl, rw (← c.i.ensures) c.set_a.ensures)
