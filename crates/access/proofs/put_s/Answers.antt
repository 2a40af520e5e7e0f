use Rattle.std.proofs.Common.{refl}
use Rattle.access.proofs.put_s.Goals as goal

pub returns : goal.returns
returns c = (refl, rw (← c.i.ensures) c.set_s.ensures)
