use Rattle.std.proofs.Common.{sym, arith}
use Rattle.access.proofs.Places.{a_at}
use Rattle.access.proofs.a_i.Goals as goal

pub returns : goal.returns
returns c = rw (← c.i.ensures) (sym (a_at _ _ (omega arith)))
