use Rattle.machine.proofs.Refusals.{some-number}
use Rattle.numbers.proofs.Left.{last-answered}
use Rattle.export.proofs.pulxarrid_turn.Goals as goal

pub returns-in-Ok : goal.returns-in-Ok
returns-in-Ok c = rw (← rw c.in-Ok.is at c.turn.ensures.call, c.kind_of_last-n.ensures, ← c.of_stray-s.ensures, last-answered c.in-Ok.turned.last)

pub returns-in-Err : goal.returns-in-Err
returns-in-Err c = rw (c.into.ensures, ← rw c.in-Err.is at c.turn.ensures.call, some-number c.in-Err.refusal)
