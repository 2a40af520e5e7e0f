use Rattle.machine.proofs.Refusals.{some-number}
use Rattle.numbers.proofs.Left.{ending-answered}
use Rattle.export.proofs.pulxarrid_run.Goals as goal

pub returns-in-Ok : goal.returns-in-Ok
returns-in-Ok c = rw (← rw c.in-Ok.is at c.run.ensures.call, c.kind_of_ending-n.ensures, ← c.of_stray-s.ensures, ending-answered c.in-Ok.ran.ending)

pub returns-in-Err : goal.returns-in-Err
returns-in-Err c = rw (c.into.ensures, ← rw c.in-Err.is at c.run.ensures.call, some-number c.in-Err.refusal)
