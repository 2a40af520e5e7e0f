use Rattle.machine.proofs.Refusals.{some-number}
use Rattle.export.proofs.pulxarrid_step.Goals as goal

pub returns-in-Ok : goal.returns-in-Ok
returns-in-Ok c = rw (← rw c.in-Ok.is at c.step.ensures.call, c.kind_of_answer-n.ensures, ← c.of_stray-s.ensures)

pub returns-in-Err : goal.returns-in-Err
returns-in-Err c = rw (c.into.ensures, ← rw c.in-Err.is at c.step.ensures.call, some-number c.in-Err.refusal)
