use Rattle.machine.specs.Refusal.{step_refusal, run_refusal, first_due}
use Rattle.refusal.proofs.of_step.Goals as goal

pub returns : goal.returns
unfolding step_refusal run_refusal first_due
returns c = c.of_run.ensures
