use mathlib.Core.Path.{refl, ◌∙◌, ap}
use Rattle.turns.proofs.Runs.{ended_as, run_is}
use Rattle.turns.proofs.run.run.Goals as goal

pub returns : goal.returns
returns c =
    rw c.ending_of.ensures (ap ended_as c.take-taken.ensures ∙ run_is _ _ _ _ _ _ refl)
