use mathlib.Core.Path.{◌∙◌}
use Rattle.turns.proofs.Runs.{turn_is}
use Rattle.turns.proofs.turn.Goals as goal

pub returns : goal.returns
returns c =
    c.take.ensures ∙ turn_is _ _ _ _ _ _
