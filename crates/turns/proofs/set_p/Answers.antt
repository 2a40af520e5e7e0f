use Rattle.std.proofs.Common.{rules}
use Rattle.turns.proofs.Steps.{set_p}
use Rattle.turns.proofs.set_p.Goals as goal

pub returns : goal.returns
returns c = set_p c.args.p _ (search rules)
