use Rattle.exchange.proofs.Laws.{loads}
use Rattle.exchange.proofs.load_package.Goals as goal

pub returns : goal.returns
returns c =
    loads _ _ c.sixteen.result _ _ c.load.ensures c.sixteen.ensures
