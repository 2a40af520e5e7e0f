use mathlib.Core.Path.{refl, ap₂}
use mathlib.Core.List.{◌∷◌}
use Rattle.exchange.proofs.low_words.Goals as goal

pub returns : goal.returns
returns c = ap₂ ◌∷◌ refl (ap₂ ◌∷◌ refl (ap₂ ◌∷◌ c.vector_length.ensures refl))
