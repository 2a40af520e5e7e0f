use mathlib.Core.Path.{◌∙◌}
use Rattle.assembly.proofs.Same.{starts-begins}
use Rattle.assembly.proofs.is_same.Goals as goal

pub returns : goal.returns
returns c = c.starts_with.ensures.value ∙ starts-begins c.args.text.now c.args.line.now
