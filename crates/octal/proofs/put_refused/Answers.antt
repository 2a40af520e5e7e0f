use Rattle.octal.specs.Refusals.{refused_text}
use Rattle.octal.proofs.put_refused.Goals as goal

pub returns : goal.returns
unfolding refused_text
returns c = c.put_line.ensures
