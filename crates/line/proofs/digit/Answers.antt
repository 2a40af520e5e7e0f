use Rattle.line.proofs.Octal.{octal-glyph}
use Rattle.line.proofs.digit.Goals as goal

pub returns : goal.returns
returns c = octal-glyph c.args.n
