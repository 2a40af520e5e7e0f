use mathlib.Core.Path.{refl}
use Rattle.line.proofs.Octal.{wrote-two}
use Rattle.line.proofs.put_two_digits.Goals as goal

pub returns : goal.returns
returns c = wrote-two c.args.n _ _ refl c.digit.ensures c.digit-2.ensures
