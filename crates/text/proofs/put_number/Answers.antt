use Rattle.std.proofs.Common.{sym, arith}
use Rattle.text.proofs.Writing.{width-max, wrote-number}
use Rattle.text.proofs.put_number.Goals as goal

pub returns : goal.returns
returns c = (wrote-number c.args.base c.args.least c.args.n (rw (width-max, ← c.places.ensures.0) (sym c.max-width.ensures)) c.put_digits.ensures, omega arith)
