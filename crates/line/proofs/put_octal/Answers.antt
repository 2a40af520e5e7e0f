use native.Mathlib.Omega.{arith}
use Rattle.text.proofs.Writing.{then, wrote_as}
use Rattle.line.proofs.Octal.{shown-many, placed}
use Rattle.line.proofs.put_octal.Goals as goal

pub returns : goal.returns
returns c =
    wrote_as (shown-many c.args.n c.if-n-lt4096.false) (placed (then (then c.put_few-end.ensures c.put_two_digits.ensures) c.put_two_digits-2.ensures) (omega arith))
