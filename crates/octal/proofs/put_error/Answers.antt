use native.Mathlib.Omega.{arith}
use Rattle.octal.proofs.Written.{error-line}
use Rattle.octal.proofs.put_error.Goals as goal

pub returns-in-BadLine : goal.returns-in-BadLine
returns-in-BadLine c = (
  error-line c.in-BadLine.is c.number.ensures c.put_refused-at.ensures.0 c.put_line.ensures.0,
  omega (arith, c.put_refused-at.ensures.1, c.put_line.ensures.1),
)
