use native.Mathlib.Omega.{arith}
use Rattle.text.specs.Report.{refused_of}
use Rattle.text.proofs.Writing.{then}
use Rattle.text.proofs.refused.Goals as goal

pub returns : goal.returns
unfolding refused_of
returns c =
    (then c.put_line-second.ensures.0 c.put_line.ensures.0, omega (arith, c.put_line-second.ensures.1, c.put_line.ensures.1))
