use native.Mathlib.Omega.{arith}
use Rattle.text.specs.Report.{outside_line}
use Rattle.text.proofs.put_outside.Goals as goal

pub returns-in-None : goal.returns-in-None
unfolding outside_line
returns-in-None c =
    (rw c.in-None.is c.put_text.ensures.0, omega (arith, c.put_text.ensures.1))

pub returns-in-Some : goal.returns-in-Some
unfolding outside_line
returns-in-Some c =
    (rw c.in-Some.is c.put_stray.ensures.0, c.put_stray.ensures.1)
