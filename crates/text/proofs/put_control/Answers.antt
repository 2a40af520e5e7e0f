use native.Mathlib.Omega.{arith}
use Rattle.machine.specs.Layout.{registers_of}
use Rattle.text.specs.Report.{control_lines}
use Rattle.text.proofs.Writing.{then}
use Rattle.text.proofs.put_control.Goals as goal

pub returns : goal.returns
unfolding control_lines registers_of
returns c = (
  then (then (then c.put_line-second.ensures.0 c.put_line-third.ensures.0) c.put_line-fourth.ensures.0)
      (rw c.modes.ensures at c.put_line.ensures.0),
  omega (arith, c.put_line-second.ensures.1, c.put_line-third.ensures.1, c.put_line-fourth.ensures.1, c.put_line.ensures.1),
)
