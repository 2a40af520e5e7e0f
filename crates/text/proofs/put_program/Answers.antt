use native.Mathlib.Omega.{arith}
use Rattle.machine.specs.Layout.{frame_of}
use Rattle.text.specs.Report.{program_lines}
use Rattle.text.proofs.Writing.{then}
use Rattle.text.proofs.put_program.Goals as goal

pub returns : goal.returns
unfolding program_lines frame_of
returns c =
    (then c.put_line-second.ensures.0 c.put_line.ensures.0, omega (arith, c.put_line-second.ensures.1, c.put_line.ensures.1))
