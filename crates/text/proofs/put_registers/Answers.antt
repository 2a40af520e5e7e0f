use native.Mathlib.Omega.{arith}
use Rattle.machine.specs.Layout.{part, registers_of}
use Rattle.text.specs.Report.{register_lines}
use Rattle.text.proofs.Writing.{then}
use Rattle.text.proofs.put_registers.Goals as goal

pub returns : goal.returns
unfolding register_lines registers_of part
returns c =
    (then c.put_eight-second.ensures.0 c.put_eight.ensures.0, omega (arith, c.put_eight-second.ensures.1, c.put_eight.ensures.1))
