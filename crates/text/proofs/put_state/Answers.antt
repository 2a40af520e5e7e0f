use native.Mathlib.Omega.{arith}
use Rattle.text.specs.Report.{state_lines}
use Rattle.text.proofs.Writing.{then}
use Rattle.text.proofs.put_state.Goals as goal

pub returns : goal.returns
unfolding state_lines
returns c = (
  then (then (then c.put_control-second.ensures.0 c.put_fields-third.ensures.0) c.put_program-fourth.ensures.0) c.put_registers.ensures.0,
  omega (arith, c.put_control-second.ensures.1, c.put_fields-third.ensures.1, c.put_program-fourth.ensures.1, c.put_registers.ensures.1),
)
