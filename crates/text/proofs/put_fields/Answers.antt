use native.Mathlib.Omega.{arith}
use Rattle.machine.specs.Layout.{frame_of}
use Rattle.text.specs.Report.{field_lines}
use Rattle.text.proofs.Writing.{then}
use Rattle.text.proofs.put_fields.Goals as goal

pub returns : goal.returns
unfolding field_lines frame_of
returns c = (
  then (then (then c.put_line-second.ensures.0 c.put_line-third.ensures.0) c.put_line-fourth.ensures.0) c.put_line.ensures.0,
  omega (arith, c.put_line-second.ensures.1, c.put_line-third.ensures.1, c.put_line-fourth.ensures.1, c.put_line.ensures.1),
)
