use native.Mathlib.Omega.{arith}
use Rattle.text.proofs.Writing.{then}
use Rattle.text.proofs.put_line.Goals as goal

pub returns : goal.returns
returns c = (
  then (then c.put_text-value.ensures.0
      c.put_number-end.ensures.0) c.put_text.ensures.0,
  omega (
    arith,
    c.put_text-value.ensures.1,
    c.put_number-end.ensures.1,
    c.put_text.ensures.0.place,
  ),
)
