use native.Mathlib.Omega.{arith}
use Rattle.text.proofs.Writing.{then}
use Rattle.text.proofs.put_eight.Goals as goal

pub returns : goal.returns
returns c = (
  then (then c.put_text-value.ensures.0
      c.put_list-end.ensures.0) c.put_text.ensures.0,
  omega (
    arith,
    c.put_text-value.ensures.1,
    c.put_list-end.ensures.1,
    c.put_text.ensures.1,
  ),
)
