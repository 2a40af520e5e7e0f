use native.Mathlib.Omega.{arith}
use Rattle.text.proofs.Writing.{then}
use Rattle.desk.proofs.put_one.Goals as goal

pub returns : goal.returns
returns c = (
  then c.put_parcel-blank.ensures.0 c.put_blanks.ensures.0,
  omega (arith, c.put_parcel-blank.ensures.1, c.put_blanks.ensures.1),
)
