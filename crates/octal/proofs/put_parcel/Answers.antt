use mathlib.Core.Path.{refl}
use Rattle.text.proofs.Writing.{wrote-digits}
use Rattle.octal.proofs.put_parcel.Goals as goal

pub returns : goal.returns
returns c = (wrote-digits 8 6 _ c.put_digits.ensures, refl)
