use mathlib.Core.Path.{refl}
use native.Mathlib.Omega.{arith}
use Rattle.spelling.specs.Words.{signs}
use Rattle.line.proofs.Octal.{wrote-copy, wrote-data}
use Rattle.line.proofs.put_data.Goals as goal

pub returns : goal.returns
returns c =
    let name = wrote-copy (signs "data=") (omega (arith, c.requires)) (omega arith) c.copy_from_slice.ensures.after in
    (wrote-data c.args.x name c.put_two_digits.ensures c.put_two_digits-2.ensures c.put_two_digits-3.ensures, refl)
