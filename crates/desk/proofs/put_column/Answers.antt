use mathlib.Core.Path.{◌≡◌}
use Prim.Native.Nat.{◌%◌}
use native.Mathlib.Omega.{arith}
use lib.ListN.{length}
use Rattle.text.specs.Digits.{shown}
use Rattle.text.proofs.Writing.{then, wrote_as}
use Rattle.desk.proofs.Columns.{address-most, column-is}
use Rattle.desk.proofs.put_column.Goals as goal

pub overflow_sub-n : goal.overflow_sub-n
overflow_sub-n c =
    omega (arith, c.put_number-n.ensures.0.place, address-most c.args.address)

pub returns : goal.returns
returns c =
    let e : c.put_number-n.result ≡ length (shown 8 1 (c.args.address % 16777216)) = omega
    (arith, c.put_number-n.ensures.0.place) in (
      wrote_as (column-is c.args.address _ e) (then c.put_blanks-first.ensures.0
          c.put_number.ensures.0),
      omega (
        arith,
        e,
        address-most c.args.address,
        c.put_blanks-first.ensures.1,
        c.put_number.ensures.0.place,
      ),
    )
