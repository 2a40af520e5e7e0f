use native.Mathlib.Omega.{arith}
use Rattle.text.proofs.Writing.{wrote_as}
use Rattle.desk.proofs.Columns.{one_is, two_are}
use Rattle.desk.proofs.put_taken.Goals as goal

pub returns-then-taken-lt2 : goal.returns-then-taken-lt2
returns-then-taken-lt2 c =
    let n = c.requires.2 in
    (wrote_as (one_is c.args.parcels.now c.requires.1 (omega (arith, n))) c.put_one.ensures.0, c.put_one.ensures.1)

pub returns : goal.returns
returns c =
    let n = c.requires.2 in
    (wrote_as (two_are c.args.parcels.now (omega (arith, n))) c.put_two.ensures.0, c.put_two.ensures.1)
