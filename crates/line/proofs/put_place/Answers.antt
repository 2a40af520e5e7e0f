use native.Mathlib.Omega.{arith}
use lib.ListN.{length-set}
use Rattle.line.proofs.Octal.{place-long, wrote-place}
use Rattle.line.proofs.put_place.Goals as goal

pub bounds-line-comma-2 : goal.bounds-line-comma-2
bounds-line-comma-2 c =
    let long = place-long c.args.offset c.args.register c.requires.0.1 in
    simp length-set (omega (arith, long, c.put_octal-comma.ensures.place, c.put_octal-comma.auto.line, c.requires))

pub bounds-line-comma-3 : goal.bounds-line-comma-3
bounds-line-comma-3 c =
    let long = place-long c.args.offset c.args.register c.requires.0.1 in
    simp length-set (omega (arith, long, c.put_octal-comma.ensures.place, c.put_octal-comma.auto.line, c.requires))

pub returns : goal.returns
returns c =
    wrote-place c.args.offset c.args.register _ c.requires.0.1 c.put_octal-comma.ensures c.digit.ensures
