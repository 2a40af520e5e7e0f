use mathlib.Core.Path.{refl}
use native.Mathlib.Omega.{arith}
use lib.ListN.{length-set}
use Rattle.text.specs.Digits.{digits}
use Rattle.line.proofs.Octal.{register-long, wrote-register, placed, wrote-digit, wrote-two}
use Rattle.line.proofs.put_register.Goals as goal

pub bounds-line-at : goal.bounds-line-at
bounds-line-at c =
    let long = register-long c.args.letter c.args.number {wide = c.args.wide} refl in
    omega (arith, long, c.requires)

pub bounds-line-at-then-wide : goal.bounds-line-at-then-wide
bounds-line-at-then-wide c =
    let long = register-long c.args.letter c.args.number c.if-wide.true in
    simp length-set (omega (arith, long, c.requires))

pub bounds-line-at-then-wide-2 : goal.bounds-line-at-then-wide-2
bounds-line-at-then-wide-2 c =
    let long = register-long c.args.letter c.args.number c.if-wide.true in
    simp length-set (omega (arith, long, c.requires))

pub returns-then-wide : goal.returns-then-wide
returns-then-wide c =
    wrote-register c.args.letter c.args.number c.if-wide.true
    (placed (wrote-two c.args.number _ _ (omega arith) c.digit.ensures c.digit-then-wide.ensures) (omega arith))

pub bounds-line-at-2 : goal.bounds-line-at-2
bounds-line-at-2 c =
    let long = register-long c.args.letter c.args.number c.if-wide.false in
    simp length-set (omega (arith, long, c.requires))

pub returns : goal.returns
unfolding digits
returns c =
    wrote-register c.args.letter c.args.number c.if-wide.false (placed (wrote-digit c.args.number _ c.digit-2.ensures) (omega arith))
