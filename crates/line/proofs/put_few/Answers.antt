use mathlib.Core.Path.{◌∙◌, ap}
use mathlib.Core.List.{List, ◌++◌}
use Prim.Native.Nat.{ℕ, ◌/◌}
use native.Mathlib.Omega.{arith}
use lib.ListN.{length, length-set}
use Rattle.text.specs.Digits.{digits}
use Rattle.text.proofs.Writing.{then, wrote_as, digits-length}
use Rattle.line.proofs.Octal.{shown-one, shown-two, shown-more, long-more, placed, wrote-digit}
use Rattle.line.proofs.put_few.Goals as goal

pub bounds-line-at : goal.bounds-line-at
bounds-line-at c =
    let long = ap length (shown-one c.args.n c.if-n-lt8.true) in
    omega (arith, long, c.requires)

pub returns-then-n-lt8 : goal.returns-then-n-lt8
returns-then-n-lt8 c = wrote_as (shown-one c.args.n c.if-n-lt8.true) (wrote-digit c.args.n _ c.digit.ensures)

pub put_two_digits-requires : goal.put_two_digits-requires
put_two_digits-requires c =
    let long = ap length (shown-two c.args.n c.if-n-lt8.false c.if-n-lt64.true) ∙ digits-length 8 2 c.args.n in
    omega (arith, long, c.requires)

pub returns-then-n-lt64 : goal.returns-then-n-lt64
returns-then-n-lt64 c =
    wrote_as (shown-two c.args.n c.if-n-lt8.false c.if-n-lt64.true)
    c.put_two_digits.ensures

pub put_two_digits-requires-then-n-lt512 : goal.put_two_digits-requires-then-n-lt512
put_two_digits-requires-then-n-lt512 c =
    let long = long-more c.args.n c.if-n-lt64.false in
    let one = ap length (shown-one (c.args.n / 64) (omega arith)) in
    simp length-set (omega (arith, long, one, c.requires))

pub returns-then-n-lt512 : goal.returns-then-n-lt512
returns-then-n-lt512 c =
    let text = shown-more c.args.n c.if-n-lt64.false ∙ ap (λ (l : List ℕ). l ++ digits 8 2 c.args.n) (shown-one (c.args.n / 64) (omega arith)) in
    wrote_as text (placed (then (wrote-digit (c.args.n / 64) _ c.digit-then-n-lt512.ensures)
    c.put_two_digits-then-n-lt512.ensures) (omega arith))

pub put_two_digits-requires-3 : goal.put_two_digits-requires-3
put_two_digits-requires-3 c =
    let long = long-more c.args.n c.if-n-lt64.false in
    let two = ap length (shown-two (c.args.n / 64) (omega arith) (omega arith)) ∙ digits-length 8 2 (c.args.n / 64) in
    omega (arith, long, two, c.put_two_digits-2.auto.line, c.requires)

pub returns : goal.returns
returns c =
    let text = shown-more c.args.n c.if-n-lt64.false ∙ ap (λ (l : List ℕ). l ++ digits 8 2 c.args.n) (shown-two (c.args.n / 64) (omega arith) (omega arith)) in
    wrote_as text (placed (then c.put_two_digits-2.ensures c.put_two_digits-3.ensures) (omega arith))
