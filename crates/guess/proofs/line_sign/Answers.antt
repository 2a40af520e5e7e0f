use native.Mathlib.Omega.{arith}
use borrow.Author.Tests.{ne_eqb}
use Rattle.spelling.specs.Candidate.{told}
use Rattle.guess.proofs.Told.{seen}
use Rattle.guess.proofs.line_sign.Goals as goal

pub returns-then-line-eq49 : goal.returns-then-line-eq49
unfolding told
returns-then-line-eq49 c =
    (rw (seen c.args.line.now 0 c.told-line (omega arith), c.in-73.is, seen c.args.line.now 3 c.told-line (omega arith), c.if-line-eq49.true), omega arith)

pub returns-else-line-eq49 : goal.returns-else-line-eq49
unfolding told
returns-else-line-eq49 c = (
  rw (seen c.args.line.now 0 c.told-line (omega arith), c.in-73.is, seen c.args.line.now 3 c.told-line (omega arith), ne_eqb _ _ c.if-line-eq49.false),
  omega arith,
)

pub returns-in-77 : goal.returns-in-77
unfolding told
returns-in-77 c = (rw (seen c.args.line.now 0 c.told-line (omega arith), c.in-77.is), omega arith)

pub returns-then-line-eq65 : goal.returns-then-line-eq65
unfolding told
returns-then-line-eq65 c =
    (rw (seen c.args.line.now 0 c.told-line (omega arith), c.in-80.is, seen c.args.line.now 1 c.told-line (omega arith), c.if-line-eq65.true), omega arith)

pub returns-else-line-eq65 : goal.returns-else-line-eq65
unfolding told
returns-else-line-eq65 c = (
  rw (seen c.args.line.now 0 c.told-line (omega arith), c.in-80.is, seen c.args.line.now 1 c.told-line (omega arith), ne_eqb _ _ c.if-line-eq65.false),
  omega arith,
)

pub returns-then-line-eq84 : goal.returns-then-line-eq84
unfolding told
returns-then-line-eq84 c =
    (rw (seen c.args.line.now 0 c.told-line (omega arith), c.in-82.is, seen c.args.line.now 1 c.told-line (omega arith), c.if-line-eq84.true), omega arith)

pub returns-else-line-eq84 : goal.returns-else-line-eq84
unfolding told
returns-else-line-eq84 c = (
  rw (seen c.args.line.now 0 c.told-line (omega arith), c.in-82.is, seen c.args.line.now 1 c.told-line (omega arith), ne_eqb _ _ c.if-line-eq84.false),
  omega arith,
)

pub returns-in-88 : goal.returns-in-88
unfolding told
returns-in-88 c = (rw (seen c.args.line.now 0 c.told-line (omega arith), c.in-88.is), omega arith)

pub returns-in_default : goal.returns-in_default
unfolding told
returns-in_default c = (
  rw (
    seen c.args.line.now 0 c.told-line (omega arith),
    ne_eqb _ _ c.in_default.in_default-own.rest.0.0.0.0.0.0.0.0.0.0.0.0.0.0.1,
    ne_eqb _ _ c.in_default.in_default-own.rest.0.0.0.0.0.0.0.0.0.0.0.0.0.1,
    ne_eqb _ _ c.in_default.in_default-own.rest.0.0.0.0.0.0.0.0.0.0.0.0.1,
    ne_eqb _ _ c.in_default.in_default-own.rest.0.0.0.0.0.0.0.0.0.0.0.1,
    ne_eqb _ _ c.in_default.in_default-own.rest.0.0.0.0.0.0.0.0.0.0.1,
    ne_eqb _ _ c.in_default.in_default-own.rest.0.0.0.0.0.0.0.0.0.1,
    ne_eqb _ _ c.in_default.in_default-own.rest.0.0.0.0.0.0.0.0.1,
    ne_eqb _ _ c.in_default.in_default-own.rest.0.0.0.0.0.0.0.1,
    ne_eqb _ _ c.in_default.in_default-own.rest.0.0.0.0.0.0.1,
    ne_eqb _ _ c.in_default.in_default-own.rest.0.0.0.0.0.1,
    ne_eqb _ _ c.in_default.in_default-own.rest.0.0.0.0.1,
    ne_eqb _ _ c.in_default.in_default-own.rest.0.0.0.1,
    ne_eqb _ _ c.in_default.in_default-own.rest.0.0.1,
    ne_eqb _ _ c.in_default.in_default-own.rest.0.1,
    ne_eqb _ _ c.in_default.in_default-own.rest.1,
  ),
  omega arith,
)
