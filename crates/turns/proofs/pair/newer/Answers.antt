use mathlib.Core.Path.{refl}
use borrow.Author.Tests.{ne_eqb}
use Rattle.turns.proofs.pair.newer.Goals as goal

pub returns-then-at-eq0 : goal.returns-then-at-eq0
returns-then-at-eq0 c =
    rw (c.if-at-eq0.true, c.or.ensures) (refl, refl)

pub returns : goal.returns
returns c =
    rw (ne_eqb _ _ c.if-at-eq0.false, c.or-2.ensures) (refl, refl)
