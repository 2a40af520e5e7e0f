use borrow.Author.Tests.{ne_eqb}
use Rattle.machine.specs.Codes.{code_of}
use Rattle.access.proofs.Leaf.{not-held}
use Rattle.dispatch.proofs.Arms.{moved_ends}
use Rattle.dispatch.proofs.store_v.Goals as goal

pub returns-then-i-ne0 : goal.returns-then-i-ne0
unfolding code_of
returns-then-i-ne0 c =
    λ p. not-held _ _ p _ (rw (c.requires.coded, ← c.i.ensures, ne_eqb _ _ c.if-i-ne0.true))

pub returns : goal.returns
returns c =
    moved_ends _ _ _ _ _ _ _ _ c.store_v.ensures c.moved.ensures
