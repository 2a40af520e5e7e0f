use borrow.Author.Tests.{ne_eqb}
use Rattle.machine.specs.Codes.{code_of}
use Rattle.access.proofs.Leaf.{not-held}
use Rattle.dispatch.proofs.Arms.{moved_ends}
use Rattle.dispatch.proofs.read_v.Goals as goal

pub returns-then-j-ne0 : goal.returns-then-j-ne0
unfolding code_of
returns-then-j-ne0 c =
    λ p. not-held _ _ p _ (rw (c.requires.coded, ← c.j.ensures, ne_eqb _ _ c.if-j-ne0.true))

pub returns : goal.returns
returns c =
    moved_ends _ _ _ _ _ _ _ _ c.read_v.ensures c.moved.ensures
