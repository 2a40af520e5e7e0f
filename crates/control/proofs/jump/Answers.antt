use mathlib.Core.Path.{refl}
use borrow.Author.Tests.{lt-ltb, le-ltb}
use Rattle.machine.specs.Act.{jump, act}
use Rattle.machine.specs.Codes.{code_of}
use Rattle.access.proofs.Windows.{code_inside, second, second-narrow}
use Rattle.access.proofs.Leaf.{goes-two, puts-nothing, not-held, lost}
use Rattle.control.proofs.jump.Goals as goal

pub returns-then-i-ge4 : goal.returns-then-i-ge4
unfolding code_of
returns-then-i-ge4 c =
    not-held _ _ _ _ (rw (c.requires.coded, ← c.i.ensures, le-ltb _ _ c.if-i-ge4.true))

pub fetch-requires : goal.fetch-requires
fetch-requires c =
    code_inside _ _ _ c.requires.reaches

pub returns-in_default : goal.returns-in_default
unfolding code_of
returns-in_default c =
    lost _ _ _ _ _ jump (rw (c.requires.coded, ← c.i.ensures, lt-ltb _ _ c.if-i-ge4.false))
    (second _ _ _ _ _ c.on.ensures c.fetch.ensures _ _ c.requires.reaches c.in_default.is) c.no_parcel.ensures

pub to-requires : goal.to-requires
to-requires c =
    second-narrow _ _ _ _ _ c.on.ensures c.fetch.ensures _ c.in-Some.is

pub returns : goal.returns
unfolding code_of act
returns c =
    goes-two jump _ _ _ _ _ _ _ _ _ c.to.ensures (puts-nothing _) (rw (c.requires.coded, ← c.i.ensures, lt-ltb _ _ c.if-i-ge4.false))
    (second _ _ _ _ _ c.on.ensures c.fetch.ensures _ _ c.requires.reaches c.in-Some.is) refl
