use mathlib.Core.Path.{refl, ◌∙◌}
use borrow.Author.Tests.{lt-ltb, le-ltb}
use Rattle.machine.specs.Act.{constant_ah, act}
use Rattle.access.proofs.Windows.{code_inside, second, second-narrow}
use Rattle.access.proofs.Leaf.{puts-two, goes-two, puts-nothing, lost}
use Rattle.control.proofs.Laws.{jump_of, test-code, test-two, test-act}
use Rattle.control.proofs.branch.Goals as goal

pub fetch-requires : goal.fetch-requires
fetch-requires c =
    code_inside _ _ _ c.requires.reaches

pub returns-in_default : goal.returns-in_default
returns-in_default c =
    lost _ _ _ _ _ _ (test-two c.args.test _ _ c.requires.coded)
    (second _ _ _ _ _ c.on.ensures c.fetch.ensures _ _ c.requires.reaches c.in_default.is) c.no_parcel.ensures

pub ijkm-requires : goal.ijkm-requires
ijkm-requires c =
    second-narrow _ _ _ _ _ c.on.ensures c.fetch.ensures _ c.in-Some.is

pub returns-then-i-ge4 : goal.returns-then-i-ge4
unfolding act
returns-then-i-ge4 c =
    puts-two constant_ah _ _ _ _ _ _ _ _ refl c.set_a.ensures
    (test-code c.args.test _ _ c.requires.coded ∙ rw (← c.i.ensures, le-ltb _ _ c.if-i-ge4.true))
    (second _ _ _ _ _ c.on.ensures c.fetch.ensures _ _ c.requires.reaches c.in-Some.is) (rw (c.h.ensures, c.ijkm.ensures))

pub to-requires : goal.to-requires
to-requires c =
    second-narrow _ _ _ _ _ c.on.ensures c.fetch.ensures _ c.in-Some.is

pub returns-then-holds : goal.returns-then-holds
returns-then-holds c =
    goes-two (jump_of c.args.test) _ _ _ _ _ _ _ _ _ c.to.ensures (puts-nothing _)
    (test-code c.args.test _ _ c.requires.coded ∙ rw (← c.i.ensures, lt-ltb _ _ c.if-i-ge4.false))
    (second _ _ _ _ _ c.on.ensures c.fetch.ensures _ _ c.requires.reaches c.in-Some.is)
    (test-act c.args.test _ _ _ _ _ ∙ rw (← c.holds.ensures, c.if-holds.true))

pub returns : goal.returns
returns c =
    puts-two (jump_of c.args.test) _ _ _ _ _ _ _ _ refl (puts-nothing _)
    (test-code c.args.test _ _ c.requires.coded ∙ rw (← c.i.ensures, lt-ltb _ _ c.if-i-ge4.false))
    (second _ _ _ _ _ c.on.ensures c.fetch.ensures _ _ c.requires.reaches c.in-Some.is)
    (test-act c.args.test _ _ _ _ _ ∙ rw (← c.holds.ensures, c.if-holds.false))
