use Rattle.memory.proofs.strays.of.Goals as goal

pub returns-in-StrayedOne : goal.returns-in-StrayedOne
returns-in-StrayedOne c =
    rw (c.in-StrayedOne.is, ← c.a_0.ensures, ← c.apart.ensures, ← c.count.ensures) c.first_outside.ensures

pub returns-in-StrayedTwo : goal.returns-in-StrayedTwo
returns-in-StrayedTwo c = rw c.in-StrayedTwo.is c.first_outside-in-StrayedTwo.ensures
