use Rattle.memory.proofs.set.Goals as goal

pub returns-in-A : goal.returns-in-A
returns-in-A c =
    rw (c.in-A.is, ← c.i.ensures) c.set_a.ensures

pub returns-in-S : goal.returns-in-S
returns-in-S c =
    rw (c.in-S.is, ← c.i-in-S.ensures) c.set_s.ensures
