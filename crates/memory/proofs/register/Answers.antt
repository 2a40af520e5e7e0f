use Rattle.memory.proofs.register.Goals as goal

pub returns-in-A : goal.returns-in-A
returns-in-A c = rw c.in-A.is c.a_i.ensures

pub returns-in-S : goal.returns-in-S
returns-in-S c = rw c.in-S.is c.s_i.ensures
