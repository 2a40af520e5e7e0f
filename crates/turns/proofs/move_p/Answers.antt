use Rattle.turns.proofs.move_p.Goals as goal

pub returns-in-PastOne : goal.returns-in-PastOne
returns-in-PastOne c = cc

pub returns-in-PastTwo : goal.returns-in-PastTwo
returns-in-PastTwo c = cc

pub returns-in-To : goal.returns-in-To
returns-in-To c = cc
