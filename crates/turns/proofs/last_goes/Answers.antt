use Rattle.turns.proofs.last_goes.Goals as goal

pub returns-in-Some : goal.returns-in-Some
returns-in-Some c =
    rw c.in-Some.is c.answer_goes.ensures
