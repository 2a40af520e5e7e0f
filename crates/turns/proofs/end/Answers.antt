use native.Mathlib.Omega.{arith}
use Rattle.turns.proofs.Runs.{end-spent, end-one, end-two, end-ended}
use Rattle.turns.proofs.end.Goals as goal

pub strayed-requires : goal.strayed-requires
strayed-requires c =
    let k = rw c.in-StrayedOne.is at c.requires.sound in
    record {
      fitting = c.requires.fitting;
      p_bound = (rw c.on.ensures (omega arith), k.0);
    }

pub strayed-requires-in-StrayedTwo : goal.strayed-requires-in-StrayedTwo
strayed-requires-in-StrayedTwo c =
    let k = rw c.in-StrayedTwo.is at c.requires.sound in
    record {
      fitting = c.requires.fitting;
      p_bound = (rw c.on-in-StrayedTwo.ensures (omega arith), k.0);
    }

pub overflow_add-result : goal.overflow_add-result
overflow_add-result c =
    let k = rw c.in-Ended.is at c.requires.sound in
    omega (arith, c.count_of.ensures.1, k.0)

pub returns-in-Spent : goal.returns-in-Spent
returns-in-Spent c =
    end-spent _ _ _ _ _ c.in-Spent.is c.last_after.ensures c.requires.fitting c.requires.sound

pub returns-in-StrayedOne : goal.returns-in-StrayedOne
returns-in-StrayedOne c =
    end-one _ _ _ _ _ _ _ _ _ _ c.in-StrayedOne.is (rw c.on.ensures at c.strayed.ensures)

pub returns-in-StrayedTwo : goal.returns-in-StrayedTwo
returns-in-StrayedTwo c =
    end-two _ _ _ _ _ _ _ _ _ _ c.in-StrayedTwo.is (rw c.on-in-StrayedTwo.ensures at c.strayed-in-StrayedTwo.ensures)

pub returns-in-Ended : goal.returns-in-Ended
returns-in-Ended c =
    end-ended _ _ _ _ _ _ c.in-Ended.is (rw c.count_of.ensures.0) c.requires.fitting c.requires.sound
