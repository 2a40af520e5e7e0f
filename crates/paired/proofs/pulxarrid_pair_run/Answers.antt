use Rattle.machine.proofs.Refusals.{some-number}
use Rattle.numbers.proofs.Left.{last-answered}
use Rattle.paired.proofs.pulxarrid_pair_run.Goals as goal

pub returns-in-Ok : goal.returns-in-Ok
returns-in-Ok c =
    rw (
      ← rw c.in-Ok.is at c.pair_run.ensures.call,
      c.kind_of_last-n.ensures,
      ← c.of_stray-s.ensures,
      ← c.of_stray-t.ensures,
      last-answered c.in-Ok.paired.last,
    )

pub returns-in-Err : goal.returns-in-Err
returns-in-Err c = rw (c.into.ensures, ← rw c.in-Err.is at c.pair_run.ensures.call, some-number c.in-Err.refusal)
