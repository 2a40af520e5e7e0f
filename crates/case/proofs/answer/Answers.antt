use Rattle.std.proofs.Common.{sym, ◌∙◌, arith}
use Rattle.machine.specs.Run.{zeros}
use Rattle.case.proofs.Laws.{good-answer, bad-answer}
use Rattle.case.proofs.answer.Goals as goal

pub returns-in-Ok : goal.returns-in-Ok
unfolding zeros
returns-in-Ok c =
    record {
      wrote = rw (← good-answer c.args.sheet.now _ _ _ _ _ _ _ (sym c.read.ensures.value ∙ c.in-Ok.is) c.read.ensures.mem_after
          c.run_package-ran.ensures) c.report.ensures.wrote;
      upper_bound = omega (arith, c.report.ensures.upper_bound (omega arith));
    }

pub returns-in-Err : goal.returns-in-Err
returns-in-Err c =
    record {
      wrote = rw (← bad-answer c.args.sheet.now _ (sym c.read.ensures.value ∙ c.in-Err.is)) c.refused.ensures.0;
      upper_bound = omega arith;
    }
