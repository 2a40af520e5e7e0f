use Rattle.std.proofs.Common.{◌≡◌, Err, rules, sym}
use Rattle.machine.specs.Call.{run_call}
use Rattle.xmp.specs.Reply.{run_numbers}
use Rattle.machine.proofs.Refusals.{some-number}
use Rattle.xmp.proofs.Allowed.{run-allowed, told}
use Rattle.xmp.proofs.run.Goals as goal

pub run-requires : goal.run-requires
run-requires c =
    let allowed = run-allowed _ _ (search rules) _ (sym c.in_ok-of_run.ensures) in
    record { fitting = allowed.0; bounds = allowed.1 }

pub returns : goal.returns
unfolding run_call
returns c =
    record {
      call = rw (← c.in_ok-of_run.ensures) c.run.ensures;
      numbers = rw (← c.in_ok-of_run.ensures) (told run_numbers _ _ c.run.ensures).1;
    }

pub returns-in_err-of_run : goal.returns-in_err-of_run
unfolding run_call
returns-in_err-of_run c =
    let e : c.from_residual.result ≡ Err c.in_err-of_run.field-0.0 = search rules in
    record {
      call = rw (e, ← c.in_err-of_run.ensures, some-number c.in_err-of_run.field-0.0);
      numbers = rw (e, ← c.in_err-of_run.ensures, some-number c.in_err-of_run.field-0.0);
    }
