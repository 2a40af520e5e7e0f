use Rattle.std.proofs.Common.{◌≡◌, Err, rules, sym}
use Rattle.machine.specs.Call.{turn_call}
use Rattle.xmp.specs.Reply.{turn_numbers}
use Rattle.machine.proofs.Refusals.{some-number}
use Rattle.xmp.proofs.Allowed.{run-allowed, told}
use Rattle.xmp.proofs.turn.Goals as goal

pub turn-requires : goal.turn-requires
turn-requires c =
    let allowed = run-allowed _ _ (search rules) _ (sym c.in_ok-of_run.ensures) in
    record { fitting = allowed.0; bounds = allowed.1 }

pub returns : goal.returns
unfolding turn_call
returns c =
    record {
      call = rw (← c.in_ok-of_run.ensures) c.turn.ensures;
      numbers = rw (← c.in_ok-of_run.ensures) (told turn_numbers _ _ c.turn.ensures).1;
    }

pub returns-in_err-of_run : goal.returns-in_err-of_run
unfolding turn_call
returns-in_err-of_run c =
    let e : c.from_residual.result ≡ Err c.in_err-of_run.field-0.0 = search rules in
    record {
      call = rw (e, ← c.in_err-of_run.ensures, some-number c.in_err-of_run.field-0.0);
      numbers = rw (e, ← c.in_err-of_run.ensures, some-number c.in_err-of_run.field-0.0);
    }
