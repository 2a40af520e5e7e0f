use Rattle.std.proofs.Common.{◌≡◌, Err, arith, rules, sym}
use Rattle.machine.specs.Call.{step_call}
use Rattle.xmp.specs.Reply.{step_numbers}
use Rattle.machine.proofs.Refusals.{some-number}
use Rattle.xmp.proofs.Allowed.{step-allowed, stepped, told}
use Rattle.xmp.proofs.step.Goals as goal

pub turn-turned-requires : goal.turn-turned-requires
turn-turned-requires c =
    let allowed = step-allowed _ _ (search rules) _ (omega arith) (sym c.in_ok-of_step.ensures) in
    record { fitting = allowed.0; bounds = allowed.1 }

pub returns : goal.returns
unfolding step_call
returns c =
    let step = stepped _ _ _ _ _ _ _ c.turn-turned.ensures in
    record {
      call = rw (← c.in_ok-of_step.ensures, c.unwrap_or.ensures) step;
      numbers = rw (← c.in_ok-of_step.ensures, c.unwrap_or.ensures) (told step_numbers _ _ step).1;
    }

pub returns-in_err-of_step : goal.returns-in_err-of_step
unfolding step_call
returns-in_err-of_step c =
    let e : c.from_residual.result ≡ Err c.in_err-of_step.field-0.0 = search rules in
    record {
      call = rw (e, ← c.in_err-of_step.ensures, some-number c.in_err-of_step.field-0.0);
      numbers = rw (e, ← c.in_err-of_step.ensures, some-number c.in_err-of_step.field-0.0);
    }
