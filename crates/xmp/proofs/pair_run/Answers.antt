use Rattle.std.proofs.Common.{◌≡◌, Err, rules, sym}
use Rattle.machine.specs.Call.{pair_call}
use Rattle.xmp.specs.Reply.{pair_numbers}
use Rattle.machine.proofs.Refusals.{some-number}
use Rattle.xmp.proofs.Allowed.{pair-allowed, told}
use Rattle.xmp.proofs.pair_run.Goals as goal

pub take_schedule-requires : goal.take_schedule-requires
take_schedule-requires c =
    let allowed = pair-allowed _ _ _ (search rules) (sym c.in_ok-of_pair.ensures) in
    record { schedule = allowed.0.1; both = allowed.1 }

pub returns : goal.returns
unfolding pair_call
returns c =
    record {
      call = rw (← c.in_ok-of_pair.ensures) c.take_schedule.ensures;
      numbers = rw (← c.in_ok-of_pair.ensures) (told pair_numbers _ _ c.take_schedule.ensures).1;
    }

pub returns-in_err-of_pair : goal.returns-in_err-of_pair
unfolding pair_call
returns-in_err-of_pair c =
    let e : c.from_residual.result ≡ Err c.in_err-of_pair.field-0.0 = search rules in
    record {
      call = rw (e, ← c.in_err-of_pair.ensures, some-number c.in_err-of_pair.field-0.0);
      numbers = rw (e, ← c.in_err-of_pair.ensures, some-number c.in_err-of_pair.field-0.0);
    }
