use Rattle.std.proofs.Common.{◌≡◌, ◌∙◌, refl, sym, ap, Err, rules}
use Rattle.machine.specs.Call.{started, start_call}
use Rattle.machine.proofs.Refusals.{some-number}
use Rattle.xmp.proofs.Allowed.{start-allowed, zeroed}
use Rattle.xmp.proofs.start.Goals as goal

pub load_package-requires : goal.load_package-requires
load_package-requires c =
    let a = start-allowed _ _ _ (sym c.in_ok-of_start.ensures) in (a.1, a.0)

pub returns : goal.returns
unfolding start_call
returns c =
    rw (← c.in_ok-of_start.ensures) (ap (started 0) (c.load_package.ensures ∙ zeroed _ _ _ _ refl))

pub returns-in_err-of_start : goal.returns-in_err-of_start
unfolding start_call
returns-in_err-of_start c =
    let e : c.from_residual.result ≡ Err c.in_err-of_start.field-0.0 = search rules in
    rw (e, ← c.in_err-of_start.ensures, some-number c.in_err-of_start.field-0.0)
