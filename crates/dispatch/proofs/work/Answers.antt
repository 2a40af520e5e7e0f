use mathlib.Core.Path.{sym, ◌∙◌}
use native.Mathlib.Omega.{arith}
use Rattle.access.proofs.Windows.{code_inside, fetched, parcel-narrow}
use Rattle.dispatch.proofs.Arms.{works-lost, works-done}
use Rattle.dispatch.proofs.work.Goals as goal

pub fetch-requires : goal.fetch-requires
fetch-requires c =
    code_inside _ _ _ c.requires.ready.reaches

pub returns-in_default : goal.returns-in_default
returns-in_default c =
    works-lost _ _ _ _ (sym (fetched _ _ _ _ c.requires.ready.reaches c.requires.p_bound) ∙ sym c.fetch.ensures
    ∙ c.in_default.is) c.no_parcel.ensures

pub arm-requires : goal.arm-requires
arm-requires c =
    omega (arith, parcel-narrow _ _ _ _ (sym c.fetch.ensures ∙ c.in-Some.is))

pub from_000-requires : goal.from_000-requires
from_000-requires c =
    record {
      ready = c.requires.ready;
      x_bound = (parcel-narrow _ _ _ _ (sym c.fetch.ensures ∙ c.in-Some.is), c.arm.ensures);
    }

pub returns : goal.returns
returns c =
    works-done _ _ _ _ _ _ _ (sym (fetched _ _ _ _ c.requires.ready.reaches c.requires.p_bound) ∙ sym c.fetch.ensures ∙ c.in-Some.is) c.from_000.ensures
