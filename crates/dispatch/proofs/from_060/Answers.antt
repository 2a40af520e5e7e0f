use mathlib.Core.Path.{refl}
use Rattle.dispatch.proofs.Arms.{alone, past-060}
use Rattle.dispatch.proofs.from_060.Goals as goal

pub sum-requires : goal.sum-requires
sum-requires c =
    alone c.requires.x_bound.0 c.requires.x_bound.1 c.in-48.is (λ c. refl)

pub difference-requires : goal.difference-requires
difference-requires c =
    alone c.requires.x_bound.0 c.requires.x_bound.1 c.in-49.is (λ c. refl)

pub from_a-requires : goal.from_a-requires
from_a-requires c =
    alone c.requires.x_bound.0 c.requires.x_bound.1 c.in-57.is (λ c. refl)

pub read_control-requires : goal.read_control-requires
read_control-requires c =
    record {
      coded = alone c.requires.x_bound.0 c.requires.x_bound.1 c.in-59.is (λ c. refl);
      frame_ok = (c.requires.ready.frame, c.requires.ready.control, c.requires.ready.processor);
    }

pub from_t-requires : goal.from_t-requires
from_t-requires c =
    alone c.requires.x_bound.0 c.requires.x_bound.1 c.in-60.is (λ c. refl)

pub to_t-requires : goal.to_t-requires
to_t-requires c =
    alone c.requires.x_bound.0 c.requires.x_bound.1 c.in-61.is (λ c. refl)

pub from_v-requires : goal.from_v-requires
from_v-requires c =
    alone c.requires.x_bound.0 c.requires.x_bound.1 c.in-62.is (λ c. refl)

pub to_v-requires : goal.to_v-requires
to_v-requires c =
    alone c.requires.x_bound.0 c.requires.x_bound.1 c.in-63.is (λ c. refl)

pub from_100-requires : goal.from_100-requires
from_100-requires c =
    record {
      ready = c.requires.ready;
      x_bound = (
        c.requires.x_bound.0,
        c.requires.x_bound.1,
        past-060 _ _ c.requires.x_bound.0 c.requires.x_bound.1
            c.requires.x_bound.2 c.in_default.in_default-own.rest,
      );
    }

pub returns-in-48 : goal.returns-in-48
returns-in-48 c =
    c.sum.ensures _ _

pub returns-in-49 : goal.returns-in-49
returns-in-49 c =
    c.difference.ensures _ _

pub returns-in-57 : goal.returns-in-57
returns-in-57 c =
    c.from_a.ensures _ _

pub returns-in-59 : goal.returns-in-59
returns-in-59 c =
    c.read_control.ensures _ _

pub returns-in-60 : goal.returns-in-60
returns-in-60 c =
    c.from_t.ensures _ _

pub returns-in-61 : goal.returns-in-61
returns-in-61 c =
    c.to_t.ensures _ _

pub returns-in-62 : goal.returns-in-62
returns-in-62 c =
    c.from_v.ensures _ _

pub returns-in-63 : goal.returns-in-63
returns-in-63 c =
    c.to_v.ensures _ _

pub returns-in_default : goal.returns-in_default
returns-in_default c =
    c.from_100.ensures
