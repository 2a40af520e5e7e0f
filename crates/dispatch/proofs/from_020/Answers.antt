use mathlib.Core.Path.{refl}
use Rattle.memory.proofs.Fields.{reached}
use Rattle.dispatch.proofs.Arms.{alone, past-020, moved_ends}
use Rattle.dispatch.proofs.from_020.Goals as goal

pub enter-requires : goal.enter-requires
enter-requires c =
    record {
      coded = alone c.requires.x_bound.0 c.requires.x_bound.1 c.in-16.is (λ c. refl);
      reaches = c.requires.ready.reaches;
    }

pub enter-requires-in-17 : goal.enter-requires-in-17
enter-requires-in-17 c =
    record {
      coded = alone c.requires.x_bound.0 c.requires.x_bound.1 c.in-17.is (λ c. refl);
      reaches = c.requires.ready.reaches;
    }

pub short-requires : goal.short-requires
short-requires c =
    alone c.requires.x_bound.0 c.requires.x_bound.1 c.in-18.is (λ c. refl)

pub from_s_or_vl-requires : goal.from_s_or_vl-requires
from_s_or_vl-requires c =
    alone c.requires.x_bound.0 c.requires.x_bound.1 c.in-19.is (λ c. refl)

pub from_b-requires : goal.from_b-requires
from_b-requires c =
    alone c.requires.x_bound.0 c.requires.x_bound.1 c.in-20.is (λ c. refl)

pub to_b-requires : goal.to_b-requires
to_b-requires c =
    alone c.requires.x_bound.0 c.requires.x_bound.1 c.in-21.is (λ c. refl)

pub ones-requires : goal.ones-requires
ones-requires c =
    alone c.requires.x_bound.0 c.requires.x_bound.1 c.in-22.is (λ c. refl)

pub zeros-requires : goal.zeros-requires
zeros-requires c =
    alone c.requires.x_bound.0 c.requires.x_bound.1 c.in-23.is (λ c. refl)

pub sum-requires : goal.sum-requires
sum-requires c =
    alone c.requires.x_bound.0 c.requires.x_bound.1 c.in-24.is (λ c. refl)

pub difference-requires : goal.difference-requires
difference-requires c =
    alone c.requires.x_bound.0 c.requires.x_bound.1 c.in-25.is (λ c. refl)

pub product-requires : goal.product-requires
product-requires c =
    alone c.requires.x_bound.0 c.requires.x_bound.1 c.in-26.is (λ c. refl)

pub read-requires : goal.read-requires
read-requires c =
    record {
      coded = alone c.requires.x_bound.0 c.requires.x_bound.1 c.in-28.is (λ c. refl);
      window = reached _ _ _ c.requires.ready.reaches;
    }

pub store-requires : goal.store-requires
store-requires c =
    record {
      coded = alone c.requires.x_bound.0 c.requires.x_bound.1 c.in-29.is (λ c. refl);
      window = reached _ _ _ c.requires.ready.reaches;
    }

pub read-requires-in-30 : goal.read-requires-in-30
read-requires-in-30 c =
    record {
      coded = alone c.requires.x_bound.0 c.requires.x_bound.1 c.in-30.is (λ c. refl);
      window = reached _ _ _ c.requires.ready.reaches;
    }

pub store-requires-in-31 : goal.store-requires-in-31
store-requires-in-31 c =
    record {
      coded = alone c.requires.x_bound.0 c.requires.x_bound.1 c.in-31.is (λ c. refl);
      window = reached _ _ _ c.requires.ready.reaches;
    }

pub from_040-requires : goal.from_040-requires
from_040-requires c =
    record {
      ready = c.requires.ready;
      x_bound = (
        c.requires.x_bound.0,
        c.requires.x_bound.1,
        past-020 _ _ c.requires.x_bound.0 c.requires.x_bound.1
            c.requires.x_bound.2 c.in_default.in_default-own.rest,
      );
    }

pub returns-in-16 : goal.returns-in-16
returns-in-16 c =
    c.enter.ensures

pub returns-in-17 : goal.returns-in-17
returns-in-17 c =
    c.enter-in-17.ensures

pub returns-in-18 : goal.returns-in-18
returns-in-18 c =
    c.short.ensures _ _

pub returns-in-19 : goal.returns-in-19
returns-in-19 c =
    c.from_s_or_vl.ensures _ _

pub returns-in-20 : goal.returns-in-20
returns-in-20 c =
    c.from_b.ensures _ _

pub returns-in-21 : goal.returns-in-21
returns-in-21 c =
    c.to_b.ensures _ _

pub returns-in-22 : goal.returns-in-22
returns-in-22 c =
    c.ones.ensures _ _

pub returns-in-23 : goal.returns-in-23
returns-in-23 c =
    c.zeros.ensures _ _

pub returns-in-24 : goal.returns-in-24
returns-in-24 c =
    c.sum.ensures _ _

pub returns-in-25 : goal.returns-in-25
returns-in-25 c =
    c.difference.ensures _ _

pub returns-in-26 : goal.returns-in-26
returns-in-26 c =
    c.product.ensures _ _

pub returns-in-28 : goal.returns-in-28
returns-in-28 c =
    moved_ends _ _ _ _ _ _ _ _ c.read.ensures c.moved.ensures _

pub returns-in-29 : goal.returns-in-29
returns-in-29 c =
    moved_ends _ _ _ _ _ _ _ _ c.store.ensures c.moved-in-29.ensures _

pub returns-in-30 : goal.returns-in-30
returns-in-30 c =
    moved_ends _ _ _ _ _ _ _ _ c.read-in-30.ensures c.moved-in-30.ensures _

pub returns-in-31 : goal.returns-in-31
returns-in-31 c =
    moved_ends _ _ _ _ _ _ _ _ c.store-in-31.ensures c.moved-in-31.ensures _

pub returns-in_default : goal.returns-in_default
returns-in_default c =
    c.from_040.ensures
