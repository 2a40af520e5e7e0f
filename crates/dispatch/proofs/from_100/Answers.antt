use mathlib.Core.Path.{refl}
use mathlib.Core.Logic.{inl, inr}
use Rattle.dispatch.proofs.Arms.{arm-says, own, group, vector-of, no_arm}
use Rattle.dispatch.proofs.from_100.Goals as goal

pub load-requires : goal.load-requires
load-requires c =
    record {
      coded = group _ _ _ c.requires.x_bound.0 c.requires.x_bound.1 c.in-64.is (λ c. refl);
      reaches = c.requires.ready.reaches;
    }

pub store-requires : goal.store-requires
store-requires c =
    record {
      coded = group _ _ _ c.requires.x_bound.0 c.requires.x_bound.1 c.in-72.is (λ c. refl);
      reaches = c.requires.ready.reaches;
    }

pub load-requires-in-80 : goal.load-requires-in-80
load-requires-in-80 c =
    record {
      coded = group _ _ _ c.requires.x_bound.0 c.requires.x_bound.1 c.in-80.is (λ c. refl);
      reaches = c.requires.ready.reaches;
    }

pub store-requires-in-88 : goal.store-requires-in-88
store-requires-in-88 c =
    record {
      coded = group _ _ _ c.requires.x_bound.0 c.requires.x_bound.1 c.in-88.is (λ c. refl);
      reaches = c.requires.ready.reaches;
    }

pub vectors-requires : goal.vectors-requires
vectors-requires c =
    (vector-of _ _ _ c.requires.ready, arm-says _ _ 0o140 c.requires.x_bound.0 c.requires.x_bound.1 c.in-96.is)

pub merge-requires : goal.merge-requires
merge-requires c =
    (vector-of _ _ _ c.requires.ready, inl (own _ _ _ c.requires.x_bound.0 c.requires.x_bound.1 c.in-102.is (λ c. refl)))

pub merge-requires-in-103 : goal.merge-requires-in-103
merge-requires-in-103 c =
    (vector-of _ _ _ c.requires.ready, inr (own _ _ _ c.requires.x_bound.0 c.requires.x_bound.1 c.in-103.is (λ c. refl)))

pub others-requires : goal.others-requires
others-requires c =
    (vector-of _ _ _ c.requires.ready, arm-says _ _ 0o150 c.requires.x_bound.0 c.requires.x_bound.1 c.in-104.is)

pub vectors-requires-in-108 : goal.vectors-requires-in-108
vectors-requires-in-108 c =
    (vector-of _ _ _ c.requires.ready, arm-says _ _ 0o154 c.requires.x_bound.0 c.requires.x_bound.1 c.in-108.is)

pub others-requires-in-124 : goal.others-requires-in-124
others-requires-in-124 c =
    (vector-of _ _ _ c.requires.ready, arm-says _ _ 0o174 c.requires.x_bound.0 c.requires.x_bound.1 c.in-124.is)

pub read_v-requires : goal.read_v-requires
read_v-requires c =
    record {
      ready = c.requires.ready;
      coded = own _ _ _ c.requires.x_bound.0 c.requires.x_bound.1 c.in-126.is (λ c. refl);
    }

pub store_v-requires : goal.store_v-requires
store_v-requires c =
    record {
      ready = c.requires.ready;
      coded = own _ _ _ c.requires.x_bound.0 c.requires.x_bound.1 c.in-127.is (λ c. refl);
    }

pub returns-in-64 : goal.returns-in-64
returns-in-64 c =
    c.load.ensures

pub returns-in-72 : goal.returns-in-72
returns-in-72 c =
    c.store.ensures

pub returns-in-80 : goal.returns-in-80
returns-in-80 c =
    c.load-in-80.ensures

pub returns-in-88 : goal.returns-in-88
returns-in-88 c =
    c.store-in-88.ensures

pub returns-in-96 : goal.returns-in-96
returns-in-96 c =
    c.vectors.ensures _ _

pub returns-in-102 : goal.returns-in-102
returns-in-102 c =
    c.merge.ensures _ _

pub returns-in-103 : goal.returns-in-103
returns-in-103 c =
    c.merge-in-103.ensures _ _

pub returns-in-104 : goal.returns-in-104
returns-in-104 c =
    rw c.held.ensures (c.others.ensures _ _)

pub returns-in-108 : goal.returns-in-108
returns-in-108 c =
    c.vectors-in-108.ensures _ _

pub returns-in-124 : goal.returns-in-124
returns-in-124 c =
    rw c.held-in-124.ensures (c.others-in-124.ensures _ _)

pub returns-in-126 : goal.returns-in-126
returns-in-126 c =
    c.read_v.ensures _

pub returns-in-127 : goal.returns-in-127
returns-in-127 c =
    c.store_v.ensures _

pub returns-in_default : goal.returns-in_default
returns-in_default c =
    absurd (no_arm _ c.requires.x_bound.2 c.in_default.in_default-own.rest)
