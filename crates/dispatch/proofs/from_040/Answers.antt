use native.Mathlib.Omega.{arith}
use mathlib.Core.Path.{refl}
use Rattle.dispatch.proofs.Arms.{alone, none_in}
use Rattle.dispatch.proofs.from_040.Goals as goal

pub enter-requires : goal.enter-requires
enter-requires c =
    record {
      coded = alone c.requires.x_bound.0 c.requires.x_bound.1 c.in-32.is (λ c. refl);
      reaches = c.requires.ready.reaches;
    }

pub enter-requires-in-33 : goal.enter-requires-in-33
enter-requires-in-33 c =
    record {
      coded = alone c.requires.x_bound.0 c.requires.x_bound.1 c.in-33.is (λ c. refl);
      reaches = c.requires.ready.reaches;
    }

pub ones_right-requires : goal.ones_right-requires
ones_right-requires c =
    alone c.requires.x_bound.0 c.requires.x_bound.1 c.in-34.is (λ c. refl)

pub ones_left-requires : goal.ones_left-requires
ones_left-requires c =
    alone c.requires.x_bound.0 c.requires.x_bound.1 c.in-35.is (λ c. refl)

pub and-requires : goal.and-requires
and-requires c =
    alone c.requires.x_bound.0 c.requires.x_bound.1 c.in-36.is (λ c. refl)

pub and_not-requires : goal.and_not-requires
and_not-requires c =
    alone c.requires.x_bound.0 c.requires.x_bound.1 c.in-37.is (λ c. refl)

pub xor-requires : goal.xor-requires
xor-requires c =
    alone c.requires.x_bound.0 c.requires.x_bound.1 c.in-38.is (λ c. refl)

pub eqv-requires : goal.eqv-requires
eqv-requires c =
    alone c.requires.x_bound.0 c.requires.x_bound.1 c.in-39.is (λ c. refl)

pub merge-requires : goal.merge-requires
merge-requires c =
    alone c.requires.x_bound.0 c.requires.x_bound.1 c.in-40.is (λ c. refl)

pub or-requires : goal.or-requires
or-requires c =
    alone c.requires.x_bound.0 c.requires.x_bound.1 c.in-41.is (λ c. refl)

pub left_0-requires : goal.left_0-requires
left_0-requires c =
    alone c.requires.x_bound.0 c.requires.x_bound.1 c.in-42.is (λ c. refl)

pub right_0-requires : goal.right_0-requires
right_0-requires c =
    alone c.requires.x_bound.0 c.requires.x_bound.1 c.in-43.is (λ c. refl)

pub left-requires : goal.left-requires
left-requires c =
    alone c.requires.x_bound.0 c.requires.x_bound.1 c.in-44.is (λ c. refl)

pub right-requires : goal.right-requires
right-requires c =
    alone c.requires.x_bound.0 c.requires.x_bound.1 c.in-45.is (λ c. refl)

pub left_pair-requires : goal.left_pair-requires
left_pair-requires c =
    alone c.requires.x_bound.0 c.requires.x_bound.1 c.in-46.is (λ c. refl)

pub right_pair-requires : goal.right_pair-requires
right_pair-requires c =
    alone c.requires.x_bound.0 c.requires.x_bound.1 c.in-47.is (λ c. refl)

pub from_060-requires : goal.from_060-requires
from_060-requires c =
    record {
      ready = c.requires.ready;
      x_bound = (c.requires.x_bound.0, c.requires.x_bound.1, none_in _ _ 32 16 c.in_default.in_default-own.rest (omega arith));
    }

pub returns-in-32 : goal.returns-in-32
returns-in-32 c =
    c.enter.ensures

pub returns-in-33 : goal.returns-in-33
returns-in-33 c =
    c.enter-in-33.ensures

pub returns-in-34 : goal.returns-in-34
returns-in-34 c =
    c.ones_right.ensures _ _

pub returns-in-35 : goal.returns-in-35
returns-in-35 c =
    c.ones_left.ensures _ _

pub returns-in-36 : goal.returns-in-36
returns-in-36 c =
    c.and.ensures _ _

pub returns-in-37 : goal.returns-in-37
returns-in-37 c =
    c.and_not.ensures _ _

pub returns-in-38 : goal.returns-in-38
returns-in-38 c =
    c.xor.ensures _ _

pub returns-in-39 : goal.returns-in-39
returns-in-39 c =
    c.eqv.ensures _ _

pub returns-in-40 : goal.returns-in-40
returns-in-40 c =
    c.merge.ensures _ _

pub returns-in-41 : goal.returns-in-41
returns-in-41 c =
    c.or.ensures _ _

pub returns-in-42 : goal.returns-in-42
returns-in-42 c =
    c.left_0.ensures _ _

pub returns-in-43 : goal.returns-in-43
returns-in-43 c =
    c.right_0.ensures _ _

pub returns-in-44 : goal.returns-in-44
returns-in-44 c =
    c.left.ensures _ _

pub returns-in-45 : goal.returns-in-45
returns-in-45 c =
    c.right.ensures _ _

pub returns-in-46 : goal.returns-in-46
returns-in-46 c =
    c.left_pair.ensures _ _

pub returns-in-47 : goal.returns-in-47
returns-in-47 c =
    c.right_pair.ensures _ _

pub returns-in_default : goal.returns-in_default
returns-in_default c =
    c.from_060.ensures
