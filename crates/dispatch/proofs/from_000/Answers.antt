use native.Mathlib.Omega.{arith}
use mathlib.Core.Path.{refl}
use Rattle.dispatch.proofs.Arms.{alone, arm-says, own, none_in}
use Rattle.dispatch.proofs.from_000.Goals as goal

pub error_exit-requires : goal.error_exit-requires
error_exit-requires c =
    (arm-says _ _ 0 c.requires.x_bound.0 c.requires.x_bound.1 c.in-0.is, c.requires.x_bound.0)

pub privileged-requires : goal.privileged-requires
privileged-requires c =
    alone c.requires.x_bound.0 c.requires.x_bound.1 c.in-1.is (λ c. refl)

pub modes-requires : goal.modes-requires
modes-requires c =
    alone c.requires.x_bound.0 c.requires.x_bound.1 c.in-2.is (λ c. refl)

pub set_mask-requires : goal.set_mask-requires
set_mask-requires c =
    alone c.requires.x_bound.0 c.requires.x_bound.1 c.in-3.is (λ c. refl)

pub normal_exit-requires : goal.normal_exit-requires
normal_exit-requires c =
    own _ _ _ c.requires.x_bound.0 c.requires.x_bound.1 c.in-4.is (λ c. refl)

pub jump_b-requires : goal.jump_b-requires
jump_b-requires c =
    alone c.requires.x_bound.0 c.requires.x_bound.1 c.in-5.is (λ c. refl)

pub jump-requires : goal.jump-requires
jump-requires c =
    record {
      coded = alone c.requires.x_bound.0 c.requires.x_bound.1 c.in-6.is (λ c. refl);
      reaches = c.requires.ready.reaches;
    }

pub return_jump-requires : goal.return_jump-requires
return_jump-requires c =
    record {
      coded = alone c.requires.x_bound.0 c.requires.x_bound.1 c.in-7.is (λ c. refl);
      reaches = c.requires.ready.reaches;
    }

pub branch-r-requires : goal.branch-r-requires
branch-r-requires c =
    record {
      coded = alone c.requires.x_bound.0 c.requires.x_bound.1 c.in-8.is (λ c. refl);
      reaches = c.requires.ready.reaches;
    }

pub branch-r-requires-in-9 : goal.branch-r-requires-in-9
branch-r-requires-in-9 c =
    record {
      coded = alone c.requires.x_bound.0 c.requires.x_bound.1 c.in-9.is (λ c. refl);
      reaches = c.requires.ready.reaches;
    }

pub branch-r-requires-in-10 : goal.branch-r-requires-in-10
branch-r-requires-in-10 c =
    record {
      coded = alone c.requires.x_bound.0 c.requires.x_bound.1 c.in-10.is (λ c. refl);
      reaches = c.requires.ready.reaches;
    }

pub branch-r-requires-in-11 : goal.branch-r-requires-in-11
branch-r-requires-in-11 c =
    record {
      coded = alone c.requires.x_bound.0 c.requires.x_bound.1 c.in-11.is (λ c. refl);
      reaches = c.requires.ready.reaches;
    }

pub branch-r-requires-in-12 : goal.branch-r-requires-in-12
branch-r-requires-in-12 c =
    record {
      coded = alone c.requires.x_bound.0 c.requires.x_bound.1 c.in-12.is (λ c. refl);
      reaches = c.requires.ready.reaches;
    }

pub branch-r-requires-in-13 : goal.branch-r-requires-in-13
branch-r-requires-in-13 c =
    record {
      coded = alone c.requires.x_bound.0 c.requires.x_bound.1 c.in-13.is (λ c. refl);
      reaches = c.requires.ready.reaches;
    }

pub branch-r-requires-in-14 : goal.branch-r-requires-in-14
branch-r-requires-in-14 c =
    record {
      coded = alone c.requires.x_bound.0 c.requires.x_bound.1 c.in-14.is (λ c. refl);
      reaches = c.requires.ready.reaches;
    }

pub branch-r-requires-in-15 : goal.branch-r-requires-in-15
branch-r-requires-in-15 c =
    record {
      coded = alone c.requires.x_bound.0 c.requires.x_bound.1 c.in-15.is (λ c. refl);
      reaches = c.requires.ready.reaches;
    }

pub from_020-requires : goal.from_020-requires
from_020-requires c =
    record {
      ready = c.requires.ready;
      x_bound = (c.requires.x_bound.0, c.requires.x_bound.1, none_in _ _ 0 16 c.in_default.in_default-own.rest (omega arith));
    }

pub returns-in-0 : goal.returns-in-0
returns-in-0 c =
    c.error_exit.ensures _ _ _

pub returns-in-1 : goal.returns-in-1
returns-in-1 c =
    c.privileged.ensures _ _

pub returns-in-2 : goal.returns-in-2
returns-in-2 c =
    c.modes.ensures _ _

pub returns-in-3 : goal.returns-in-3
returns-in-3 c =
    c.set_mask.ensures _ _

pub returns-in-4 : goal.returns-in-4
returns-in-4 c =
    c.normal_exit.ensures _ _ _

pub returns-in-5 : goal.returns-in-5
returns-in-5 c =
    c.jump_b.ensures _ _

pub returns-in-6 : goal.returns-in-6
returns-in-6 c =
    c.jump.ensures

pub returns-in-7 : goal.returns-in-7
returns-in-7 c =
    c.return_jump.ensures

pub returns-in-8 : goal.returns-in-8
returns-in-8 c =
    c.branch-r.ensures

pub returns-in-9 : goal.returns-in-9
returns-in-9 c =
    c.branch-r-in-9.ensures

pub returns-in-10 : goal.returns-in-10
returns-in-10 c =
    c.branch-r-in-10.ensures

pub returns-in-11 : goal.returns-in-11
returns-in-11 c =
    c.branch-r-in-11.ensures

pub returns-in-12 : goal.returns-in-12
returns-in-12 c =
    c.branch-r-in-12.ensures

pub returns-in-13 : goal.returns-in-13
returns-in-13 c =
    c.branch-r-in-13.ensures

pub returns-in-14 : goal.returns-in-14
returns-in-14 c =
    c.branch-r-in-14.ensures

pub returns-in-15 : goal.returns-in-15
returns-in-15 c =
    c.branch-r-in-15.ensures

pub returns-in_default : goal.returns-in_default
returns-in_default c =
    c.from_020.ensures
