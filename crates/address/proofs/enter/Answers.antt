use mathlib.Core.Path.{refl}
use native.Mathlib.Omega.{arith}
use Rattle.machine.specs.Parcel.{i_of}
use Rattle.machine.specs.State.{to_a}
use Rattle.machine.specs.Act.{constant_a, complement_a, act}
use Rattle.machine.specs.Codes.{code_of}
use Rattle.access.proofs.Windows.{code_inside, second, second-narrow}
use Rattle.access.proofs.Leaf.{act_at, puts-two, lost, either-code, either-act}
use Rattle.address.proofs.enter.Goals as goal

pub fetch-requires : goal.fetch-requires
fetch-requires c =
    code_inside _ _ _ c.requires.reaches

pub returns-in_default : goal.returns-in_default
unfolding code_of
returns-in_default c =
    lost _ _ _ _ _ _
    (either-code c.args.complement constant_a complement_a _ _ 0o020 0o021 (λ e. rw e) (λ e. rw e) c.requires.coded)
    (second _ _ _ _ _ c.on.ensures c.fetch.ensures _ _ c.requires.reaches c.in_default.is) c.no_parcel.ensures

pub jkm-requires : goal.jkm-requires
jkm-requires c =
    second-narrow _ _ _ _ _ c.on.ensures c.fetch.ensures _ c.in-Some.is

pub either_24-y-requires : goal.either_24-y-requires
either_24-y-requires c =
    omega (arith, c.jkm.ensures, second-narrow _ _ _ _ _ c.on.ensures c.fetch.ensures _ c.in-Some.is)

pub returns : goal.returns
unfolding code_of act
returns c =
    puts-two _ _ _ _ _ _ _ _ _ refl c.set_a.ensures
    (either-code c.args.complement constant_a complement_a _ _ 0o020 0o021 (λ e. rw e) (λ e. rw e) c.requires.coded)
    (second _ _ _ _ _ c.on.ensures c.fetch.ensures _ _ c.requires.reaches c.in-Some.is)
    (rw (c.i.ensures, c.either_24-y.ensures, c.jkm.ensures)
    (either-act c.args.complement constant_a complement_a (act_at c.args.r.now c.args.p.0 c.args.x c.in-Some.m 2)
    (to_a (i_of c.args.x)) _ _ refl refl))
