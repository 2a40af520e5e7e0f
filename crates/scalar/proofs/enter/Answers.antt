use mathlib.Core.Path.{refl}
use Rattle.machine.specs.Parcel.{i_of}
use Rattle.machine.specs.State.{to_s}
use Rattle.machine.specs.Act.{constant_s, complement_s, act}
use Rattle.machine.specs.Codes.{code_of}
use Rattle.access.proofs.Windows.{code_inside, second, second-narrow}
use Rattle.access.proofs.Leaf.{act_at, puts-two, lost, either-code, either-act}
use Rattle.scalar.proofs.enter.Goals as goal

pub fetch-requires : goal.fetch-requires
fetch-requires c =
    code_inside _ _ _ c.requires.reaches

pub returns-in_default : goal.returns-in_default
unfolding code_of
returns-in_default c =
    lost _ _ _ _ _ _
    (either-code c.args.complement constant_s complement_s _ _ 0o040 0o041 (λ e. rw e) (λ e. rw e) c.requires.coded)
    (second _ _ _ _ _ c.on.ensures c.fetch.ensures _ _ c.requires.reaches c.in_default.is) c.no_parcel.ensures

pub jkm-requires : goal.jkm-requires
jkm-requires c =
    second-narrow _ _ _ _ _ c.on.ensures c.fetch.ensures _ c.in-Some.is

pub returns : goal.returns
unfolding code_of act
returns c =
    puts-two _ _ _ _ _ _ _ _ _ refl c.set_s.ensures
    (either-code c.args.complement constant_s complement_s _ _ 0o040 0o041 (λ e. rw e) (λ e. rw e) c.requires.coded)
    (second _ _ _ _ _ c.on.ensures c.fetch.ensures _ _ c.requires.reaches c.in-Some.is)
    (rw (c.i.ensures, c.either-y.ensures, c.jkm.ensures)
    (either-act c.args.complement constant_s complement_s (act_at c.args.r.now c.args.p.0 c.args.x c.in-Some.m 2)
    (to_s (i_of c.args.x)) _ _ refl refl))
