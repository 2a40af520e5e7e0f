use Rattle.std.proofs.Common.{◌≡◌, refl, zero-add, arith, rules}
use Rattle.machine.specs.State.{fill}
use Rattle.access.proofs.Places.{fill-turn}
use Rattle.access.proofs.Low.{filled}
use Rattle.access.proofs.words.sixteen.Goals as goal

pub loop-n-init : goal.loop-n-init
unfolding fill
loop-n-init c = (search rules, refl)

pub loop-n-preserved : goal.loop-n-preserved
loop-n-preserved c =
    (search rules, rw zero-add at (fill-turn 0 _ c.loop-n.n _ _ _ _ c.loop-n.invariant.1 refl c.cut.ensures))

pub returns : goal.returns
returns c = λ n l.
    let e : c.loop-n.n ≡ 16 = omega arith in
    rw (c.loop-n.invariant.1, e) (filled _ 16 _ n l (omega arith))
