use mathlib.Core.Path.{◌≡◌, subst}
use Prim.Native.Nat.{ℕ, suc, ◌+◌, ◌-◌, ◌/◌, ◌^◌, ◌≤◌, ◌<◌}
use native.Mathlib.Nat.{div-lt_self}
use native.Mathlib.Omega.{arith}
use Rattle.text.proofs.Writing.{places-next, places-last, one_fewer, two-left}
use Rattle.text.proofs.places.Goals as goal

pub loop-rest-preserved : goal.loop-rest-preserved
loop-rest-preserved c =
    let less : c.loop-rest.rest / c.args.base < c.loop-rest.rest = div-lt_self (omega (arith, c.requires))
    c.requires in let next = places-next c.loop-rest.invariant.2.0 _ _ c.loop-rest.invariant.2.1 c.loop-rest-test.true c.requires in
    let two : 2 ≤ 65 - c.loop-rest.k = two-left c.loop-rest.rest _ (omega (arith, c.requires)) c.loop-rest.invariant.1 in
    let one : 65 - c.loop-rest.k ≡ suc (65 - (c.loop-rest.k + 1)) = omega arith in (
      omega arith,
      one_fewer _ _ _ c.requires (subst (λ (m : ℕ). c.loop-rest.rest < 2 ^ m) one c.loop-rest.invariant.1),
      (c.loop-rest.invariant.2.0 - 1, omega arith, omega (arith, next, c.loop-rest.invariant.2.2)),
    )

pub returns : goal.returns
returns c = omega (arith, places-last c.loop-rest.invariant.2.0 _ _ c.loop-rest-test.false, c.loop-rest.invariant.2.2)
