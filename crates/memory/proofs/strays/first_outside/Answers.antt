use Rattle.std.proofs.Common.{◌≡◌, refl, add-one, arith}
use Rattle.machine.specs.Memory.{first_outside}
use Rattle.memory.proofs.Fields.{place-low}
use Rattle.memory.proofs.Rows.{next_address}
use Rattle.memory.proofs.strays.first_outside.Goals as goal

pub loop-element-init : goal.loop-element-init
unfolding first_outside
loop-element-init c = (omega arith, omega arith, refl)

pub loop-element-preserved : goal.loop-element-preserved
unfolding first_outside
loop-element-preserved c = (
  omega (arith, c.loop-element-test.true),
  rw c.wrapping_add_u64-at.ensures.value (next_address _ _ _ _ c.loop-element.invariant.1),
  rw add-one (rw (c.or-stray.ensures, c.stray_at-here.ensures, c.loop-element.invariant.2, c.place_of.ensures, place-low _ _ _ _ c.loop-element.invariant.1)),
)

pub returns : goal.returns
returns c =
    let e : c.loop-element.element ≡ c.args.n = omega (arith, c.loop-element-test.false, c.loop-element.invariant.0) in
    rw e at c.loop-element.invariant.2
