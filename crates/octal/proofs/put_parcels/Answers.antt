use mathlib.Core.Path.{◌≡◌, ◌∙◌}
use Prim.Native.Nat.{◌<◌}
use native.Mathlib.Omega.{arith}
use lib.ListN.{length}
use Rattle.text.proofs.Writing.{then, wrote-byte, wrote_none, wrote_as}
use Rattle.octal.proofs.Written.{parcels-next, parcels-done}
use Rattle.octal.proofs.put_parcels.Goals as goal

pub loop-p-preserved : goal.loop-p-preserved
loop-p-preserved c =
    let more : c.loop-p.p-index < length c.args.parcels.now = omega arith in (
      c.put_byte.auto.out ∙ c.put_parcel-end.auto.out ∙ c.loop-p.invariant.0,
      omega (arith, c.put_parcel-end.ensures.1),
      λ m q w. c.loop-p.invariant.2 m q (wrote_as (parcels-next _ _ more) (then
          (then c.put_parcel-end.ensures.0 (wrote-byte c.put_byte.ensures)) w)),
    )

pub returns-clause-wrote : goal.returns-clause-wrote
returns-clause-wrote c =
    let e : c.loop-p.p-index ≡ length c.args.parcels.now = omega arith in
    c.loop-p.invariant.2 _ _ (wrote_as (parcels-done _ _ e) (wrote_none _ _))
