use mathlib.Core.Path.{◌≡◌, refl, sym, ap, ◌∙◌, subst}
use mathlib.Core.List.{List, [], ◌++◌}
use Prim.Native.Nat.{ℕ, ◌+◌, ◌<◌}
use lib.ListN.{length, length-append, length-drop}
use lib.Seq.{sets}
use native.Mathlib.Omega.{arith}
use Rattle.assembly.specs.Reads.{parcels_meant}
use Rattle.assembly.proofs.Laws.{Passed, rest-is, passed_none, passed-all, store-next, sets_more, stored-all}
use Rattle.assembly.proofs.store.Goals as goal

pub loop-rest-init : goal.loop-rest-init
loop-rest-init c = (0, [], passed_none _, refl, refl, refl)

pub put_parcels-n-requires : goal.put_parcels-n-requires
put_parcels-n-requires c =
    let s = store-next _ _ _ _ _ _ c.loop-rest.invariant.2 (omega arith) c.requires c.look-g.ensures in
    let fits = s.fits in
    omega (arith, fits, c.loop-rest.invariant.3, c.loop-rest.invariant.5)

pub slice_bounds-rest-count : goal.slice_bounds-rest-count
slice_bounds-rest-count c =
    let s = store-next _ _ _ _ _ _ c.loop-rest.invariant.2 (omega arith) c.requires c.look-g.ensures in s.inside

pub slice_bounds-rest-start : goal.slice_bounds-rest-start
slice_bounds-rest-start c =
    let s = store-next _ _ _ _ _ _ c.loop-rest.invariant.2 (omega arith) c.requires c.look-g.ensures in
    s.inside

pub loop-rest-smaller : goal.loop-rest-smaller
loop-rest-smaller c =
    let rest = c.loop-rest.rest.now in
    let n = c.look-g.result.length in
    let s = store-next _ _ _ _ _ _ c.loop-rest.invariant.2 (omega arith) c.requires c.look-g.ensures in
    let some = s.some in
    let inside = s.inside in
    let left = length-drop n rest in
    subst (λ (r : List ℕ). length r < length rest) (sym (rest-is rest n _ refl)) (omega (arith, some, inside, left))

pub loop-rest-preserved : goal.loop-rest-preserved
loop-rest-preserved c =
    let rest = c.loop-rest.rest.now in
    let s = store-next _ _ _ _ _ _ c.loop-rest.invariant.2 (omega arith) c.requires c.look-g.ensures in
    let ps = parcels_meant c.look-g.result in
    subst (λ (r : List ℕ). (k : ℕ) × (done : List ℕ) × Passed c.args.text.now r k done × (length done ≡ c.put_parcels-n.result)
    × (c.put_parcels-n.new.room ≡ sets c.args.room.now 0 done) × (length c.put_parcels-n.new.room ≡ length c.args.room.now))
    (sym (rest-is rest c.look-g.result.length _ refl)) (
      c.loop-rest.invariant.0 + 1,
      c.loop-rest.invariant.1 ++ ps,
      s.next,
      length-append c.loop-rest.invariant.1 ps ∙ ap (λ (j : ℕ). j + length ps) c.loop-rest.invariant.3 ∙ sym c.put_parcels-n.ensures.1,
      sets_more _ _ _ c.loop-rest.invariant.1 ps _ c.loop-rest.invariant.4 c.loop-rest.invariant.3 c.put_parcels-n.ensures.0,
      c.put_parcels-n.auto.room ∙ c.loop-rest.invariant.5,
    )

pub returns : goal.returns
returns c =
    c.loop-rest.invariant.4
    ∙ stored-all _ _ c.loop-rest.invariant.1 (passed-all _ _ _ _ c.loop-rest.invariant.2 (omega arith)) c.requires
