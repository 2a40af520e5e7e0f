use mathlib.Core.Path.{◌≡◌, refl, sym, subst, ◌∙◌}
use mathlib.Core.List.{List}
use Prim.Native.Nat.{ℕ, ◌+◌, ◌≤◌}
use lib.ListN.{length}
use native.Mathlib.Omega.{arith}
use Rattle.text.specs.Report.{Wrote}
use Rattle.spelling.specs.Listing.{list_of}
use Rattle.text.proofs.Writing.{then, wrote_as, wrote_none}
use Rattle.assembly.proofs.Laws.{rest-is, parcels-few, list-from, lines_next, no_lines}
use Rattle.assembly.proofs.write.Goals as goal

pub put_next-next-requires : goal.put_next-next-requires
put_next-next-requires c =
    let n = lines_next c.loop-rest.rest.now (omega arith) _ refl _ refl in (omega arith, omega (arith, n, c.loop-rest.invariant.1, c.loop-rest.invariant.0))

pub offset_bounds-rest-next : goal.offset_bounds-rest-next
offset_bounds-rest-next c =
    let few = parcels-few c.loop-rest.rest.now in
    record { fits = omega (arith, few, c.put_next-next.ensures.taken.0) }

pub loop-rest-preserved : goal.loop-rest-preserved
loop-rest-preserved c =
    let rest = c.loop-rest.rest.now in
    let n = lines_next rest (omega arith) _ c.put_next-next.ensures.taken.0 _ refl in
    let end = c.put_next-next.ensures.wrote.place in
    subst (λ (r : List ℕ). (length c.put_next-next.new.out ≡ length c.args.out.now) × (c.put_next-next.result.to + length (list_of r) ≤ length c.args.out.now)
    × ((k : List ℕ) (q : ℕ) → Wrote c.put_next-next.new.out c.put_next-next.result.to (list_of r) k q → Wrote c.args.out.now 0 (list_of c.args.parcels.now) k q))
    (sym (rest-is rest c.put_next-next.result.parcels _ refl)) (
      c.put_next-next.auto.out ∙ c.loop-rest.invariant.0,
      omega (arith, n, end, c.loop-rest.invariant.1),
      λ k q w. c.loop-rest.invariant.2 k q (wrote_as
          (list-from rest (omega arith) _ c.put_next-next.ensures.taken.0)
          (then c.put_next-next.ensures.wrote w)),
    )

pub returns : goal.returns
returns c = c.loop-rest.invariant.2 _ _ (wrote_as (no_lines c.loop-rest.rest.now (omega arith)) (wrote_none _ _))
