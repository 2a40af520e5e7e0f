use mathlib.Core.Path.{◌≡◌, refl, sym, ap, ◌∙◌, subst}
use mathlib.Core.List.{List}
use Prim.Native.Nat.{ℕ, ◌-◌}
use native.Mathlib.Nat.{zero-add}
use native.Mathlib.Omega.{arith}
use borrow.Author.Tests.{le-leb}
use lib.ListN.{length}
use lib.Dec.{leb}
use Rattle.spelling.specs.Listing.{list_of}
use Rattle.spelling.proofs.Texts.{Narrow, list-most}
use Rattle.assembly.proofs.Laws.{rest-is, parcels-few, narrow-rest, first-most, lines_next, no_lines, room_next, room-short}
use Rattle.assembly.proofs.is_room.Goals as goal

pub returns-then-parcels-room : goal.returns-then-parcels-room
returns-then-parcels-room c =
    let most = list-most c.args.parcels.now (λ i. let b = c.type_inv.parcels i in omega (arith, b)) in
    sym (le-leb (length (list_of c.args.parcels.now)) c.args.room (omega (arith, most)))

pub put_next-next-requires : goal.put_next-next-requires
put_next-next-requires c =
    let few = first-most c.loop-rest.rest.now c.loop-rest.invariant.2 (omega arith) in
    (omega arith, omega (arith, few, c.loop-rest.invariant.0))

pub returns-then-left-next : goal.returns-then-left-next
returns-then-left-next c =
    let b = c.put_next-next.ensures.wrote.place ∙ zero-add _ in
    sym
    (c.loop-rest.invariant.1 ∙ room-short _ _ _ _ (lines_next _ (omega arith) _ c.put_next-next.ensures.taken.0 _ b) c.if-left-next.true)

pub offset_bounds-rest-next : goal.offset_bounds-rest-next
offset_bounds-rest-next c =
    let few = parcels-few c.loop-rest.rest.now in
    record { fits = omega (arith, few, c.put_next-next.ensures.taken.0) }

pub loop-rest-preserved : goal.loop-rest-preserved
loop-rest-preserved c =
    let rest = c.loop-rest.rest.now in
    let b = c.put_next-next.ensures.wrote.place ∙ zero-add _ in
    subst (λ (r : List ℕ). (length c.put_next-next.new.out ≡ 16)
    × (leb (length (list_of c.args.parcels.now)) c.args.room ≡ leb (length (list_of r)) (c.loop-rest.left - c.put_next-next.result.to)) × Narrow r)
    (sym (rest-is rest c.put_next-next.result.parcels _ refl)) (
      c.put_next-next.auto.out ∙ c.loop-rest.invariant.0,
      c.loop-rest.invariant.1
          ∙ room_next _ _ _ _ (lines_next _ (omega arith) _ c.put_next-next.ensures.taken.0 _ b) c.if-left-next.false,
      narrow-rest rest c.put_next-next.result.parcels c.loop-rest.invariant.2,
    )

pub returns : goal.returns
returns c =
    sym
    (c.loop-rest.invariant.1 ∙ ap (λ (k : ℕ). leb k c.loop-rest.left) (ap length (no_lines c.loop-rest.rest.now (omega arith)))
    ∙ le-leb 0 c.loop-rest.left (omega arith))
