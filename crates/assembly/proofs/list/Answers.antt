use mathlib.Core.Path.{sym, ◌∙◌}
use borrow.Author.Tests.{leb-true, not-true, not-false}
use lib.ListN.{length}
use Rattle.spelling.specs.Listing.{list_of}
use Rattle.assembly.proofs.Laws.{listed-not, listed-all}
use Rattle.assembly.proofs.list.Goals as goal

pub returns-then-not-is_room : goal.returns-then-not-is_room
returns-then-not-is_room c =
    let r = listed-not c.args.parcels.now c.args.room.now (sym c.is_room.ensures ∙ not-true _ c.if-not-is_room.true-raw) in
    record { value = r.0; room_after = r.1 }

pub write-requires : goal.write-requires
write-requires c =
    leb-true (length (list_of c.args.parcels.now)) (length c.args.room.now) (sym c.is_room.ensures ∙ not-false _ c.if-not-is_room.false-raw)

pub returns : goal.returns
returns c =
    let r = listed-all c.args.parcels.now c.args.room.now _ _
    (sym c.is_room.ensures
    ∙ not-false _ c.if-not-is_room.false-raw)
    c.write.ensures in
    record { value = r.0; room_after = r.1 }
