use mathlib.Core.Path.{◌≡◌}
use lib.ListN.{length}
use lib.Dec.{leb}
use Rattle.spelling.specs.Listing.{list_of}
use Rattle.spelling.proofs.Texts.{Narrow}
use Rattle.assembly.proofs.is_room.Given as goal

abbrev pub invariant-loop-rest : goal.invariant-loop-rest
invariant-loop-rest l =
    (length l.line ≡ 16) × (leb (length (list_of l.fn.parcels)) l.fn.room ≡ leb (length (list_of l.rest)) l.left) × Narrow l.rest

abbrev pub decreases-loop-rest : goal.decreases-loop-rest
decreases-loop-rest l = length l.rest
