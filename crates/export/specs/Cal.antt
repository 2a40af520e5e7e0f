-- What assembling and listing leave to their caller. Assumes nothing.
use Rattle.std.specs.Prelude.{ℕ, List, [], ◌∷◌, eqb}
use Rattle.machine.specs.Word.{pick}
use Rattle.spelling.specs.Assembling.{assembled, room_assembled, assembled_numbers}
use Rattle.spelling.specs.Listing.{listed, room_listed, listed_numbers}
use Rattle.numbers.specs.Left.{Left, left, refused}

-- of an answer's numbers what a report takes: the second; where there is none it stays
abbrev pub reported : List ℕ → List ℕ → List ℕ
reported report (n ∷ x ∷ xs) = x ∷ []
reported report (n ∷ []) = report
reported report [] = report

-- a text assembled: the room, as found unless the number is 0, and the parcels written or the bad line
abbrev pub after_assemble : List ℕ → List ℕ → List ℕ → Left
after_assemble text room report =
    let n = assembled_numbers (assembled text room) in
    left (refused n) [] (pick (eqb (refused n) 0) (room_assembled text room) room ∷ reported report n ∷ [])

-- parcels listed: the same, and the bytes written
abbrev pub after_list : List ℕ → List ℕ → List ℕ → Left
after_list parcels room report =
    let n = listed_numbers (listed parcels room) in
    left (refused n) [] (pick (eqb (refused n) 0) (room_listed parcels room) room ∷ reported report n ∷ [])
