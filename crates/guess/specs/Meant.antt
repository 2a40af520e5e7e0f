-- What the program passes on of a guess. Assumes nothing.
use Rattle.std.specs.Prelude.{Some, None}
use Rattle.machine.specs.Word.{pick}
use Rattle.spelling.specs.Candidate.{Guess as Parcels}
use Rattle.guess.specs.declared.Guess.{Guess}

-- the first parcel, the second if it is meant, and how many bytes the line has
abbrev pub meant : Parcels → Guess
meant g = record { first = g.first; second = pick g.two (Some g.second) None; length = g.length }
