use Rattle.std.proofs.Common.{◌≡◌}
use Rattle.std.proofs.lemmas.List.Edits.{sets}
use Rattle.text.specs.Digits.{digits}
use Rattle.text.proofs.put_digits.Given as goal

abbrev pub invariant-loop-i : goal.invariant-loop-i
invariant-loop-i l = sets l.initial.out l.at (digits l.base l.k l.n) ≡ sets l.out l.at (digits l.base l.i l.rest)
