use mathlib.Core.Path.{ap, ◌∙◌}
use mathlib.Core.List.{List, [], append-nil}
use Prim.Native.Nat.{ℕ}
use lib.ListN.{drop}
use Rattle.spelling.specs.Candidate.{guess_of}
use Rattle.guess.specs.Meant.{meant}
use Rattle.assembly.proofs.Guessing.{chunk-whole, guess-padded}
use Rattle.assembly.proofs.look.Goals as goal

pub returns-in-Some : goal.returns-in-Some
returns-in-Some c =
    c.guess.ensures (drop 32 c.args.text.now)
    ∙ ap (λ (l : List ℕ). meant (guess_of l)) (chunk-whole c.args.text.now c.in-Some.line.now c.in-Some.ensures.cases.same)

pub returns-in-None : goal.returns-in-None
returns-in-None c =
    c.guess-in-None.ensures []
    ∙ ap (λ (l : List ℕ). meant (guess_of l)) (append-nil c.padded.result ∙ c.padded.ensures)
    ∙ ap meant (guess-padded c.args.text.now)
