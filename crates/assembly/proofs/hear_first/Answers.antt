use mathlib.Core.Path.{subst, ◌∙◌}
use mathlib.Core.List.{List, [], append-nil}
use Prim.Native.Nat.{ℕ}
use lib.ListN.{drop}
use Rattle.assembly.specs.Reads.{Hears}
use Rattle.assembly.proofs.Guessing.{chunk-whole, heard-here, heard-padded}
use Rattle.assembly.proofs.hear_first.Goals as goal

pub returns-in-Some : goal.returns-in-Some
returns-in-Some c =
    heard-here c.args.text.now c.hear.result
    (subst (λ (l : List ℕ). Hears l c.hear.result) (chunk-whole c.args.text.now c.in-Some.line.now c.in-Some.ensures.cases.same)
    (c.hear.ensures (drop 32 c.args.text.now)))

pub returns-in-None : goal.returns-in-None
returns-in-None c =
    heard-padded c.args.text.now c.hear-in-None.result
    (subst (λ (l : List ℕ). Hears l c.hear-in-None.result) (append-nil c.padded.result ∙ c.padded.ensures) (c.hear-in-None.ensures []))
