use mathlib.Core.Path.{◌≡◌}
use mathlib.Core.List.{◌++◌}
use Prim.Native.Nat.{ℕ, ◌<◌}
use native.Mathlib.Omega.{arith}
use lib.ListN.{get_or, get_or-append}
use Rattle.spelling.specs.Candidate.{bytes_of, plan_of, guess_by, guess_of}
use Rattle.guess.proofs.Laws.{plan-below}
use Rattle.guess.proofs.Local.{row_seen-same, guess_with-same}
use Rattle.guess.proofs.Plans.guess.Goals as goal

pub returns : goal.returns
unfolding guess_by guess_of
returns c = λ rest.
    let line = c.args.line.now in
    let same : (p : ℕ) → p < 32 → get_or (line ++ rest) p 10 ≡ get_or line p 10 = λ p h. get_or-append line rest 10 p (omega arith) in
    let plan = guess_with-same (bytes_of (line ++ rest)) (bytes_of line) same (plan_of c.row_seen.result) (plan-below c.row_seen.ensures.1) in
    rw (row_seen-same (bytes_of (line ++ rest)) (bytes_of line) same, ← c.row_seen.ensures.0, plan) c.guess_with.ensures
