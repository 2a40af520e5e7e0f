use Rattle.std.proofs.Common.{ℕ, ◌+◌, ◌*◌, ◌≤◌, List, drop}
use Rattle.text.specs.Report.{after_commas, Wrote}
use Rattle.text.proofs.put_list.Given as goal

abbrev pub invariant-loop-n : goal.invariant-loop-n
invariant-loop-n l =
    (l.to ≤ l.initial.to + 65 * l.n-index)
    × ((m : List ℕ) (q : ℕ) → Wrote l.out l.to (after_commas l.least (drop (l.n-index + 1) l.ns)) m q
    → Wrote l.initial.out l.initial.to (after_commas l.least (drop 1 l.ns)) m q)
