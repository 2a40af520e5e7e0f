use Rattle.std.proofs.Common.{ℕ, ◌+◌, ◌-◌, ◌*◌, ◌≤◌, List}
use Rattle.text.specs.Report.{changed_words, Wrote}
use Rattle.text.proofs.put_changes.Given as goal

abbrev pub invariant-loop-a : goal.invariant-loop-a
invariant-loop-a l =
    (l.to ≤ l.at + 200 * l.a)
    × ((m : List ℕ) (q : ℕ) → Wrote l.out l.to (changed_words (l.n - l.a) l.a l.before l.after) m q → Wrote l.initial.out l.at (changed_words l.n 0 l.before l.after) m q)
