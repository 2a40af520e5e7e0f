use Rattle.std.proofs.Common.{ℕ, ◌+◌, List, drop}
use Rattle.text.specs.Report.{Wrote}
use Rattle.text.proofs.put_text.Given as goal

abbrev pub invariant-loop-i : goal.invariant-loop-i
invariant-loop-i l = (m : List ℕ) (q : ℕ) → Wrote l.out (l.at + l.i) (drop l.i l.text) m q → Wrote l.initial.out l.at l.text m q
