-- Two answers to a sheet that the statement allows are equal. Assumes nothing.
use Prim.Native.Nat.{ℕ}
use mathlib.Core.Path.{◌≡◌}
use mathlib.Core.List.{List}
use Rattle.text.specs.Report.{Wrote}
use Rattle.text.proofs.Unique.{wrote-unique}
use Rattle.case.specs.Case.{answer_of}

pub answer-unique : (sheet out out' out'' : List ℕ) (n n' : ℕ) → Wrote out 0 (answer_of sheet) out' n → Wrote out 0 (answer_of sheet) out'' n'
    → (out' ≡ out'') × (n ≡ n')
answer-unique sheet out out' out'' n n' = wrote-unique out 0 _ out' out'' n n'
