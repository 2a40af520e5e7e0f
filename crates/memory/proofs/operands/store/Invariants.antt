use Rattle.std.proofs.Common.{◌≡◌, ℕ, ◌+◌, ◌-◌, ◌*◌, ◌%◌, ◌^◌, ◌≤◌, List, length, get_or}
use Rattle.memory.specs.Moves.{row_in, any_beyond, stores_at}
use Rattle.memory.proofs.operands.store.Given as goal

-- mem₀ is memory as the loop finds it: where that is q with the first `whole` words of the row, mem is q with the first e
abbrev pub invariant-loop-e : goal.invariant-loop-e
invariant-loop-e l =
    let val : ℕ → ℕ = λ i. get_or l.r (l.row.file + (l.row.reg + i) % 64) 0 in
    (l.e ≤ l.row.n) × (length l.mem ≡ length l.initial.mem) × (l.at % 2 ^ 22 ≡ (l.from + l.e * l.row.by) % 2 ^ 22) ×
    (l.outside ≡ any_beyond (row_in l.window.first l.window.words l.from l.row.by) l.e)
    × ((q : List ℕ) → l.initial.mem ≡ stores_at (row_in l.window.first l.window.words l.from l.row.by) val l.whole q → l.mem ≡ stores_at
    (row_in l.window.first l.window.words l.from l.row.by) val l.e q)

abbrev pub decreases-loop-e : goal.decreases-loop-e
decreases-loop-e l = l.row.n - l.e
