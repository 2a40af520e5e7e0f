use Rattle.std.proofs.Common.{◌≡◌, ℕ, ◌+◌, ◌-◌, ◌*◌, ◌%◌, ◌^◌, ◌≤◌, List, length}
use Rattle.access.specs.Window.{load_in}
use Rattle.access.specs.Executed.{cut_to, ring_at}
use Rattle.memory.specs.Moves.{row_in, any_beyond}
use Rattle.memory.proofs.operands.read.Given as goal

-- r₀ is the list as the loop finds it: where that is q with the first `whole` words of the row, r is q with the first e
abbrev pub invariant-loop-e : goal.invariant-loop-e
invariant-loop-e l =
    let word : ℕ → ℕ = λ i. cut_to l.narrow (load_in l.mem (row_in l.window.first l.window.words l.from l.row.by i)) in
    (l.e ≤ l.row.n) × (length l.r ≡ 672) × (l.at % 2 ^ 22 ≡ (l.from + l.e * l.row.by) % 2 ^ 22)
    × (l.outside ≡ any_beyond (row_in l.window.first l.window.words l.from l.row.by) l.e)
    × ((q : List ℕ) → l.initial.r ≡ ring_at l.row.file l.row.reg word l.whole q → l.r ≡ ring_at l.row.file l.row.reg word l.e q)

abbrev pub decreases-loop-e : goal.decreases-loop-e
decreases-loop-e l = l.row.n - l.e
