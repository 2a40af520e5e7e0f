use mathlib.Core.Path.{◌≡◌}
use mathlib.Core.List.{List}
use Prim.Native.Nat.{ℕ, ◌+◌, ◌*◌, ◌-◌}
use lib.ListN.{length}
use Rattle.text.specs.Report.{Wrote}
use Rattle.octal.specs.Words.{words_from}
use Rattle.octal.proofs.put_words.Given as goal

abbrev pub invariant-loop-k : goal.invariant-loop-k
invariant-loop-k l =
    (length l.out ≡ length l.initial.out)
    × (l.at ≡ 22 * l.k)
    × ((m : List ℕ) (q : ℕ) → Wrote l.out l.at (words_from (l.n - l.k) (l.address + l.k) (4 * l.k) l.parcels) m q → Wrote
    l.initial.out 0 (words_from l.n l.address 0 l.parcels) m q)
