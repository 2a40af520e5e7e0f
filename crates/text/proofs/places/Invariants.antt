use mathlib.Core.Path.{◌≡◌}
use Prim.Native.Nat.{ℕ, ◌+◌, ◌-◌, ◌^◌, ◌≤◌, ◌<◌}
use Rattle.text.specs.Digits.{places_of}
use Rattle.text.proofs.places.Given as goal

abbrev pub invariant-loop-rest : goal.invariant-loop-rest
invariant-loop-rest l = (l.k ≤ 64) × (l.rest < 2 ^ (65 - l.k)) × ((most : ℕ) × (l.rest ≤ most) × (places_of l.n l.base l.n + 1 ≡ places_of most l.base l.rest + l.k))

abbrev pub decreases-loop-rest : goal.decreases-loop-rest
decreases-loop-rest l = l.rest
