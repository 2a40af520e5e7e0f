use Prim.Native.Nat.{ℕ, zero, suc}
use mathlib.Core.Logic.{◌≢◌}
use mathlib.Core.List.{[], ◌∷◌}
use mathlib.Core.Path.{◌≡◌, refl}
use Rattle.machine.specs.Act.{ones_v, parity_v}
use Rattle.machine.specs.Codes.{holds_one, holds_none, nth, code_of}
use Rattle.access.proofs.Leaf.{not-held}
use borrow.Author.Rules.{rules}
use Rattle.vector.proofs.count.Goals as goal

-- only 174ij1 and 174ij2 are held
none-174 : (k : ℕ) → k ≢ 1 → k ≢ 2 → nth (holds_none ∷ holds_one ones_v ∷ holds_one parity_v ∷ []) k ≡ holds_none
none-174 zero h g = refl
none-174 (suc zero) h g = absurd (h refl)
none-174 (suc (suc zero)) h g = absurd (g refl)
none-174 (suc (suc (suc k))) h g = refl

pub returns-in_default : goal.returns-in_default
unfolding code_of
returns-in_default c =
    λ p mem. not-held _ mem p _ (rw (c.requires.1, ← c.k.ensures, none-174 c.k.result (search rules) (search rules)))
