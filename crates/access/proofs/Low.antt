-- Words that were set in one loop from place 0 on; the first 32 of a processor, which are all but B, T and V. Assumes nothing.
use Rattle.std.proofs.Common.{◌≡◌, ℕ, zero, suc, ◌<◌, ◌≤◌, Bool, true, false, eqb, List, length, get_or, set, sym, refl, ◌∙◌}
use Rattle.std.proofs.Common.{not-suc-le-zero, zero-add, arith, get_or-set_other, get_or-set_same, eqb-true}
use borrow.Author.Tests.{eqb-false}
use Rattle.machine.specs.State.{fill}
use Rattle.access.proofs.Places.{fill-length}

-- a word that was set
pub filled : (f : ℕ → ℕ) (n : ℕ) (w : List ℕ) (i : ℕ) → i < n → n ≤ length w → get_or (fill 0 f n w) i 0 ≡ f i
unfolding fill
filled f zero w i h l = absurd (not-suc-le-zero h)
filled f (suc n) w i h l = rw zero-add (go (λ h. filled f n w i h (omega arith)) (eqb n i) refl)
  where
    go : (i < n → get_or (fill 0 f n w) i 0 ≡ f i) → (t : Bool) → eqb n i ≡ t → get_or (set (fill 0 f n w) n (f n)) i 0 ≡ f i
    go r true e = rw (← eqb-true n i e) (get_or-set_same (fill 0 f n w) n (f n) 0 (omega (arith, fill-length 0 f n w)))
    go r false e =
        let ne : n ≡ i → ⊥ = eqb-false n i e in
        get_or-set_other (fill 0 f n w) n i (f n) 0 (λ z. ne (sym z)) ∙ r (omega (arith, ne))
