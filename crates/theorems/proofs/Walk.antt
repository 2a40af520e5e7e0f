-- n steps of one processor, each of which steps. Assumes nothing.
use Prim.Native.Nat.{ℕ, zero, suc, ◌+◌, ◌<◌}
use mathlib.Core.Path.{◌≡◌, refl, ◌∙◌, ap}
use native.Mathlib.Omega.{arith}
use native.Mathlib.Nat.{zero-add}
use lib.ListN.{length}
use Rattle.std.specs.Prelude.{Option, None}
use Rattle.machine.specs.declared.Answer.TheVariants.{Stepped}
use Rattle.machine.specs.declared.Stray.{Stray}
use Rattle.machine.specs.State.{State, Shared}
use Rattle.machine.specs.Memory.{or_else}
use Rattle.machine.specs.Step.{step_of}
use Rattle.machine.specs.Run.{run_of, Half, half_with, half}
use Rattle.theorems.proofs.Counted.{state_after, shared_after, last_stray, Goes, run-spent}
use Rattle.theorems.specs.Statement.{Own, Agree, AsAlone}
use Rattle.theorems.proofs.Step.{step-frame, step-only, step_same}

abbrev pub Steps : ℕ → State → Shared → Type 0
Steps zero x sh = Unit {0}
Steps (suc n) x sh = ((step_of x sh).answer ≡ Stepped) × Steps n (step_of x sh).state (step_of x sh).shared

-- none of them stops
steps-go : (n : ℕ) (x : State) (sh : Shared) → Steps n x sh → Goes n x sh
steps-go zero x sh s = tt
steps-go (suc n) x sh s = (rw s.0, steps-go n (step_of x sh).state (step_of x sh).shared s.1)

-- they are the same in a memory that agrees on the two fields, and perhaps on more
pub record SameWalk (P : ℕ → Type 0) (n : ℕ) (x : State) (sh sh' : Shared) : Type 0 where
  pub steps : Steps n x sh'
  pub state : state_after n x sh' ≡ state_after n x sh
  pub stray : (s : Option Stray) → last_stray n s x sh' ≡ last_stray n s x sh
  pub mem : Agree P (shared_after n x sh).mem (shared_after n x sh').mem

pub walk_same : (P : ℕ → Type 0) (len n : ℕ) (x : State) (sh sh' : Shared) → ((w : ℕ) → Own x.frame len w → P w) → length sh.mem ≡ len
    → Agree P sh.mem sh'.mem → Steps n x sh → SameWalk P n x sh sh'
walk_same P len zero x sh sh' own l h s = record { steps = tt; state = refl; stray = λ i. refl; mem = h }
walk_same P len (suc n) x sh sh' own l h s =
    let t = step_same P x len sh sh' own l h s.0 in
    let own' : (w : ℕ) → Own (step_of x sh).state.frame len w → P w = rw (step-frame x sh s.0) own in
    let l' = (step-only x len sh l s.0).long ∙ l in
    let w = walk_same P len n (step_of x sh).state (step_of x sh).shared (step_of x sh').shared own' l' t.mem s.1 in
    record {
      steps = (t.answer, rw t.state w.steps);
      state = rw t.state w.state;
      stray = λ i. rw (t.stray, t.state) (w.stray (or_else (step_of x sh).stray i));
      mem = rw (t.state, shared_after) w.mem;
    }

-- a processor in a pair run, after n steps of its own
abbrev pub later : ℕ → Half → Shared → Half
later n x sh = half_with (state_after n x.state sh) (last_stray n x.stray x.state sh)

pub later_same : {P : ℕ → Type 0} (n : ℕ) (x : Half) (sh sh' : Shared) → SameWalk P n x.state sh sh' → later n x sh' ≡ later n x sh
later_same n x sh sh' h = λ i. half_with (h.state i) (h.stray x.stray i)

-- a run takes them all
walk-each : (n k : ℕ) (i : Option Stray) (d : ℕ) (x : State) (sh : Shared) → Steps n x sh → k < n
    → (step_of (run_of k i d x sh).state (run_of k i d x sh).shared).answer ≡ Stepped
unfolding run_of
walk-each zero k i d x sh s l = absurd (omega arith)
walk-each (suc n) zero i d x sh s l = s.0
walk-each (suc n) (suc k) i d x sh s l =
    let o = step_of x sh in
    rw s.0 (walk-each n k (or_else o.stray i) (d + 1) o.state o.shared s.1 (omega arith))

pub as-alone : (n : ℕ) (x : State) (sh : Shared) (x' : Half) (sh' : Shared) → Steps n x sh → later n (half x) sh ≡ x'
    → Agree (Own x.frame (length sh.mem)) (shared_after n x sh).mem sh'.mem → AsAlone n x sh x' sh'
as-alone n x sh x' sh' s e h =
    let r = run-spent n None 0 x sh (steps-go n x sh s) in
    record {
      each = λ k l. walk-each n k None 0 x sh s l;
      ending = rw r;
      steps = rw r (zero-add n);
      state = rw r (ap (λ (x : Half). x.state) e);
      stray = rw r (ap (λ (x : Half). x.stray) e);
      fields = rw r h;
    }
