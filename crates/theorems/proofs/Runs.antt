-- Laws of runs. Assumes nothing.
use Prim.Native.Nat.{ℕ, zero, suc, ◌+◌, ◌≤◌, ◌<◌}
use mathlib.Core.Path.{◌≡◌, refl, ◌∙◌}
use mathlib.Core.Logic.{◌⊎◌, inl, inr}
use mathlib.Core.Bool.{true}
use mathlib.Core.List.{List}
use native.Mathlib.Omega.{arith}
use native.Mathlib.Nat.{zero-add, suc-add}
use lib.ListN.{length}
use Rattle.std.specs.Prelude.{Option, None, Result, Ok, Err}
use Rattle.machine.specs.declared.Answer.{Answer}
use Rattle.machine.specs.declared.Answer.TheVariants.{Stepped, Exchanged, NotHeld, MonitorFetch}
use Rattle.machine.specs.declared.Ending.{Ending}
use Rattle.machine.specs.declared.Ending.TheVariants as ending
use Rattle.machine.specs.declared.Stray.{Stray}
use Rattle.machine.specs.Word.{pick}
use Rattle.machine.specs.State.{State, Shared}
use Rattle.machine.specs.Memory.{or_else}
use Rattle.machine.specs.Step.{out, step_of, stops, counted}
use Rattle.machine.specs.Run.{Last, turn_of, Ended, ended, ending_of, run_of, Half, pair_of}
use Rattle.laws.proofs.Laws.{step-stop}
use Rattle.laws.proofs.Kept.{turn-keeps, run-keeps, pair_keeps}
use Rattle.theorems.proofs.Counted.{next_answer, run-over, Ends, Took, run-took}
use Rattle.theorems.specs.Keeps.{Sized}
use Rattle.theorems.proofs.Keeps.{step-length, step-sized}

-- a run of 0 steps
pub run_none : (s : Option Stray) (n : ℕ) (st : State) (sh : Shared) → run_of 0 s n st sh ≡ ended (Ok ending.Budget) s n st sh
unfolding run_of
run_none s n st sh = refl

-- a run after a run: where that one ended by its budget it goes on, counts and all, and else it is over
abbrev pub after_budget : Result Ending ℕ → Ended → Ended → Ended
after_budget (Ok ending.Budget) rest e = rest
after_budget (Ok (ending.NotHeld p)) rest e = e
after_budget (Ok (ending.MonitorFetch p)) rest e = e
after_budget (Err n) rest e = e

abbrev pub and_then : ℕ → Ended → Ended
and_then b e = after_budget e.ending (run_of b e.stray e.steps e.state e.shared) e

pub run_on : (a b : ℕ) (s : Option Stray) (n : ℕ) (st : State) (sh : Shared) → run_of (a + b) s n st sh ≡ and_then b (run_of a s n st sh)
unfolding run_of
run_on zero b s n st sh = rw zero-add
run_on (suc a) b s n st sh =
    let o = step_of st sh in
    let i = or_else o.stray s in
    rw suc-add (go o.answer i o.state o.shared _ _ (run_on a b i (n + counted o.answer) o.state o.shared))
  where
    go : (o : Answer) (i : Option Stray) (st : State) (sh : Shared) (r r' : Ended) → r ≡ and_then b r'
        → pick (stops o) (ended (Ok (ending_of o)) i (n + counted o) st sh) r ≡ and_then b (pick (stops o) (ended (Ok (ending_of o)) i (n + counted o) st sh) r')
    go Stepped i st sh r r' e = e
    go (Exchanged flags) i st sh r r' e = e
    go (NotHeld p) i st sh r r' e = refl
    go (MonitorFetch p) i st sh r r' e = refl

-- a run ends by its budget, all of it counted, or sooner by a step that stops it and changes nothing
pub record Over (a n : ℕ) (e : Ended) : Type 0 where
  pub answer : Answer
  pub stop : stops answer ≡ true
  pub step : step_of e.state e.shared ≡ out answer None e.state e.shared
  pub ending : e.ending ≡ Ok (ending_of answer)
  pub steps : (n ≤ e.steps) × (e.steps < n + a)

pub run_ends : (a : ℕ) (s : Option Stray) (n : ℕ) (st : State) (sh : Shared)
    → (((run_of a s n st sh).ending ≡ Ok ending.Budget) × ((run_of a s n st sh).steps ≡ n + a)) ⊎ Over a n (run_of a s n st sh)
run_ends a s n st sh = go (run_of a s n st sh) (run-took a s n st sh)
  where
    go : (e : Ended) → Took a s n st sh e → ((e.ending ≡ Ok ending.Budget) × (e.steps ≡ n + a)) ⊎ Over a n e
    go e h = ends h.over
      where
        ends : Ends a h.k st sh e.ending → ((e.ending ≡ Ok ending.Budget) × (e.steps ≡ n + a)) ⊎ Over a n e
        ends (inl b) = inl (b.1, omega (arith, h.steps, b.0))
        ends (inr b) =
            let o = next_answer h.k st sh in
            let step : step_of e.state e.shared ≡ out o None e.state e.shared = rw (h.state, h.shared) (step-stop _ _ refl b.1) in
            inr (record { answer = o; stop = b.1; step = step; ending = b.2; steps = omega (arith, h.steps, b.0) })

-- a stopped run stays stopped: again from there it ends the same, and counts nothing more
pub run-stopped : (a : ℕ) (s : Option Stray) (n : ℕ) (st : State) (sh : Shared) → ((run_of a s n st sh).ending ≡ Ok ending.Budget → ⊥)
    → (b : ℕ) (t : Option Stray) (k : ℕ) → run_of (suc b) t k (run_of a s n st sh).state (run_of a s n st sh).shared
    ≡ ended (run_of a s n st sh).ending t k (run_of a s n st sh).state (run_of a s n st sh).shared
run-stopped a s n st sh over b t k = go (run_of a s n st sh) (run_ends a s n st sh) over
  where
    go : (e : Ended) → ((e.ending ≡ Ok ending.Budget) × (e.steps ≡ n + a)) ⊎ Over a n e → (e.ending ≡ Ok ending.Budget → ⊥)
        → run_of (suc b) t k e.state e.shared ≡ ended e.ending t k e.state e.shared
    go e (inl h) over = absurd (over h.0)
    go e (inr h) over = rw h.ending (rw h.step at (run-over b t k e.state e.shared (rw h.step h.stop)))

-- all lengths stay
pub turn-length : (a : ℕ) (l : Last) (s : Option Stray) (n : ℕ) (st : State) (sh : Shared) → length (turn_of a l s n st sh).shared.mem ≡ length sh.mem
turn-length a l s n st sh = turn-keeps (λ x i. length i.mem ≡ length sh.mem) (λ x i e. step-length x i ∙ e) a l s n st sh refl

pub turn-sized : (a : ℕ) (l : Last) (s : Option Stray) (n : ℕ) (st : State) (sh : Shared) → Sized st.registers → Sized (turn_of a l s n st sh).state.registers
turn-sized a l s n st sh z = turn-keeps (λ x i. Sized x.registers) (λ x i. step-sized x i) a l s n st sh z

pub run_length : (a : ℕ) (s : Option Stray) (n : ℕ) (st : State) (sh : Shared) → length (run_of a s n st sh).shared.mem ≡ length sh.mem
run_length a s n st sh = run-keeps (λ x i. length i.mem ≡ length sh.mem) (λ x i e. step-length x i ∙ e) a s n st sh refl

pub run-sized : (a : ℕ) (s : Option Stray) (n : ℕ) (st : State) (sh : Shared) → Sized st.registers → Sized (run_of a s n st sh).state.registers
run-sized a s n st sh z = run-keeps (λ x i. Sized x.registers) (λ x i. step-sized x i) a s n st sh z

pub pair-length : (bytes : List ℕ) (l : Last) (n : ℕ) (x y : Half) (sh : Shared) → length (pair_of bytes l n x y sh).shared.mem ≡ length sh.mem
pair-length bytes l n x y sh =
    pair_keeps (λ x y i. length i.mem ≡ length sh.mem) (λ x y i e. step-length x i ∙ e) (λ x y i e. step-length y i ∙ e) bytes l n x y sh refl
