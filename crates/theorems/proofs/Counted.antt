-- How a run counts: the steps that do not stop, one by one. Assumes nothing.
use Prim.Native.Nat.{ℕ, zero, suc, ◌+◌, ◌<◌}
use mathlib.Core.Path.{◌≡◌, refl, sym, ◌∙◌, ap}
use mathlib.Core.Logic.{◌⊎◌, inl, inr}
use mathlib.Core.Bool.{Bool, true, false}
use native.Mathlib.Omega.{arith}
use native.Mathlib.Nat.{add-zero, zero-add, suc-add}
use Rattle.std.specs.Prelude.{Option, None, Result, Ok}
use Rattle.machine.specs.declared.Answer.{Answer}
use Rattle.machine.specs.declared.Answer.TheVariants.{Stepped, Exchanged, NotHeld, MonitorFetch}
use Rattle.machine.specs.declared.Ending.{Ending}
use Rattle.machine.specs.declared.Ending.TheVariants as ending
use Rattle.machine.specs.declared.Stray.{Stray}
use Rattle.machine.specs.State.{State, Shared}
use Rattle.machine.specs.Memory.{or_else}
use Rattle.machine.specs.Step.{Out, step_of, stops, counted}
use Rattle.machine.specs.Run.{Ended, ended, ending_of, run_of}
use Rattle.laws.proofs.Laws.{step-stop}

-- what k steps leave
abbrev pub state_after : ℕ → State → Shared → State
state_after zero st sh = st
state_after (suc k) st sh = state_after k (step_of st sh).state (step_of st sh).shared

abbrev pub shared_after : ℕ → State → Shared → Shared
shared_after zero st sh = sh
shared_after (suc k) st sh = shared_after k (step_of st sh).state (step_of st sh).shared

-- and the stray of the last of them that had one, s before them
abbrev pub last_stray : ℕ → Option Stray → State → Shared → Option Stray
last_stray zero s st sh = s
last_stray (suc k) s st sh = last_stray k (or_else (step_of st sh).stray s) (step_of st sh).state (step_of st sh).shared

-- none of them stops
abbrev pub Goes : ℕ → State → Shared → Type 0
Goes zero st sh = Unit {0}
Goes (suc k) st sh = (stops (step_of st sh).answer ≡ false) × Goes k (step_of st sh).state (step_of st sh).shared

-- the answer of the step after them
abbrev pub next_answer : ℕ → State → Shared → Answer
next_answer k st sh = (step_of (state_after k st sh) (shared_after k st sh)).answer

-- a step is counted where it does not stop
counts : (o : Answer) → stops o ≡ false → counted o ≡ 1
counts Stepped e = refl
counts (Exchanged flags) e = refl
counts (NotHeld p) e = cc
counts (MonitorFetch p) e = cc

counts-none : (o : Answer) → stops o ≡ true → counted o ≡ 0
counts-none Stepped e = cc
counts-none (Exchanged flags) e = cc
counts-none (NotHeld p) e = refl
counts-none (MonitorFetch p) e = refl

-- a run whose first step does not stop, and one whose first step does
pub run_on : (b : ℕ) (s : Option Stray) (n : ℕ) (st : State) (sh : Shared) → stops (step_of st sh).answer ≡ false
    → run_of (suc b) s n st sh ≡ run_of b (or_else (step_of st sh).stray s) (n + 1) (step_of st sh).state (step_of st sh).shared
unfolding run_of
run_on b s n st sh e = rw (e, counts (step_of st sh).answer e)

pub run-over : (b : ℕ) (s : Option Stray) (n : ℕ) (st : State) (sh : Shared) → stops (step_of st sh).answer ≡ true
    → run_of (suc b) s n st sh ≡ ended (Ok (ending_of (step_of st sh).answer)) s n st sh
unfolding run_of
run-over b s n st sh e =
    let o = step-stop st sh refl e in
    let stray : (step_of st sh).stray ≡ None = ap (λ (o : Out). o.stray) o in
    rw (e, counts-none (step_of st sh).answer e, add-zero n, stray, ap (λ (o : Out). o.state) o, ap (λ (o : Out). o.shared) o)

-- a run takes k steps that do not stop, and counts k
pub run-takes : (k b : ℕ) (s : Option Stray) (n : ℕ) (st : State) (sh : Shared) → Goes k st sh
    → run_of (k + b) s n st sh ≡ run_of b (last_stray k s st sh) (n + k) (state_after k st sh) (shared_after k st sh)
run-takes zero b s n st sh g = rw (zero-add b, add-zero n)
run-takes (suc k) b s n st sh g =
    let e : n + 1 + k ≡ n + suc k = omega arith in
    let o = step_of st sh in
    rw (suc-add k b, ← e) (run_on (k + b) s n st sh g.0 ∙ run-takes k b (or_else o.stray s) (n + 1) o.state o.shared g.1)

-- as many as its budget
pub run-spent : (k : ℕ) (s : Option Stray) (n : ℕ) (st : State) (sh : Shared) → Goes k st sh
    → run_of k s n st sh ≡ ended (Ok ending.Budget) (last_stray k s st sh) (n + k) (state_after k st sh) (shared_after k st sh)
unfolding run_of
run-spent k s n st sh g = ap (λ (b : ℕ). run_of b s n st sh) (sym (add-zero k)) ∙ run-takes k 0 s n st sh g

-- or until one stops, which changes nothing and is not counted
pub run-stops : (k b : ℕ) (s : Option Stray) (n : ℕ) (st : State) (sh : Shared) → Goes k st sh → stops (next_answer k st sh) ≡ true
    → run_of (k + suc b) s n st sh ≡ ended (Ok (ending_of (next_answer k st sh))) (last_stray k s st sh) (n + k) (state_after k st sh) (shared_after k st sh)
run-stops k b s n st sh g t = run-takes k (suc b) s n st sh g ∙ run-over b (last_stray k s st sh) (n + k) (state_after k st sh) (shared_after k st sh) t

-- after k steps a run ends so: its budget was spent, or the next step stops
abbrev pub Ends : ℕ → ℕ → State → Shared → Result Ending ℕ → Type 0
Ends budget k st sh e =
    ((k ≡ budget) × (e ≡ Ok ending.Budget)) ⊎ ((k < budget) × (stops (next_answer k st sh) ≡ true) × (e ≡ Ok (ending_of (next_answer k st sh))))

-- every run e is one of these two
pub record Took (budget : ℕ) (s : Option Stray) (n : ℕ) (st : State) (sh : Shared) (e : Ended) : Type 0 where
  pub k : ℕ
  pub goes : Goes k st sh
  pub stray : e.stray ≡ last_stray k s st sh
  pub steps : e.steps ≡ n + k
  pub state : e.state ≡ state_after k st sh
  pub shared : e.shared ≡ shared_after k st sh
  pub over : Ends budget k st sh e.ending

pub run-took : (budget : ℕ) (s : Option Stray) (n : ℕ) (st : State) (sh : Shared) → Took budget s n st sh (run_of budget s n st sh)
unfolding run_of
run-took zero s n st sh = record { k = 0; goes = tt; stray = refl; steps = sym (add-zero n); state = refl; shared = refl; over = inl (refl, refl) }
run-took (suc b) s n st sh = go (stops (step_of st sh).answer) refl (run-took b next (n + 1) (step_of st sh).state (step_of st sh).shared)
  where
    next : Option Stray
    next = or_else (step_of st sh).stray s

    longer : (k : ℕ) (e : Result Ending ℕ) → Ends b k (step_of st sh).state (step_of st sh).shared e → Ends (suc b) (suc k) st sh e
    longer k e (inl h) = inl (omega (arith, h.0), h.1)
    longer k e (inr h) = inr (omega (arith, h.0), h.1, h.2)

    rest : Ended
    rest = run_of b next (n + 1) (step_of st sh).state (step_of st sh).shared

    go : (t : Bool) → stops (step_of st sh).answer ≡ t → Took b next (n + 1) (step_of st sh).state (step_of st sh).shared rest
        → Took (suc b) s n st sh (run_of (suc b) s n st sh)
    go true e h =
        let r = run-over b s n st sh e in
        rw r (record { k = 0; goes = tt; stray = refl; steps = sym (add-zero n); state = refl; shared = refl; over = inr (omega arith, e, refl) })
    go false e h =
        rw (run_on b s n st sh e)
        (record {
          k = suc h.k;
          goes = (e, h.goes);
          stray = h.stray;
          steps = h.steps ∙ omega arith;
          state = h.state;
          shared = h.shared;
          over = longer h.k _ h.over;
        })
