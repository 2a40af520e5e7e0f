-- Steps that are wrong do not meet the statement of the public step. Assumes nothing.
use Prim.Native.Nat.{ℕ}
use mathlib.Core.Path.{◌≡◌, sym, ◌∙◌, ap}
use lib.ListN.{length}
use Rattle.std.specs.Prelude.{Some, None, Ok}
use Rattle.machine.specs.declared.ParcelAddr.{ParcelAddr}
use Rattle.machine.specs.declared.Answer.TheVariants.{Stepped, NotHeld, MonitorFetch}
use Rattle.machine.specs.State.{State, Shared, addr}
use Rattle.machine.specs.Memory.{place_of, fetch_of}
use Rattle.machine.specs.Run.{zeros}
use Rattle.machine.specs.Refusal.{below, registers_fit, frame_fits, state_fits, memory_fits, first_due, step_refusal}
use Rattle.machine.specs.Call.{Replied, replied, step_call}
use Rattle.theorems.proofs.Program.{at, program, program-length, program-first, passes-0, stops-0}

-- a step is a function of a state and of what is shared
abbrev pub Step : Type 0
Step = State → Shared → Replied

-- of every call that is not refused
abbrev pub Always : (State → Shared → Type 0) → Type 0
Always Q = (st : State) (sh : Shared) → step_refusal (length sh.mem) st ≡ 0 → Q st sh

-- what the public step has to be, there at least
abbrev pub Meets : Step → Type 0
Meets step = Always (λ st sh. step st sh ≡ step_call st sh)

-- neither an empty field nor one of 32 words is refused
allowed-0 : step_refusal (length program.mem) (at 0 0 0) ≡ 0
unfolding at step_refusal first_due memory_fits state_fits registers_fit frame_fits below zeros
allowed-0 = rw program-length

allowed-1 : step_refusal (length program.mem) (at 1 0 0) ≡ 0
unfolding at step_refusal first_due memory_fits state_fits registers_fit frame_fits below zeros
allowed-1 = rw program-length

-- the pass cannot be fetched where the field is empty
outside : step_call (at 0 0 0) program ≡ replied (Ok (MonitorFetch (addr 0))) None (at 0 0 0) program
unfolding step_call
outside = rw (allowed-0, stops-0)

-- else it moves P on
passes : step_call (at 1 0 0) program ≡ replied (Ok Stepped) None (at 1 0 1) program
unfolding step_call
passes = rw (allowed-1, passes-0)

fetched : fetch_of (at 1 0 0).frame program.mem 0 ≡ Some 512
unfolding at fetch_of place_of
fetched = rw (program-length, program-first)

module _ (step : Step) (meets : Meets step) where
  met-0 : step (at 0 0 0) program ≡ replied (Ok (MonitorFetch (addr 0))) None (at 0 0 0) program
  met-0 = meets (at 0 0 0) program allowed-0 ∙ outside

  met-1 : step (at 1 0 0) program ≡ replied (Ok Stepped) None (at 1 0 1) program
  met-1 = meets (at 1 0 0) program allowed-1 ∙ passes

  -- a step that always answers that the instruction is not held
  pub not-held-always : Always (λ st sh. (p : ParcelAddr) × ((step st sh).reply ≡ Ok (NotHeld p))) → ⊥
  not-held-always always =
      let a = (always (at 0 0 0) program allowed-0).1 in
      let b = ap (λ (o : Replied). o.reply) met-0 in
      cc

  -- one that answers so of every parcel that can be fetched, whatever it answers of those that cannot
  pub not-held-fetched : Always (λ st sh. (x : ℕ) → fetch_of st.frame sh.mem st.p.0 ≡ Some x → (step st sh).reply ≡ Ok (NotHeld st.p)) → ⊥
  unfolding at
  not-held-fetched always =
      let a = always (at 1 0 0) program allowed-1 512 fetched in
      let b = ap (λ (o : Replied). o.reply) met-1 in
      cc

  -- a step that leaves one and the same state whatever it is given, right as its answers may be
  pub same-state : (s : State) → Always (λ st sh. (step st sh).state ≡ s) → ⊥
  unfolding at
  same-state s always =
      let a = sym (always (at 0 0 0) program allowed-0) ∙ ap (λ (o : Replied). o.state) met-0 in
      let b = sym (always (at 1 0 0) program allowed-1) ∙ ap (λ (o : Replied). o.state) met-1 in
      let z = ap (λ (st : State). st.p.0) (sym a ∙ b) in
      cc

  -- a step that gives the same result whatever it is given
  pub same-always : (o : Replied) → Always (λ st sh. step st sh ≡ o) → ⊥
  same-always o always = same-state o.state (λ st sh e. ap (λ (o : Replied). o.state) (always st sh e))

  -- a step that leaves the state as it is, P included
  pub still-always : Always (λ st sh. (step st sh).state ≡ st) → ⊥
  unfolding at
  still-always always =
      let a = sym (always (at 1 0 0) program allowed-1) ∙ ap (λ (o : Replied). o.state) met-1 in
      let z = ap (λ (st : State). st.p.0) a in
      cc
