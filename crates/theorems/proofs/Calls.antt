-- The statements of the five calls fix each result, leave all as it was where a call is refused, and no wrong start, run or pair run meets
-- them. Assumes nothing.
use Prim.Native.Nat.{ℕ, zero, suc, ◌+◌, ◌*◌, ◌/◌, ◌%◌, ◌^◌, ◌<◌, ◌≤◌}
use mathlib.Core.Path.{◌≡◌, refl, sym, ◌∙◌, ap, fun_ext}
use mathlib.Core.Bool.{Bool, true, false, not, ◌&&◌}
use mathlib.Core.List.{List, [], ◌∷◌}
use native.Mathlib.Omega.{arith}
use lib.ListN.{length, get_or, set, take}
use lib.Seq.{get_or-set_other}
use lib.Dec.{eqb, eqb-suc-zero}
use borrow.Author.Tests.{ne_eqb, eqb-true, eqb-false}
use Rattle.std.specs.Prelude.{Option, Some, None, Result, Ok, Err}
use Rattle.machine.specs.declared.Answer.TheVariants.{Stepped}
use Rattle.machine.specs.declared.Ending.TheVariants as ending
use Rattle.machine.specs.declared.Stray.{Stray}
use Rattle.machine.specs.Word.{pick}
use Rattle.machine.specs.State.{State, Shared, addr}
use Rattle.machine.specs.Memory.{or_else}
use Rattle.machine.specs.Exchange.{package_word, loaded_p, loaded_registers, loaded_frame, loaded}
use Rattle.machine.specs.Step.{step_of, stops, goes_on, counted}
use Rattle.machine.specs.Run.{Last, zeros, blank_registers, blank_frame, start_of, Turned, turned, turn_of, Ended, ended, ending_of, run_of}
use Rattle.machine.specs.Run.{Half, half, half_after, PairEnded, pair_ended, pair_of}
use Rattle.machine.specs.Refusal.{below, registers_fit, frame_fits, state_fits, memory_fits, check, first_due, start_refusal, step_refusal, run_refusal, pair_refusal}
use Rattle.machine.specs.Call.{unless, Started, started, start_call, Replied, replied, step_call, turn_call, run_call, pair_call}
use Rattle.laws.proofs.Below.{picked}
use Rattle.theorems.proofs.Program.{at, program, program-length, passes-0, passes-1, stops-2}
use Rattle.theorems.proofs.Counted.{Goes, next_answer}

-- ---- two results that a statement allows are equal

pub start-unique : (st : State) (mem : List ℕ) (x n : ℕ) (o o' : Started) → o ≡ start_call st mem x n → o' ≡ start_call st mem x n → o ≡ o'
start-unique st mem x n o o' e e' = e ∙ sym e'

pub step-unique : (st : State) (sh : Shared) (o o' : Replied) → o ≡ step_call st sh → o' ≡ step_call st sh → o ≡ o'
step-unique st sh o o' e e' = e ∙ sym e'

pub turn-unique : (st : State) (sh : Shared) (budget : ℕ) (o o' : Turned) → o ≡ turn_call st sh budget → o' ≡ turn_call st sh budget → o ≡ o'
turn-unique st sh budget o o' e e' = e ∙ sym e'

pub run-unique : (st : State) (sh : Shared) (budget : ℕ) (o o' : Ended) → o ≡ run_call st sh budget → o' ≡ run_call st sh budget → o ≡ o'
run-unique st sh budget o o' e e' = e ∙ sym e'

pub pair-unique : (x y : State) (sh : Shared) (schedule : List ℕ) (o o' : PairEnded) → o ≡ pair_call x y sh schedule → o' ≡ pair_call x y sh schedule → o ≡ o'
pair-unique x y sh schedule o o' e e' = e ∙ sym e'

-- ---- a call whose refusal number is not 0 gives it, and all as it was

refused : {A : Type 0} (does : A) (left : ℕ → A) (m n : ℕ) → m ≡ n → (n ≡ 0 → ⊥) → unless m does left ≡ left n
refused does left m n e h = rw (e, ne_eqb n 0 h)

module _ (n : ℕ) (some : n ≡ 0 → ⊥) where
  pub start-refused : (st : State) (mem : List ℕ) (x k : ℕ) → start_refusal (length mem) x k ≡ n → start_call st mem x k ≡ started n st
  unfolding start_call
  start-refused st mem x k e = refused _ (λ m. started m st) _ n e some

  pub step-refused : (st : State) (sh : Shared) → step_refusal (length sh.mem) st ≡ n → step_call st sh ≡ replied (Err n) None st sh
  unfolding step_call
  step-refused st sh e = refused _ (λ m. replied (Err m) None st sh) _ n e some

  pub turn-refused : (st : State) (sh : Shared) (budget : ℕ) → run_refusal (length sh.mem) st budget ≡ n
      → turn_call st sh budget ≡ turned (Err n) None 0 st sh
  unfolding turn_call
  turn-refused st sh budget e = refused _ (λ m. turned (Err m) None 0 st sh) _ n e some

  pub run-refused : (st : State) (sh : Shared) (budget : ℕ) → run_refusal (length sh.mem) st budget ≡ n
      → run_call st sh budget ≡ ended (Err n) None 0 st sh
  unfolding run_call
  run-refused st sh budget e = refused _ (λ m. ended (Err m) None 0 st sh) _ n e some

  pub pair-refused : (x y : State) (sh : Shared) (schedule : List ℕ) → pair_refusal (length sh.mem) x y schedule ≡ n
      → pair_call x y sh schedule ≡ pair_ended (Err n) 0 (half x) (half y) sh
  unfolding pair_call
  pair-refused x y sh schedule e = refused _ (λ m. pair_ended (Err m) 0 (half x) (half y) sh) _ n e some

-- and only such a call answers that it is refused
only : {A : Type 0} (Says : A → ℕ → Type 0) (does : A) (left : ℕ → A) → ((n : ℕ) → Says does n → ⊥) → ((m n : ℕ) → Says (left m) n → m ≡ n)
    → (m n : ℕ) → Says (unless m does left) n → (m ≡ n) × (n ≡ 0 → ⊥)
only Says does left never same zero n e = absurd (never n e)
only Says does left never same (suc m) n e =
    let k : suc m ≡ n = same (suc m) n (rw (eqb-suc-zero m) at e) in
    (k, (λ z. omega arith))

-- no answer is a refusal
answered : {A : Type 0} (a : A) (n : ℕ) → ◌≡◌ {A = Result A ℕ} (Ok a) (Err n) → ⊥
answered a n e = cc

-- so no run, turn or pair run ends in one
abbrev Answers : Last → Type 0
Answers l = (n : ℕ) → l ≡ Err n → ⊥

run-answers : (budget : ℕ) (s : Option Stray) (k : ℕ) (st : State) (sh : Shared) (n : ℕ) → (run_of budget s k st sh).ending ≡ Err n → ⊥
unfolding run_of
run-answers zero s k st sh n = answered ending.Budget n
run-answers (suc budget) s k st sh n =
    let o = step_of st sh in
    picked (λ (e : Ended). e.ending ≡ Err n → ⊥) (stops o.answer)
    (answered (ending_of o.answer) n) (run-answers budget (or_else o.stray s) (k + counted o.answer) o.state o.shared n)

turn-answers : (budget : ℕ) (l : Last) (s : Option Stray) (k : ℕ) (st : State) (sh : Shared) → Answers l → Answers (turn_of budget l s k st sh).last
unfolding turn_of
turn-answers zero l s k st sh h = h
turn-answers (suc budget) l s k st sh h =
    let o = step_of st sh in
    picked (λ (e : Turned). Answers e.last) (goes_on o.answer)
    (turn-answers budget (Ok (Some o.answer)) (or_else o.stray s) (k + counted o.answer) o.state o.shared (answered (Some o.answer))) (answered (Some o.answer))

pair-answers : (bytes : List ℕ) (l : Last) (k : ℕ) (x y : Half) (sh : Shared) → Answers l → Answers (pair_of bytes l k x y sh).last
unfolding pair_of
pair-answers [] l k x y sh h = h
pair-answers (zero ∷ bytes) l k x y sh h =
    let o = step_of x.state sh in
    picked (λ (e : PairEnded). Answers e.last) (goes_on o.answer)
    (pair-answers bytes (Ok (Some o.answer)) (k + counted o.answer) (half_after x o) y o.shared (answered (Some o.answer))) (answered (Some o.answer))
pair-answers (suc b ∷ bytes) l k x y sh h =
    let o = step_of y.state sh in
    picked (λ (e : PairEnded). Answers e.last) (goes_on o.answer)
    (pair-answers bytes (Ok (Some o.answer)) (k + counted o.answer) x (half_after y o) o.shared (answered (Some o.answer))) (answered (Some o.answer))

-- a start's number is its refusal number, 0 too
pub start-number : (st : State) (mem : List ℕ) (x n : ℕ) → (start_call st mem x n).refused ≡ start_refusal (length mem) x n
unfolding start_call
start-number st mem x n = go (start_refusal (length mem) x n)
  where
    go : (m : ℕ) → (unless m (started 0 (start_of mem x n)) (λ no. started no st)).refused ≡ m
    go zero = refl
    go (suc m) = rw (eqb-suc-zero m)

pub step-refused-only : (st : State) (sh : Shared) (n : ℕ) → (step_call st sh).reply ≡ Err n → (step_refusal (length sh.mem) st ≡ n) × (n ≡ 0 → ⊥)
unfolding step_call
step-refused-only st sh = only (λ o n. o.reply ≡ Err n) _ (λ m. replied (Err m) None st sh) (λ n e. cc) (λ m n e. cc) _

pub turn-refused-only : (st : State) (sh : Shared) (budget n : ℕ) → (turn_call st sh budget).last ≡ Err n
    → (run_refusal (length sh.mem) st budget ≡ n) × (n ≡ 0 → ⊥)
unfolding turn_call
turn-refused-only st sh budget =
    only (λ o n. o.last ≡ Err n) (turn_of budget (Ok None) None 0 st sh) (λ m. turned (Err m) None 0 st sh)
    (turn-answers budget (Ok None) None 0 st sh (answered None)) (λ m n e. cc) _

pub run-refused-only : (st : State) (sh : Shared) (budget n : ℕ) → (run_call st sh budget).ending ≡ Err n
    → (run_refusal (length sh.mem) st budget ≡ n) × (n ≡ 0 → ⊥)
unfolding run_call
run-refused-only st sh budget =
    only (λ o n. o.ending ≡ Err n) (run_of budget None 0 st sh) (λ m. ended (Err m) None 0 st sh)
    (run-answers budget None 0 st sh) (λ m n e. cc) _

pub pair-refused-only : (x y : State) (sh : Shared) (schedule : List ℕ) (n : ℕ) → (pair_call x y sh schedule).last ≡ Err n
    → (pair_refusal (length sh.mem) x y schedule ≡ n) × (n ≡ 0 → ⊥)
unfolding pair_call
pair-refused-only x y sh schedule =
    only (λ o n. o.last ≡ Err n) (pair_of schedule (Ok None) 0 (half x) (half y) sh) (λ m. pair_ended (Err m) 0 (half x) (half y) sh)
    (pair-answers schedule (Ok None) 0 (half x) (half y) sh (answered None)) (λ m n e. cc) _

-- ---- a budget of 0 and an empty schedule do nothing, and are no cause of refusal

pub none_allowed : (len : ℕ) (st : State) → run_refusal len st 0 ≡ step_refusal len st
unfolding run_refusal step_refusal first_due
none_allowed len st = refl

pub turn-none : (st : State) (sh : Shared) → run_refusal (length sh.mem) st 0 ≡ 0 → turn_call st sh 0 ≡ turned (Ok None) None 0 st sh
unfolding turn_call turn_of
turn-none st sh e = rw e

pub run_none : (st : State) (sh : Shared) → run_refusal (length sh.mem) st 0 ≡ 0 → run_call st sh 0 ≡ ended (Ok ending.Budget) None 0 st sh
unfolding run_call run_of
run_none st sh e = rw e

pub empty-allowed : (len : ℕ) (x y : State) → pair_refusal len x y []
    ≡ first_due
    (check 1 (not (memory_fits len))
    ∷ check 4 (not (eqb x.frame.processor 0 && eqb y.frame.processor 1))
    ∷ check 7 (not (state_fits x && state_fits y))
    ∷ [])
unfolding pair_refusal first_due below
empty-allowed len x y = refl

pub pair-none : (x y : State) (sh : Shared) → pair_refusal (length sh.mem) x y [] ≡ 0 → pair_call x y sh [] ≡ pair_ended (Ok None) 0 (half x) (half y) sh
unfolding pair_call pair_of
pair-none x y sh e = rw e

-- ---- a start keeps nothing and loads no flags

pub start-clear : (mem : List ℕ) (x n : ℕ)
    → ((start_of mem x n).registers.b ≡ zeros 64) × ((start_of mem x n).registers.t ≡ zeros 64)
    × ((start_of mem x n).registers.v ≡ zeros 512) × ((start_of mem x n).registers.vm ≡ 0)
unfolding start_of loaded
start-clear mem x n = (refl, refl, refl, refl)

-- what is alike of two numbers is alike of the words that hold them
kept : (f : ℕ → ℕ) (mem : List ℕ) (i w w' : ℕ) → f w ≡ f w' → f (get_or (set mem i w) i 0) ≡ f (get_or (set mem i w') i 0)
kept f [] i w w' e = refl
kept f (x ∷ mem) zero w w' e = e
kept f (x ∷ mem) (suc i) w w' e = kept f mem i w w' e

module _ (mem : List ℕ) (x : ℕ) where
  -- the package's words where w stands for word 3
  abbrev words : ℕ → ℕ → ℕ
  words w i = pick (eqb i 3) (package_word (set mem (x * 16 + 3) w) x 3) (package_word mem x i)

  words_are : (w : ℕ) → package_word (set mem (x * 16 + 3) w) x ≡ words w
  words_are w = fun_ext (λ i. go i (eqb i 3) refl)
    where
      go : (i : ℕ) (t : Bool) → eqb i 3 ≡ t → package_word (set mem (x * 16 + 3) w) x i ≡ pick t (package_word (set mem (x * 16 + 3) w) x 3) (package_word mem x i)
      go i true e = rw (eqb-true i 3 e)
      go i false e =
          let h : i ≡ 3 → ⊥ = eqb-false i 3 e in
          get_or-set_other mem (x * 16 + 3) (x * 16 + i) w 0 (λ k. h (omega arith))

-- the flags are bits 2^24 to 2^32 of word 3
pub start-flags : (mem : List ℕ) (x n w w' : ℕ) → w % 2 ^ 24 ≡ w' % 2 ^ 24 → w / 2 ^ 33 ≡ w' / 2 ^ 33
    → start_of (set mem (x * 16 + 3) w) x n ≡ start_of (set mem (x * 16 + 3) w') x n
unfolding start_of loaded
start-flags mem x n w w' low high =
    let start : (ℕ → ℕ) → State = λ f. record { p = addr (loaded_p f); registers = loaded_registers f blank_registers; frame = loaded_frame f (blank_frame n) } in
    let i = x * 16 + 3 in
    let xa : w / 2 ^ 40 ≡ w' / 2 ^ 40 = omega arith in
    ap start (words_are mem x w)
    ∙ (rw (kept (λ v. v % 2 ^ 24) mem i w w' low, kept (λ v. v / 2 ^ 33) mem i w w' high, kept (λ v. v / 2 ^ 40) mem i w w' xa))
    ∙ ap start (sym (words_are mem x w'))

-- ---- wrong calls do not meet the statements

abbrev pub Start : Type 0
Start = State → List ℕ → ℕ → ℕ → Started

abbrev pub Run : Type 0
Run = State → Shared → ℕ → Ended

abbrev pub PairRun : Type 0
PairRun = State → State → Shared → List ℕ → PairEnded

-- of every run, and of every pair run, that is not refused
abbrev pub RunAlways : (State → Shared → ℕ → Type 0) → Type 0
RunAlways Q = (st : State) (sh : Shared) (budget : ℕ) → run_refusal (length sh.mem) st budget ≡ 0 → Q st sh budget

abbrev pub PairAlways : (State → State → Shared → List ℕ → Type 0) → Type 0
PairAlways Q = (x y : State) (sh : Shared) (schedule : List ℕ) → pair_refusal (length sh.mem) x y schedule ≡ 0 → Q x y sh schedule

-- what the public run and pair run have to be, there at least
abbrev pub RunMeets : Run → Type 0
RunMeets run = RunAlways (λ st sh budget. run st sh budget ≡ run_call st sh budget)

abbrev pub PairMeets : PairRun → Type 0
PairMeets pair = PairAlways (λ x y sh schedule. pair x y sh schedule ≡ pair_call x y sh schedule)

-- ---- wrong runs

run-allowed : run_refusal (length program.mem) (at 1 0 0) 3 ≡ 0
unfolding at run_refusal first_due memory_fits state_fits registers_fit frame_fits below zeros
run-allowed = rw program-length

-- three steps at most: two are counted, and the third stops
three : run_call (at 1 0 0) program 3 ≡ ended (Ok (ending.NotHeld (addr 2))) None 2 (at 1 0 2) program
unfolding run_call run_of
three = rw (run-allowed, passes-0, passes-1, stops-2)

module _ (run : Run) (meets : RunMeets run) where
  ran : run (at 1 0 0) program 3 ≡ ended (Ok (ending.NotHeld (addr 2))) None 2 (at 1 0 2) program
  ran = meets (at 1 0 0) program 3 run-allowed ∙ three

  -- a run that counts all its budget
  pub counts-budget : RunAlways (λ st sh budget. (run st sh budget).steps ≡ budget) → ⊥
  counts-budget always =
      let a : ◌≡◌ {A = ℕ} 2 3 = sym (ap (λ (o : Ended). o.steps) ran) ∙ always (at 1 0 0) program 3 run-allowed in
      omega arith

  -- a run that counts one step at most
  pub counts-one : RunAlways (λ st sh budget. (run st sh budget).steps ≤ 1) → ⊥
  counts-one always =
      let a : 2 ≤ 1 = rw (ap (λ (o : Ended). o.steps) ran) at (always (at 1 0 0) program 3 run-allowed) in
      omega arith

  -- a run that counts the step that stops it
  pub counts-stop : RunAlways (λ st sh budget. (k : ℕ) → k < budget → Goes k st sh → stops (next_answer k st sh) ≡ true → (run st sh budget).steps ≡ suc k) → ⊥
  counts-stop always =
      let goes : Goes 2 (at 1 0 0) program = (rw passes-0, (rw (passes-0, passes-1), tt)) in
      let o = step_of (at 1 0 0) program in
      let o' = step_of o.state o.shared in
      let stop : stops (step_of o'.state o'.shared).answer ≡ true = rw (passes-0, passes-1, stops-2) in
      let a : ◌≡◌ {A = ℕ} 2 3 = sym (ap (λ (o : Ended). o.steps) ran) ∙ always (at 1 0 0) program 3 run-allowed 2 (omega arith) goes stop in
      omega arith

  -- a run that no stop ends
  pub never-stops : RunAlways (λ st sh budget. (run st sh budget).ending ≡ Ok ending.Budget) → ⊥
  never-stops always =
      let a = always (at 1 0 0) program 3 run-allowed in
      let b = ap (λ (o : Ended). o.ending) ran in
      cc

  -- a run that leaves the state as it was
  pub never-moves : RunAlways (λ st sh budget. (run st sh budget).state ≡ st) → ⊥
  unfolding at
  never-moves always =
      let a = sym (ap (λ (o : Ended). o.state) ran) ∙ always (at 1 0 0) program 3 run-allowed in
      let z : ◌≡◌ {A = ℕ} 2 0 = ap (λ (st : State). st.p.0) a in
      omega arith

-- ---- wrong pair runs

one-allowed : pair_refusal (length program.mem) (at 1 0 0) (at 1 1 0) (0 ∷ []) ≡ 0
unfolding at pair_refusal first_due memory_fits state_fits registers_fit frame_fits below zeros
one-allowed = rw program-length

two-allowed : pair_refusal (length program.mem) (at 1 0 0) (at 1 1 0) (0 ∷ 0 ∷ []) ≡ 0
unfolding at pair_refusal first_due memory_fits state_fits registers_fit frame_fits below zeros
two-allowed = rw program-length

one : pair_call (at 1 0 0) (at 1 1 0) program (0 ∷ []) ≡ pair_ended (Ok (Some Stepped)) 1 (half (at 1 0 1)) (half (at 1 1 0)) program
unfolding pair_call pair_of
one = rw (one-allowed, passes-0)

two : pair_call (at 1 0 0) (at 1 1 0) program (0 ∷ 0 ∷ []) ≡ pair_ended (Ok (Some Stepped)) 2 (half (at 1 0 2)) (half (at 1 1 0)) program
unfolding pair_call pair_of
two = rw (two-allowed, passes-0, passes-1)

abbrev pub counting : ℕ → PairEnded → PairEnded
counting n o = pair_ended o.last n o.first o.second o.shared

module _ (pair : PairRun) (meets : PairMeets pair) where
  -- a pair run that does what its first byte alone does, and counts any number of steps
  pub first_alone : PairAlways (λ x y sh schedule. (n : ℕ) × (pair x y sh schedule ≡ counting n (pair_call x y sh (take 1 schedule)))) → ⊥
  unfolding at
  first_alone always =
      let a = sym (meets (at 1 0 0) (at 1 1 0) program (0 ∷ 0 ∷ []) two-allowed ∙ two) ∙ (always (at 1 0 0) (at 1 1 0) program (0 ∷ 0 ∷ []) two-allowed).1 in
      let b : at 1 0 2 ≡ at 1 0 1 = ap (λ (o : PairEnded). o.first.state) a ∙ ap (λ (o : PairEnded). o.first.state) one in
      let z : ◌≡◌ {A = ℕ} 2 1 = ap (λ (st : State). st.p.0) b in
      omega arith

  -- a pair run whose byte 0 does not move the first processor
  pub zero-other : PairAlways (λ x y sh schedule. schedule ≡ 0 ∷ [] → (pair x y sh schedule).first.state ≡ x) → ⊥
  unfolding at
  zero-other always =
      let a = meets (at 1 0 0) (at 1 1 0) program (0 ∷ []) one-allowed ∙ one in
      let b : at 1 0 1 ≡ at 1 0 0 = sym (ap (λ (o : PairEnded). o.first.state) a) ∙ always (at 1 0 0) (at 1 1 0) program (0 ∷ []) one-allowed refl in
      let z : ◌≡◌ {A = ℕ} 1 0 = ap (λ (st : State). st.p.0) b in
      omega arith

-- ---- refusals in another order

-- a start that looks at the package's number before memory's length
pub package-first : (start : Start) → ((st : State) (mem : List ℕ) (x n : ℕ) → 255 < x → (start st mem x n).refused ≡ 2)
    → ((st : State) (mem : List ℕ) (x n : ℕ) → start st mem x n ≡ start_call st mem x n) → ⊥
unfolding start_call start_refusal first_due memory_fits
package-first start gives meets =
    let a : ◌≡◌ {A = ℕ} 1 2 = sym (ap (λ (o : Started). o.refused) (meets (at 1 0 0) [] 256 0)) ∙ gives (at 1 0 0) [] 256 0 (omega arith) in
    omega arith

-- a run that looks at the processor's number before the budget
pub processor-first : (run : Run) → ((st : State) (sh : Shared) (budget : ℕ) → 1 < st.frame.processor → (run st sh budget).ending ≡ Err 4)
    → ((st : State) (sh : Shared) (budget : ℕ) → run st sh budget ≡ run_call st sh budget) → ⊥
unfolding at run_refusal first_due memory_fits
processor-first run four meets =
    let number : run_refusal (length program.mem) (at 1 2 0) 1000001 ≡ 3 = rw program-length in
    let a = four (at 1 2 0) program 1000001 (omega arith) in
    let b = ap (λ (o : Ended). o.ending) (meets (at 1 2 0) program 1000001 ∙ run-refused 3 (λ z. omega arith) (at 1 2 0) program 1000001 number) in
    cc

-- a pair run that looks at the bytes before the processors' numbers
pub byte-first : (pair : PairRun)
    → ((x y : State) (sh : Shared) (schedule : List ℕ) → below 2 schedule ≡ false → (pair x y sh schedule).last ≡ Err 6)
    → ((x y : State) (sh : Shared) (schedule : List ℕ) → pair x y sh schedule ≡ pair_call x y sh schedule) → ⊥
unfolding at pair_refusal first_due memory_fits below
byte-first pair six meets =
    let number : pair_refusal (length program.mem) (at 1 0 0) (at 1 0 0) (2 ∷ []) ≡ 4 = rw program-length in
    let a = six (at 1 0 0) (at 1 0 0) program (2 ∷ []) refl in
    let e = meets (at 1 0 0) (at 1 0 0) program (2 ∷ []) ∙ pair-refused 4 (λ z. omega arith) (at 1 0 0) (at 1 0 0) program (2 ∷ []) number in
    let b = ap (λ (o : PairEnded). o.last) e in
    cc
