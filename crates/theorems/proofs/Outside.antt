-- Why an operand lay outside: the cause of a word, the first of a step and the last of a run. Assumes nothing.
use Prim.Native.Nat.{ℕ, zero, suc, ◌+◌, ◌*◌, ◌<◌, ◌≤◌}
use mathlib.Core.Path.{◌≡◌, refl, ◌∙◌, ap}
use mathlib.Core.Bool.{Bool, true, false, ◌&&◌}
use native.Mathlib.Omega.{arith}
use native.Mathlib.Decide.{dec_lt}
use lib.Dec.{eqb, leb, ltb}
use borrow.Author.Tests.{ltb-true, ltb-false, leb-true, leb-false, lt-ltb, le-ltb, le-leb, lt-leb}
use Rattle.std.specs.Prelude.{Option, Some, None, Result, Ok, Err}
use Rattle.machine.specs.declared.Cause.{Cause}
use Rattle.machine.specs.declared.Cause.TheVariants.{BelowBase, OverLimit, BeyondMemory}
use Rattle.machine.specs.declared.Stray.{Stray}
use Rattle.machine.specs.declared.Work.{Work}
use Rattle.machine.specs.declared.Work.TheVariants as work
use Rattle.machine.specs.Word.{pick}
use Rattle.machine.specs.Parcel.{onward}
use Rattle.machine.specs.State.{Frame, Registers, State, Shared, user}
use Rattle.machine.specs.Memory.{Field, sum_of, place_of, or_else, stray_at, first_outside}
use Rattle.machine.specs.Act.{Act, does, reads_words, writes_words, leaves_normally, leaves_by_error, act}
use Rattle.machine.specs.Act as acts
use Rattle.machine.specs.Work.{Present, has_none, not_held, has_instr, present_of, outside, perform, status_of, done_with, work_of}
use Rattle.machine.specs.Step.{Out, exchange, ranged, finish, finish_of, step_of, stops}
use Rattle.machine.specs.Run.{Ended, run_of}
use Rattle.laws.proofs.Below.{picked}
use Rattle.theorems.specs.Statement.{In}
use Rattle.theorems.proofs.Counted.{state_after, shared_after, last_stray, Goes, run_on, run-spent}

-- ---- a word

-- what each place means of the word w
abbrev pub Means : Field → ℕ → ℕ → Result ℕ Cause → Type 0
Means f len w (Ok n) = (n ≡ sum_of f w) × In f len n
Means f len w (Err BelowBase) = sum_of f w < f.base * 32
Means f len w (Err OverLimit) = (f.base * 32 ≤ sum_of f w) × (f.limit * 32 ≤ sum_of f w)
Means f len w (Err BeyondMemory) = (f.base * 32 ≤ sum_of f w) × (sum_of f w < f.limit * 32) × (len ≤ sum_of f w)

place-means : (f : Field) (len w : ℕ) → Means f len w (place_of f len w)
unfolding place_of
place-means f len w = go (ltb q (f.base * 32)) (leb (f.limit * 32) q) (leb len q) refl refl refl
  where
    q : ℕ
    q = sum_of f w

    go : (s t u : Bool) → ltb q (f.base * 32) ≡ s → leb (f.limit * 32) q ≡ t → leb len q ≡ u
        → Means f len w (pick s (Err BelowBase) (pick t (Err OverLimit) (pick u (Err BeyondMemory) (Ok q))))
    go true t u b l o = ltb-true q (f.base * 32) b
    go false true u b l o = (ltb-false q (f.base * 32) b, leb-true (f.limit * 32) q l)
    go false false true b l o = (ltb-false q (f.base * 32) b, leb-false (f.limit * 32) q l, leb-true len q o)
    go false false false b l o = (refl, (ltb-false q (f.base * 32) b, leb-false (f.limit * 32) q l, leb-false len q o))

means-place : (f : Field) (len w : ℕ) (o : Result ℕ Cause) → Means f len w o → place_of f len w ≡ o
unfolding place_of
means-place f len w (Err BelowBase) h = rw (lt-ltb _ _ h)
means-place f len w (Err OverLimit) h = rw (le-ltb _ _ h.0, le-leb _ _ h.1)
means-place f len w (Err BeyondMemory) h = rw (le-ltb _ _ h.0, lt-leb _ _ h.1, le-leb _ _ h.2)
means-place f len w (Ok n) h =
    let k : In f len (sum_of f w) = rw h.0 at h.1 in
    rw (h.0, le-ltb _ _ k.0, lt-leb _ _ k.1, lt-leb _ _ k.2)

-- the cause is the first of the three tests that holds, and a word is inside exactly where none does
pub cause-first : (f : Field) (len w : ℕ) (o : Result ℕ Cause) → (place_of f len w ≡ o → Means f len w o) × (Means f len w o → place_of f len w ≡ o)
cause-first f len w o = ((λ e. rw e at (place-means f len w)), means-place f len w o)

-- ---- n words

module _ (f : Field) (at : ℕ → ℕ) (len : ℕ) where
  -- the words before the one numbered n are all inside
  abbrev pub Within : ℕ → Type 0
  Within n = (d : ℕ) → d < n → (m : ℕ) × (place_of f len (at d) ≡ Ok m)

  abbrev pub Tells : ℕ → Option Stray → Type 0
  Tells n None = Within n
  Tells n (Some stray) = (stray.element < n) × (place_of f len (at stray.element) ≡ Err stray.cause) × Within stray.element

  tells : (n : ℕ) → Tells n (first_outside f at len n)
  unfolding first_outside
  tells zero = λ d l. absurd (omega arith)
  tells (suc n) = go (first_outside f at len n) (tells n) (place_of f len (at n)) refl
    where
      more : Within n → (m : ℕ) → place_of f len (at n) ≡ Ok m → (d : ℕ) → d < suc n → Dec (d < n) → (m : ℕ) × (place_of f len (at d) ≡ Ok m)
      more h m q d l (yes k) = h d k
      more h m q d l (no k) = let e : d ≡ n = omega arith in (m, rw e q)

      go : (s : Option Stray) → Tells n s → (o : Result ℕ Cause) → place_of f len (at n) ≡ o → Tells (suc n) (or_else s (stray_at n o))
      go None h (Ok m) q = λ d l. more h m q d l (dec_lt d n)
      go None h (Err c) q = (omega arith, q, h)
      go (Some stray) h o q = (omega (arith, h.0), h.1, h.2)

  -- the stray is the least number of a word outside, with its cause
  pub least : (n : ℕ) (stray : Stray) → first_outside f at len n ≡ Some stray
      → (stray.element < n) × (place_of f len (at stray.element) ≡ Err stray.cause) × Within stray.element
  least n stray q = rw q at (tells n)

  -- and there is none exactly where all are inside
  pub none-outside : (n : ℕ) → (first_outside f at len n ≡ None → Within n) × (Within n → first_outside f at len n ≡ None)
  none-outside n = ((λ q. rw q at (tells n)), λ h. go h (first_outside f at len n) (tells n))
    where
      go : Within n → (s : Option Stray) → Tells n s → s ≡ None
      go h None t = refl
      go h (Some stray) t =
          let a = (h stray.element t.0).1 in
          let b = t.1 in
          cc

-- ---- a step

ranged-stray : (fr : Frame) (r : Registers) (p : ℕ) (s : Option Stray) (sh : Shared) → (ranged fr r p s sh).stray ≡ s
unfolding ranged exchange
ranged-stray fr r p s sh = picked (λ (o : Out). o.stray ≡ s) (user fr && eqb r.ior 1) refl refl

finish-stray : (st : State) (w : Work) (s : Option Stray) (r : Registers) (sh : Shared) → (finish st w s r sh).stray ≡ s
unfolding finish exchange
finish-stray st work.PastOne s r sh = refl
finish-stray st work.PastTwo s r sh = refl
finish-stray st work.StrayedOne s r sh = ranged-stray st.frame r (onward st.p.0 1) s sh
finish-stray st work.StrayedTwo s r sh = ranged-stray st.frame r (onward st.p.0 2) s sh
finish-stray st (work.To q) s r sh = refl
finish-stray st work.NormalExit s r sh = refl
finish-stray st work.ErrorExit s r sh = refl
finish-stray st work.ProgramRange s r sh = refl
finish-stray st work.NotHeld s r sh = refl
finish-stray st work.MonitorFetch s r sh = refl

perform-stray : (fr : Frame) (r : Registers) (parcels : ℕ) (sh : Shared) (a : Act) → (perform fr r parcels sh a).stray ≡ outside fr sh.mem a
unfolding perform outside first_outside
perform-stray fr r parcels sh (does put) = refl
perform-stray fr r parcels sh (acts.goes q put) = refl
perform-stray fr r parcels sh (reads_words n at put) = refl
perform-stray fr r parcels sh (writes_words n at val) = refl
perform-stray fr r parcels sh leaves_normally = refl
perform-stray fr r parcels sh leaves_by_error = refl

-- the stray of a step is that of its work, whatever the mode and IOR
pub stray-of-work : (st : State) (sh : Shared) → (step_of st sh).stray ≡ (work_of st.frame st.registers st.p.0 sh).stray
unfolding step_of finish_of
stray-of-work st sh =
    let d = work_of st.frame st.registers st.p.0 sh in
    finish-stray st d.work d.stray d.registers d.shared

-- of what stands at P: for an instruction the first word outside that its act refers to, else none
abbrev pub stray_of : State → Shared → Present → Option Stray
stray_of st sh has_none = None
stray_of st sh not_held = None
stray_of st sh (has_instr n x m parcels) =
    outside st.frame sh.mem (act st.registers (status_of st.frame st.registers) x m (onward st.p.0 parcels) n)

pub stray-of-step : (st : State) (sh : Shared) → (step_of st sh).stray ≡ stray_of st sh (present_of st.frame sh.mem st.p.0)
unfolding work_of done_with
stray-of-step st sh = stray-of-work st sh ∙ go (present_of st.frame sh.mem st.p.0)
  where
    go : (o : Present) → (done_with st.frame st.registers st.p.0 sh o).stray ≡ stray_of st sh o
    go has_none = refl
    go not_held = refl
    go (has_instr n x m parcels) = perform-stray st.frame st.registers parcels sh _

-- ---- a run

-- a step without a stray leaves the one that was
pub run-clean : (b : ℕ) (s : Option Stray) (n : ℕ) (st : State) (sh : Shared) → stops (step_of st sh).answer ≡ false → (step_of st sh).stray ≡ None
    → run_of (suc b) s n st sh ≡ run_of b s (n + 1) (step_of st sh).state (step_of st sh).shared
run-clean b s n st sh e c =
    run_on b s n st sh e ∙ ap (λ (i : Option Stray). run_of b (or_else i s) (n + 1) (step_of st sh).state (step_of st sh).shared) c

-- a run has the stray of the last of its steps that had one
pub run-stray : (k : ℕ) (s : Option Stray) (n : ℕ) (st : State) (sh : Shared) → Goes k st sh → (run_of k s n st sh).stray ≡ last_stray k s st sh
run-stray k s n st sh g = ap (λ (e : Ended). e.stray) (run-spent k s n st sh g)

-- the stray of the step after k steps
abbrev pub next_stray : ℕ → State → Shared → Option Stray
next_stray k st sh = (step_of (state_after k st sh) (shared_after k st sh)).stray

-- where none had one it is that from before
pub stray-stays : (k : ℕ) (s : Option Stray) (st : State) (sh : Shared) → ((i : ℕ) → i < k → next_stray i st sh ≡ None) → last_stray k s st sh ≡ s
stray-stays zero s st sh h = refl
stray-stays (suc k) s st sh h =
    rw (h 0 (omega arith)) (stray-stays k s (step_of st sh).state (step_of st sh).shared (λ i l. h (suc i) (omega arith)))

-- and else that of the step after which none had one
pub last-wins : (k j : ℕ) (s : Option Stray) (st : State) (sh : Shared) (stray : Stray) → j < k → next_stray j st sh ≡ Some stray
    → ((i : ℕ) → j < i → i < k → next_stray i st sh ≡ None) → last_stray k s st sh ≡ Some stray
last-wins zero j s st sh stray l q h = absurd (omega arith)
last-wins (suc k) zero s st sh stray l q h =
    rw q (stray-stays k (Some stray) (step_of st sh).state (step_of st sh).shared (λ i l. h (suc i) (omega arith) (omega arith)))
last-wins (suc k) (suc j) s st sh stray l q h =
    last-wins k j (or_else (step_of st sh).stray s) (step_of st sh).state (step_of st sh).shared stray (omega arith) q
    (λ i a b. h (suc i) (omega arith) (omega arith))
