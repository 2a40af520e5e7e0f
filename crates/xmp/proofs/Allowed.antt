-- What a call that is not refused may rely on; a step as a turn of one; a processor that was zeroed. Assumes nothing.
use Prim.Native.Nat.{ℕ, ◌+◌, ◌^◌, ◌<◌, ◌≤◌}
use mathlib.Core.Path.{◌≡◌, refl, sym, ◌∙◌, ap}
use mathlib.Core.Bool.{Bool, true, false, not, and-eq-true_iff}
use mathlib.Core.List.{List, ◌∷◌}
use native.Mathlib.Omega.{arith}
use lib.ListN.{length, get_or, set, replicate, drop, length-drop}
use lib.Seq.{length-take-le}
use lib.Dec.{eqb, leb}
use borrow.Author.Tests.{ltb-false, leb-true, eqb-true}
use Rattle.std.specs.Prelude.{Err, Option, Some, None, Ok, Result, unwrap_or}
use Rattle.machine.specs.declared.Answer.{Answer}
use Rattle.machine.specs.declared.Answer.TheVariants.{Stepped, Exchanged, NotHeld, MonitorFetch}
use Rattle.machine.specs.Run.{Last}
use Rattle.machine.specs.declared.Stray.{Stray}
use Rattle.machine.specs.Word.{pick}
use Rattle.machine.specs.State.{State, Shared}
use Rattle.machine.specs.Memory.{or_else}
use Rattle.machine.specs.Exchange.{loaded}
use Rattle.machine.specs.Step.{step_of, goes_on, counted}
use Rattle.machine.specs.Run.{zeros, start_of, Turned, turned, turn_of}
use Rattle.machine.specs.Refusal.{Check, check, first_due, memory_fits, state_fits, start_refusal, step_refusal, run_refusal, pair_refusal}
use Rattle.machine.specs.Call.{replied}
use Rattle.machine.specs.Layout.{part, registers_of, frame_of, state_of, first_of, second_of}
use Rattle.access.proofs.Places.{part_at}
use Rattle.access.proofs.Fits.{fit}
use Rattle.turns.specs.Turn.{Fitting}
use Rattle.turns.specs.Pair.{Both}

-- two ensures of one call: what it gives, and the numbers of its answer
pub told : {A B : Type 0} (f : A → B) (a b : A) → a ≡ b → (a ≡ b) × (f a ≡ f b)
told f a b e = (e, ap f e)

-- none of the tests of a call that is not refused holds
passed : (n : ℕ) (b : Bool) (l : List Check) → (n ≡ 0 → ⊥) → first_due (check n b ∷ l) ≡ 0 → (b ≡ false) × (first_due l ≡ 0)
unfolding first_due
passed n true l h e = absurd (h e)
passed n false l h e = (refl, e)

held : (b : Bool) → not b ≡ false → b ≡ true
held true e = refl
held false e = sym e

memory-fits : (len : ℕ) → memory_fits len ≡ true → (4096 ≤ len) × (len ≤ 4194304)
unfolding memory_fits
memory-fits len e =
    let h = (and-eq-true_iff (leb 4096 len) (leb len 4194304)).0 e in
    (leb-true 4096 len h.0, leb-true len 4194304 h.1)

-- words whose state fits
fitting : (r : List ℕ) (len : ℕ) → length r ≡ 672 → memory_fits len ≡ true → (state_of r).frame.processor < 2 → state_fits (state_of r) ≡ true
    → Fitting r len × (get_or r 0 0 < 2 ^ 24)
fitting r len long m n e =
    let f = fit (state_of r) e in
    let k = memory-fits len m in
    (record { long = long; frame = f.frame; control = f.control; processor = n; least = k.0; most = k.1 }, f.p)

module _ (r : List ℕ) (len : ℕ) (long : length r ≡ 672) where
  pub step-allowed : (budget : ℕ) → budget ≤ 1000000 → step_refusal len (state_of r) ≡ 0
      → Fitting r len × ((get_or r 0 0 < 2 ^ 24) × (budget ≤ 1000000))
  unfolding step_refusal
  step-allowed budget small e =
      let a = passed 1 _ _ (λ z. omega arith) e in
      let b = passed 4 _ _ (λ z. omega arith) a.1 in
      let c = passed 7 _ _ (λ z. omega arith) b.1 in
      let k = fitting r len long (held _ a.0) (omega (arith, ltb-false 1 (state_of r).frame.processor b.0)) (held _ c.0) in
      (k.0, (k.1, small))

  pub run-allowed : (budget : ℕ) → run_refusal len (state_of r) budget ≡ 0 → Fitting r len × ((get_or r 0 0 < 2 ^ 24) × (budget ≤ 1000000))
  unfolding run_refusal
  run-allowed budget e =
      let a = passed 1 _ _ (λ z. omega arith) e in
      let d = passed 3 _ _ (λ z. omega arith) a.1 in
      let b = passed 4 _ _ (λ z. omega arith) d.1 in
      let c = passed 7 _ _ (λ z. omega arith) b.1 in
      let k = fitting r len long (held _ a.0) (omega (arith, ltb-false 1 (state_of r).frame.processor b.0)) (held _ c.0) in
      (k.0, (k.1, omega (arith, ltb-false 1000000 budget d.0)))

pub start-allowed : (len x n : ℕ) → start_refusal len x n ≡ 0 → (4096 ≤ len) × (x < 256) × (n < 2)
unfolding start_refusal
start-allowed len x n e =
    let a = passed 1 _ _ (λ z. omega arith) e in
    let b = passed 2 _ _ (λ z. omega arith) a.1 in
    let c = passed 4 _ _ (λ z. omega arith) b.1 in
    ((memory-fits len (held _ a.0)).0, omega (arith, ltb-false 255 x b.0), omega (arith, ltb-false 1 n c.0))

-- a processor's words in a pair's are 672
part-long : (pair : List ℕ) (at : ℕ) → length pair ≡ 1344 → at ≤ 672 → length (part at 672 pair) ≡ 672
unfolding part
part-long pair at long h = length-take-le 672 (drop at pair) (omega (arith, length-drop at pair, long, h))

pub pair-allowed : (pair : List ℕ) (len : ℕ) (schedule : List ℕ) → length pair ≡ 1344
    → pair_refusal len (first_of pair) (second_of pair) schedule ≡ 0
    → ((length pair ≡ 1344) × (length schedule ≤ 65536))
    × Both pair len
unfolding pair_refusal
pair-allowed pair len schedule long e =
    let x = first_of pair in
    let y = second_of pair in
    let a = passed 1 _ _ (λ z. omega arith) e in
    let b = passed 4 _ _ (λ z. omega arith) a.1 in
    let c = passed 5 _ _ (λ z. omega arith) b.1 in
    let d = passed 6 _ _ (λ z. omega arith) c.1 in
    let f = passed 7 _ _ (λ z. omega arith) d.1 in
    let n = (and-eq-true_iff (eqb x.frame.processor 0) (eqb y.frame.processor 1)).0 (held _ b.0) in
    let s = (and-eq-true_iff (state_fits x) (state_fits y)).0 (held _ f.0) in
    let m = held _ a.0 in
    let one = fitting (part 0 672 pair) len (part-long pair 0 long (omega arith)) m (omega (arith, eqb-true x.frame.processor 0 n.0)) s.0 in
    let two = fitting (part 672 672 pair) len (part-long pair 672 long (omega arith)) m (omega (arith, eqb-true y.frame.processor 1 n.1)) s.1 in (
      (long, omega (arith, ltb-false 65536 (length schedule) c.0)),
      record {
        first = one.0;
        second = two.0;
        narrow = (rw (← part_at 0 672 pair 0 (omega arith)) one.1, rw (← part_at 672 672 pair 0 (omega arith)) two.1);
      },
    )

-- a turn of one step is the step
or-clean : (s : Option Stray) → or_else s None ≡ s
or-clean None = refl
or-clean (Some stray) = refl

turn_one : (st : State) (sh : Shared)
    → turn_of 1 (Ok None) None 0 st sh
    ≡ turned (Ok (Some (step_of st sh).answer)) (step_of st sh).stray (counted (step_of st sh).answer) (step_of st sh).state (step_of st sh).shared
unfolding turn_of
turn_one st sh = rw (or-clean (step_of st sh).stray) (go (step_of st sh).answer)
  where
    t : Answer → ℕ → Turned
    t o n = turned (Ok (Some o)) (step_of st sh).stray n (step_of st sh).state (step_of st sh).shared

    go : (o : Answer) → pick (goes_on o) (t o (0 + counted o)) (t o (0 + counted o)) ≡ t o (counted o)
    go Stepped = refl
    go (Exchanged flags) = refl
    go (NotHeld p) = refl
    go (MonitorFetch p) = refl

-- so the reply of a step is the last answer of a turn of one
abbrev replied_by : Last → Result Answer ℕ
replied_by (Ok l) = Ok (unwrap_or l Stepped)
replied_by (Err n) = Err n

pub stepped : (l : Option Answer) (s : Option Stray) (n : ℕ) (st st' : State) (sh sh' : Shared) → turned (Ok l) s n st' sh' ≡ turn_of 1 (Ok None) None 0 st sh
    → replied (Ok (unwrap_or l Stepped)) s st' sh'
    ≡ replied (Ok (step_of st sh).answer) (step_of st sh).stray (step_of st sh).state (step_of st sh).shared
stepped l s n st st' sh sh' e = ap (λ (t : Turned). replied (replied_by t.last) t.stray t.state t.shared) (e ∙ turn_one st sh)

-- a processor's words all zero but its number load as a start does
pub zeroed : (mem : List ℕ) (x n : ℕ) (w : List ℕ) → w ≡ set (replicate 672 0) 15 n → loaded mem x (registers_of w) (frame_of w) ≡ start_of mem x n
unfolding loaded start_of registers_of frame_of part zeros
zeroed mem x n w e = rw e
