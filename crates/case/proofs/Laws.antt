-- No start and no run of a good sheet is refused, and what the code reports is the sheet's answer. Assumes nothing.
use Prim.Native.Nat.{ℕ, ◌≤◌}
use mathlib.Core.Path.{◌≡◌, refl, ◌∙◌, ap}
use mathlib.Core.Bool.{true}
use mathlib.Core.List.{List}
use native.Mathlib.Omega.{arith}
use lib.ListN.{length}
use borrow.Author.Tests.{le-ltb}
use Rattle.std.specs.Prelude.{⊤, false, eqb, zero, suc, ◌+◌, Ok, Err, IsOk, Option, None}
use Rattle.machine.specs.declared.Ending.{Ending}
use Rattle.machine.specs.declared.Ending.TheVariants.{Budget}
use Rattle.machine.specs.declared.Refusal.{Refusal}
use Rattle.machine.specs.declared.Stray.{Stray}
use Rattle.machine.specs.Memory.{or_else}
use Rattle.machine.specs.Step.{step_of, stops, counted}
use Rattle.laws.proofs.Below.{picked}
use Rattle.xmp.specs.Reply.{told_ended}
use Rattle.machine.proofs.Refusals.{some-number}
use Rattle.turns.specs.declared.run.Ran as lib_ran
use Rattle.machine.specs.State.{State, Shared, sharing}
use Rattle.machine.specs.Exchange.{loaded}
use Rattle.machine.specs.Refusal.{memory_fits, state_fits, first_due, start_refusal, run_refusal}
use Rattle.machine.specs.Run.{zeros, start_of, Ended, ended, ending_of, run_of}
use Rattle.machine.specs.Call.{Started, started, start_call, run_call, refusal_number, number_of}
use Rattle.laws.proofs.Kept.{start_fits}
use Rattle.std.proofs.Common.{Ok, Err, Result}
use Rattle.text.specs.declared.BadSheet.{BadSheet}
use Rattle.text.specs.Sheet.{sheet_of, memory_of}
use Rattle.text.specs.Report.{report_of, refused_of}
use Rattle.case.specs.Case.{answer_to, answer_of}

start-processor : (mem : List ℕ) (x : ℕ) → (start_of mem x 0).frame.processor ≡ 0
unfolding start_of loaded
start-processor mem x = refl

-- from whatever package x
module _ (mem : List ℕ) (sized : length mem ≡ 4096) (x : ℕ) (low : x ≤ 255) where
  start-called : (st : State) → start_call st mem x 0 ≡ started 0 (start_of mem x 0)
  unfolding start_call start_refusal first_due memory_fits
  start-called st = rw (sized, le-ltb 255 x low)

  run-called : (st : State) (steps : ℕ) → state_fits st ≡ true → st.frame.processor ≡ 0 → steps ≤ 1000000
      → run_call st (sharing mem) steps ≡ run_of steps None 0 st (sharing mem)
  unfolding run_call run_refusal first_due memory_fits
  run-called st steps f p l = rw (sized, le-ltb 1000000 steps l, le-ltb 1 st.frame.processor (omega arith), f)

  -- so neither is refused
  pub start-ok : (o : Result ⊤ Refusal) (st₀ st : State) → started (number_of o) st ≡ start_call st₀ mem x 0 → IsOk o
  start-ok (Ok u) st₀ st s = refl
  start-ok (Err why) st₀ st s =
      let z : refusal_number why ≡ 0 = ap (λ (c : Started). c.refused) (s ∙ start-called st₀) in
      let k : eqb (refusal_number why) 0 ≡ true = ap (λ (n : ℕ). eqb n 0) z in
      let f : eqb (refusal_number why) 0 ≡ false = some-number why in
      cc

  -- a start of any processor and a run of what it made
  pub package-run : (n : ℕ) (st₀ st : State) (o : Ended) (steps : ℕ) → started n st ≡ start_call st₀ mem x 0
      → o ≡ run_call st (sharing mem) steps → steps ≤ 1000000
      → o ≡ run_of steps None 0 (start_of mem x 0) (sharing mem)
  package-run n st₀ st o steps s r l =
      let e : st ≡ start_of mem x 0 = ap (λ (c : Started). c.state) (s ∙ start-called st₀) in
      r ∙ rw e (run-called (start_of mem x 0) steps (start_fits mem x 0) (start-processor mem x) l)

-- a run by the definitions ends otherwise than by a refusal
abbrev Answered : Ended → Type 0
Answered e = (o : Ending) × (e.ending ≡ Ok o)

run-answered : (budget : ℕ) (s : Option Stray) (n : ℕ) (st : State) (sh : Shared) → Answered (run_of budget s n st sh)
unfolding run_of
run-answered zero s n st sh = (Budget, refl)
run-answered (suc budget) s n st sh =
    let o = step_of st sh in
    picked Answered (stops o.answer) (ending_of o.answer, refl) (run-answered budget (or_else o.stray s) (n + counted o.answer) o.state o.shared)

pub run-ok : (o : Result lib_ran.Ran Refusal) (st' st : State) (sh' sh : Shared) (steps : ℕ) → told_ended o st' sh' ≡ run_of steps None 0 st sh → IsOk o
run-ok (Ok r) st' st sh' sh steps e = refl
run-ok (Err why) st' st sh' sh steps e =
    let a = run-answered steps None 0 st sh in
    let z : ◌≡◌ {A = Result Ending ℕ} (Err (refusal_number why)) (Ok a.0) = ap (λ (x : Ended). x.ending) e ∙ a.1 in
    cc

-- what is reported of a good sheet, and of a bad one
module _ (text : List ℕ) where
  pub good-answer : (steps n : ℕ) (ending : Result Ending ℕ) (stray : Option Stray) (st : State) (before after : List ℕ) → sheet_of text ≡ Ok steps
      → before ≡ memory_of text (zeros 4096) → ended ending stray n st (sharing after) ≡ run_of steps None 0 (start_of before 0 0) (sharing before)
      → report_of ending stray n st before after ≡ answer_of text
  unfolding answer_of answer_to
  good-answer steps n ending stray st before after g m e = rw (g, ← m, ← e)

  pub bad-answer : (bad : BadSheet) → sheet_of text ≡ Err bad → refused_of bad.line ≡ answer_of text
  unfolding answer_of answer_to
  bad-answer bad b = rw b
