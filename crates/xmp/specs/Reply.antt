-- Short for what the clauses `call` say: what a call answers, told as the definitions have it, a refusal by its number, beside all as it was.
-- And the numbers of what each call gives. Assumes nothing.
use Rattle.std.specs.Prelude.{ℕ, List, ◌++◌, None, Result, Ok, Err}
use Rattle.machine.specs.declared.Refusal.{Refusal}
use Rattle.machine.specs.State.{State, Shared}
use Rattle.machine.specs.Run.{Turned, turned, Ended, ended, half, half_with, PairEnded, pair_ended}
use Rattle.machine.specs.Call.{Replied, replied, reply_numbers, ending_numbers, last_numbers, stray_numbers, tells}
use Rattle.turns.specs.declared.Turned as lib_turned
use Rattle.turns.specs.declared.run.Ran as lib_ran
use Rattle.turns.specs.declared.pair.Paired as lib_paired
use Rattle.xmp.specs.declared.Replied as lib_replied

abbrev pub told_reply : Result lib_replied.Replied Refusal → State → Shared → Replied
told_reply o st sh = tells o (λ r. replied (Ok r.answer) r.stray st sh) (λ no. replied (Err no) None st sh)

abbrev pub told_turned : Result lib_turned.Turned Refusal → State → Shared → Turned
told_turned o st sh = tells o (λ t. turned (Ok t.last) t.stray t.steps st sh) (λ no. turned (Err no) None 0 st sh)

abbrev pub told_ended : Result lib_ran.Ran Refusal → State → Shared → Ended
told_ended o st sh = tells o (λ e. ended (Ok e.ending) e.stray e.steps st sh) (λ no. ended (Err no) None 0 st sh)

abbrev pub told_paired : Result lib_paired.Paired Refusal → State → State → Shared → PairEnded
told_paired o x y sh =
    tells o (λ e. pair_ended (Ok e.last) e.steps (half_with x e.strays.first) (half_with y e.strays.second) sh)
    (λ no. pair_ended (Err no) 0 (half x) (half y) sh)

-- the numbers of what each call gives by the definitions
abbrev pub step_numbers : Replied → List ℕ
step_numbers c = reply_numbers c.reply ++ stray_numbers c.stray

abbrev pub turn_numbers : Turned → List ℕ
turn_numbers c = last_numbers c.last ++ stray_numbers c.stray

abbrev pub run_numbers : Ended → List ℕ
run_numbers c = ending_numbers c.ending ++ stray_numbers c.stray

abbrev pub pair_numbers : PairEnded → List ℕ
pair_numbers c = last_numbers c.last ++ (stray_numbers c.first.stray ++ stray_numbers c.second.stray)
