-- The report: its text as bytes, line by line in the order of the lines. Assumes nothing.
use Rattle.std.specs.Prelude.{ℕ, zero, suc, ◌+◌, ◌*◌, ◌%◌, min, List, [], ◌∷◌, ◌++◌, ◌≡◌, length, get_or, eqb, Option, Some, None, Result, Ok, Err}
use Rattle.std.proofs.lemmas.List.Edits.{sets}
use Rattle.machine.specs.declared.Ending.{Ending}
use Rattle.machine.specs.declared.Ending.TheVariants.{Budget, NotHeld, MonitorFetch}
use Rattle.machine.specs.declared.Cause.{Cause}
use Rattle.machine.specs.declared.Cause.TheVariants.{BelowBase, OverLimit, BeyondMemory}
use Rattle.machine.specs.declared.Stray.{Stray}
use Rattle.machine.specs.Word.{pick}
use Rattle.machine.specs.State.{Registers, Frame, State}
use Rattle.text.specs.Names.{name_steps, name_p, name_xa, name_vl, name_modes, name_iba, name_ila, name_dba, name_dla, name_ps, name_cln}
use Rattle.text.specs.Names.{name_a, name_s, name_changed, stop_budget, stop_not_held, stop_monitor_fetch, name_refused, name_line, equals, comma, newline}
use Rattle.text.specs.Names.{outside_none, name_below, name_over, name_beyond}
use Rattle.text.specs.Digits.{shown}
use Rattle.text.specs.Sheet.{sheet_refusal}

-- a line: a name, what it is, a newline
abbrev pub line_of : List ℕ → List ℕ → List ℕ
line_of name value = name ++ value ++ (newline ∷ [])

-- of a number: in decimal, or in hex of at least so many digits
abbrev pub decimal_line : List ℕ → ℕ → List ℕ
decimal_line name n = line_of name (shown 10 1 n)

abbrev pub hex_line : List ℕ → ℕ → ℕ → List ℕ
hex_line name least n = line_of name (shown 16 least n)

-- `stop=`; no run that is reported was refused
unfoldable pub stop_line : Result Ending ℕ → List ℕ
stop_line (Ok Budget) = stop_budget
stop_line (Ok (NotHeld p)) = stop_not_held
stop_line (Ok (MonitorFetch p)) = stop_monitor_fetch
stop_line (Err n) = stop_budget

-- `outside=`: `none`, or why an operand of the last step that had such a one lay outside, and its element
unfoldable pub cause_name : Cause → List ℕ
cause_name BelowBase = name_below
cause_name OverLimit = name_over
cause_name BeyondMemory = name_beyond

unfoldable pub outside_line : Option Stray → List ℕ
outside_line None = outside_none
outside_line (Some stray) = decimal_line (cause_name stray.cause) stray.element

-- MM as 1, IOR 2, IFP 4, FPS 8, BDM 10 in hex
abbrev pub modes_of : Registers → Frame → ℕ
modes_of r fr = fr.mm % 2 + r.ior % 2 * 2 + fr.ifp % 2 * 4 + fr.fps % 2 * 8 + r.bdm % 2 * 16

-- `p=`, `xa=`, `vl=`, `modes=`
unfoldable pub control_lines : State → List ℕ
control_lines st =
    hex_line name_p 6 st.p.0
    ++ hex_line name_xa 2 st.registers.xa
    ++ decimal_line name_vl st.registers.vl
    ++ hex_line name_modes 2 (modes_of st.registers st.frame)

-- `iba=`, `ila=`, `dba=`, `dla=`
unfoldable pub field_lines : Frame → List ℕ
field_lines fr = hex_line name_iba 5 fr.iba ++ hex_line name_ila 5 fr.ila ++ hex_line name_dba 5 fr.dba ++ hex_line name_dla 5 fr.dla

-- `ps=`, `cln=`
unfoldable pub program_lines : Frame → List ℕ
program_lines fr = hex_line name_ps 1 fr.ps ++ hex_line name_cln 1 fr.cln

-- numbers in hex with commas between them
unfoldable pub after_commas : ℕ → List ℕ → List ℕ
after_commas least [] = []
after_commas least (n ∷ ns) = comma ∷ (shown 16 least n ++ after_commas least ns)

unfoldable pub commas : ℕ → List ℕ → List ℕ
commas least [] = []
commas least (n ∷ ns) = shown 16 least n ++ after_commas least ns

-- `a=`, `s=`
unfoldable pub register_lines : Registers → List ℕ
register_lines r = line_of name_a (commas 6 r.a) ++ line_of name_s (commas 1 r.s)

-- the processor
unfoldable pub state_lines : State → List ℕ
state_lines st = control_lines st ++ field_lines st.frame ++ program_lines st.frame ++ register_lines st.registers

-- the words compared: as many as both memories have, which no machine has more of than 4,194,304
abbrev pub compared_of : List ℕ → List ℕ → ℕ
compared_of before after = min (min (length before) (length after)) 4194304

-- how many differ, of k words from address a on
abbrev pub change : ℕ → ℕ → ℕ
change old new = pick (eqb old new) 0 1

unfoldable pub changes : ℕ → ℕ → List ℕ → List ℕ → ℕ
changes zero a before after = 0
changes (suc k) a before after = change (get_or before a 0) (get_or after a 0) + changes k (a + 1) before after

-- those words as they are after, rising, each a line `AAAA=HHHHHHHHHHHHHHHH`
unfoldable pub change_text : ℕ → ℕ → ℕ → List ℕ
change_text a old new = pick (eqb old new) [] (shown 16 4 a ++ line_of (equals ∷ []) (shown 16 16 new))

unfoldable pub changed_words : ℕ → ℕ → List ℕ → List ℕ → List ℕ
changed_words zero a before after = []
changed_words (suc k) a before after = change_text a (get_or before a 0) (get_or after a 0) ++ changed_words k (a + 1) before after

-- `changed=`, and the words
unfoldable pub changed_lines : List ℕ → List ℕ → List ℕ
changed_lines before after =
    decimal_line name_changed (changes (compared_of before after) 0 before after) ++ changed_words (compared_of before after) 0 before after

-- the report of a run: how it ended, its stray, its steps, the processor at its end, and memory before and after it
unfoldable pub report_of : Result Ending ℕ → Option Stray → ℕ → State → List ℕ → List ℕ → List ℕ
report_of ending stray steps st before after =
    stop_line ending
    ++ outside_line stray
    ++ decimal_line name_steps steps
    ++ state_lines st
    ++ changed_lines before after

-- a bad sheet prints only `refused=8` and `line=`
unfoldable pub refused_of : ℕ → List ℕ
refused_of line = decimal_line name_refused sheet_refusal ++ decimal_line name_line line

-- a buffer after xs is written to it from `at` on, what does not fit being left out; r is the place after the whole of xs
pub record Wrote (buffer : List ℕ) (at : ℕ) (xs after : List ℕ) (r : ℕ) : Type 0 where
  pub bytes : after ≡ sets buffer at xs
  pub place : r ≡ at + length xs
