-- Two results that a statement allows are equal: one law of all that writes bytes and answers how many, and the functions here. Assumes
-- nothing.
use Prim.Native.Nat.{ℕ}
use mathlib.Core.Path.{◌≡◌, sym, ◌∙◌}
use mathlib.Core.List.{List}
use Rattle.std.specs.Prelude.{Option}
use Rattle.machine.specs.declared.Ending.{Ending}
use Rattle.machine.specs.declared.Stray.{Stray}
use Rattle.machine.specs.State.{State}
use Rattle.std.proofs.Common.{Result}
use Rattle.text.specs.declared.BadSheet.{BadSheet}
use Rattle.text.specs.Sheet.{sheet_of, memory_of}
use Rattle.text.specs.Report.{report_of, refused_of, Wrote}

pub wrote-unique : (buffer : List ℕ) (at : ℕ) (xs after after' : List ℕ) (r r' : ℕ) → Wrote buffer at xs after r → Wrote buffer at xs after' r'
    → (after ≡ after') × (r ≡ r')
wrote-unique buffer at xs after after' r r' h h' = (h.bytes ∙ sym h'.bytes, h.place ∙ sym h'.place)

pub read-unique : (text mem after after' : List ℕ) (r r' : Result ℕ BadSheet) → (r ≡ sheet_of text) × (after ≡ memory_of text mem)
    → (r' ≡ sheet_of text) × (after' ≡ memory_of text mem) → (r ≡ r') × (after ≡ after')
read-unique text mem after after' r r' h h' = (h.0 ∙ sym h'.0, h.1 ∙ sym h'.1)

pub report-unique : (ending : Result Ending ℕ) (stray : Option Stray) (steps : ℕ) (st : State) (before after out out' out'' : List ℕ) (n n' : ℕ)
    → Wrote out 0 (report_of ending stray steps st before after) out' n → Wrote out 0 (report_of ending stray steps st before after) out'' n'
    → (out' ≡ out'') × (n ≡ n')
report-unique ending stray steps st before after out out' out'' n n' = wrote-unique out 0 _ out' out'' n n'

pub refused-unique : (line : ℕ) (out out' out'' : List ℕ) (n n' : ℕ) → Wrote out 0 (refused_of line) out' n → Wrote out 0 (refused_of line) out'' n'
    → (out' ≡ out'') × (n ≡ n')
refused-unique line out out' out'' n n' = wrote-unique out 0 _ out' out'' n n'
