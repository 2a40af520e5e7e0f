-- How far what is read goes: bounds that the reader's functions promise each other, so that no sum of places overflows. What a sheet means
-- does not rest on them. Assumes nothing.
use Rattle.std.specs.Prelude.{ℕ, ◌≤◌, Option, IfSome, Result, IfOk}
use Rattle.text.specs.declared.Head.{Head}
use Rattle.text.specs.declared.Checked.{Checked}
use Rattle.text.specs.declared.BadSheet.{BadSheet}

-- the number is at most `most`, and the next line starts at most at `limit`
abbrev pub HeadFits : ℕ → ℕ → Option Head → Type 0
HeadFits most limit r = IfSome r (λ head. (head.number ≤ most) × (head.next ≤ limit))

abbrev pub CheckedFits : Result Checked BadSheet → Type 0
CheckedFits r = IfOk r (λ sheet. (sheet.at ≤ 64) × (sheet.words ≤ 1024) × (sheet.steps ≤ 1000000))

-- what a good sheet asks for
abbrev pub SheetFits : Result ℕ BadSheet → Type 0
SheetFits r = IfOk r (λ steps. steps ≤ 1000000)
