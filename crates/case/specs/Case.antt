-- The whole answer to a case sheet. Assumes nothing.
use Rattle.std.specs.Prelude.{List, ℕ, None, Result, Ok, Err}
use Rattle.machine.specs.State.{sharing}
use Rattle.machine.specs.Run.{zeros, start_of, run_of}
use Rattle.text.specs.declared.BadSheet.{BadSheet}
use Rattle.text.specs.Sheet.{sheet_of, memory_of}
use Rattle.text.specs.Report.{report_of, refused_of}

-- to a sheet that left memory m: of a good one processor 0 starts from package 0 and runs, and the report compares memory with m
unfoldable pub answer_to : List ℕ → Result ℕ BadSheet → List ℕ
answer_to m (Ok steps) =
    let e = run_of steps None 0 (start_of m 0 0) (sharing m) in
    report_of e.ending e.stray e.steps e.state m e.shared.mem
answer_to m (Err bad) = refused_of bad.line

-- a sheet is read into 4,096 zero words
unfoldable pub answer_of : List ℕ → List ℕ
answer_of text = answer_to (memory_of text (zeros 4096)) (sheet_of text)
