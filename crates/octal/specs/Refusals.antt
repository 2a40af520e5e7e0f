-- A refusal as text: its number, and for some the line that is bad. Assumes nothing.
use Rattle.std.specs.Prelude.{ℕ, List, ◌++◌}
use Rattle.text.specs.Names.{name_refused, name_line}
use Rattle.text.specs.Report.{decimal_line}
use Rattle.spelling.specs.declared.ReadError.{ReadError}
use Rattle.spelling.specs.declared.ReadError.TheVariants.{BadLine, Overfull}

-- `refused=`, and `line=`
unfoldable pub refused_text : ℕ → List ℕ
refused_text n = decimal_line name_refused n

unfoldable pub refused_line : ℕ → ℕ → List ℕ
refused_line n line = refused_text n ++ decimal_line name_line line

-- that of a text that stands for no parcels
abbrev pub error_text : ReadError → List ℕ
error_text (BadLine line) = refused_line 10 line
error_text Overfull = refused_text 18
