-- What was answered has the number of no refusal, 0. Assumes nothing.
use Rattle.std.proofs.Common.{◌≡◌, refl, Option, Some, None, Ok}
use Rattle.machine.specs.declared.Answer.{Answer}
use Rattle.machine.specs.declared.Ending.{Ending}
use Rattle.machine.specs.declared.Ending.TheVariants as ending
use Rattle.machine.specs.Call.{last_numbers, ending_numbers}
use Rattle.numbers.specs.Left.{refused}

pub last-answered : (o : Option Answer) → refused (last_numbers (Ok o)) ≡ 0
last-answered None = refl
last-answered (Some o) = refl

pub ending-answered : (o : Ending) → refused (ending_numbers (Ok o)) ≡ 0
ending-answered ending.Budget = refl
ending-answered (ending.NotHeld p) = refl
ending-answered (ending.MonitorFetch p) = refl
