use mathlib.Core.Path.{refl}
use Rattle.machine.specs.Refusal.{memory_fits}
use Rattle.refusal.proofs.memory_fits.Goals as goal

pub returns : goal.returns
unfolding memory_fits
returns c = refl
