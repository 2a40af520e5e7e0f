use Rattle.std.proofs.Common.{◌≡◌, ◌+◌, ◌*◌, ◌-◌}
use Rattle.text.specs.Sheet.{stored}
use Rattle.text.proofs.store_words.Given as goal

abbrev pub invariant-loop-k : goal.invariant-loop-k
invariant-loop-k l = stored l.count l.text l.start l.initial.mem ≡ stored (l.count - l.k) l.text (l.start + 22 * l.k) l.mem
