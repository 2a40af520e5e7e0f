use Rattle.std.proofs.Common.{rules, subst}
use Rattle.std.specs.Io.KnownBytes.{Consumes}
use Rattle.std.proofs.KnownBytes.{Consumes-trans}
use Rattle.input.proofs.Filled.{filled}
use Rattle.input.proofs.read_full.Goals as goal

pub loop-at-preserved : goal.loop-at-preserved
loop-at-preserved g c =
    let held = filled c.loop-at.at _ c.in_ok-n.n _ _ c.loop-at.invariant.1 c.in_ok-n.ensures.bound.0 in
    (search rules, search rules, subst (Consumes _ _) held (Consumes-trans _ _ _ _ _ c.loop-at.invariant.2 c.in_ok-n.ensures.bytes.0))
