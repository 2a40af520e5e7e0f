use Rattle.turns.proofs.pair.stray_at.Goals as goal

pub of-requires : goal.of-requires
of-requires c =
    record { bounds = rw c.half.ensures c.requires.bounds }

pub returns : goal.returns
returns c =
    rw c.half.ensures at c.of.ensures
