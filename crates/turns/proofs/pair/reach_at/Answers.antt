use Rattle.turns.proofs.pair.reach_at.Goals as goal

pub reach-requires : goal.reach-requires
reach-requires c =
    record {
      bounds = rw c.half.ensures (c.requires.fitting.frame.iba, c.requires.fitting.frame.ila, c.requires.fitting.frame.dba, c.requires.fitting.frame.dla);
      memory = c.requires.fitting.most;
    }

pub returns : goal.returns
returns c =
    record {
      long = c.requires.fitting.long;
      reaches = rw c.half.ensures at c.reach.ensures;
      frame = c.requires.fitting.frame;
      control = c.requires.fitting.control;
      processor = c.requires.fitting.processor;
    }
