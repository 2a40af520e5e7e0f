use Rattle.std.proofs.Common.{arith, rules}
use Rattle.memory.proofs.Fields.{held}
use Rattle.memory.proofs.Many.{vector-read}
use Rattle.memory.proofs.blocks.read_v.Goals as goal

pub read-requires : goal.read-requires
read-requires c =
    record {
      row = (omega (arith, c.i.ensures), omega arith, omega (arith, c.vl-n.ensures, c.requires.coded.2));
      held = held _ _ _ _ c.requires.window;
    }

pub returns : goal.returns
returns c =
    vector-read _ _ _ _ _ _ c.requires.window c.requires.coded.2 _ (search rules) c.requires.coded.0 c.requires.coded.1
    (rw (c.i.ensures, c.vl-n.ensures, c.a_k-by.ensures) at c.read.ensures)
