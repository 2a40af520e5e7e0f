use Rattle.std.proofs.Common.{rules}
use Rattle.std.proofs.Common.{arith}
use Rattle.memory.proofs.Fields.{held}
use Rattle.memory.proofs.Many.{vector-stored}
use Rattle.memory.proofs.blocks.store_v.Goals as goal

pub store-requires : goal.store-requires
store-requires c =
    record {
      row = (omega (arith, c.j.ensures), omega arith, omega (arith, c.vl-n.ensures, c.requires.coded.2));
      held = held _ _ _ _ c.requires.window;
    }

pub returns : goal.returns
returns c =
    vector-stored _ _ _ _ _ _ c.requires.window c.requires.coded.2 _ (search rules) c.requires.coded.0 c.requires.coded.1
    (rw (c.j.ensures, c.vl-n.ensures, c.a_k-by.ensures) at c.store.ensures)
