use Rattle.std.proofs.Common.{arith, rules}
use Rattle.memory.proofs.Fields.{held}
use Rattle.memory.proofs.Many.{block-low, block-read}
use Rattle.memory.proofs.blocks.read.Goals as goal

pub read-requires : goal.read-requires
read-requires c =
    record {
      row = (
        block-low c.args.b _ c.place.ensures,
        omega (arith, c.jk.ensures),
        omega
            (arith, c.block.ensures),
      );
      held = held _ _ _ _ c.requires.window;
    }

pub returns : goal.returns
returns c =
    block-read c.args.b _ _ _ _ _ _ c.requires.window _ (search rules) c.requires.coded
    (rw (c.place.ensures, c.jk.ensures, c.block.ensures) at c.read.ensures)
