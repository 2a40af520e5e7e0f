use mathlib.Core.Path.{refl}
use Rattle.turns.proofs.Pairs.{second-side, passes-first, passes-second}
use borrow.Author.Rules.{rules}
use Rattle.turns.proofs.pair.pass.Goals as goal

pub returns-then-byte-eq-FIRST : goal.returns-then-byte-eq-FIRST
returns-then-byte-eq-FIRST c =
    record {
      at_value = (rw c.if-byte-eq-FIRST.true, refl);
      passes = passes-first _ _ _ _ _ c.requires (search rules) c.keep_p.ensures.pair_after c.keep_p.ensures.pair_unchanged _;
    }

pub returns : goal.returns
returns c =
    record {
      at_value = (second-side _ c.if-byte-eq-FIRST.false, refl);
      passes = passes-second _ _ _ _ _ c.requires (search rules) c.keep_p.ensures.pair_after c.keep_p.ensures.pair_unchanged _;
    }
