use mathlib.Core.Path.{◌≡◌}
use lib.ListN.{length}
use Rattle.machine.specs.Layout.{state_of}
use Rattle.turns.specs.Turn.{state_at}
use Rattle.turns.proofs.Lent.{lifted, kept}
use borrow.Author.Rules.{rules}
use Rattle.turns.proofs.pair.keep_p.Goals as goal

pub returns : goal.returns
returns c =
    let long : length c.set_p.new.r ≡ 672 = search rules in
    record {
      pair_after = lifted _ _ _ c.requires (search rules) long (λ l l'. state_of l' ≡ state_at c.args.p l) c.set_p.ensures;
      pair_unchanged = kept c.args.at c.args.pair.now c.set_p.new.r c.requires (search rules) long;
    }
