use mathlib.Core.Path.{◌≡◌}
use lib.ListN.{length}
use Rattle.dispatch.specs.Table.{Works}
use Rattle.turns.proofs.Lent.{seen, lifted, kept}
use borrow.Author.Rules.{rules}
use Rattle.turns.proofs.pair.step_at.Goals as goal

pub work-requires : goal.work-requires
work-requires c =
    record { ready = rw seen c.requires.ready; p_bound = c.requires.p_bound }

pub returns : goal.returns
returns c =
    let long : length c.work.new.r ≡ 672 = search rules in
    record {
      works = lifted _ _ _ c.requires.side (search rules) long (λ l l'. Works c.work.result l l' c.args.mem.now c.work.new.mem c.args.p.0) c.work.ensures;
      pair_unchanged = kept c.args.at c.args.pair.now c.work.new.r c.requires.side (search rules) long;
    }
