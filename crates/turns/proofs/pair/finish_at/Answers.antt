use mathlib.Core.Path.{◌≡◌}
use lib.ListN.{length}
use Rattle.machine.specs.declared.Stray.{Stray}
use Rattle.machine.specs.State.{sharing}
use Rattle.machine.specs.Step as step
use Rattle.machine.specs.Layout.{registers_of, state_of}
use Rattle.turns.specs.Turn.{state_at}
use Rattle.turns.proofs.Lent.{seen, lifted, kept}
use borrow.Author.Rules.{rules}
use Rattle.std.specs.Prelude.{Option}
use Rattle.turns.proofs.pair.finish_at.Goals as goal

pub finish-requires : goal.finish-requires
finish-requires c =
    record { fitting = rw seen c.requires.fitting; p_bound = c.requires.p_bound }

pub returns : goal.returns
returns c =
    let long : length c.finish.new.r ≡ 672 = search rules in
    record {
      finished = lifted _ _ _ c.requires.side (search rules) long (λ l l'. (s : Option Stray) → step.out c.finish.result s (state_of l') (sharing c.finish.new.mem)
          ≡ step.finish (state_at c.args.p l) c.args.w s (registers_of l) (sharing c.args.mem.now)) c.finish.ensures;
      pair_unchanged = kept c.args.at c.args.pair.now c.finish.new.r c.requires.side (search rules) long;
    }
