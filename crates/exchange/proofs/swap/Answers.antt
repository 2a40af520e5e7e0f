use Rattle.exchange.proofs.Laws.{narrow, swaps}
use Rattle.exchange.proofs.swap.Goals as goal

pub saved_words-old-requires : goal.saved_words-old-requires
saved_words-old-requires c =
    record {
      whole = (c.requires.whole.1, c.requires.whole.2);
      narrow = narrow _ c.requires.frame_ok.0 c.requires.frame_ok.1;
    }

pub returns : goal.returns
returns c =
    swaps _ _ _ _ c.saved_words-old.result c.sixteen-new.result _ _ _ _ c.requires.frame_ok.1 c.requires.whole.2
    c.saved_words-old.ensures c.chosen.ensures c.sixteen-new.ensures c.chosen-2.ensures c.put_sixteen.ensures c.load.ensures
