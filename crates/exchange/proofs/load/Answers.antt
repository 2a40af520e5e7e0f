use Rattle.std.proofs.Common.{get_or}
use Rattle.exchange.proofs.Laws.{low}
use Rattle.exchange.proofs.load.Goals as goal

pub returns : goal.returns
returns c = low (λ n. get_or c.args.w n 0) c.args.r.now _ _ c.low_words-new.ensures c.copy_from_slice.ensures.after
