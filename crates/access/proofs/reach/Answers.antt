use Rattle.std.proofs.Common.{refl, arith, rules}
use Rattle.machine.specs.Layout.{frame_of}
use Rattle.access.proofs.reach.Goals as goal

pub overflow_mul-result : goal.overflow_mul-result
unfolding frame_of
overflow_mul-result c = search rules

pub words_in-requires : goal.words_in-requires
unfolding frame_of
words_in-requires c = search rules

pub overflow_mul-result-2 : goal.overflow_mul-result-2
unfolding frame_of
overflow_mul-result-2 c = search rules

pub words_in-requires-2 : goal.words_in-requires-2
unfolding frame_of
words_in-requires-2 c = search rules

pub returns : goal.returns
unfolding frame_of
returns c =
    record {
      iba = omega arith;
      dba = omega arith;
      size = omega arith;
      code = refl;
      span = c.words_in.ensures;
      operands = refl;
      words = c.words_in-2.ensures;
    }
