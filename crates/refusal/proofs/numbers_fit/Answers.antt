use Prim.Native.Nat.{ℕ}
use mathlib.Core.List.{List, [], ◌∷◌}
use lib.ListN.{get_or}
use Rattle.machine.specs.Refusal.{registers_fit, frame_fits, state_fits}
use Rattle.machine.specs.Layout.{part, registers_of, frame_of}
use Rattle.refusal.proofs.Laws.{or-test, joined-test, list-test}
use Rattle.refusal.proofs.numbers_fit.Goals as goal

pub returns : goal.returns
unfolding state_fits registers_fit frame_fits registers_of frame_of part
returns c =
    let w : List ℕ = c.args.r.now in
    rw (
      or-test 24 c.joined.result c.joined-2.result,
      list-test 24 c.joined.result (part 16 8 w) c.joined.ensures,
      list-test 24 c.joined-2.result (part 32 64 w) c.joined-2.ensures,
      joined-test 8 (get_or w 1 0) [],
      joined-test 1 (get_or w 9 0) (get_or w 12 0 ∷ []),
      joined-test 17 (get_or w 4 0) (get_or w 5 0 ∷ get_or w 6 0 ∷ get_or w 7 0 ∷ []),
      joined-test 1 (get_or w 8 0) (get_or w 10 0 ∷ get_or w 11 0 ∷ get_or w 13 0 ∷ []),
      joined-test 2 (get_or w 14 0) [],
    )
