-- 073: no digits j and k but 0 and 0, or 0 and 1, are held. Assumes nothing.
use Prim.Native.Nat.{ℕ, zero, suc, ◌+◌, ◌*◌, ◌≤◌}
use mathlib.Core.Path.{◌≡◌}
use mathlib.Core.List.{[], ◌∷◌}
use native.Mathlib.Omega.{arith}
use lib.ListN.{get_or-eq_default}
use lib.Dec.{eqb, eqb-suc-zero}
use Rattle.machine.specs.Act.{s_from_vm, s_from_status}
use Rattle.machine.specs.Codes.{holds_none, holds_one, only, nth}

pub beyond : (j k : ℕ) → 2 ≤ j * 8 + k → only (eqb j 0) (nth (holds_one s_from_vm ∷ holds_one s_from_status ∷ []) k) ≡ holds_none
beyond zero k l = get_or-eq_default (holds_one s_from_vm ∷ holds_one s_from_status ∷ []) holds_none {n = k} (omega arith)
beyond (suc j) k l = rw (eqb-suc-zero j)
