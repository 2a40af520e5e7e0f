-- Loops over the elements of Vi, on all the words of a processor. Assumes nothing.
use Prim.Native.Nat.{ℕ, ◌+◌, ◌*◌, ◌<◌, ◌≤◌}
use mathlib.Core.Path.{◌≡◌, refl, ◌∙◌, ap}
use mathlib.Core.Bool.{Bool, true, false}
use mathlib.Core.List.{List}
use native.Mathlib.Omega.{arith}
use lib.ListN.{length, get_or, set, length-set}
use Rattle.machine.specs.Word.{pick}
use Rattle.machine.specs.Parcel.{i_of, j_of, k_of}
use Rattle.machine.specs.State.{sj, fill, el, to_v}
use Rattle.machine.specs.Layout.{registers_of}
use Rattle.access.specs.Executed.{Puts}
use Rattle.access.proofs.Places.{ahead, fill-turn, to-elements}
use Rattle.vector.specs.declared.Left.TheVariants.{Word, Elements}
use Rattle.vector.specs.declared.Operands.{Operands}
use Rattle.vector.specs.Element.{left_at, AreOperands}

-- element e of Vj and of Vk, where x names j and k
abbrev pub vj : List ℕ → ℕ → ℕ → ℕ
vj r x e = el (registers_of r).v (j_of x) e

abbrev pub vk : List ℕ → ℕ → ℕ → ℕ
vk r x e = el (registers_of r).v (k_of x) e

-- element e of the left operand: Sj, or that of Vj
abbrev pub left : Bool → List ℕ → ℕ → ℕ → ℕ
left scalar r x e = pick scalar (sj (registers_of r) (j_of x)) (vj r x e)

-- a loop that makes n elements of Vi, where x names i, element e being f e: from r₀ to r it has made the first e
pub record Doing (x n : ℕ) (f : ℕ → ℕ) (r₀ r : List ℕ) (e : ℕ) : Type 0 where
  pub within : e ≤ n
  pub long : length r ≡ 672
  pub made : r ≡ fill (160 + i_of x * 64) f e r₀

pub begins : (x n : ℕ) (f : ℕ → ℕ) (r₀ : List ℕ) → length r₀ ≡ 672 → Doing x n f r₀ r₀ 0
unfolding fill
begins x n f r₀ h = record { within = omega arith; long = h; made = refl }

module _ {x n : ℕ} {f : ℕ → ℕ} {r₀ r : List ℕ} {e : ℕ} (d : Doing x n f r₀ r e) where
  -- an element from e on, of any register, reads as it stood
  pub reads : (j m at : ℕ) → (j < 8) × (e ≤ m) × (m < 64) × (at ≡ 160 + j * 64 + m) → get_or r at 0 ≡ el (registers_of r₀).v j m
  reads j m at h = rw h.3 (ahead (i_of x) j m e f r₀ r h.0 h.1 h.2 d.made)

  -- one element more
  pub goes : (at y : ℕ) → (e < n) × (at ≡ 160 + i_of x * 64 + e) → y ≡ f e → Doing x n f r₀ (set r at y) (e + 1)
  goes at y h q =
      record {
        within = omega arith;
        long = length-set r at y ∙ d.long;
        made = fill-turn (160 + i_of x * 64) f e r₀ r (set r at y) y d.made (ap (λ (p : ℕ). set r p y) h.1) q;
      }

  -- all are made
  pub ends : (n ≤ e) × ((registers_of r₀).vl ≡ n) × (n ≤ 64) → Puts r₀ r (to_v (i_of x) f)
  ends h =
      let w = d.within in
      let q : (registers_of r₀).vl ≡ e = omega arith in
      to-elements r₀ r (i_of x) f e (omega arith) (omega arith) q d.made

-- the left operand that x names
module _ {scalar : Bool} {x : ℕ} {r₀ : List ℕ} {o : Operands} (h : AreOperands o r₀ scalar x) where
  -- from element e on it reads as it stood
  pub left-reads : {n : ℕ} {f : ℕ → ℕ} {r : List ℕ} {e : ℕ} → Doing x n f r₀ r e → (m : ℕ) → (e ≤ m) × (m < 64) → left_at r o.left m ≡ left scalar r₀ x m
  left-reads {r} d m l = rw h.left (go scalar)
    where
      go : (t : Bool) → left_at r (pick t (Word (sj (registers_of r₀) (j_of x))) (Elements (160 + j_of x * 64))) m ≡ left t r₀ x m
      go true = refl
      go false = reads d (j_of x) m (160 + j_of x * 64 + m) (omega arith)
