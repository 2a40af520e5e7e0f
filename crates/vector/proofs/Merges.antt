-- Merges by VM, two elements at a time. Assumes nothing.
use Prim.Native.Nat.{ℕ, zero, suc, ◌+◌, ◌-◌, ◌*◌, ◌/◌, ◌%◌, ◌^◌, ◌<◌, ◌≤◌}
use mathlib.Core.Path.{◌≡◌, refl, sym, ◌∙◌, ap}
use mathlib.Core.Bool.{Bool, true, false}
use mathlib.Core.List.{List}
use native.Mathlib.Nat.{mod-eq_of_lt, mul_assoc}
use native.Mathlib.Omega.{arith}
use lib.ListN.{get_or, set}
use lib.Dec.{eqb}
use lib.Pow.{pow-lt, pow-add, shl-shr, shr-shr, field, mod-mod-pow}
use lib.Bits.{and_zero_r, or_zero_r, and_mask}
use Rattle.machine.specs.Word.{pick, merge}
use Rattle.machine.specs.Parcel.{k_of}
use Rattle.machine.specs.Act.{masked}
use Rattle.machine.specs.Layout.{registers_of}
use Rattle.word.proofs.Laws.{product_mod}
use Rattle.vector.specs.declared.Operands.{Operands}
use Rattle.vector.specs.Element.{two_masks, left_at, AreOperands, merged_two}
use Rattle.vector.proofs.Loops.{Doing, reads, goes, left-reads}
use Rattle.vector.proofs.Arms.{merged_of}

-- by a mask of all ones, or of none
pub merge-by : (t : Bool) (x y : ℕ) → x < 2 ^ 64 → y < 2 ^ 64 → merge x y (pick t (2 ^ 64 - 1) 0) ≡ pick t x y
unfolding merge
merge-by true x y h l = rw (and_zero_r y, or_zero_r, and_mask x 64) (mod-eq_of_lt h)
merge-by false x y h l = rw (and_zero_r x, and_mask y 64) (mod-eq_of_lt l)

-- each entry of the masks is by its bit
masks-are : (q : ℕ) → q < 4
    → (get_or two_masks (q * 2) 0 ≡ pick (eqb (q / 2 % 2) 1) (2 ^ 64 - 1) 0) × (get_or two_masks (q * 2 + 1) 0 ≡ pick (eqb (q % 2) 1) (2 ^ 64 - 1) 0)
masks-are zero h = (refl, refl)
masks-are (suc zero) h = (refl, refl)
masks-are (suc (suc zero)) h = (refl, refl)
masks-are (suc (suc (suc zero))) h = (refl, refl)
masks-are (suc (suc (suc (suc q)))) h = (omega arith, omega arith)

-- by the first bit of a word, and by its second
module _ (bits x y : ℕ) (b : bits < 2 ^ 64) (h : x < 2 ^ 64) (l : y < 2 ^ 64) where
  pub merge-first : merge x y (get_or two_masks (bits / 2 ^ 62 * 2) 0) ≡ pick (masked bits 0) x y
  merge-first =
      let e : bits / 2 ^ 62 / 2 ≡ bits / 2 ^ 63 = omega arith in
      rw ((masks-are (bits / 2 ^ 62) (omega arith)).0, e) (merge-by (masked bits 0) x y h l)

  pub merge-second : merge x y (get_or two_masks (bits / 2 ^ 62 * 2 + 1) 0) ≡ pick (masked bits 1) x y
  merge-second = rw (masks-are (bits / 2 ^ 62) (omega arith)).1 (merge-by (masked bits 1) x y h l)

-- bits that are shifted on
pub shift-more : (vm e m : ℕ) → m < 64 → vm * 2 ^ e % 2 ^ 64 * 2 ^ m % 2 ^ 64 ≡ vm * 2 ^ (e + m) % 2 ^ 64
shift-more vm e m l =
    ap (λ (z : ℕ). vm * 2 ^ e % 2 ^ 64 * z % 2 ^ 64) (sym (mod-eq_of_lt (pow-lt l)))
    ∙ product_mod (vm * 2 ^ e) (2 ^ m) (2 ^ 64)
    ∙ rw (mul_assoc vm (2 ^ e) (2 ^ m), ← pow-add 2 e m)

-- the bit of an element after a shift
masked-shift : (vm e k m : ℕ) → m ≡ e + k → m < 64 → masked (vm * 2 ^ e % 2 ^ 64) k ≡ masked vm m
masked-shift vm e k m h l =
    let n : k + 1 + (63 - k) ≡ 64 = omega arith in
    let d : 63 - k ≡ e + (63 - m) = omega arith in
    let w : vm * 2 ^ e % 2 ^ 64 / 2 ^ (63 - k) ≡ vm * 2 ^ e / 2 ^ (63 - k) % 2 ^ (k + 1) = rw n at (field (vm * 2 ^ e) (k + 1) (63 - k)) in
    rw (w, mod-mod-pow (vm * 2 ^ e / 2 ^ (63 - k)) k 1, d, ← shr-shr (vm * 2 ^ e) e (63 - m), shl-shr vm e)

module _ (scalar : Bool) (x n : ℕ) (r₀ : List ℕ) (o : Operands) (h : AreOperands o r₀ scalar x) (short : n ≤ 64) where
  -- a loop that merges n elements of Vi
  abbrev Merging : List ℕ → ℕ → Type 0
  Merging r e = Doing x n (merged_of scalar r₀ x) r₀ r e

  -- one element more
  pub goes_one : (e y : ℕ) (r : List ℕ) → Merging r e → e < n → y ≡ pick (masked (registers_of r₀).vm e) (left_at r o.left e) (get_or r (o.right + e) 0)
      → Merging (set r (o.to + e) y) (e + 1)
  goes_one e y r d l q =
      goes d (o.to + e) y (omega (arith, h.to)) (cc (left-reads h d e (omega arith), reads d (k_of x) e (o.right + e) (omega (arith, h.right))))

  -- two elements more, where the bits of VM from e on are the first of a word
  goes-two : (e bits : ℕ) (r : List ℕ) → Merging r e → e + 2 ≤ n → bits ≡ (registers_of r₀).vm * 2 ^ e % 2 ^ 64 → Merging (merged_two r bits o e) (e + 2)
  goes-two e bits r d l b =
      let two : e + 2 ≡ e + 1 + 1 = omega arith in
      rw two
      (goes (goes_one e _ r d (omega arith) (cc (masked-shift (registers_of r₀).vm e 0 e (omega arith) (omega arith))))
      (o.to + e + 1) _ (omega (arith, h.to))
      (cc (
        masked-shift (registers_of r₀).vm e 1 (e + 1) (omega arith) (omega arith),
        left-reads h d (e + 1) (omega arith),
        reads d (k_of x) (e + 1) (o.right + e + 1) (omega (arith, h.right)),
      )))

  -- and two more
  pub goes-four : (e bits : ℕ) (r r₁ r₂ : List ℕ) → Merging r e → e + 4 ≤ n → bits ≡ (registers_of r₀).vm * 2 ^ e % 2 ^ 64
      → r₁ ≡ merged_two r bits o e → r₂ ≡ merged_two r₁ (bits * 2 ^ 2 % 2 ^ 64) o (e + 2) → Merging r₂ (e + 4)
  goes-four e bits r r₁ r₂ d l b p q =
      let two : e + 4 ≡ e + 2 + 2 = omega arith in
      let d₁ : Merging r₁ (e + 2) = rw p (goes-two e bits r d (omega arith) b) in
      rw (two, q) (goes-two (e + 2) (bits * 2 ^ 2 % 2 ^ 64) r₁ d₁ (omega arith) (rw b (shift-more (registers_of r₀).vm e 2 (omega arith))))
