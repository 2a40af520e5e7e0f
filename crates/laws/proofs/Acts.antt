-- What each instruction writes fits where it goes: one clause to an instruction. XA, VL, IOR and BDM fit whatever the state is; the widths
-- of all else hang on a premise, so that the one list of clauses says both. Assumes nothing.
use Prim.Native.Nat.{ℕ, zero, suc, ◌+◌, ◌-◌, ◌*◌, ◌%◌, ◌^◌, ◌<◌, ◌≤◌}
use mathlib.Core.Path.{◌≡◌, refl}
use mathlib.Core.Bool.{Bool, true, false, not}
use native.Mathlib.Nat.{lt_of_lt_of_le, lt_of_le_of_lt}
use native.Mathlib.Omega.{arith}
use lib.ListN.{get_or}
use lib.Dec.{eqb, ltb}
use lib.Bits.{and_lt, or_lt, xor_lt}
use lib.Count.{ones-le, leading_le}
use lib.Pow.{pow_pos, pow_mono, pow-sub-lt, ones_lt, ones_sub-lt, shr_le}
use borrow.Author.Tests.{eqb-false}
use Rattle.machine.specs.Word.{pick, sum24, difference24, product24, sum64, difference64, merge, shift_left, shift_right}
use Rattle.machine.specs.Word.{shift_left_pair, shift_right_pair, ones_left, ones_right, parity, signed, minus24, minus64, length_of}
use Rattle.machine.specs.Parcel.{i_of, j_of, k_of, jk_of, ijkm_of}
use Rattle.machine.specs.State.{Registers, ai, ak, si, sj, sk, el, Put, nothing, to_a, to_s, to_b, to_t, to_bs, to_ts, to_v}
use Rattle.machine.specs.State.{to_element, to_vl, to_vm, to_xa, to_ior, to_bdm}
use Rattle.machine.specs.Act.{Instr, Act, does, goes, reads_words, writes_words, leaves_normally, leaves_by_error, branch, masked, marks_of, act}
use Rattle.machine.specs.Act as I
use Rattle.machine.specs.Refusal.{below}
use Rattle.laws.proofs.Below.{pick-lt, low, below-get_or}

-- the lists of a processor, and VM, have their widths
abbrev pub ListsOk : Registers → Type 0
ListsOk r =
    record {
      a : below (2 ^ 24) r.a ≡ true;
      s : below (2 ^ 64) r.s ≡ true;
      b : below (2 ^ 24) r.b ≡ true;
      t : below (2 ^ 64) r.t ≡ true;
      v : below (2 ^ 64) r.v ≡ true;
      vm : r.vm < 2 ^ 64;
    }

-- what is written fits where it goes: XA, VL, IOR and BDM in any case, all else where L holds
abbrev pub PutOk : Type 0 → Put → Type 0
PutOk L nothing = Unit {0}
PutOk L (to_a i x) = L → x < 2 ^ 24
PutOk L (to_s i x) = L → x < 2 ^ 64
PutOk L (to_b jk x) = L → x < 2 ^ 24
PutOk L (to_t jk x) = L → x < 2 ^ 64
PutOk L (to_bs first n x) = L → (e : ℕ) → x e < 2 ^ 24
PutOk L (to_ts first n x) = L → (e : ℕ) → x e < 2 ^ 64
PutOk L (to_v i x) = L → (e : ℕ) → x e < 2 ^ 64
PutOk L (to_element i e x) = L → x < 2 ^ 64
PutOk L (to_vl x) = (1 ≤ x) × (x ≤ 64)
PutOk L (to_vm x) = L → x < 2 ^ 64
PutOk L (to_xa x) = x < 2 ^ 8
PutOk L (to_ior x) = x < 2
PutOk L (to_bdm x) = x < 2

-- it goes to A, S, B, T or V, if anywhere
abbrev pub Filed : Put → Type 0
Filed nothing = Unit {0}
Filed (to_a i x) = Unit {0}
Filed (to_s i x) = Unit {0}
Filed (to_b jk x) = Unit {0}
Filed (to_t jk x) = Unit {0}
Filed (to_bs first n x) = Unit {0}
Filed (to_ts first n x) = Unit {0}
Filed (to_v i x) = Unit {0}
Filed (to_element i e x) = Unit {0}
Filed (to_vl x) = ⊥
Filed (to_vm x) = ⊥
Filed (to_xa x) = ⊥
Filed (to_ior x) = ⊥
Filed (to_bdm x) = ⊥

-- what is stored fits too; and so does what is made of words of memory, which is filed
abbrev pub ActOk : Type 0 → Act → Type 0
ActOk L (does put) = PutOk L put
ActOk L (goes q put) = PutOk L put
ActOk L (reads_words n at put) = (word : ℕ → ℕ) → Filed (put word) × ((L → (e : ℕ) → word e < 2 ^ 64) → PutOk L (put word))
ActOk L (writes_words n at val) = L → (e : ℕ) → val e < 2 ^ 64
ActOk L leaves_normally = Unit {0}
ActOk L leaves_by_error = Unit {0}

-- a vector length is 1 to 64
pub length-bounds : (x : ℕ) → (1 ≤ length_of x) × (length_of x ≤ 64)
unfolding length_of
length-bounds x = go (eqb (x % 64) 0) refl
  where
    go : (t : Bool) → eqb (x % 64) 0 ≡ t → (1 ≤ pick t 64 (x % 64)) × (pick t 64 (x % 64) ≤ 64)
    go true e = (omega arith, omega arith)
    go false e = (omega (arith, eqb-false (x % 64) 0 e), omega arith)

-- marks of n elements leave the low 64 - n bits clear
marks-high : (f : ℕ → Bool) (n : ℕ) → n ≤ 64 → marks_of f n + 2 ^ (64 - n) ≤ 2 ^ 64
unfolding marks_of
marks-high f zero l = omega arith
marks-high f (suc n) l =
    let e : 64 - n ≡ suc (63 - n) = omega arith in
    let g : 64 - suc n ≡ 63 - n = omega arith in
    let h : marks_of f n + 2 ^ suc (63 - n) ≤ 2 ^ 64 = rw (← e) (marks-high f n (omega arith)) in
    rw g (go (f n) h)
  where
    go : (t : Bool) → marks_of f n + 2 ^ suc (63 - n) ≤ 2 ^ 64 → marks_of f n + pick t (2 ^ (63 - n)) 0 + 2 ^ (63 - n) ≤ 2 ^ 64
    go true h = omega arith
    go false h = omega arith

-- so they fit a word
marks-lt : (f : ℕ → Bool) (n : ℕ) → n ≤ 64 → marks_of f n < 2 ^ 64
marks-lt f n l = omega (arith, marks-high f n l, pow_pos (64 - n))

-- a word shifted right, and 24 bits with their sign, fit a word
right_lt : {x : ℕ} (n : ℕ) → x < 2 ^ 64 → shift_right x n < 2 ^ 64
unfolding shift_right
right_lt {x} n h = lt_of_le_of_lt (shr_le x n) h

signed_lt : {x : ℕ} → x < 2 ^ 64 → signed x < 2 ^ 64
unfolding signed
signed_lt {x} h = pick-lt (ltb x (2 ^ 23)) h (low _ 64)

-- what widths rest on: VL, the lists and VM, the status word, a second parcel m and the parcel address past the instruction
pub record Wide (r : Registers) (status m past : ℕ) : Type 0 where
  pub most : r.vl ≤ 64
  pub lists : ListsOk r
  pub word : status < 2 ^ 64
  pub second : m < 2 ^ 16
  pub narrow : past < 2 ^ 24

-- the operands, where L gives that
module _ (L : Type 0) (r : Registers) (status x m past : ℕ) (k : L → Wide r status m past) where
  a_lt : L → (i : ℕ) → ai r i < 2 ^ 24
  a_lt l i = below-get_or 24 r.a i (k l).lists.a

  s-lt : L → (i : ℕ) → si r i < 2 ^ 64
  s-lt l i = below-get_or 64 r.s i (k l).lists.s

  b_lt : L → (i : ℕ) → get_or r.b i 0 < 2 ^ 24
  b_lt l i = below-get_or 24 r.b i (k l).lists.b

  t-lt : L → (i : ℕ) → get_or r.t i 0 < 2 ^ 64
  t-lt l i = below-get_or 64 r.t i (k l).lists.t

  v-lt : L → (j e : ℕ) → el r.v j e < 2 ^ 64
  v-lt l j e = below-get_or 64 r.v (j * 64 + e) (k l).lists.v

  ak-lt : L → (i : ℕ) → ak r i < 2 ^ 64
  ak-lt l i = pick-lt (eqb i 0) (omega arith) (omega (arith, a_lt l i))

  sj-lt : L → (j : ℕ) → sj r j < 2 ^ 64
  sj-lt l j = pick-lt (eqb j 0) (pow_pos 64) (s-lt l j)

  sk-lt : L → (i : ℕ) → sk r i < 2 ^ 64
  sk-lt l i = pick-lt (eqb i 0) (omega arith) (s-lt l i)

  -- a branch writes nothing
  jump : (t : Bool) → ActOk L (branch t (ijkm_of x m))
  jump true = tt
  jump false = tt

  -- instruction by instruction
  pub act-ok : (n : Instr) → ActOk L (act r status x m past n)
  unfolding act sum24 difference24 product24 sum64 difference64 merge shift_left shift_left_pair shift_right_pair ones_left ones_right parity
  act-ok I.error_exit = tt
  act-ok I.pass = tt
  act-ok I.set_xa = low _ 8
  act-ok I.set_vl = length-bounds _
  act-ok I.set_ior = omega arith
  act-ok I.clear_ior = omega arith
  act-ok I.clear_bdm = omega arith
  act-ok I.set_bdm = omega arith
  act-ok I.vm_from_s = λ l. sj-lt l (j_of x)
  act-ok I.normal_exit = tt
  act-ok I.jump_b = tt
  act-ok I.jump = tt
  act-ok I.return_jump = λ l. (k l).narrow
  act-ok I.jump_az = jump (eqb (ai r 0) 0)
  act-ok I.jump_an = jump (not (eqb (ai r 0) 0))
  act-ok I.jump_ap = jump (not (minus24 (ai r 0)))
  act-ok I.jump_am = jump (minus24 (ai r 0))
  act-ok I.jump_sz = jump (eqb (si r 0) 0)
  act-ok I.jump_sn = jump (not (eqb (si r 0) 0))
  act-ok I.jump_sp = jump (not (minus64 (si r 0)))
  act-ok I.jump_sm = jump (minus64 (si r 0))
  act-ok I.constant_ah = λ l. omega (arith, (k l).second)
  act-ok I.constant_a = λ l. omega (arith, (k l).second)
  act-ok I.complement_a = λ l. ones_sub-lt 24 _
  act-ok I.short_a = λ l. omega arith
  act-ok I.a_from_s = λ l. low _ 24
  act-ok I.a_from_vl = λ l. omega (arith, (k l).most)
  act-ok I.a_from_b = λ l. b_lt l (jk_of x)
  act-ok I.b_from_a = λ l. a_lt l (i_of x)
  act-ok I.a_ones = λ l. omega (arith, ones-le 64 (sj r (j_of x)) (sj-lt l (j_of x)))
  act-ok I.a_parity = λ l. omega arith
  act-ok I.a_zeros = λ l. omega (arith, leading_le 64 (sj r (j_of x)))
  act-ok I.sum_a = λ l. low _ 24
  act-ok I.difference_a = λ l. low _ 24
  act-ok I.product_a = λ l. low _ 24
  act-ok I.read_b = λ word. (tt, λ h l e. low _ 24)
  act-ok I.store_b = λ l e. omega (arith, b_lt l ((jk_of x + e) % 64))
  act-ok I.read_t = λ word. (tt, λ h. h)
  act-ok I.store_t = λ l e. t-lt l ((jk_of x + e) % 64)
  act-ok I.constant_s = λ l. omega (arith, (k l).second)
  act-ok I.complement_s = λ l. ones_sub-lt 64 _
  act-ok I.ones_right_s = λ l. lt_of_lt_of_le (ones_lt (64 - jk_of x)) (pow_mono {j = 64} (omega arith))
  act-ok I.ones_left_s = λ l. pow-sub-lt 64 (pow_pos (64 - jk_of x))
  act-ok I.and_s = λ l. and_lt 64 _ _ (sj-lt l (j_of x)) (sk-lt l (k_of x))
  act-ok I.and_not_s = λ l. and_lt 64 _ _ (sj-lt l (j_of x)) (ones_sub-lt 64 _)
  act-ok I.xor_s = λ l. xor_lt 64 _ _ (sj-lt l (j_of x)) (sk-lt l (k_of x))
  act-ok I.eqv_s = λ l. ones_sub-lt 64 _
  act-ok I.merge_s = λ l. or_lt 64 _ _ (and_lt 64 _ _ (sj-lt l (j_of x)) (sk-lt l (k_of x))) (and_lt 64 _ _ (s-lt l (i_of x)) (ones_sub-lt 64 _))
  act-ok I.or_s = λ l. or_lt 64 _ _ (sj-lt l (j_of x)) (sk-lt l (k_of x))
  act-ok I.left_s0 = λ l. low _ 64
  act-ok I.right_s0 = λ l. right_lt _ (s-lt l (i_of x))
  act-ok I.left_s = λ l. low _ 64
  act-ok I.right_s = λ l. right_lt _ (s-lt l (i_of x))
  act-ok I.left_pair_s = λ l. low _ 64
  act-ok I.right_pair_s = λ l. low _ 64
  act-ok I.sum_s = λ l. low _ 64
  act-ok I.difference_s = λ l. low _ 64
  act-ok I.s_from_a = λ l. ak-lt l (k_of x)
  act-ok I.s_from_signed_a = λ l. signed_lt (ak-lt l (k_of x))
  act-ok I.s_from_vm = λ l. (k l).lists.vm
  act-ok I.s_from_status = λ l. (k l).word
  act-ok I.s_from_t = λ l. t-lt l (jk_of x)
  act-ok I.t_from_s = λ l. s-lt l (i_of x)
  act-ok I.s_from_v = λ l. v-lt l (j_of x) (ak r (k_of x) % 64)
  act-ok I.v_from_s = λ l. sj-lt l (j_of x)
  act-ok I.load_a = λ word. (tt, λ h l. low _ 24)
  act-ok I.store_a = λ l e. omega (arith, a_lt l (i_of x))
  act-ok I.load_s = λ word. (tt, λ h l. h l 0)
  act-ok I.store_s = λ l e. s-lt l (i_of x)
  act-ok I.and_sv = λ l e. and_lt 64 _ _ (sj-lt l (j_of x)) (v-lt l (k_of x) e)
  act-ok I.and_vv = λ l e. and_lt 64 _ _ (v-lt l (j_of x) e) (v-lt l (k_of x) e)
  act-ok I.or_sv = λ l e. or_lt 64 _ _ (sj-lt l (j_of x)) (v-lt l (k_of x) e)
  act-ok I.or_vv = λ l e. or_lt 64 _ _ (v-lt l (j_of x) e) (v-lt l (k_of x) e)
  act-ok I.xor_sv = λ l e. xor_lt 64 _ _ (sj-lt l (j_of x)) (v-lt l (k_of x) e)
  act-ok I.xor_vv = λ l e. xor_lt 64 _ _ (v-lt l (j_of x) e) (v-lt l (k_of x) e)
  act-ok I.merge_sv = λ l e. pick-lt (masked r.vm e) (sj-lt l (j_of x)) (v-lt l (k_of x) e)
  act-ok I.merge_vv = λ l e. pick-lt (masked r.vm e) (v-lt l (j_of x) e) (v-lt l (k_of x) e)
  act-ok I.left_v = λ l e. low _ 64
  act-ok I.right_v = λ l e. right_lt _ (v-lt l (j_of x) e)
  act-ok I.left_pair_v = λ l e. low _ 64
  act-ok I.right_pair_v = λ l e. low _ 64
  act-ok I.sum_sv = λ l e. low _ 64
  act-ok I.sum_vv = λ l e. low _ 64
  act-ok I.difference_sv = λ l e. low _ 64
  act-ok I.difference_vv = λ l e. low _ 64
  act-ok I.ones_v = λ l e. omega (arith, ones-le 64 (el r.v (j_of x) e) (v-lt l (j_of x) e))
  act-ok I.parity_v = λ l e. omega arith
  act-ok I.mark_z = λ l. marks-lt _ r.vl (k l).most
  act-ok I.mark_n = λ l. marks-lt _ r.vl (k l).most
  act-ok I.mark_p = λ l. marks-lt _ r.vl (k l).most
  act-ok I.mark_m = λ l. marks-lt _ r.vl (k l).most
  act-ok I.load_v = λ word. (tt, λ h. h)
  act-ok I.store_v = λ l e. v-lt l (j_of x) e
