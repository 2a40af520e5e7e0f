-- What a reader of docs/MACHINE.md, 2 to 8, would ask of the rules first, a theorem each. Assumes nothing.
use Prim.Native.Nat.{ℕ, ◌+◌, ◌-◌, ◌*◌, ◌/◌, ◌%◌, ◌^◌, ◌<◌}
use mathlib.Core.Path.{◌≡◌, refl, ap}
use mathlib.Core.Bool.{Bool, true, false}
use mathlib.Core.List.{List}
use native.Mathlib.Nat.{mul_assoc, mul-div_cancel, mul-mod_left, div-eq_of_lt}
use native.Mathlib.Omega.{arith}
use lib.ListN.{set}
use lib.Dec.{eqb}
use lib.Pow.{pow_pos, low}
use lib.Count.{count_leading_zeros, ones-ones}
use Rattle.std.specs.Prelude.{Some, None}
use Rattle.machine.specs.Word.{pick, sum24, difference24, product24, shift_right, shift_left_pair, shift_right_pair, ones_right, parity, length_of}
use Rattle.machine.specs.Parcel.{g_of, h_of, i_of, j_of, k_of, jk_of, onward}
use Rattle.machine.specs.State.{Frame, Registers, sharing, user, aj, ak, si, sj, el, to_v, apply, with_a, with_s, control}
use Rattle.machine.specs.Memory.{fetch_of}
use Rattle.machine.specs.Act.{before, act}
use Rattle.machine.specs.Codes.{code_of, code002}
use Rattle.machine.specs.Work.{decoded, Done, done_past, perform, status_of, done_with}
use Rattle.access.specs.Executed.{FrameOk, ControlOk}
use Rattle.laws.proofs.Kept.{own-lt}

-- a first parcel by its six octal digits
abbrev pub octal : ℕ → ℕ → ℕ → ℕ → ℕ → ℕ → ℕ
octal a b c i j k = ((((a * 8 + b) * 8 + c) * 8 + i) * 8 + j) * 8 + k

-- the instruction at p whose first parcel is x
abbrev pub does : Frame → Registers → ℕ → List ℕ → ℕ → Done
does fr r p mem x = done_with fr r p (sharing mem) (decoded fr mem p x (code_of (user fr) x))

-- P goes on by n parcels, and nothing else changes but the registers
abbrev pub leaves : ℕ → List ℕ → Registers → Done
leaves n mem r = done_past n None r (sharing mem)

abbrev pub set_a : Registers → ℕ → ℕ → Registers
set_a r i x = with_a r (set r.a i x)

abbrev pub set_s : Registers → ℕ → ℕ → Registers
set_s r i x = with_s r (set r.s i x)

abbrev pub set_vl : Registers → ℕ → Registers
set_vl r n = control r r.xa n r.vm r.ior r.bdm

-- the fields of a parcel are its digits
record Digits (x a b c i j k : ℕ) : Type 0 where
  g-is : g_of x ≡ a * 8 + b
  h-is : h_of x ≡ c
  i-is : i_of x ≡ i
  j-is : j_of x ≡ j
  k-is : k_of x ≡ k
  jk-is : jk_of x ≡ j * 8 + k

digits : (a b c i j k : ℕ) → c < 8 → i < 8 → j < 8 → k < 8 → Digits (octal a b c i j k) a b c i j k
digits a b c i j k cs is js ks =
    record { g-is = omega arith; h-is = omega arith; i-is = omega arith; j-is = omega arith; k-is = omega arith; jk-is = omega arith }

module _ (fr : Frame) (r : Registers) (p : ℕ) (mem : List ℕ) (i : ℕ) (is : i < 8) where
  module _ (j : ℕ) (js : j < 8) where
    -- 027ij0: leading zeros of 0, of 1 and of 2^63
    zeros-027ij0 : (x : ℕ) → sj r j ≡ x → does fr r p mem (octal 0 2 7 i j 0) ≡ leaves 1 mem (set_a r i (count_leading_zeros 64 x))
    unfolding code_of decoded done_with perform act apply
    zeros-027ij0 x e =
        let d = digits 0 2 7 i j 0 (omega arith) is js (omega arith) in
        rw (d.g-is, d.h-is, d.k-is, d.i-is, d.j-is, e)

    pub zeros-of-0 : sj r j ≡ 0 → does fr r p mem (octal 0 2 7 i j 0) ≡ leaves 1 mem (set_a r i 64)
    unfolding count_leading_zeros
    zeros-of-0 e = zeros-027ij0 0 e

    pub zeros-of-1 : sj r j ≡ 1 → does fr r p mem (octal 0 2 7 i j 0) ≡ leaves 1 mem (set_a r i 63)
    unfolding count_leading_zeros
    zeros-of-1 e = zeros-027ij0 1 e

    pub zeros-of-highest : sj r j ≡ 2 ^ 63 → does fr r p mem (octal 0 2 7 i j 0) ≡ leaves 1 mem (set_a r i 0)
    unfolding count_leading_zeros
    zeros-of-highest e = zeros-027ij0 (2 ^ 63) e

    -- 026ij1: parity of all ones
    pub parity-of-ones : sj r j ≡ 2 ^ 64 - 1 → does fr r p mem (octal 0 2 6 i j 1) ≡ leaves 1 mem (set_a r i 0)
    unfolding code_of decoded done_with perform act apply parity
    parity-of-ones e =
        let d = digits 0 2 6 i j 1 (omega arith) is js (omega arith) in
        rw (d.g-is, d.h-is, d.k-is, d.i-is, d.j-is, e, ones-ones 64)

  -- 031i00
  pub difference-031i00 : does fr r p mem (octal 0 3 1 i 0 0) ≡ leaves 1 mem (set_a r i (2 ^ 24 - 1))
  unfolding code_of decoded done_with perform act apply difference24
  difference-031i00 =
      let d = digits 0 3 1 i 0 0 (omega arith) is (omega arith) (omega arith) in
      rw (d.g-is, d.h-is, d.i-is, d.j-is, d.k-is)

  -- 030i00
  pub sum-030i00 : does fr r p mem (octal 0 3 0 i 0 0) ≡ leaves 1 mem (set_a r i 1)
  unfolding code_of decoded done_with perform act apply sum24
  sum-030i00 =
      let d = digits 0 3 0 i 0 0 (omega arith) is (omega arith) (omega arith) in
      rw (d.g-is, d.h-is, d.i-is, d.j-is, d.k-is)

  -- 021i00 and a second parcel of 5
  pub complement-of-5 : fetch_of fr mem (onward p 1) ≡ Some 5 → does fr r p mem (octal 0 2 1 i 0 0) ≡ leaves 2 mem (set_a r i (2 ^ 24 - 6))
  unfolding code_of decoded done_with perform act apply
  complement-of-5 e =
      let d = digits 0 2 1 i 0 0 (omega arith) is (omega arith) (omega arith) in
      rw (d.g-is, d.h-is, e, d.i-is, d.jk-is)

  -- 032ijk
  pub product-of-4096 : (j k : ℕ) → j < 8 → k < 8 → aj r j ≡ 4096 → ak r k ≡ 4096 → does fr r p mem (octal 0 3 2 i j k) ≡ leaves 1 mem (set_a r i 0)
  unfolding code_of decoded done_with perform act apply product24
  product-of-4096 j k js ks e f =
      let d = digits 0 3 2 i j k (omega arith) is js ks in
      rw (d.g-is, d.h-is, d.i-is, d.j-is, d.k-is, e, f)

  -- 042i00
  pub ones-042i00 : does fr r p mem (octal 0 4 2 i 0 0) ≡ leaves 1 mem (set_s r i (2 ^ 64 - 1))
  unfolding code_of decoded done_with perform act apply ones_right
  ones-042i00 =
      let d = digits 0 4 2 i 0 0 (omega arith) is (omega arith) (omega arith) in
      rw (d.g-is, d.h-is, d.i-is, d.jk-is)

  -- 042i77
  pub ones-042i77 : does fr r p mem (octal 0 4 2 i 7 7) ≡ leaves 1 mem (set_s r i 1)
  unfolding code_of decoded done_with perform act apply ones_right
  ones-042i77 =
      let d = digits 0 4 2 i 7 7 (omega arith) is (omega arith) (omega arith) in
      rw (d.g-is, d.h-is, d.i-is, d.jk-is)

  -- 053i00
  pub right-053i00 : si r i < 2 ^ 64 → does fr r p mem (octal 0 5 3 i 0 0) ≡ leaves 1 mem (set_s r 0 0)
  unfolding code_of decoded done_with perform act apply shift_right
  right-053i00 l =
      let d = digits 0 5 3 i 0 0 (omega arith) is (omega arith) (omega arith) in
      rw (d.g-is, d.h-is, d.i-is, d.jk-is, div-eq_of_lt l)

  -- 055i00: the same into Si itself
  pub right-055i00 : si r i < 2 ^ 64 → does fr r p mem (octal 0 5 5 i 0 0) ≡ leaves 1 mem (set_s r i 0)
  unfolding code_of decoded done_with perform act apply shift_right
  right-055i00 l =
      let d = digits 0 5 5 i 0 0 (omega arith) is (omega arith) (omega arith) in
      rw (d.g-is, d.h-is, d.i-is, d.jk-is, div-eq_of_lt l)

  -- 073i01
  pub status-073i01 : does fr r p mem (octal 0 7 3 i 0 1) ≡ leaves 1 mem (set_s r i (status_of fr r))
  unfolding code_of decoded done_with perform act apply
  status-073i01 =
      let d = digits 0 7 3 i 0 1 (omega arith) is (omega arith) (omega arith) in
      rw (d.g-is, d.h-is, d.j-is, d.k-is, d.i-is)

  -- 153iik: where Vi is its own operand, each element is shifted with the one that stood before it, and not with what that became
  pub pairs-153iik : (k : ℕ) → k < 8
      → does fr r p mem (octal 1 5 3 i i k) ≡ leaves 1 mem (apply (to_v i (λ e. shift_right_pair (before (el r.v i) e) (el r.v i e) (ak r k))) r)
  unfolding code_of decoded done_with perform act
  pairs-153iik k ks =
      let d = digits 1 5 3 i i k (omega arith) is is ks in
      let of : ℕ → Done = λ j. leaves 1 mem (apply (to_v i (λ e. shift_right_pair (before (el r.v j) e) (el r.v j e) (ak r k))) r) in
      rw (d.g-is, d.h-is, d.i-is, d.k-is) (ap of d.j-is)

  module _ (j k : ℕ) (js : j < 8) (ks : k < 8) where
    -- 056ijk by 64
    pub left-by-64 : ak r k ≡ 64 → sj r j < 2 ^ 64 → does fr r p mem (octal 0 5 6 i j k) ≡ leaves 1 mem (set_s r i (sj r j))
    unfolding code_of decoded done_with perform act apply shift_left_pair
    left-by-64 e l =
        let d = digits 0 5 6 i j k (omega arith) is js ks in
        let v = si r i * 2 ^ 64 + sj r j in
        rw (d.g-is, d.h-is, d.i-is, d.j-is, d.k-is, e, mul-div_cancel v (pow_pos 64), low (si r i) 64 l)

    -- 056ijk by 128
    pub left-by-128 : ak r k ≡ 128 → does fr r p mem (octal 0 5 6 i j k) ≡ leaves 1 mem (set_s r i 0)
    unfolding code_of decoded done_with perform act apply shift_left_pair
    left-by-128 e =
        let d = digits 0 5 6 i j k (omega arith) is js ks in
        let v = si r i * 2 ^ 64 + sj r j in
        rw (d.g-is, d.h-is, d.i-is, d.j-is, d.k-is, e, ← mul_assoc v (2 ^ 64) (2 ^ 64), mul-div_cancel (v * 2 ^ 64) (pow_pos 64), mul-mod_left v (2 ^ 64))

module _ (fr : Frame) (r : Registers) (p : ℕ) (mem : List ℕ) (k : ℕ) (ks : k < 8) where
  -- 00200k: VL from 0 and from 65
  length-00200k : (n : ℕ) → ak r k ≡ n → does fr r p mem (octal 0 0 2 0 0 k) ≡ leaves 1 mem (set_vl r (length_of n))
  unfolding code_of code002 decoded done_with perform act apply
  length-00200k n e =
      let d = digits 0 0 2 0 0 k (omega arith) (omega arith) (omega arith) ks in
      rw (d.g-is, d.h-is, d.i-is, d.j-is, d.k-is, e)

  pub length-from-0 : ak r k ≡ 0 → does fr r p mem (octal 0 0 2 0 0 k) ≡ leaves 1 mem (set_vl r 64)
  unfolding length_of
  length-from-0 e = length-00200k 0 e

  pub length-from-65 : ak r k ≡ 65 → does fr r p mem (octal 0 0 2 0 0 k) ≡ leaves 1 mem (set_vl r 1)
  unfolding length_of
  length-from-65 e = length-00200k 65 e

-- the highest bit of the status word, as a number of times 2^63
highest : (b : Bool) → pick b 0 (2 ^ 63) ≡ pick b 0 1 * 2 ^ 63
highest true = refl
highest false = refl

module _ (fr : Frame) (r : Registers) where
  -- the status word in user mode: 2^40 is 0, and so are 2^33 and 2^32
  pub number-of-user : fr.mm ≡ 0 → status_of fr r / 2 ^ 40 % 2 ≡ 0
  unfolding status_of
  number-of-user e = rw (e, highest (eqb fr.cln 0)) (omega arith)

  pub cluster-of-user : fr.mm ≡ 0 → status_of fr r / 2 ^ 32 % 4 ≡ 0
  unfolding status_of
  cluster-of-user e = rw (e, highest (eqb fr.cln 0)) (omega arith)

  module _ (n : fr.processor < 2) (c : fr.cln < 4) where
    -- in monitor mode: 2^40 is the processor number, 2^33 and 2^32 are CLN
    pub number-in-monitor : fr.mm ≡ 1 → status_of fr r / 2 ^ 40 % 2 ≡ fr.processor
    unfolding status_of
    number-in-monitor e = rw (e, highest (eqb fr.cln 0)) (omega (arith, n, c))

    pub cluster-in-monitor : fr.mm ≡ 1 → status_of fr r / 2 ^ 32 % 4 ≡ fr.cln
    unfolding status_of
    cluster-in-monitor e = rw (e, highest (eqb fr.cln 0)) (omega (arith, n, c))

    -- in both modes alike: 2^63 says whether CLN is not 0
    pub cluster-there : FrameOk fr → ControlOk r → status_of fr r / 2 ^ 63 ≡ pick (eqb fr.cln 0) 0 1
    unfolding status_of
    cluster-there f k = rw (highest (eqb fr.cln 0)) (omega (arith, f, k, own-lt fr n c))
