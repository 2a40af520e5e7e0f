-- A ring of registers in a processor's words: what it comes to in the registers, and what it leaves. Assumes nothing.
use Rattle.std.proofs.Common.{◌≡◌, ℕ, zero, suc, ◌+◌, ◌%◌, ◌≤◌, List, get_or, set, sym, refl, ◌∙◌, add-one, arith, get_or-set_other}
use mathlib.Core.Path.{fun_ext}
use Rattle.machine.specs.State.{to_bs, to_ts, apply, ring, fill}
use Rattle.machine.specs.Layout.{registers_of, frame_of}
use Rattle.access.specs.Executed.{Puts, ring_at}
use Rattle.access.proofs.Places.{to-b, to-t, b_at, t-at, frame-kept}

-- the frame stays, and so do MM and IOR
module _ (at first : ℕ) (f : ℕ → ℕ) (w : List ℕ) (h : 16 ≤ at) where
  pub ring-frame : (n : ℕ) → frame_of (ring_at at first f n w) ≡ frame_of w
  unfolding ring_at
  ring-frame zero = refl
  ring-frame (suc n) = frame-kept (ring_at at first f n w) (at + (first + n) % 64) (f n) (omega arith) ∙ ring-frame n

  pub ring-ior : (n : ℕ) → (registers_of (ring_at at first f n w)).ior ≡ (registers_of w).ior
  unfolding ring_at registers_of
  ring-ior zero = refl
  ring-ior (suc n) = get_or-set_other (ring_at at first f n w) (at + (first + n) % 64) 9 (f n) 0 (omega arith) ∙ ring-ior n

module _ (w : List ℕ) (first : ℕ) (f : ℕ → ℕ) where
  to-bs : (n : ℕ) → registers_of (ring_at 32 first f n w) ≡ apply (to_bs first n f) (registers_of w)
  unfolding ring_at apply ring
  to-bs zero = refl
  to-bs (suc n) = (to-b (ring_at 32 first f n w) ((first + n) % 64) (f n) (omega arith)).registers ∙ rw (to-bs n)

  to-ts : (n : ℕ) → registers_of (ring_at 96 first f n w) ≡ apply (to_ts first n f) (registers_of w)
  unfolding ring_at apply ring
  to-ts zero = refl
  to-ts (suc n) = (to-t (ring_at 96 first f n w) ((first + n) % 64) (f n) (omega arith)).registers ∙ rw (to-ts n)

  pub bs-of : (w' : List ℕ) (n : ℕ) → w' ≡ ring_at 32 first f n w → Puts w w' (to_bs first n f)
  bs-of w' n e = record { frame = rw e (ring-frame 32 first f w (omega arith) n); registers = rw e (to-bs n) }

  pub ts-of : (w' : List ℕ) (n : ℕ) → w' ≡ ring_at 96 first f n w → Puts w w' (to_ts first n f)
  ts-of w' n e = record { frame = rw e (ring-frame 96 first f w (omega arith) n); registers = rw e (to-ts n) }

-- one register more
pub ring-turn : (at first : ℕ) (f : ℕ → ℕ) (e : ℕ) (r₀ r r' : List ℕ) (x : ℕ) → r ≡ ring_at at first f e r₀ → r' ≡ set r (at + (first + e) % 64) x → x ≡ f e
    → r' ≡ ring_at at first f (e + 1) r₀
unfolding ring_at
ring-turn at first f e r₀ r r' x p q t = rw add-one (rw (q, p, t))

-- what a ring of registers holds
module _ (w : List ℕ) (first : ℕ) where
  pub ring-b : ◌≡◌ {A = ℕ → ℕ} (λ e. get_or w (32 + (first + e) % 64) 0) (λ e. get_or (registers_of w).b ((first + e) % 64) 0)
  ring-b = fun_ext (λ e. sym (b_at w ((first + e) % 64) (omega arith)))

  pub ring-t : ◌≡◌ {A = ℕ → ℕ} (λ e. get_or w (96 + (first + e) % 64) 0) (λ e. get_or (registers_of w).t ((first + e) % 64) 0)
  ring-t = fun_ext (λ e. sym (t-at w ((first + e) % 64) (omega arith)))

-- a ring that does not return
pub ring-fill : (at first : ℕ) (f : ℕ → ℕ) (w : List ℕ) (n : ℕ) → first + n ≤ 64 → ring_at at first f n w ≡ fill (at + first) f n w
unfolding ring_at fill
ring-fill at first f w zero h = refl
ring-fill at first f w (suc n) h =
    let e : at + (first + n) % 64 ≡ at + first + n = omega arith in
    rw (e, ring-fill at first f w n (omega arith))

-- a ring goes on where another ended
pub ring-more : (at first : ℕ) (f : ℕ → ℕ) (m : ℕ) (w : List ℕ) (n : ℕ)
    → ring_at at (first + m) (λ e. f (m + e)) n (ring_at at first f m w) ≡ ring_at at first f (m + n) w
unfolding ring_at
ring-more at first f m w zero = let e : m + 0 ≡ m = omega arith in rw e
ring-more at first f m w (suc n) =
    let e : m + suc n ≡ suc (m + n) = omega arith in
    let g : first + m + n ≡ first + (m + n) = omega arith in
    rw (e, ring-more at first f m w n, g)
