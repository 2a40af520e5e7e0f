-- Places: what stands in a part of a processor's words, and what a store at a place makes of it, once for each kind of register.
-- Assumes nothing.
use Rattle.std.proofs.Common.{◌≡◌, ℕ, zero, suc, ◌+◌, ◌-◌, ◌*◌, ◌<◌, ◌≤◌, Bool, true, false, eqb, ◌≢◌, ◌⊎◌, List, length, get_or}
use Rattle.std.proofs.Common.{◌++◌, take, drop, set, sym, refl, ap, ◌∙◌, inl, inr, ⊎_elim, add-one, arith, length-set, get_or-drop}
use Rattle.std.proofs.Common.{get_or-set_other, get_or-take, get_or-set_same, drop-set-lt, rules, eqb-true}
use borrow.Author.Tests.{eqb-false}
use lib.ListN.{take-append-drop, length-drop}
use lib.Seq.{take-set-lt, take-set-le, drop-set-add, length-take-le, take-suc, drop-cons, append_snoc, set_at}
use Rattle.std.proofs.lemmas.List.{set-append_right}
use Rattle.machine.specs.Word.{pick}
use Rattle.machine.specs.State.{Registers, to_a, to_s, to_b, to_t, to_element, to_v, apply, with_v, control, fill, el}
use Rattle.machine.specs.Layout.{part, registers_of, frame_of}
use Rattle.access.specs.Executed.{Puts, Control, to_control}

-- what stands at place i of a part
pub part_at : (at n : ℕ) (w : List ℕ) (i : ℕ) → i < n → get_or (part at n w) i 0 ≡ get_or w (at + i) 0
unfolding part
part_at at n w i h = get_or-take n (drop at w) i 0 h ∙ get_or-drop at w i 0

-- a store at place i of a part, before it, and outside it
part_in : (at n : ℕ) (w : List ℕ) (i y : ℕ) → i < n → part at n (set w (at + i) y) ≡ set (part at n w) i y
unfolding part
part_in at n w i y h = ap (take n) (drop-set-add at w i y) ∙ take-set-lt n (drop at w) i y h

pub part-after : (at n : ℕ) (w : List ℕ) (i y : ℕ) → i < at → part at n (set w i y) ≡ part at n w
unfolding part
part-after at n w i y h = ap (take n) (drop-set-lt at w i y h)

kept : (w : List ℕ) (k y at n : ℕ) → (k < at) ⊎ (at + n ≤ k) → part at n (set w k y) ≡ part at n w
unfolding part
kept w k y at n h = ⊎_elim (part-after at n w k y) past h
  where
    past : at + n ≤ k → part at n (set w k y) ≡ part at n w
    past l =
        let e : k ≡ at + (k - at) = omega arith in
        rw e (ap (take n) (drop-set-add at w (k - at) y) ∙ take-set-le n (drop at w) (k - at) y (omega arith))

other : (w : List ℕ) (i j y : ℕ) → j ≢ i → get_or (set w i y) j 0 ≡ get_or w j 0
other w i j y h = get_or-set_other w i j y 0 h

-- a place that is none of the frame's
abbrev Off : ℕ → Type 0
Off i = (4 ≢ i) × (5 ≢ i) × (6 ≢ i) × (7 ≢ i) × (8 ≢ i) × (10 ≢ i) × (11 ≢ i) × (13 ≢ i) × (14 ≢ i) × (15 ≢ i)

off : (w : List ℕ) (i y : ℕ) → Off i → frame_of (set w i y) ≡ frame_of w
unfolding frame_of
off w i y h =
    rw (
      other w i 4 y h.0,
      other w i 5 y h.1,
      other w i 6 y h.2,
      other w i 7 y h.3,
      other w i 8 y h.4,
      other w i 10 y h.5,
      other w i 11 y h.6,
      other w i 13 y h.7,
      other w i 14 y h.8,
      other w i 15 y h.9,
    )

-- a store from place 16 on leaves the frame, P and the control registers
pub frame-kept : (w : List ℕ) (i y : ℕ) → 16 ≤ i → frame_of (set w i y) ≡ frame_of w
frame-kept w i y h = off w i y (search rules)

abbrev Low : List ℕ → List ℕ → Type 0
Low w w' =
    (get_or w' 1 0 ≡ get_or w 1 0) × (get_or w' 2 0 ≡ get_or w 2 0) × (get_or w' 3 0 ≡ get_or w 3 0) × (get_or w' 9 0 ≡ get_or w 9 0) × (get_or w' 12 0 ≡ get_or w 12 0)

low-kept : (w : List ℕ) (i y : ℕ) → 16 ≤ i → Low w (set w i y)
low-kept w i y h =
    (other w i 1 y (omega arith), other w i 2 y (omega arith), other w i 3 y (omega arith), other w i 9 y (omega arith), other w i 12 y (omega arith))

-- what a store from place 16 on makes of the five files is all that it makes
files : Registers → (a s b t v : List ℕ) → Registers
files r a s b t v =
    record { a = a; s = s; b = b; t = t; v = v; xa = r.xa; vl = r.vl; vm = r.vm; ior = r.ior; bdm = r.bdm }

to-files : (w : List ℕ) (k y : ℕ) (a s b t v : List ℕ) → 16 ≤ k → part 16 8 (set w k y) ≡ a → part 24 8 (set w k y) ≡ s
    → part 32 64 (set w k y) ≡ b → part 96 64 (set w k y) ≡ t → part 160 512 (set w k y) ≡ v
    → registers_of (set w k y) ≡ files (registers_of w) a s b t v
unfolding registers_of files
to-files w k y a s b t v h in-a in-s in_b in-t in-v =
    let l = low-kept w k y h in rw (in-a, in-s, in_b, in-t, in-v, l.0, l.1, l.2, l.3, l.4)

-- one law for each kind of register
module _ (w : List ℕ) (i y : ℕ) where
  pub to-a : i < 8 → Puts w (set w (16 + i) y) (to_a i y)
  unfolding registers_of apply files
  to-a h =
      let stays = kept w (16 + i) y in
      record {
        frame = frame-kept w (16 + i) y (omega arith);
        registers = to-files w (16 + i) y _ _ _ _ _ (omega arith) (part_in 16 8 w i y h) (stays 24 8 (inl (omega arith)))
            (stays 32 64 (inl (omega arith))) (stays 96 64 (inl (omega arith))) (stays 160 512 (inl (omega arith)));
      }

  pub to-s : i < 8 → Puts w (set w (24 + i) y) (to_s i y)
  unfolding registers_of apply files
  to-s h =
      let stays = kept w (24 + i) y in
      record {
        frame = frame-kept w (24 + i) y (omega arith);
        registers = to-files w (24 + i) y _ _ _ _ _ (omega arith) (stays 16 8 (inr (omega arith))) (part_in 24 8 w i y h)
            (stays 32 64 (inl (omega arith))) (stays 96 64 (inl (omega arith))) (stays 160 512 (inl (omega arith)));
      }

  pub to-b : i < 64 → Puts w (set w (32 + i) y) (to_b i y)
  unfolding registers_of apply files
  to-b h =
      let stays = kept w (32 + i) y in
      record {
        frame = frame-kept w (32 + i) y (omega arith);
        registers = to-files w (32 + i) y _ _ _ _ _ (omega arith) (stays 16 8 (inr (omega arith))) (stays 24 8 (inr (omega arith)))
            (part_in 32 64 w i y h) (stays 96 64 (inl (omega arith))) (stays 160 512 (inl (omega arith)));
      }

  pub to-t : i < 64 → Puts w (set w (96 + i) y) (to_t i y)
  unfolding registers_of apply files
  to-t h =
      let stays = kept w (96 + i) y in
      record {
        frame = frame-kept w (96 + i) y (omega arith);
        registers = to-files w (96 + i) y _ _ _ _ _ (omega arith) (stays 16 8 (inr (omega arith))) (stays 24 8 (inr (omega arith)))
            (stays 32 64 (inr (omega arith))) (part_in 96 64 w i y h) (stays 160 512 (inl (omega arith)));
      }

  -- a place of the V registers
  to-v : i < 512 → registers_of (set w (160 + i) y) ≡ with_v (registers_of w) (set (registers_of w).v i y)
  unfolding registers_of files
  to-v h =
      let stays = kept w (160 + i) y in
      to-files w (160 + i) y _ _ _ _ _ (omega arith) (stays 16 8 (inr (omega arith))) (stays 24 8 (inr (omega arith)))
      (stays 32 64 (inr (omega arith))) (stays 96 64 (inr (omega arith))) (part_in 160 512 w i y h)

-- an element
pub to-element : (w : List ℕ) (i e y : ℕ) → i < 8 → e < 64 → Puts w (set w (160 + i * 64 + e) y) (to_element i e y)
unfolding apply
to-element w i e y h l =
    let s : 160 + i * 64 + e ≡ 160 + (i * 64 + e) = omega arith in
    record { frame = frame-kept w (160 + i * 64 + e) y (omega arith); registers = rw s (to-v w (i * 64 + e) y (omega arith)) }

-- what stands in each file
module _ (w : List ℕ) (i : ℕ) where
  pub a_at : i < 8 → get_or (registers_of w).a i 0 ≡ get_or w (16 + i) 0
  unfolding registers_of
  a_at h = part_at 16 8 w i h

  pub s-at : i < 8 → get_or (registers_of w).s i 0 ≡ get_or w (24 + i) 0
  unfolding registers_of
  s-at h = part_at 24 8 w i h

  pub b_at : i < 64 → get_or (registers_of w).b i 0 ≡ get_or w (32 + i) 0
  unfolding registers_of
  b_at h = part_at 32 64 w i h

  pub t-at : i < 64 → get_or (registers_of w).t i 0 ≡ get_or w (96 + i) 0
  unfolding registers_of
  t-at h = part_at 96 64 w i h

  pub v-at : i < 512 → get_or (registers_of w).v i 0 ≡ get_or w (160 + i) 0
  unfolding registers_of
  v-at h = part_at 160 512 w i h

pub el-at : (w : List ℕ) (i e : ℕ) → i < 8 → e < 64 → el (registers_of w).v i e ≡ get_or w (160 + i * 64 + e) 0
el-at w i e h l =
    let s : 160 + i * 64 + e ≡ 160 + (i * 64 + e) = omega arith in
    rw s (v-at w (i * 64 + e) (omega arith))

-- what stands at m after a store at n
stored : (l : List ℕ) (n m y : ℕ) → n < length l → get_or (set l n y) m 0 ≡ pick (eqb n m) y (get_or l m 0)
stored l n m y h = go (eqb n m) refl
  where
    go : (t : Bool) → eqb n m ≡ t → get_or (set l n y) m 0 ≡ pick t y (get_or l m 0)
    go true e = rw (← eqb-true n m e) (get_or-set_same l n y 0 h)
    go false e = get_or-set_other l n m y 0 (λ z. eqb-false n m e (sym z))

-- a store at a place of the control registers sets that register
controlled : Registers → ℕ → ℕ → Registers
controlled r n y =
    control r (pick (eqb n 1) y r.xa) (pick (eqb n 2) y r.vl) (pick (eqb n 3) y r.vm) (pick (eqb n 9) y r.ior) (pick (eqb n 12) y r.bdm)

set-low : (w : List ℕ) (n y : ℕ) → length w ≡ 672 → n < 16 → registers_of (set w n y) ≡ controlled (registers_of w) n y
unfolding registers_of controlled
set-low w n y long h =
    let l : n < length w = omega arith in
    rw (
      part-after 16 8 w n y (omega arith),
      part-after 24 8 w n y (omega arith),
      part-after 32 64 w n y (omega arith),
      part-after 96 64 w n y (omega arith),
      part-after 160 512 w n y (omega arith),
      stored w n 1 y l,
      stored w n 2 y l,
      stored w n 3 y l,
      stored w n 9 y l,
      stored w n 12 y l,
    )

pub control-low : (n : ℕ) → Control n → n < 16
control-low n h =
    ⊎_elim (⊎_elim (λ e. omega arith) (λ e. omega arith)) (⊎_elim (λ e. omega arith) (⊎_elim (λ e. omega arith) (λ e. omega arith))) h

pub to-control : (w : List ℕ) (n y : ℕ) → length w ≡ 672 → Control n → Puts w (set w n y) (to_control n y)
unfolding apply controlled
to-control w n y long h =
    let goes : (m : ℕ) → m < 16 → Off m → controlled (registers_of w) m y ≡ apply (to_control m y) (registers_of w) → n ≡ m → Puts w (set w n y) (to_control n y)
    = λ m l o k e. record { frame = off w n y (rw e o); registers = set-low w n y long (omega arith) ∙ rw e k } in
    ⊎_elim (⊎_elim (goes 1 (omega arith) (search rules) refl) (goes 2 (omega arith) (search rules) refl))
    (⊎_elim (goes 3 (omega arith) (search rules) refl)
    (⊎_elim (goes 9 (omega arith) (search rules) refl) (goes 12 (omega arith) (search rules) refl))) h

-- P is in none of the registers and not in the frame
pub p-puts : (w : List ℕ) (y : ℕ) → (registers_of (set w 0 y) ≡ registers_of w) × (frame_of (set w 0 y) ≡ frame_of w)
unfolding registers_of
p-puts w y = (
  rw (
    part-after 16 8 w 0 y (omega arith),
    part-after 24 8 w 0 y (omega arith),
    part-after 32 64 w 0 y (omega arith),
    part-after 96 64 w 0 y (omega arith),
    part-after 160 512 w 0 y (omega arith),
    other w 0 1 y (omega arith),
    other w 0 2 y (omega arith),
    other w 0 3 y (omega arith),
    other w 0 9 y (omega arith),
    other w 0 12 y (omega arith),
  ),
  off w 0 y (search rules),
)

-- places that are filled: one more; a place that is not filled reads as before; the length stays
pub fill-turn : (at : ℕ) (f : ℕ → ℕ) (n : ℕ) (l₀ l l' : List ℕ) (y : ℕ) → l ≡ fill at f n l₀ → l' ≡ set l (at + n) y → y ≡ f n → l' ≡ fill at f (n + 1) l₀
unfolding fill
fill-turn at f n l₀ l l' y p q r = rw add-one (rw (q, p, r))

pub fill-other : (at : ℕ) (f : ℕ → ℕ) (n : ℕ) (l : List ℕ) (w : ℕ) → ((e : ℕ) → e < n → w ≢ at + e) → get_or (fill at f n l) w 0 ≡ get_or l w 0
unfolding fill
fill-other at f zero l w h = refl
fill-other at f (suc n) l w h =
    get_or-set_other (fill at f n l) (at + n) w (f n) 0 (h n (omega arith)) ∙ fill-other at f n l w (λ e l. h e (omega arith))

pub fill-length : (at : ℕ) (f : ℕ → ℕ) (n : ℕ) (l : List ℕ) → length (fill at f n l) ≡ length l
unfolding fill
fill-length at f zero l = refl
fill-length at f (suc n) l = length-set (fill at f n l) (at + n) (f n) ∙ fill-length at f n l

-- a loop over the elements of Vi, on the whole list: what it comes to
pub fill_frame : (w : List ℕ) (at : ℕ) (f : ℕ → ℕ) (n : ℕ) → 16 ≤ at → frame_of (fill at f n w) ≡ frame_of w
unfolding fill
fill_frame w at f zero h = refl
fill_frame w at f (suc n) h = frame-kept (fill at f n w) (at + n) (f n) (omega arith) ∙ fill_frame w at f n h

fill-v : (w : List ℕ) (i : ℕ) (f : ℕ → ℕ) (n : ℕ) → i < 8 → n ≤ 64
    → registers_of (fill (160 + i * 64) f n w) ≡ with_v (registers_of w) (fill (i * 64) f n (registers_of w).v)
unfolding fill
fill-v w i f zero h l = refl
fill-v w i f (suc n) h l =
    let e : 160 + i * 64 + n ≡ 160 + (i * 64 + n) = omega arith in
    rw e (to-v (fill (160 + i * 64) f n w) (i * 64 + n) (f n) (omega arith) ∙ rw (fill-v w i f n h (omega arith)))

pub to-elements : (w w' : List ℕ) (i : ℕ) (f : ℕ → ℕ) (n : ℕ) → i < 8 → n ≤ 64 → (registers_of w).vl ≡ n → w' ≡ fill (160 + i * 64) f n w → Puts w w' (to_v i f)
unfolding apply
to-elements w w' i f n h l e g =
    record { frame = rw g (fill_frame w (160 + i * 64) f n (omega arith)); registers = rw (g, ← e) (fill-v w i f (registers_of w).vl h (omega arith)) }

-- where the first n elements of Vi are done, an element from n on of any register reads as it stood before
pub ahead : (i j m n : ℕ) (f : ℕ → ℕ) (w₀ w : List ℕ) → j < 8 → n ≤ m → m < 64 → w ≡ fill (160 + i * 64) f n w₀
    → get_or w (160 + j * 64 + m) 0 ≡ el (registers_of w₀).v j m
ahead i j m n f w₀ w h g l p =
    let apart : (e : ℕ) → e < n → 160 + j * 64 + m ≢ 160 + i * 64 + e = λ e t. omega arith in
    rw p (fill-other (160 + i * 64) f n w₀ (160 + j * 64 + m) apart ∙ sym (el-at w₀ j m h l))

-- a copy of the first n words of s: one word more
copied : (s d r : List ℕ) (n : ℕ) → n < length s → n < length d → r ≡ take n s ++ drop n d → set r n (get_or s n 0) ≡ take (n + 1) s ++ drop (n + 1) d
copied s d r n h l e =
    let p : length (take n s) ≡ n = length-take-le n s (omega arith) in
    rw (e, add-one, take-suc s n 0 h, append_snoc, drop-cons d n 0 l) (set_at (take n s) (get_or d n 0) (drop (suc n) d) (get_or s n 0) n p)

-- n places are filled with the first n items of a list by putting those in their place
pub filled-part : (at : ℕ) (w l : List ℕ) (n : ℕ) → n ≤ length w → at + n ≤ length l
    → fill at (λ i. get_or w i 0) n l ≡ take at l ++ (take n w ++ drop n (drop at l))
unfolding fill
filled-part at w l zero h k = sym (take-append-drop at l)
filled-part at w l (suc n) h k =
    let e : at + n - at ≡ n = omega arith in
    let rest = length-drop at l in
    let part = take n w ++ drop n (drop at l) in
    let more = rw add-one at (copied w (drop at l) part n (omega arith) (omega (arith, rest)) refl) in
    rw (filled-part at w l n (omega arith) (omega arith)) (set-append_right (take at l) part at (at + n) (get_or w n 0)
    (length-take-le at l (omega arith)) (omega arith) ∙ ap (λ (x : List ℕ). take at l ++ x) (rw e more))
