-- Demand 3. Assumes nothing.
use Prim.Native.Nat.{ℕ, zero, suc, ◌+◌, ◌*◌, ◌≤◌, ◌<◌}
use mathlib.Core.Path.{◌≡◌, refl, sym, ap, ap₂, ◌∙◌, subst}
use mathlib.Core.Logic.{◌⊎◌, inl, inr}
use mathlib.Core.List.{List, [], ◌∷◌, ◌++◌}
use native.Mathlib.Omega.{arith}
use native.Mathlib.Decide.{dec_le, dec_lt}
use lib.ListN.{length, get_or}
use lib.Seq.{ext_get_or}
use Rattle.std.specs.Prelude.{Some, None, Ok}
use Rattle.machine.specs.declared.Answer.TheVariants.{Stepped}
use Rattle.machine.specs.State.{Frame, State, Shared, sharing}
use Rattle.machine.specs.Memory.{Field, data_field}
use Rattle.machine.specs.Step.{step_of}
use Rattle.machine.specs.Run.{Last, zeros, Half, half, half_after, PairEnded, pair_of}
use Rattle.theorems.proofs.Counted.{shared_after}
use Rattle.theorems.specs.Statement.{In, Own, Neither, Agree, Apart, firsts, seconds, one_bytes, together, Smooth, AsAlone, Demand3}
use Rattle.theorems.proofs.Agree.{Only, itself, flip, chain, weaken, other}
use Rattle.theorems.proofs.Step.{step-frame, step-only}
use Rattle.theorems.proofs.Walk.{Steps, SameWalk, walk_same, later, later_same, as-alone}

-- a pair run goes on after a step that stepped
module _ (bytes : List ℕ) (l : Last) (d : ℕ) (x y : Half) (sh : Shared) where
  turn-first : (step_of x.state sh).answer ≡ Stepped
      → pair_of (zero ∷ bytes) l d x y sh
      ≡ pair_of bytes (Ok (Some Stepped)) (d + 1) (half_after x (step_of x.state sh)) y (step_of x.state sh).shared
  unfolding pair_of
  turn-first e = rw e

  turn-second : (b : ℕ) → (step_of y.state sh).answer ≡ Stepped
      → pair_of (suc b ∷ bytes) l d x y sh
      ≡ pair_of bytes (Ok (Some Stepped)) (d + 1) x (half_after y (step_of y.state sh)) (step_of y.state sh).shared
  unfolding pair_of
  turn-second b e = rw e

-- the last answer after n steps
abbrev last_of : Last → ℕ → Last
last_of l zero = l
last_of l (suc n) = Ok (Some Stepped)

last-stepped : (n : ℕ) → last_of (Ok (Some Stepped)) n ≡ Ok (Some Stepped)
last-stepped zero = refl
last-stepped (suc n) = refl

-- what a pair run in which all stepped leaves, by the steps of each alone
record Parts (fr gr : Frame) (len : ℕ) (bytes : List ℕ) (l : Last) (d : ℕ) (x y : Half) (sh : Shared) (e : PairEnded) : Type 0 where
  steps-x : Steps (firsts bytes) x.state sh
  steps-y : Steps (seconds bytes) y.state sh
  later-x : later (firsts bytes) x sh ≡ e.first
  later-y : later (seconds bytes) y sh ≡ e.second
  mem-x : Agree (Own fr len) (shared_after (firsts bytes) x.state sh).mem e.shared.mem
  mem-y : Agree (Own gr len) (shared_after (seconds bytes) y.state sh).mem e.shared.mem
  rest : Agree (Neither fr gr len) e.shared.mem sh.mem
  answers : e.last ≡ last_of l (length bytes)
  count : e.steps ≡ d + length bytes

-- a processor whose frame is fr: what a step changes, and its steps in two memories that agree on its fields
module _ (fr : Frame) (x : State) (len : ℕ) where
  moves : (sh : Shared) → x.frame ≡ fr → length sh.mem ≡ len → (step_of x sh).answer ≡ Stepped
      → Only (In (data_field fr) len) sh.mem (step_of x sh).shared.mem
  moves sh e l a = subst (λ (f : Frame). Only (In (data_field f) len) sh.mem (step_of x sh).shared.mem) e (step-only x len sh l a)

  repeat : (n : ℕ) (sh sh' : Shared) → x.frame ≡ fr → length sh.mem ≡ len → Agree (Own fr len) sh.mem sh'.mem → Steps n x sh
      → SameWalk (Own fr len) n x sh sh'
  repeat n sh sh' e l h s = walk_same (Own fr len) len n x sh sh' (rw e (λ w o. o)) l h s

module _ (fr gr : Frame) (len : ℕ) (apart : Apart fr gr len) where
  -- neither's data field meets the other's fields
  not-y : (w : ℕ) → In (data_field fr) len w → Own gr len w → ⊥
  not-y w a (inl b) = apart.first w a b
  not-y w a (inr b) = apart.operands w a b

  not-x : (w : ℕ) → In (data_field gr) len w → Own fr len w → ⊥
  not-x w a (inl b) = apart.second w a b
  not-x w a (inr b) = apart.operands w b a

  -- by induction over the schedule
  Claim : List ℕ → Type 0
  Claim bytes =
      (l : Last) (d : ℕ) (x y : Half) (sh : Shared) → x.state.frame ≡ fr → y.state.frame ≡ gr → length sh.mem ≡ len
      → Smooth bytes x.state y.state sh → Parts fr gr len bytes l d x y sh (pair_of bytes l d x y sh)

  none : Claim []
  unfolding Claim pair_of firsts seconds
  none l d x y sh e g n s =
      record {
        steps-x = tt;
        steps-y = tt;
        later-x = refl;
        later-y = refl;
        mem-x = itself sh.mem;
        mem-y = itself sh.mem;
        rest = itself sh.mem;
        answers = refl;
        count = omega arith;
      }

  by_first : (bytes : List ℕ) → Claim bytes → Claim (zero ∷ bytes)
  unfolding Claim firsts seconds
  by_first bytes ih l d x y sh e g n s =
      let o = step_of x.state sh in
      let t = turn-first bytes l d x y sh s.0 in
      let k = moves fr x.state len sh e n s.0 in
      let n' = k.long ∙ n in
      let u = ih (Ok (Some Stepped)) (d + 1) (half_after x o) y o.shared (step-frame x.state sh s.0 ∙ e) g n' s.1 in
      let v = repeat gr y.state len (seconds bytes) o.shared sh g n' (other not-y k (itself sh.mem)) u.steps-y in
      record {
        steps-x = (s.0, u.steps-x);
        steps-y = v.steps;
        later-x = rw t u.later-x;
        later-y = rw t (later_same (seconds bytes) y o.shared sh v ∙ u.later-y);
        mem-x = rw t u.mem-x;
        mem-y = rw t (chain (flip v.mem) u.mem-y);
        rest = rw t (chain u.rest (weaken (λ w o. o.0) k));
        answers = rw t (u.answers ∙ last-stepped (length bytes));
        count = rw t (omega (arith, u.count));
      }

  by-second : (b : ℕ) (bytes : List ℕ) → Claim bytes → Claim (suc b ∷ bytes)
  unfolding Claim firsts seconds
  by-second b bytes ih l d x y sh e g n s =
      let o = step_of y.state sh in
      let t = turn-second bytes l d x y sh b s.0 in
      let k = moves gr y.state len sh g n s.0 in
      let n' = k.long ∙ n in
      let u = ih (Ok (Some Stepped)) (d + 1) x (half_after y o) o.shared e (step-frame y.state sh s.0 ∙ g) n' s.1 in
      let v = repeat fr x.state len (firsts bytes) o.shared sh e n' (other not-x k (itself sh.mem)) u.steps-x in
      record {
        steps-x = v.steps;
        steps-y = (s.0, u.steps-y);
        later-x = rw t (later_same (firsts bytes) x o.shared sh v ∙ u.later-x);
        later-y = rw t u.later-y;
        mem-x = rw t (chain (flip v.mem) u.mem-x);
        mem-y = rw t u.mem-y;
        rest = rw t (chain u.rest (weaken (λ w o. o.1) k));
        answers = rw t (u.answers ∙ last-stepped (length bytes));
        count = rw t (omega (arith, u.count));
      }

  all : (bytes : List ℕ) → Claim bytes
  all [] = none
  all (zero ∷ bytes) = by_first bytes (all bytes)
  all (suc b ∷ bytes) = by-second b bytes (all bytes)

  -- the other way: where the steps of each alone step, so do they in any order
  smooth : (bytes : List ℕ) (x y : State) (sh : Shared) → x.frame ≡ fr → y.frame ≡ gr → length sh.mem ≡ len
      → Steps (firsts bytes) x sh → Steps (seconds bytes) y sh → Smooth bytes x y sh
  unfolding firsts seconds
  smooth [] x y sh e g n s t = tt
  smooth (zero ∷ bytes) x y sh e g n s t =
      let o = step_of x sh in
      let k = moves fr x len sh e n s.0 in
      let v = repeat gr y len (seconds bytes) sh o.shared g n (flip (other not-y k (itself sh.mem))) t in
      (s.0, smooth bytes o.state y o.shared (step-frame x sh s.0 ∙ e) g (k.long ∙ n) s.1 v.steps)
  smooth (suc b ∷ bytes) x y sh e g n s t =
      let o = step_of y sh in
      let k = moves gr y len sh g n t.0 in
      let v = repeat fr x len (firsts bytes) sh o.shared e n (flip (other not-x k (itself sh.mem))) s in
      (t.0, smooth bytes x o.state o.shared e (step-frame y sh t.0 ∙ g) (k.long ∙ n) v.steps t.1)

-- a schedule has as many bytes as steps
total : (bytes : List ℕ) → length bytes ≡ firsts bytes + seconds bytes
unfolding firsts seconds
total [] = refl
total (zero ∷ bytes) = omega (arith, total bytes)
total (suc b ∷ bytes) = omega (arith, total bytes)

decide : (f : Field) (len w : ℕ) → In f len w ⊎ ¬ (In f len w)
decide f len w = go (dec_le (f.base * 32) w) (dec_lt w (f.limit * 32)) (dec_lt w len)
  where
    go : Dec (f.base * 32 ≤ w) → Dec (w < f.limit * 32) → Dec (w < len) → In f len w ⊎ ¬ (In f len w)
    go (yes a) (yes b) (yes c) = inl (a, b, c)
    go (no a) q r = inr (λ h. a h.0)
    go (yes a) (no b) r = inr (λ h. b h.1)
    go (yes a) (yes b) (no c) = inr (λ h. c h.2)

-- memories that agree in both data fields, and outside them, are one
joined : (fr gr : Frame) (len : ℕ) (m m' : List ℕ) → Agree (In (data_field fr) len) m m' → Agree (In (data_field gr) len) m m'
    → Agree (Neither fr gr len) m m' → m ≡ m'
joined fr gr len m m' a b c =
    ext_get_or 0 m m' a.long (λ w l. go w (decide (data_field fr) len w) (decide (data_field gr) len w))
  where
    go : (w : ℕ) → In (data_field fr) len w ⊎ ¬ (In (data_field fr) len w) → In (data_field gr) len w ⊎ ¬ (In (data_field gr) len w) → get_or m w 0 ≡ get_or m' w 0
    go w (inl p) q = a.same w p
    go w (inr p) (inl q) = b.same w q
    go w (inr p) (inr q) = c.same w (p, q)

-- two schedules of as many steps of each
alike : (fr gr : Frame) (len : ℕ) (bytes more : List ℕ) (x y : Half) (sh : Shared) (e e' : PairEnded)
    → firsts more ≡ firsts bytes → seconds more ≡ seconds bytes
    → Parts fr gr len more (Ok None) 0 x y sh e → Parts fr gr len bytes (Ok None) 0 x y sh e' → e ≡ e'
alike fr gr len bytes more x y sh e e' f s a b =
    let n : length more ≡ length bytes = total more ∙ ap₂ ◌+◌ f s ∙ sym (total bytes) in
    let ends : e.last ≡ e'.last = a.answers ∙ ap (last_of (Ok None)) n ∙ sym b.answers in
    let steps : e.steps ≡ e'.steps = a.count ∙ ap (λ (n : ℕ). 0 + n) n ∙ sym b.count in
    let first : e.first ≡ e'.first = sym a.later-x ∙ ap (λ (n : ℕ). later n x sh) f ∙ b.later-x in
    let second : e.second ≡ e'.second = sym a.later-y ∙ ap (λ (n : ℕ). later n y sh) s ∙ b.later-y in
    let mx : Agree (Own fr len) e.shared.mem e'.shared.mem = chain (flip a.mem-x) (rw f b.mem-x) in
    let my : Agree (Own gr len) e.shared.mem e'.shared.mem = chain (flip a.mem-y) (rw s b.mem-y) in
    let mem = joined fr gr len e.shared.mem e'.shared.mem (weaken (λ w p. inr p) mx) (weaken (λ w p. inr p) my) (chain a.rest (flip b.rest)) in
    λ i. record { last = ends i; steps = steps i; first = first i; second = second i; shared = sharing (mem i) }

-- the one after the other
firsts-in-turn : (n k : ℕ) → firsts (zeros n ++ one_bytes k) ≡ n
unfolding zeros one_bytes firsts
firsts-in-turn zero zero = refl
firsts-in-turn zero (suc k) = firsts-in-turn zero k
firsts-in-turn (suc n) k = ap suc (firsts-in-turn n k)

seconds-in-turn : (n k : ℕ) → seconds (zeros n ++ one_bytes k) ≡ k
unfolding zeros one_bytes seconds
seconds-in-turn zero zero = refl
seconds-in-turn zero (suc k) = ap suc (seconds-in-turn zero k)
seconds-in-turn (suc n) k = seconds-in-turn n k

module _ (bytes : List ℕ) (x y : State) (sh : Shared) (apart : Apart x.frame y.frame (length sh.mem)) (s : Smooth bytes x y sh) where
  parts : Parts x.frame y.frame (length sh.mem) bytes (Ok None) 0 (half x) (half y) sh (together bytes x y sh)
  unfolding Claim
  parts = all x.frame y.frame (length sh.mem) apart bytes (Ok None) 0 (half x) (half y) sh refl refl refl s

  any-smooth : (more : List ℕ) → firsts more ≡ firsts bytes → seconds more ≡ seconds bytes → Smooth more x y sh
  any-smooth more f g = smooth x.frame y.frame (length sh.mem) apart more x y sh refl refl refl (rw f parts.steps-x) (rw g parts.steps-y)

  any_order : (more : List ℕ) → firsts more ≡ firsts bytes → seconds more ≡ seconds bytes → together more x y sh ≡ together bytes x y sh
  unfolding Claim
  any_order more f g =
      alike x.frame y.frame (length sh.mem) bytes more (half x) (half y) sh (together more x y sh) (together bytes x y sh) f g
      (all x.frame y.frame (length sh.mem) apart more (Ok None) 0 (half x) (half y) sh refl refl refl (any-smooth more f g)) parts

  first_alone : (sh' : Shared) → Agree (Own x.frame (length sh.mem)) sh.mem sh'.mem
      → AsAlone (firsts bytes) x sh' (together bytes x y sh).first (together bytes x y sh).shared
  first_alone sh' h =
      let w = walk_same (Own x.frame (length sh.mem)) (length sh.mem) (firsts bytes) x sh sh' (λ w o. o) refl h parts.steps-x in
      as-alone (firsts bytes) x sh' (together bytes x y sh).first (together bytes x y sh).shared w.steps
      (later_same (firsts bytes) (half x) sh sh' w ∙ parts.later-x)
      (rw (← h.long) (chain (flip w.mem) parts.mem-x))

  second-alone : (sh' : Shared) → Agree (Own y.frame (length sh.mem)) sh.mem sh'.mem
      → AsAlone (seconds bytes) y sh' (together bytes x y sh).second (together bytes x y sh).shared
  second-alone sh' h =
      let w = walk_same (Own y.frame (length sh.mem)) (length sh.mem) (seconds bytes) y sh sh' (λ w o. o) refl h parts.steps-y in
      as-alone (seconds bytes) y sh' (together bytes x y sh).second (together bytes x y sh).shared w.steps
      (later_same (seconds bytes) (half y) sh sh' w ∙ parts.later-y)
      (rw (← h.long) (chain (flip w.mem) parts.mem-y))

pub undisturbed : Demand3
unfolding Demand3
undisturbed bytes x y sh apart s =
    record {
      first = first_alone bytes x y sh apart s;
      second = second-alone bytes x y sh apart s;
      rest = (parts bytes x y sh apart s).rest;
      steps = omega (arith, (parts bytes x y sh apart s).count);
      smooth = any-smooth bytes x y sh apart s;
      orders = any_order bytes x y sh apart s;
      one_by_one =
          any_order bytes x y sh apart s (zeros (firsts bytes) ++ one_bytes (seconds bytes))
          (firsts-in-turn (firsts bytes) (seconds bytes)) (seconds-in-turn (firsts bytes) (seconds bytes));
    }
