-- The tests of a state that refusal 7 makes, as facts about its numbers. Assumes nothing.
use Rattle.std.proofs.Common.{◌≡◌, ℕ, ◌^◌, ◌<◌, Bool, true, false, ◌&&◌, ltb, List, [], ◌∷◌, refl, ltb-true, lt-ltb, le-leb, leb-true}
use mathlib.Core.Bool.{and-eq-true_iff}
use Rattle.machine.specs.State.{Registers, Frame, State}
use Rattle.machine.specs.Refusal.{below, registers_fit, frame_fits, state_fits}
use Rattle.access.specs.Executed.{FrameOk, ControlOk}

-- each number is below n
abbrev Below : ℕ → List ℕ → Type 0
Below n [] = Unit {0}
Below n (x ∷ l) = (x < n) × Below n l

below_all : (n : ℕ) (l : List ℕ) → below n l ≡ true → Below n l
unfolding below
below_all n [] e = tt
below_all n (x ∷ l) e =
    let h = (and-eq-true_iff (ltb x n) (below n l)).0 e in
    (ltb-true x n h.0, below_all n l h.1)

-- every number of a processor fits; its own number is another refusal's
pub record Fit (st : State) : Type 0 where
  pub p : st.p.0 < 2 ^ 24
  pub a : below (2 ^ 24) st.registers.a ≡ true
  pub b : below (2 ^ 24) st.registers.b ≡ true
  pub control : ControlOk st.registers
  pub frame : FrameOk st.frame

fits-frame : (fr : Frame) → frame_fits fr ≡ true → FrameOk fr
unfolding frame_fits
fits-frame fr e =
    let h = (and-eq-true_iff _ _).0 e in
    let g = (and-eq-true_iff _ _).0 h.0 in
    let wide = below_all (2 ^ 17) (fr.iba ∷ fr.ila ∷ fr.dba ∷ fr.dla ∷ []) g.0 in
    let bits = below_all 2 (fr.mm ∷ fr.ifp ∷ fr.fps ∷ fr.ps ∷ []) g.1 in
    record {
      iba = wide.0;
      ila = wide.1.0;
      dba = wide.1.1.0;
      dla = wide.1.1.1.0;
      mm = bits.0;
      ifp = bits.1.0;
      fps = bits.1.1.0;
      ps = bits.1.1.1.0;
      cln = (below_all 4 (fr.cln ∷ []) h.1).0;
    }

-- the lists A and B, and the control registers
fits-registers : (r : Registers) → registers_fit r ≡ true → (below (2 ^ 24) r.a ≡ true) × (below (2 ^ 24) r.b ≡ true) × ControlOk r
unfolding registers_fit
fits-registers r e =
    let most = (and-eq-true_iff _ _).0 e in
    let least = (and-eq-true_iff _ _).0 most.0 in
    let bits = (and-eq-true_iff _ _).0 least.0 in
    let xa = (and-eq-true_iff (below (2 ^ 24) r.a && below (2 ^ 24) r.b) _).0 bits.0 in
    let lists = (and-eq-true_iff (below (2 ^ 24) r.a) (below (2 ^ 24) r.b)).0 xa.0 in
    let two = below_all 2 (r.ior ∷ r.bdm ∷ []) bits.1 in (
      lists.0,
      lists.1,
      record {
        narrow = (below_all (2 ^ 8) (r.xa ∷ []) xa.1).0;
        least = leb-true 1 r.vl least.1;
        most = leb-true r.vl 64 most.1;
        interrupt = two.0;
        bidirectional = two.1.0;
      },
    )

module _ (st : State) where
  pub fit : state_fits st ≡ true → Fit st
  unfolding state_fits
  fit e =
      let h = (and-eq-true_iff (ltb st.p.0 (2 ^ 24) && registers_fit st.registers) (frame_fits st.frame)).0 e in
      let g = (and-eq-true_iff (ltb st.p.0 (2 ^ 24)) (registers_fit st.registers)).0 h.0 in
      let r = fits-registers st.registers g.1 in
      record { p = ltb-true st.p.0 (2 ^ 24) g.0; a = r.0; b = r.1; control = r.2; frame = fits-frame st.frame h.1 }

  -- and back
  pub fits : Fit st → state_fits st ≡ true
  unfolding state_fits registers_fit frame_fits below
  fits h =
      let c = h.control in
      let f = h.frame in
      rw (
        lt-ltb _ _ h.p,
        h.a,
        h.b,
        lt-ltb _ _ c.narrow,
        lt-ltb _ _ c.interrupt,
        lt-ltb _ _ c.bidirectional,
        le-leb _ _ c.least,
        le-leb _ _ c.most,
        lt-ltb _ _ f.iba,
        lt-ltb _ _ f.ila,
        lt-ltb _ _ f.dba,
        lt-ltb _ _ f.dla,
        lt-ltb _ _ f.mm,
        lt-ltb _ _ f.ifp,
        lt-ltb _ _ f.fps,
        lt-ltb _ _ f.ps,
        lt-ltb _ _ f.cln,
      )

  pub unfit : (Fit st → ⊥) → state_fits st ≡ false
  unfit h = go (state_fits st) refl
    where
      go : (t : Bool) → state_fits st ≡ t → t ≡ false
      go true e = absurd (h (fit e))
      go false e = refl
