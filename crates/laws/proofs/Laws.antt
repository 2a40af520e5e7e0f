-- What holds of the work of every step, of what a package loads, and of a step that stops. Assumes nothing.
use Prim.Native.Nat.{ℕ, zero, suc, ◌^◌, ◌<◌}
use mathlib.Core.Path.{◌≡◌, refl, ◌∙◌, ap}
use mathlib.Core.Bool.{Bool, true, ◌&&◌, false≢true}
use mathlib.Core.List.{List}
use native.Mathlib.Omega.{arith}
use lib.ListN.{length, length-set}
use lib.Dec.{eqb}
use Rattle.std.specs.Prelude.{Option, Some, None, Result, Ok, Err}
use Rattle.machine.specs.declared.Cause.{Cause}
use Rattle.machine.specs.declared.Stray.{Stray}
use Rattle.machine.specs.declared.Work.{Work}
use Rattle.machine.specs.declared.Work.TheVariants.{PastOne, PastTwo, To, NormalExit, ErrorExit, StrayedOne, StrayedTwo, ProgramRange, NotHeld, MonitorFetch}
use Rattle.machine.specs.declared.Answer.{Answer}
use Rattle.machine.specs.Parcel.{word_of, onward}
use Rattle.machine.specs.State.{Frame, Registers, State, Shared, user, Put, nothing, to_a, to_s, to_b, to_t}
use Rattle.machine.specs.State.{to_bs, to_ts, to_v, to_element, to_vl, to_vm, to_xa, to_ior, to_bdm, apply}
use Rattle.machine.specs.Memory.{Field, code_field, data_field, place_of, load, store_at, store, stores, parcel_at, fetch_of}
use Rattle.machine.specs.Act.{Instr, Act, does, goes, reads_words, writes_words, leaves_normally, leaves_by_error, act}
use Rattle.machine.specs.Codes.{Code, holds_none, holds_one, holds_two, code_of}
use Rattle.machine.specs.Work.{Present, has_instr, with_parcel, decoded, present_of, Done, done, past, outside, perform, status_of, no_parcel, done_with, work_of}
use Rattle.machine.specs.Exchange.{loaded}
use Rattle.machine.specs.Step.{Out, out, exchange, ranged, finish, finish_of, step_of, stops}
use Rattle.access.specs.Executed.{FrameOk, ControlOk}
use Rattle.laws.proofs.Below.{picked, low}
use Rattle.laws.proofs.Acts.{PutOk, ActOk, length-bounds, act-ok}

-- What holds of all that an instruction performs, of a parcel not held and of a parcel outside, holds of the work of every step.
module _ (fr : Frame) (r : Registers) (p : ℕ) (sh : Shared) (Q : Done → Type 0)
    (acts : (n : Instr) (x m parcels : ℕ) → m < 2 ^ 16 → Q (perform fr r parcels sh (act r (status_of fr r) x m (onward p parcels) n)))
    (not-held : Q (done NotHeld None r sh))
    (lost : Q (done (no_parcel (user fr)) None r sh)) where
  -- a parcel that is fetched has 16 bits
  fetched-all : (q : ℕ) (f : ℕ → Present) → ((m : ℕ) → m < 2 ^ 16 → Q (done_with fr r p sh (f m)))
      → Q (done_with fr r p sh (with_parcel (fetch_of fr sh.mem q) f))
  unfolding fetch_of done_with
  fetched-all q f h = go (place_of (code_field fr) (length sh.mem) (word_of q))
    where
      go : (o : Result ℕ Cause) → Q (done_with fr r p sh (with_parcel (parcel_at sh.mem q o) f))
      go (Ok n) = h _ (low _ 16)
      go (Err cause) = lost

  decoded-all : (x : ℕ) (c : Code) → Q (done_with fr r p sh (decoded fr sh.mem p x c))
  unfolding decoded done_with
  decoded-all x holds_none = not-held
  decoded-all x (holds_one n) = acts n x 0 1 (omega arith)
  decoded-all x (holds_two n) = fetched-all (onward p 1) (λ m. has_instr n x m 2) (λ m l. acts n x m 2 l)

  pub work-all : Q (work_of fr r p sh)
  unfolding work_of present_of
  work-all = fetched-all p (λ x. decoded fr sh.mem p x (code_of (user fr) x)) (λ x l. decoded-all x (code_of (user fr) x))

-- where P goes has 24 bits
abbrev pub Narrow : Work → Type 0
Narrow PastOne = Unit {0}
Narrow PastTwo = Unit {0}
Narrow (To q) = q.0 < 2 ^ 24
Narrow NormalExit = Unit {0}
Narrow ErrorExit = Unit {0}
Narrow StrayedOne = Unit {0}
Narrow StrayedTwo = Unit {0}
Narrow ProgramRange = Unit {0}
Narrow NotHeld = Unit {0}
Narrow MonitorFetch = Unit {0}

-- nothing was done: no instruction of the list, or no parcel
abbrev pub Idle : Work → Type 0
Idle PastOne = ⊥
Idle PastTwo = ⊥
Idle (To q) = ⊥
Idle NormalExit = ⊥
Idle ErrorExit = ⊥
Idle StrayedOne = ⊥
Idle StrayedTwo = ⊥
Idle ProgramRange = Unit {0}
Idle NotHeld = Unit {0}
Idle MonitorFetch = Unit {0}

-- what an instruction performs is narrow, and something
abbrev Acted : Work → Type 0
Acted w = Narrow w × (Idle w → ⊥)

-- so is going past it, of which an operand may be outside, and each act
past-acted : (parcels : ℕ) (s : Option Stray) → Acted (past parcels s)
past-acted parcels None = picked Acted (eqb parcels 1) (tt, λ z. z) (tt, λ z. z)
past-acted parcels (Some stray) = picked Acted (eqb parcels 1) (tt, λ z. z) (tt, λ z. z)

pub perform-acted : (fr : Frame) (r : Registers) (parcels : ℕ) (sh : Shared) (a : Act) → Acted (perform fr r parcels sh a).work
unfolding perform
perform-acted fr r parcels sh (does put) = past-acted parcels None
perform-acted fr r parcels sh (goes q put) = (low q 24, λ z. z)
perform-acted fr r parcels sh (reads_words n at put) = past-acted parcels (outside fr sh.mem (reads_words n at put))
perform-acted fr r parcels sh (writes_words n at val) = past-acted parcels (outside fr sh.mem (writes_words n at val))
perform-acted fr r parcels sh leaves_normally = (tt, λ z. z)
perform-acted fr r parcels sh leaves_by_error = (tt, λ z. z)

-- a parcel outside takes P nowhere
no-parcel-narrow : (user : Bool) → Narrow (no_parcel user)
unfolding no_parcel
no-parcel-narrow user = picked Narrow user tt tt

-- XA, VL, IOR and BDM keep their widths where others are written
others : (r : Registers) → ControlOk r → {a s b t v : List ℕ} {vm : ℕ}
    → ControlOk (record { a = a; s = s; b = b; t = t; v = v; xa = r.xa; vl = r.vl; vm = vm; ior = r.ior; bdm = r.bdm })
others r k = record { narrow = k.narrow; least = k.least; most = k.most; interrupt = k.interrupt; bidirectional = k.bidirectional }

-- and where they are: what is written fits, whatever the state is
apply-ok : (L : Type 0) (u : Put) (r : Registers) → PutOk L u → ControlOk r → ControlOk (apply u r)
unfolding apply
apply-ok L nothing r h k = k
apply-ok L (to_a i x) r h k = others r k
apply-ok L (to_s i x) r h k = others r k
apply-ok L (to_b jk x) r h k = others r k
apply-ok L (to_t jk x) r h k = others r k
apply-ok L (to_bs first n x) r h k = others r k
apply-ok L (to_ts first n x) r h k = others r k
apply-ok L (to_v i x) r h k = others r k
apply-ok L (to_element i e x) r h k = others r k
apply-ok L (to_vl x) r h k =
    record { narrow = k.narrow; least = h.0; most = h.1; interrupt = k.interrupt; bidirectional = k.bidirectional }
apply-ok L (to_vm x) r h k = others r k
apply-ok L (to_xa x) r h k =
    record { narrow = h; least = k.least; most = k.most; interrupt = k.interrupt; bidirectional = k.bidirectional }
apply-ok L (to_ior x) r h k =
    record { narrow = k.narrow; least = k.least; most = k.most; interrupt = h; bidirectional = k.bidirectional }
apply-ok L (to_bdm x) r h k =
    record { narrow = k.narrow; least = k.least; most = k.most; interrupt = k.interrupt; bidirectional = h }

perform-ok : (fr : Frame) (r : Registers) (parcels : ℕ) (sh : Shared) (a : Act) → ActOk ⊥ a → ControlOk r → ControlOk (perform fr r parcels sh a).registers
unfolding perform
perform-ok fr r parcels sh (does put) h k = apply-ok ⊥ put r h k
perform-ok fr r parcels sh (goes q put) h k = apply-ok ⊥ put r h k
perform-ok fr r parcels sh (reads_words n at put) h k =
    let word : ℕ → ℕ = λ e. load (data_field fr) sh.mem (at e) in
    apply-ok ⊥ (put word) r ((h word).1 (λ z. absurd z)) k
perform-ok fr r parcels sh (writes_words n at val) h k = k
perform-ok fr r parcels sh leaves_normally h k = k
perform-ok fr r parcels sh leaves_by_error h k = k

-- memory keeps its length
stores-length : (f : Field) (at val : ℕ → ℕ) (n : ℕ) (mem : List ℕ) → length (stores f at val n mem) ≡ length mem
unfolding stores store
stores-length f at val zero mem = refl
stores-length f at val (suc n) mem =
    let m = stores f at val n mem in
    go m (place_of f (length m) (at n)) ∙ stores-length f at val n mem
  where
    go : (m : List ℕ) (o : Result ℕ Cause) → length (store_at m o (val n)) ≡ length m
    go m (Ok w) = length-set m w (val n)
    go m (Err cause) = refl

perform-length : (fr : Frame) (r : Registers) (parcels : ℕ) (sh : Shared) (a : Act) → length (perform fr r parcels sh a).shared.mem ≡ length sh.mem
unfolding perform
perform-length fr r parcels sh (does put) = refl
perform-length fr r parcels sh (goes q put) = refl
perform-length fr r parcels sh (reads_words n at put) = refl
perform-length fr r parcels sh (writes_words n at val) = stores-length (data_field fr) at val n sh.mem
perform-length fr r parcels sh leaves_normally = refl
perform-length fr r parcels sh leaves_by_error = refl

module _ (fr : Frame) (r : Registers) (p : ℕ) (sh : Shared) where
  -- wherever the work of a step leaves P
  pub work-p : {w : Work} → (work_of fr r p sh).work ≡ w → Narrow w
  work-p e =
      rw e at
      (work-all fr r p sh (λ d. Narrow d.work) (λ n x m parcels h. (perform-acted fr r parcels sh _).0) tt (no-parcel-narrow (user fr)))

  pub work-ok : ControlOk r → ControlOk (work_of fr r p sh).registers
  work-ok k =
      work-all fr r p sh (λ d. ControlOk d.registers)
      (λ n x m parcels h. perform-ok fr r parcels sh _ (act-ok ⊥ r (status_of fr r) x m (onward p parcels) (λ z. absurd z) n) k) k k

  pub work-length : length (work_of fr r p sh).shared.mem ≡ length sh.mem
  work-length =
      work-all fr r p sh (λ d. length d.shared.mem ≡ length sh.mem) (λ n x m parcels h. perform-length fr r parcels sh _) refl refl

  -- where nothing was done nothing has changed
  pub work-idle : {w : Work} → (work_of fr r p sh).work ≡ w → Idle w → work_of fr r p sh ≡ done w None r sh
  work-idle e i =
      work-all fr r p sh (λ d. Idle d.work → d ≡ done d.work None r sh)
      (λ n x m parcels h z. absurd ((perform-acted fr r parcels sh _).1 z)) (λ z. refl) (λ z. refl) (rw e i)
      ∙ ap (λ (w : Work). done w None r sh) e

-- what a package loads has its widths
pub loaded-ok : (mem : List ℕ) (x : ℕ) (r : Registers) (fr : Frame)
    → ControlOk (loaded mem x r fr).registers × FrameOk (loaded mem x r fr).frame × ((loaded mem x r fr).p.0 < 2 ^ 24)
unfolding loaded
loaded-ok mem x r fr = (
  record { narrow = low _ 8; least = (length-bounds _).0; most = (length-bounds _).1; interrupt = low _ 1; bidirectional = low _ 1 },
  record {
    iba = low _ 17;
    ila = low _ 17;
    dba = low _ 17;
    dla = low _ 17;
    mm = low _ 1;
    ifp = low _ 1;
    fps = low _ 1;
    ps = low _ 1;
    cln = low _ 2;
  },
  low _ 24,
)

-- an operand outside stops nothing
pub ranged-goes : (fr : Frame) (r : Registers) (p : ℕ) (s : Option Stray) (sh : Shared) → stops (ranged fr r p s sh).answer ≡ true → ⊥
unfolding ranged exchange
ranged-goes fr r p s sh = picked (λ (o : Out). stops o.answer ≡ true → ⊥) (user fr && eqb r.ior 1) false≢true false≢true

-- a step that stops leaves the state and what is shared, and has no stray
finish-stop : (st : State) (w : Work) (s : Option Stray) (r : Registers) (sh sh' : Shared) → (Idle w → (s ≡ None) × (sh' ≡ sh))
    → stops (finish st w s r sh').answer ≡ true → finish st w s r sh' ≡ out (finish st w s r sh').answer None st sh
unfolding finish exchange
finish-stop st PastOne s r sh sh' e t = cc
finish-stop st PastTwo s r sh sh' e t = cc
finish-stop st (To q) s r sh sh' e t = cc
finish-stop st NormalExit s r sh sh' e t = cc
finish-stop st ErrorExit s r sh sh' e t = cc
finish-stop st StrayedOne s r sh sh' e t = absurd (ranged-goes st.frame r (onward st.p.0 1) s sh' t)
finish-stop st StrayedTwo s r sh sh' e t = absurd (ranged-goes st.frame r (onward st.p.0 2) s sh' t)
finish-stop st ProgramRange s r sh sh' e t = cc
finish-stop st NotHeld s r sh sh' e t = rw ((e tt).0, (e tt).1)
finish-stop st MonitorFetch s r sh sh' e t = rw ((e tt).0, (e tt).1)

pub step-stop : (st : State) (sh : Shared) {o : Answer} → (step_of st sh).answer ≡ o → stops o ≡ true → step_of st sh ≡ out o None st sh
unfolding step_of finish_of
step-stop st sh e s =
    let d = work_of st.frame st.registers st.p.0 sh in
    finish-stop st d.work d.stray d.registers sh d.shared
    (λ i. let k = work-idle st.frame st.registers st.p.0 sh refl i in (ap (λ (x : Done). x.stray) k, ap (λ (x : Done). x.shared) k)) (rw e s)
    ∙ ap (λ (o : Answer). out o None st sh) e
