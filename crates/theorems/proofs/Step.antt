-- A step depends on the words of its two fields alone and, where it steps, changes words of its data field alone: once for
-- every instruction. Assumes nothing.
use Prim.Native.Nat.{ℕ}
use mathlib.Core.Path.{◌≡◌, refl, ap, fun_ext}
use mathlib.Core.Logic.{inl, inr}
use mathlib.Core.Bool.{Bool, true, false, ◌&&◌}
use mathlib.Core.List.{List}
use lib.ListN.{length}
use lib.Dec.{eqb}
use Rattle.std.specs.Prelude.{Option, Some, None}
use Rattle.machine.specs.declared.ParcelAddr.{ParcelAddr}
use Rattle.machine.specs.declared.Stray.{Stray}
use Rattle.machine.specs.declared.Work.{Work}
use Rattle.machine.specs.declared.Work.TheVariants.{PastOne, PastTwo, To, NormalExit, ErrorExit, StrayedOne, StrayedTwo, ProgramRange, NotHeld, MonitorFetch}
use Rattle.machine.specs.declared.Answer.TheVariants.{Stepped}
use Rattle.machine.specs.Word.{pick}
use Rattle.machine.specs.Parcel.{onward}
use Rattle.machine.specs.State.{Frame, Registers, State, Shared, addr, user, apply}
use Rattle.machine.specs.Memory.{data_field, first_outside, fetch_of}
use Rattle.machine.specs.Act.{Act, does, goes, reads_words, writes_words, leaves_normally, leaves_by_error, act}
use Rattle.machine.specs.Codes.{Code, holds_none, holds_one, holds_two, code_of}
use Rattle.machine.specs.Work as present
use Rattle.machine.specs.Work.{Present, has_none, has_instr, with_parcel, decoded, present_of, Done, done}
use Rattle.machine.specs.Work.{past, outside, perform, no_parcel, status_of, done_with, work_of}
use Rattle.machine.specs.Exchange.{operand_range}
use Rattle.machine.specs.Step.{exchange, stepped, ranged, finish, finish_of, step_of}
use Rattle.laws.proofs.Laws.{work-all}
use Rattle.theorems.specs.Statement.{In, Own, Agree}
use Rattle.theorems.proofs.Agree.{Only, itself, weaken, load-agree, fetch-agree, stores-agree, stores-only}

-- where every fetch gives the same, the same stands at p
present-same : (fr : Frame) (m m' : List ℕ) → ((p : ℕ) → fetch_of fr m p ≡ fetch_of fr m' p) → (p : ℕ) → present_of fr m p ≡ present_of fr m' p
unfolding present_of decoded
present-same fr m m' fetched p = rw (fetched p) (go (fetch_of fr m' p))
  where
    parcel : (x : ℕ) (c : Code) → decoded fr m p x c ≡ decoded fr m' p x c
    parcel x holds_none = refl
    parcel x (holds_one n) = refl
    parcel x (holds_two n) = rw (fetched (onward p 1))

    go : (o : Option ℕ) → with_parcel o (λ x. decoded fr m p x (code_of (user fr) x)) ≡ with_parcel o (λ x. decoded fr m' p x (code_of (user fr) x))
    go None = refl
    go (Some x) = parcel x (code_of (user fr) x)

-- two works that end alike with the same stray and registers, and memories that agree where P holds
pub record Same (P : ℕ → Type 0) (d d' : Done) : Type 0 where
  pub work : d.work ≡ d'.work
  pub stray : d.stray ≡ d'.stray
  pub registers : d.registers ≡ d'.registers
  pub mem : Agree P d.shared.mem d'.shared.mem

-- the work in two memories that agree on the two fields, and perhaps on more
module _ (fr : Frame) (r : Registers) (P : ℕ → Type 0) (len : ℕ) (own : (w : ℕ) → Own fr len w → P w)
    (sh sh' : Shared) (long : length sh.mem ≡ len) (h : Agree P sh.mem sh'.mem) where
  idle-same : (w : Work) → Same P (done w None r sh) (done w None r sh')
  idle-same w = record { work = refl; stray = refl; registers = refl; mem = h }

  perform-same : (parcels : ℕ) (a : Act) → Same P (perform fr r parcels sh a) (perform fr r parcels sh' a)
  unfolding perform outside
  perform-same parcels (does put) = record { work = refl; stray = refl; registers = refl; mem = h }
  perform-same parcels (goes q put) = record { work = refl; stray = refl; registers = refl; mem = h }
  perform-same parcels (reads_words n at put) =
      record {
        work = ap (λ (l : ℕ). past parcels (first_outside (data_field fr) at l n)) h.long;
        stray = ap (λ (l : ℕ). first_outside (data_field fr) at l n) h.long;
        registers =
            ap (λ (word : ℕ → ℕ). apply (put word) r)
            (fun_ext (λ e. load-agree (data_field fr) len sh.mem sh'.mem (at e) long (weaken (λ w q. own w (inr q)) h)));
        mem = h;
      }
  perform-same parcels (writes_words n at val) =
      record {
        work = ap (λ (l : ℕ). past parcels (first_outside (data_field fr) at l n)) h.long;
        stray = ap (λ (l : ℕ). first_outside (data_field fr) at l n) h.long;
        registers = refl;
        mem = stores-agree (data_field fr) at val n sh.mem sh'.mem h;
      }
  perform-same parcels leaves_normally = idle-same NormalExit
  perform-same parcels leaves_by_error = idle-same ErrorExit

  done-same : (p : ℕ) (o : Present) → Same P (done_with fr r p sh o) (done_with fr r p sh' o)
  unfolding done_with
  done-same p has_none = idle-same (no_parcel (user fr))
  done-same p present.not_held = idle-same NotHeld
  done-same p (has_instr n x m parcels) = perform-same parcels (act r (status_of fr r) x m (onward p parcels) n)

  pub work-same : (p : ℕ) → Same P (work_of fr r p sh) (work_of fr r p sh')
  unfolding work_of
  work-same p =
      let fetched : (q : ℕ) → fetch_of fr sh.mem q ≡ fetch_of fr sh'.mem q
      = λ q. fetch-agree fr len sh.mem sh'.mem q long (weaken (λ w i. own w (inl i)) h) in
      rw (present-same fr sh.mem sh'.mem fetched p) (done-same p (present_of fr sh'.mem p))

-- the work changes only words of the data field
perform-only : (fr : Frame) (r : Registers) (parcels len : ℕ) (sh : Shared) (a : Act) → length sh.mem ≡ len
    → Only (In (data_field fr) len) sh.mem (perform fr r parcels sh a).shared.mem
unfolding perform
perform-only fr r parcels len sh (does put) e = itself sh.mem
perform-only fr r parcels len sh (goes q put) e = itself sh.mem
perform-only fr r parcels len sh (reads_words n at put) e = itself sh.mem
perform-only fr r parcels len sh (writes_words n at val) e = stores-only (data_field fr) len at val n sh.mem e
perform-only fr r parcels len sh leaves_normally e = itself sh.mem
perform-only fr r parcels len sh leaves_by_error e = itself sh.mem

pub work-only : (fr : Frame) (r : Registers) (p len : ℕ) (sh : Shared) → length sh.mem ≡ len
    → Only (In (data_field fr) len) sh.mem (work_of fr r p sh).shared.mem
work-only fr r p len sh e =
    work-all fr r p sh (λ d. Only (In (data_field fr) len) sh.mem d.shared.mem)
    (λ n x m parcels h. perform-only fr r parcels len sh _ e) (itself sh.mem) (itself sh.mem)

-- a step that stepped is its work, and P goes to q
abbrev GoesTo : State → Work → Option Stray → Registers → Type 0
GoesTo x w s r = (q : ParcelAddr) × ((sh : Shared) → finish x w s r sh ≡ stepped x.frame r q s sh)

-- an operand outside may end it, as the mode and IOR say
ranged-next : (fr : Frame) (r : Registers) (p : ℕ) (s : Option Stray) (sh : Shared) → (ranged fr r p s sh).answer ≡ Stepped
    → (i : Shared) → ranged fr r p s i ≡ stepped fr r (addr p) s i
unfolding ranged exchange
ranged-next fr r p s sh e i = go (user fr && eqb r.ior 1) e
  where
    go : (t : Bool) → (pick t (exchange fr r p operand_range s sh) (stepped fr r (addr p) s sh)).answer ≡ Stepped
        → pick t (exchange fr r p operand_range s i) (stepped fr r (addr p) s i) ≡ stepped fr r (addr p) s i
    go true e = cc
    go false e = refl

finish-next : (x : State) (w : Work) (s : Option Stray) (r : Registers) (sh : Shared) → (finish x w s r sh).answer ≡ Stepped → GoesTo x w s r
unfolding finish exchange
finish-next x PastOne s r sh e = (_, λ i. refl)
finish-next x PastTwo s r sh e = (_, λ i. refl)
finish-next x StrayedOne s r sh e = (_, ranged-next x.frame r (onward x.p.0 1) s sh e)
finish-next x StrayedTwo s r sh e = (_, ranged-next x.frame r (onward x.p.0 2) s sh e)
finish-next x (To q) s r sh e = (q, λ i. refl)
finish-next x NormalExit s r sh e = cc
finish-next x ErrorExit s r sh e = cc
finish-next x ProgramRange s r sh e = cc
finish-next x NotHeld s r sh e = cc
finish-next x MonitorFetch s r sh e = cc

abbrev work_at : State → Shared → Done
work_at x sh = work_of x.frame x.registers x.p.0 sh

abbrev Next : State → Shared → Type 0
Next x sh = GoesTo x (work_at x sh).work (work_at x sh).stray (work_at x sh).registers

step-next : (x : State) (sh : Shared) → (step_of x sh).answer ≡ Stepped → Next x sh
unfolding step_of finish_of
step-next x sh e = finish-next x (work_at x sh).work (work_at x sh).stray (work_at x sh).registers (work_at x sh).shared e

-- from what is shared as sh' too, where the work ends alike
step-work : (x : State) (sh sh' : Shared) (n : Next x sh) → (work_at x sh).work ≡ (work_at x sh').work
    → (work_at x sh).stray ≡ (work_at x sh').stray → (work_at x sh).registers ≡ (work_at x sh').registers
    → step_of x sh' ≡ stepped x.frame (work_at x sh).registers n.0 (work_at x sh).stray (work_at x sh').shared
unfolding step_of finish_of
step-work x sh sh' n w s r = rw (← w, ← s, ← r) (n.1 (work_at x sh').shared)

-- so it keeps its frame, and changes only words of the data field
pub step-frame : (x : State) (sh : Shared) → (step_of x sh).answer ≡ Stepped → (step_of x sh).state.frame ≡ x.frame
step-frame x sh e = rw (step-work x sh sh (step-next x sh e) refl refl refl)

pub step-only : (x : State) (len : ℕ) (sh : Shared) → length sh.mem ≡ len → (step_of x sh).answer ≡ Stepped
    → Only (In (data_field x.frame) len) sh.mem (step_of x sh).shared.mem
step-only x len sh l e =
    rw (step-work x sh sh (step-next x sh e) refl refl refl) (work-only x.frame x.registers x.p.0 len sh l)

-- and it is the same step in a memory that agrees on its fields, and perhaps on more
pub record SameStep (P : ℕ → Type 0) (x : State) (sh sh' : Shared) : Type 0 where
  pub answer : (step_of x sh').answer ≡ Stepped
  pub stray : (step_of x sh').stray ≡ (step_of x sh).stray
  pub state : (step_of x sh').state ≡ (step_of x sh).state
  pub mem : Agree P (step_of x sh).shared.mem (step_of x sh').shared.mem

pub step_same : (P : ℕ → Type 0) (x : State) (len : ℕ) (sh sh' : Shared) → ((w : ℕ) → Own x.frame len w → P w) → length sh.mem ≡ len
    → Agree P sh.mem sh'.mem → (step_of x sh).answer ≡ Stepped → SameStep P x sh sh'
step_same P x len sh sh' own l h e =
    let n = step-next x sh e in
    let s = work-same x.frame x.registers P len own sh sh' l h x.p.0 in
    let t = step-work x sh sh n refl refl refl in
    let t' = step-work x sh sh' n s.work s.stray s.registers in
    record { answer = rw t'; stray = rw (t, t'); state = rw (t, t'); mem = rw (t, t') s.mem }
