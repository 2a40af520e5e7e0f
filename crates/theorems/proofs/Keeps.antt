-- A step changes only words of its data field and of the package that its XA names, and keeps all lengths. Assumes nothing.
use Prim.Native.Nat.{ℕ, zero, suc, ◌+◌, ◌*◌, ◌%◌}
use mathlib.Core.Path.{◌≡◌, refl, ◌∙◌}
use mathlib.Core.Logic.{inl, inr}
use mathlib.Core.Bool.{◌&&◌}
use mathlib.Core.List.{List}
use native.Mathlib.Omega.{arith}
use lib.ListN.{length, length-set}
use lib.Dec.{eqb}
use Rattle.std.specs.Prelude.{Option}
use Rattle.machine.specs.declared.Stray.{Stray}
use Rattle.machine.specs.declared.Work.{Work}
use Rattle.machine.specs.declared.Work.TheVariants.{PastOne, PastTwo, To, NormalExit, ErrorExit, StrayedOne, StrayedTwo, ProgramRange, NotHeld, MonitorFetch}
use Rattle.machine.specs.Parcel.{onward}
use Rattle.machine.specs.State.{Frame, Registers, State, Shared, user, ring, Put, nothing, to_a, to_s, to_b, to_t}
use Rattle.machine.specs.State.{to_bs, to_ts, to_v, to_element, to_vl, to_vm, to_xa, to_ior, to_bdm, apply}
use Rattle.machine.specs.Memory.{data_field, load}
use Rattle.machine.specs.Act.{Act, does, goes, reads_words, writes_words, leaves_normally, leaves_by_error}
use Rattle.machine.specs.Work.{perform, status_of, work_of}
use Rattle.machine.specs.Exchange.{save, loaded}
use Rattle.machine.specs.Step.{Out, exchange, ranged, finish, finish_of, step_of}
use Rattle.access.proofs.Places.{fill-other, fill-length}
use Rattle.laws.proofs.Below.{picked}
use Rattle.laws.proofs.Acts.{Filed, ActOk, act-ok}
use Rattle.laws.proofs.Laws.{work-all}
use Rattle.theorems.specs.Keeps.{Package, Touches, Sized}
use Rattle.theorems.proofs.Agree.{Only, itself, chain, weaken}
use Rattle.theorems.proofs.Step.{work-only}

-- a list keeps its length
ring-length : (at : ℕ) (f : ℕ → ℕ) (n : ℕ) (l : List ℕ) → length (ring at f n l) ≡ length l
unfolding ring
ring-length at f zero l = refl
ring-length at f (suc n) l = length-set (ring at f n l) ((at + n) % 64) (f n) ∙ ring-length at f n l

-- an exchange or a stop may follow
abbrev Ends : Work → Type 0
Ends PastOne = ⊥
Ends PastTwo = ⊥
Ends (To q) = ⊥
Ends NormalExit = Unit {0}
Ends ErrorExit = Unit {0}
Ends StrayedOne = Unit {0}
Ends StrayedTwo = Unit {0}
Ends ProgramRange = Unit {0}
Ends NotHeld = Unit {0}
Ends MonitorFetch = Unit {0}

-- there XA is as it was: 0013j0, which sets it, goes on, and what is read from memory goes elsewhere; it does not set IOR either
pub apply-filed : (u : Put) (r : Registers) → Filed u → ((apply u r).xa ≡ r.xa) × ((apply u r).ior ≡ r.ior)
unfolding apply
apply-filed nothing r h = (refl, refl)
apply-filed (to_a i x) r h = (refl, refl)
apply-filed (to_s i x) r h = (refl, refl)
apply-filed (to_b jk x) r h = (refl, refl)
apply-filed (to_t jk x) r h = (refl, refl)
apply-filed (to_bs first n x) r h = (refl, refl)
apply-filed (to_ts first n x) r h = (refl, refl)
apply-filed (to_v i x) r h = (refl, refl)
apply-filed (to_element i e x) r h = (refl, refl)
apply-filed (to_vl x) r h = (refl, refl)
apply-filed (to_vm x) r h = (refl, refl)
apply-filed (to_xa x) r h = absurd h
apply-filed (to_ior x) r h = absurd h
apply-filed (to_bdm x) r h = (refl, refl)

perform-xa : (fr : Frame) (r : Registers) (parcels : ℕ) (sh : Shared) (a : Act) → ActOk ⊥ a → Ends (perform fr r parcels sh a).work
    → (perform fr r parcels sh a).registers.xa ≡ r.xa
unfolding perform
perform-xa fr r parcels sh (does put) h e = absurd (picked (λ w. Ends w → ⊥) (eqb parcels 1) (λ z. z) (λ z. z) e)
perform-xa fr r parcels sh (goes q put) h e = absurd e
perform-xa fr r parcels sh (reads_words n at put) h e =
    let word : ℕ → ℕ = λ i. load (data_field fr) sh.mem (at i) in
    (apply-filed (put word) r (h word).0).0
perform-xa fr r parcels sh (writes_words n at val) h e = refl
perform-xa fr r parcels sh leaves_normally h e = refl
perform-xa fr r parcels sh leaves_by_error h e = refl

work-xa : (fr : Frame) (r : Registers) (p : ℕ) (sh : Shared) → Ends (work_of fr r p sh).work → (work_of fr r p sh).registers.xa ≡ r.xa
work-xa fr r p sh =
    work-all fr r p sh (λ d. Ends d.work → d.registers.xa ≡ r.xa)
    (λ n x m parcels h. perform-xa fr r parcels sh _ (act-ok ⊥ r (status_of fr r) x m (onward p parcels) (λ z. absurd z) n)) (λ e. refl) (λ e. refl)

save-only : (fr : Frame) (r : Registers) (p flags x : ℕ) (m : List ℕ) → Only (Package x) m (save fr r p flags x m)
unfolding save
save-only fr r p flags x m = record { long = fill-length _ _ 16 m; same = λ w out. fill-other _ _ 16 m w (λ e l z. out (omega (arith, l, z))) }

ranged-only : (fr : Frame) (r : Registers) (p : ℕ) (s : Option Stray) (sh : Shared) → Only (Package r.xa) sh.mem (ranged fr r p s sh).shared.mem
unfolding ranged exchange
ranged-only fr r p s sh =
    picked (λ (o : Out). Only (Package r.xa) sh.mem o.shared.mem) (user fr && eqb r.ior 1)
    (save-only fr r p _ r.xa sh.mem) (itself sh.mem)

finish-only : (st : State) (w : Work) (s : Option Stray) (r : Registers) (sh : Shared) (x : ℕ) → (Ends w → r.xa ≡ x)
    → Only (Package x) sh.mem (finish st w s r sh).shared.mem
unfolding finish exchange
finish-only st PastOne s r sh x e = itself sh.mem
finish-only st PastTwo s r sh x e = itself sh.mem
finish-only st (To q) s r sh x e = itself sh.mem
finish-only st NormalExit s r sh x e = rw (← (e tt)) (save-only _ r _ _ r.xa sh.mem)
finish-only st ErrorExit s r sh x e = rw (← (e tt)) (save-only _ r _ _ r.xa sh.mem)
finish-only st StrayedOne s r sh x e = rw (← (e tt)) (ranged-only st.frame r _ s sh)
finish-only st StrayedTwo s r sh x e = rw (← (e tt)) (ranged-only st.frame r _ s sh)
finish-only st ProgramRange s r sh x e = rw (← (e tt)) (save-only _ r _ _ r.xa sh.mem)
finish-only st NotHeld s r sh x e = itself sh.mem
finish-only st MonitorFetch s r sh x e = itself sh.mem

pub step-touches : (st : State) (sh : Shared) → Only (Touches st (length sh.mem)) sh.mem (step_of st sh).shared.mem
unfolding step_of finish_of
step-touches st sh =
    let fr = st.frame in
    let r = st.registers in
    let p = st.p.0 in
    let d = work_of fr r p sh in
    chain (weaken (λ w out p. out (inr p)) (finish-only st d.work d.stray d.registers d.shared r.xa (work-xa fr r p sh)))
    (weaken (λ w out p. out (inl p)) (work-only fr r p (length sh.mem) sh refl))

-- memory keeps its length
pub step-length : (st : State) (sh : Shared) → length (step_of st sh).shared.mem ≡ length sh.mem
step-length st sh = (step-touches st sh).long

-- and so do the register files
apply-sized : (u : Put) (r : Registers) → Sized r → Sized (apply u r)
unfolding apply
apply-sized nothing r z = z
apply-sized (to_a i x) r z = record { a = length-set r.a i x ∙ z.a; s = z.s; b = z.b; t = z.t; v = z.v }
apply-sized (to_s i x) r z = record { a = z.a; s = length-set r.s i x ∙ z.s; b = z.b; t = z.t; v = z.v }
apply-sized (to_b jk x) r z = record { a = z.a; s = z.s; b = length-set r.b jk x ∙ z.b; t = z.t; v = z.v }
apply-sized (to_t jk x) r z = record { a = z.a; s = z.s; b = z.b; t = length-set r.t jk x ∙ z.t; v = z.v }
apply-sized (to_bs first n x) r z = record { a = z.a; s = z.s; b = ring-length first x n r.b ∙ z.b; t = z.t; v = z.v }
apply-sized (to_ts first n x) r z = record { a = z.a; s = z.s; b = z.b; t = ring-length first x n r.t ∙ z.t; v = z.v }
apply-sized (to_v i x) r z = record { a = z.a; s = z.s; b = z.b; t = z.t; v = fill-length (i * 64) x r.vl r.v ∙ z.v }
apply-sized (to_element i e x) r z = record { a = z.a; s = z.s; b = z.b; t = z.t; v = length-set r.v (i * 64 + e) x ∙ z.v }
apply-sized (to_vl x) r z = record { a = z.a; s = z.s; b = z.b; t = z.t; v = z.v }
apply-sized (to_vm x) r z = record { a = z.a; s = z.s; b = z.b; t = z.t; v = z.v }
apply-sized (to_xa x) r z = record { a = z.a; s = z.s; b = z.b; t = z.t; v = z.v }
apply-sized (to_ior x) r z = record { a = z.a; s = z.s; b = z.b; t = z.t; v = z.v }
apply-sized (to_bdm x) r z = record { a = z.a; s = z.s; b = z.b; t = z.t; v = z.v }

perform-sized : (fr : Frame) (r : Registers) (parcels : ℕ) (sh : Shared) (a : Act) → Sized r → Sized (perform fr r parcels sh a).registers
unfolding perform
perform-sized fr r parcels sh (does put) z = apply-sized put r z
perform-sized fr r parcels sh (goes q put) z = apply-sized put r z
perform-sized fr r parcels sh (reads_words n at put) z = apply-sized (put (λ e. load (data_field fr) sh.mem (at e))) r z
perform-sized fr r parcels sh (writes_words n at val) z = z
perform-sized fr r parcels sh leaves_normally z = z
perform-sized fr r parcels sh leaves_by_error z = z

loaded-sized : (m : List ℕ) (x : ℕ) (r : Registers) (fr : Frame) → Sized r → Sized (loaded m x r fr).registers
unfolding loaded
loaded-sized m x r fr z = record { a = refl; s = refl; b = z.b; t = z.t; v = z.v }

ranged-sized : (fr : Frame) (r : Registers) (p : ℕ) (s : Option Stray) (sh : Shared) → Sized r → Sized (ranged fr r p s sh).state.registers
unfolding ranged exchange
ranged-sized fr r p s sh z =
    picked (λ (o : Out). Sized o.state.registers) (user fr && eqb r.ior 1) (loaded-sized sh.mem r.xa r fr z) z

finish-sized : (st : State) (w : Work) (s : Option Stray) (r : Registers) (sh : Shared) → Sized st.registers → Sized r → Sized (finish st w s r sh).state.registers
unfolding finish exchange
finish-sized st PastOne s r sh z y = y
finish-sized st PastTwo s r sh z y = y
finish-sized st (To q) s r sh z y = y
finish-sized st NormalExit s r sh z y = loaded-sized sh.mem r.xa r st.frame y
finish-sized st ErrorExit s r sh z y = loaded-sized sh.mem r.xa r st.frame y
finish-sized st StrayedOne s r sh z y = ranged-sized st.frame r _ s sh y
finish-sized st StrayedTwo s r sh z y = ranged-sized st.frame r _ s sh y
finish-sized st ProgramRange s r sh z y = loaded-sized sh.mem r.xa r st.frame y
finish-sized st NotHeld s r sh z y = z
finish-sized st MonitorFetch s r sh z y = z

pub step-sized : (st : State) (sh : Shared) → Sized st.registers → Sized (step_of st sh).state.registers
unfolding step_of finish_of
step-sized st sh z =
    let fr = st.frame in
    let r = st.registers in
    let d = work_of fr r st.p.0 sh in
    finish-sized st d.work d.stray d.registers d.shared z
    (work-all fr r st.p.0 sh (λ d. Sized d.registers) (λ n x m parcels h. perform-sized fr r parcels sh _ z) z z)
