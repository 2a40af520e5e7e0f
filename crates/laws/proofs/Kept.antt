-- Every number keeps its width, so that what a start, a step, a turn, a run or a pair run leaves is met neither by refusal 4 nor by 7. The 64
-- bits of S, T, V, VM and memory, which no refusal asks, belong to it: 026 counts the ones of an S into an A. Assumes nothing.
use Prim.Native.Nat.{ℕ, zero, suc, ◌+◌, ◌*◌, ◌%◌, ◌^◌, ◌<◌}
use mathlib.Core.Path.{◌≡◌, refl, ◌∙◌}
use mathlib.Core.Bool.{true, ◌&&◌}
use mathlib.Core.List.{List, [], ◌∷◌}
use native.Mathlib.Omega.{arith}
use lib.ListN.{get_or}
use lib.Dec.{eqb}
use lib.Pow.{pow_pos}
use borrow.Author.Tests.{le-ltb}
use Rattle.std.specs.Prelude.{Option, Some, Ok}
use Rattle.machine.specs.declared.Stray.{Stray}
use Rattle.machine.specs.declared.Work.{Work}
use Rattle.machine.specs.declared.Work.TheVariants as work
use Rattle.machine.specs.Word.{pick}
use Rattle.machine.specs.Parcel.{onward}
use Rattle.machine.specs.State.{Frame, Registers, State, Shared, addr, user, si, Put, nothing, to_a, to_s, to_b}
use Rattle.machine.specs.State.{to_t, to_bs, to_ts, to_v, to_element, to_vl, to_vm, to_xa, to_ior, to_bdm, apply}
use Rattle.machine.specs.Memory.{data_field, load, or_else}
use Rattle.machine.specs.Act.{Instr, Act, does, goes, reads_words, writes_words, leaves_normally, leaves_by_error, act}
use Rattle.machine.specs.Work.{Done, perform, status_of, work_of}
use Rattle.machine.specs.Exchange.{package_of, save, package_word, loaded}
use Rattle.machine.specs.Step.{Out, exchange, ranged, finish, finish_of, step_of, stops, goes_on, counted}
use Rattle.machine.specs.Run.{Last, blank_registers, blank_frame, start_of, Turned, turn_of, Ended, run_of, Half, half_after, PairEnded, pair_of}
use Rattle.machine.specs.Refusal.{below, state_fits, memory_fits, first_due, step_refusal}
use Rattle.access.specs.Executed.{FrameOk, ControlOk}
use Rattle.access.proofs.Fits.{Fit, fit, fits}
use Rattle.laws.proofs.Below.{picked, pick-lt, low, below-cons, below_set, below-get_or}
use Rattle.laws.proofs.Below.{below-fill, below-ring, below-stores, below-eight, below-zeros, load_lt}
use Rattle.laws.proofs.Acts.{ListsOk, PutOk, ActOk, act-ok}
use Rattle.laws.proofs.Laws.{work-all, Narrow, work-p, work-ok, loaded-ok}

-- ---- the work of a step

-- that what is written fits is known
abbrev Known : Type 0
Known = Unit {0}

apply-lists : (u : Put) (r : Registers) → PutOk Known u → ListsOk r → ListsOk (apply u r)
unfolding apply
apply-lists nothing r h k = k
apply-lists (to_a i x) r h k = record { a = below_set (2 ^ 24) r.a i x k.a (h tt); s = k.s; b = k.b; t = k.t; v = k.v; vm = k.vm }
apply-lists (to_s i x) r h k = record { a = k.a; s = below_set (2 ^ 64) r.s i x k.s (h tt); b = k.b; t = k.t; v = k.v; vm = k.vm }
apply-lists (to_b jk x) r h k = record { a = k.a; s = k.s; b = below_set (2 ^ 24) r.b jk x k.b (h tt); t = k.t; v = k.v; vm = k.vm }
apply-lists (to_t jk x) r h k = record { a = k.a; s = k.s; b = k.b; t = below_set (2 ^ 64) r.t jk x k.t (h tt); v = k.v; vm = k.vm }
apply-lists (to_bs first n x) r h k =
    record { a = k.a; s = k.s; b = below-ring (2 ^ 24) x (h tt) first n r.b k.b; t = k.t; v = k.v; vm = k.vm }
apply-lists (to_ts first n x) r h k =
    record { a = k.a; s = k.s; b = k.b; t = below-ring (2 ^ 64) x (h tt) first n r.t k.t; v = k.v; vm = k.vm }
apply-lists (to_v i x) r h k =
    record { a = k.a; s = k.s; b = k.b; t = k.t; v = below-fill (2 ^ 64) x (h tt) (i * 64) r.vl r.v k.v; vm = k.vm }
apply-lists (to_element i e x) r h k =
    record { a = k.a; s = k.s; b = k.b; t = k.t; v = below_set (2 ^ 64) r.v (i * 64 + e) x k.v (h tt); vm = k.vm }
apply-lists (to_vl x) r h k = k
apply-lists (to_vm x) r h k = record { a = k.a; s = k.s; b = k.b; t = k.t; v = k.v; vm = h tt }
apply-lists (to_xa x) r h k = k
apply-lists (to_ior x) r h k = k
apply-lists (to_bdm x) r h k = k

-- the lists and memory after the work of a step
abbrev DoneOk : Done → Type 0
DoneOk d = ListsOk d.registers × (below (2 ^ 64) d.shared.mem ≡ true)

perform-lists : (fr : Frame) (r : Registers) (parcels : ℕ) (sh : Shared) (a : Act) → ActOk Known a → ListsOk r → below (2 ^ 64) sh.mem ≡ true
    → DoneOk (perform fr r parcels sh a)
unfolding perform
perform-lists fr r parcels sh (does put) h k e = (apply-lists put r h k, e)
perform-lists fr r parcels sh (goes q put) h k e = (apply-lists put r h k, e)
perform-lists fr r parcels sh (reads_words n at put) h k e =
    let word : ℕ → ℕ = λ i. load (data_field fr) sh.mem (at i) in
    (apply-lists (put word) r ((h word).1 (λ l i. load_lt (data_field fr) sh.mem (at i) e)) k, e)
perform-lists fr r parcels sh (writes_words n at val) h k e = (k, below-stores (2 ^ 64) val (h tt) (data_field fr) at n sh.mem e)
perform-lists fr r parcels sh leaves_normally h k e = (k, e)
perform-lists fr r parcels sh leaves_by_error h k e = (k, e)

-- what the status word tells in monitor mode alone
pub own-lt : (fr : Frame) → fr.processor < 2 → fr.cln < 4 → pick (eqb fr.mm 0) 0 (fr.processor * 2 ^ 40 + fr.cln * 2 ^ 32) < 2 ^ 41
own-lt fr n c = pick-lt (eqb fr.mm 0) (omega arith) (omega arith)

status-lt : (fr : Frame) (r : Registers) → FrameOk fr → fr.processor < 2 → ControlOk r → status_of fr r < 2 ^ 64
unfolding status_of
status-lt fr r f n c =
    let h : pick (eqb fr.cln 0) 0 (2 ^ 63) < 2 ^ 63 + 1 = pick-lt (eqb fr.cln 0) (omega arith) (omega arith) in
    omega (arith, f, c, own-lt fr n f.cln)

work-lists : (fr : Frame) (r : Registers) (p : ℕ) (sh : Shared) → FrameOk fr → fr.processor < 2 → ControlOk r → ListsOk r → below (2 ^ 64) sh.mem ≡ true
    → DoneOk (work_of fr r p sh)
work-lists fr r p sh f n c k e = work-all fr r p sh DoneOk acts (k, e) (k, e)
  where
    acts : (i : Instr) (x m parcels : ℕ) → m < 2 ^ 16 → DoneOk (perform fr r parcels sh (act r (status_of fr r) x m (onward p parcels) i))
    acts i x m parcels h =
        perform-lists fr r parcels sh _
        (act-ok Known r (status_of fr r) x m (onward p parcels)
        (λ y. record { most = c.most; lists = k; word = status-lt fr r f n c; second = h; narrow = low (p + parcels) 24 }) i)
        k e

-- ---- a state that fits

-- every number of a processor has its width: what the refusals ask, and 64 bits of the rest
pub record Held (st : State) : Type 0 where
  pub fits : state_fits st ≡ true
  pub processor : st.frame.processor < 2
  pub s : below (2 ^ 64) st.registers.s ≡ true
  pub t : below (2 ^ 64) st.registers.t ≡ true
  pub v : below (2 ^ 64) st.registers.v ≡ true
  pub vm : st.registers.vm < 2 ^ 64

held-fit : (st : State) → Held st → Fit st
held-fit st h = fit st h.fits

held-lists : (st : State) → Held st → ListsOk st.registers
held-lists st h =
    let f = held-fit st h in
    record { a = f.a; s = h.s; b = f.b; t = h.t; v = h.v; vm = h.vm }

-- so no step of it is refused, but for the length of memory
pub held-allowed : (len : ℕ) (st : State) → memory_fits len ≡ true → Held st → step_refusal len st ≡ 0
unfolding step_refusal first_due
held-allowed len st e h = rw (e, le-ltb 1 st.frame.processor (omega (arith, h.processor)), h.fits)

-- ---- what a package loads

pub loaded-fits : (mem : List ℕ) (x : ℕ) (r : Registers) (fr : Frame) → below (2 ^ 24) r.b ≡ true → state_fits (loaded mem x r fr) ≡ true
unfolding loaded
loaded-fits mem x r fr b =
    let k = loaded-ok mem x r fr in
    let w = package_word mem x in
    fits (loaded mem x r fr)
    (record { p = k.2; a = below-eight (2 ^ 24) (λ n. w n % 2 ^ 24) (λ n. low (w n) 24); b = b; control = k.0; frame = k.1 })

pub start_fits : (mem : List ℕ) (x n : ℕ) → state_fits (start_of mem x n) ≡ true
unfolding start_of
start_fits mem x n = loaded-fits mem x blank_registers (blank_frame n) (below-zeros 24 64)

loaded-held : (mem : List ℕ) (x : ℕ) (r : Registers) (fr : Frame) → ListsOk r → fr.processor < 2 → below (2 ^ 64) mem ≡ true → Held (loaded mem x r fr)
unfolding loaded
loaded-held mem x r fr k n e =
    record {
      fits = loaded-fits mem x r fr k.b;
      processor = n;
      s = below-eight (2 ^ 64) (λ i. package_word mem x (8 + i)) (λ i. below-get_or 64 mem (x * 16 + (8 + i)) e);
      t = k.t;
      v = k.v;
      vm = k.vm;
    }

pub start-held : (mem : List ℕ) (x n : ℕ) → n < 2 → below (2 ^ 64) mem ≡ true → Held (start_of mem x n)
unfolding start_of
start-held mem x n l e =
    loaded-held mem x blank_registers (blank_frame n)
    (record { a = below-zeros 24 8; s = below-zeros 64 8; b = below-zeros 24 64; t = below-zeros 64 64; v = below-zeros 64 512; vm = pow_pos 64 }) l e

-- ---- what an exchange saves

package-words : (fr : Frame) (r : Registers) (p flags : ℕ) → FrameOk fr → ControlOk r → ListsOk r → p < 2 ^ 24 → flags < 2 ^ 9
    → below (2 ^ 64) (package_of fr r p flags) ≡ true
package-words fr r p flags f c k l h =
    below-cons _ _ _ (omega (arith, f, c))
    (below-cons _ _ _ (omega (arith, f, c))
    (below-cons _ _ _ (omega (arith, f, c))
    (below-cons _ _ _ (omega (arith, f, c))
    (below-cons _ _ _ (omega (arith, f, c))
    (below-cons _ _ _ (omega (arith, f, c))
    (below-cons _ _ _ (omega (arith, f, c))
    (below-cons _ _ _ (omega (arith, f, c))
    (below-eight (2 ^ 64) (λ i. si r i) (λ i. below-get_or 64 r.s i k.s)))))))))

-- ---- a step

-- a processor and memory
abbrev HeldIn : State → Shared → Type 0
HeldIn st sh = Held st × (below (2 ^ 64) sh.mem ≡ true)

module _ (st : State) (r : Registers) (sh : Shared) (h : Held st) (c : ControlOk r) (k : ListsOk r) (e : below (2 ^ 64) sh.mem ≡ true) where
  exchange-held : (p flags : ℕ) (s : Option Stray) → p < 2 ^ 24 → flags < 2 ^ 9
      → HeldIn (exchange st.frame r p flags s sh).state (exchange st.frame r p flags s sh).shared
  unfolding exchange save
  exchange-held p flags s l g =
      let words = package_of st.frame r p flags in
      let narrow = package-words st.frame r p flags (held-fit st h).frame c k l g in
      let saved = below-fill (2 ^ 64) (λ n. get_or words n 0) (λ n. below-get_or 64 words n narrow) (r.xa * 16) 16 sh.mem e in
      (loaded-held sh.mem r.xa r st.frame k h.processor e, saved)

  -- P goes to q
  goes-held : (q : ℕ) → q < 2 ^ 24 → Held (record { p = addr q; registers = r; frame = st.frame })
  goes-held q n =
      record {
        fits = fits _ (record { p = n; a = k.a; b = k.b; control = c; frame = (held-fit st h).frame });
        processor = h.processor;
        s = k.s;
        t = k.t;
        v = k.v;
        vm = k.vm;
      }

  -- after an operand outside
  ranged-held : (p : ℕ) (s : Option Stray) → p < 2 ^ 24 → HeldIn (ranged st.frame r p s sh).state (ranged st.frame r p s sh).shared
  unfolding ranged
  ranged-held p s l =
      picked (λ (o : Out). HeldIn o.state o.shared) (user st.frame && eqb r.ior 1) (exchange-held p _ s l (omega arith)) (goes-held p l, e)

  finish-held : (w : Work) (s : Option Stray) → Narrow w → HeldIn (finish st w s r sh).state (finish st w s r sh).shared
  unfolding finish
  finish-held work.PastOne s n = (goes-held _ (low _ 24), e)
  finish-held work.PastTwo s n = (goes-held _ (low _ 24), e)
  finish-held (work.To q) s n = (goes-held q.0 n, e)
  finish-held work.NormalExit s n = exchange-held _ _ s (low _ 24) (pick-lt (user st.frame) (omega arith) (omega arith))
  finish-held work.ErrorExit s n = exchange-held _ _ s (low _ 24) (pick-lt (user st.frame) (omega arith) (omega arith))
  finish-held work.StrayedOne s n = ranged-held _ s (low _ 24)
  finish-held work.StrayedTwo s n = ranged-held _ s (low _ 24)
  finish-held work.ProgramRange s n = exchange-held _ _ s (held-fit st h).p (omega arith)
  finish-held work.NotHeld s n = (h, e)
  finish-held work.MonitorFetch s n = (h, e)

pub step_fits : (st : State) (sh : Shared) → Held st → below (2 ^ 64) sh.mem ≡ true
    → Held (step_of st sh).state × (below (2 ^ 64) (step_of st sh).shared.mem ≡ true)
unfolding step_of finish_of
step_fits st sh h e =
    let fr = st.frame in
    let r = st.registers in
    let p = st.p.0 in
    let d = work_of fr r p sh in
    let f = held-fit st h in
    let lists = work-lists fr r p sh f.frame h.processor f.control (held-lists st h) e in
    finish-held st d.registers d.shared h (work-ok fr r p sh f.control) lists.0 lists.1 d.work d.stray (work-p fr r p sh refl)

-- the processor's number stays, whatever the state
ranged-processor : (fr : Frame) (r : Registers) (p : ℕ) (s : Option Stray) (sh : Shared) → (ranged fr r p s sh).state.frame.processor ≡ fr.processor
unfolding ranged exchange loaded
ranged-processor fr r p s sh = picked (λ (o : Out). o.state.frame.processor ≡ fr.processor) (user fr && eqb r.ior 1) refl refl

finish-processor : (st : State) (w : Work) (s : Option Stray) (r : Registers) (sh : Shared) → (finish st w s r sh).state.frame.processor ≡ st.frame.processor
unfolding finish exchange loaded
finish-processor st work.PastOne s r sh = refl
finish-processor st work.PastTwo s r sh = refl
finish-processor st (work.To q) s r sh = refl
finish-processor st work.NormalExit s r sh = refl
finish-processor st work.ErrorExit s r sh = refl
finish-processor st work.StrayedOne s r sh = ranged-processor st.frame r _ s sh
finish-processor st work.StrayedTwo s r sh = ranged-processor st.frame r _ s sh
finish-processor st work.ProgramRange s r sh = refl
finish-processor st work.NotHeld s r sh = refl
finish-processor st work.MonitorFetch s r sh = refl

pub step-processor : (st : State) (sh : Shared) → (step_of st sh).state.frame.processor ≡ st.frame.processor
unfolding step_of finish_of
step-processor st sh =
    let d = work_of st.frame st.registers st.p.0 sh in
    finish-processor st d.work d.stray d.registers d.shared

-- ---- turns, runs and pair runs

-- what every step keeps, a turn keeps, and a run
module _ (Q : State → Shared → Type 0) (step : (st : State) (sh : Shared) → Q st sh → Q (step_of st sh).state (step_of st sh).shared) where
  pub turn-keeps : (budget : ℕ) (l : Last) (s : Option Stray) (n : ℕ) (st : State) (sh : Shared) → Q st sh → Q
      (turn_of budget l s n st sh).state (turn_of budget l s n st sh).shared
  unfolding turn_of
  turn-keeps zero l s n st sh q = q
  turn-keeps (suc budget) l s n st sh q =
      let o = step_of st sh in
      picked (λ (e : Turned). Q e.state e.shared) (goes_on o.answer)
      (turn-keeps budget (Ok (Some o.answer)) (or_else o.stray s) (n + counted o.answer) o.state o.shared (step st sh q)) (step st sh q)

  pub run-keeps : (budget : ℕ) (s : Option Stray) (n : ℕ) (st : State) (sh : Shared) → Q st sh → Q (run_of budget s n st sh).state (run_of budget s n st sh).shared
  unfolding run_of
  run-keeps zero s n st sh q = q
  run-keeps (suc budget) s n st sh q =
      let o = step_of st sh in
      picked (λ (e : Ended). Q e.state e.shared) (stops o.answer)
      (step st sh q) (run-keeps budget (or_else o.stray s) (n + counted o.answer) o.state o.shared (step st sh q))

-- and what every step of either keeps, a pair run
module _ (Q : State → State → Shared → Type 0)
    (first : (x y : State) (sh : Shared) → Q x y sh → Q (step_of x sh).state y (step_of x sh).shared)
    (second : (x y : State) (sh : Shared) → Q x y sh → Q x (step_of y sh).state (step_of y sh).shared) where
  pub pair_keeps : (bytes : List ℕ) (l : Last) (n : ℕ) (x y : Half) (sh : Shared) → Q x.state y.state sh
      → Q (pair_of bytes l n x y sh).first.state (pair_of bytes l n x y sh).second.state (pair_of bytes l n x y sh).shared
  unfolding pair_of
  pair_keeps [] l n x y sh q = q
  pair_keeps (zero ∷ bytes) l n x y sh q =
      let o = step_of x.state sh in
      let k = first x.state y.state sh q in
      picked (λ (e : PairEnded). Q e.first.state e.second.state e.shared) (goes_on o.answer)
      (pair_keeps bytes (Ok (Some o.answer)) (n + counted o.answer) (half_after x o) y o.shared k) k
  pair_keeps (suc b ∷ bytes) l n x y sh q =
      let o = step_of y.state sh in
      let k = second x.state y.state sh q in
      picked (λ (e : PairEnded). Q e.first.state e.second.state e.shared) (goes_on o.answer)
      (pair_keeps bytes (Ok (Some o.answer)) (n + counted o.answer) x (half_after y o) o.shared k) k

held-step : (st : State) (sh : Shared) → HeldIn st sh → HeldIn (step_of st sh).state (step_of st sh).shared
held-step st sh k = step_fits st sh k.0 k.1

module _ (budget : ℕ) (l : Last) (s : Option Stray) (n : ℕ) (st : State) (sh : Shared) where
  pub turn-fits : Held st → below (2 ^ 64) sh.mem ≡ true
      → Held (turn_of budget l s n st sh).state × (below (2 ^ 64) (turn_of budget l s n st sh).shared.mem ≡ true)
  turn-fits h e = turn-keeps HeldIn held-step budget l s n st sh (h, e)

  pub turn-processor : (turn_of budget l s n st sh).state.frame.processor ≡ st.frame.processor
  turn-processor = turn-keeps (λ x i. x.frame.processor ≡ st.frame.processor) (λ x i e. step-processor x i ∙ e) budget l s n st sh refl

module _ (budget : ℕ) (s : Option Stray) (n : ℕ) (st : State) (sh : Shared) where
  pub run_fits : Held st → below (2 ^ 64) sh.mem ≡ true → Held (run_of budget s n st sh).state × (below (2 ^ 64) (run_of budget s n st sh).shared.mem ≡ true)
  run_fits h e = run-keeps HeldIn held-step budget s n st sh (h, e)

  pub run-processor : (run_of budget s n st sh).state.frame.processor ≡ st.frame.processor
  run-processor = run-keeps (λ x i. x.frame.processor ≡ st.frame.processor) (λ x i e. step-processor x i ∙ e) budget s n st sh refl

module _ (bytes : List ℕ) (l : Last) (n : ℕ) (x y : Half) (sh : Shared) where
  pub pair_fits : Held x.state → Held y.state → below (2 ^ 64) sh.mem ≡ true
      → Held (pair_of bytes l n x y sh).first.state × Held (pair_of bytes l n x y sh).second.state
      × (below (2 ^ 64) (pair_of bytes l n x y sh).shared.mem ≡ true)
  pair_fits h g e =
      pair_keeps (λ s u i. Held s × Held u × (below (2 ^ 64) i.mem ≡ true))
      (λ s u i k. let o = step_fits s i k.0 k.2 in (o.0, k.1, o.1))
      (λ s u i k. let o = step_fits u i k.1 k.2 in (k.0, o.0, o.1)) bytes l n x y sh (h, g, e)

  pub pair-processors : ((pair_of bytes l n x y sh).first.state.frame.processor ≡ x.state.frame.processor)
      × ((pair_of bytes l n x y sh).second.state.frame.processor ≡ y.state.frame.processor)
  pair-processors =
      pair_keeps (λ s u i. (s.frame.processor ≡ x.state.frame.processor) × (u.frame.processor ≡ y.state.frame.processor))
      (λ s u i k. (step-processor s i ∙ k.0, k.1)) (λ s u i k. (k.0, step-processor u i ∙ k.1)) bytes l n x y sh (refl, refl)
