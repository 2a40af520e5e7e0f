-- When a step answers that the instruction is not held. Assumes nothing.
use Prim.Native.Nat.{ℕ}
use mathlib.Core.Path.{◌≡◌, refl}
use mathlib.Core.Bool.{Bool, true, false}
use mathlib.Core.List.{List}
use Rattle.std.specs.Prelude.{Option, Some, None}
use Rattle.machine.specs.declared.ParcelAddr.{ParcelAddr}
use Rattle.machine.specs.declared.Stray.{Stray}
use Rattle.machine.specs.declared.Work.{Work}
use Rattle.machine.specs.declared.Work.TheVariants as work
use Rattle.machine.specs.declared.Answer.TheVariants.{NotHeld}
use Rattle.machine.specs.Parcel.{onward}
use Rattle.machine.specs.State.{Frame, Registers, State, Shared, user}
use Rattle.machine.specs.Memory.{fetch_of}
use Rattle.machine.specs.Act.{Instr, act}
use Rattle.machine.specs.Codes.{Code, holds_none, holds_one, holds_two, code_of}
use Rattle.machine.specs.Work.{has_instr, with_parcel, decoded, present_of, no_parcel, status_of, done_with, work_of}
use Rattle.machine.specs.Step.{out, exchange, finish, finish_of, step_of}
use Rattle.laws.proofs.Laws.{perform-acted, ranged-goes}

-- the first parcel at p is x, and it is no code
pub record Unknown (fr : Frame) (mem : List ℕ) (p : ℕ) : Type 0 where
  pub x : ℕ
  pub fetched : fetch_of fr mem p ≡ Some x
  pub none : code_of (user fr) x ≡ holds_none

finish-held : (st : State) (w : Work) (s : Option Stray) (r : Registers) (sh : Shared) (p : ParcelAddr) → (finish st w s r sh).answer ≡ NotHeld p → w ≡ work.NotHeld
unfolding finish exchange
finish-held st work.PastOne s r sh p e = cc
finish-held st work.PastTwo s r sh p e = cc
finish-held st (work.To q) s r sh p e = cc
finish-held st work.NormalExit s r sh p e = cc
finish-held st work.ErrorExit s r sh p e = cc
finish-held st work.StrayedOne s r sh p e = absurd (ranged-goes st.frame r (onward st.p.0 1) s sh (rw e))
finish-held st work.StrayedTwo s r sh p e = absurd (ranged-goes st.frame r (onward st.p.0 2) s sh (rw e))
finish-held st work.ProgramRange s r sh p e = cc
finish-held st work.NotHeld s r sh p e = refl
finish-held st work.MonitorFetch s r sh p e = cc

no-parcel-held : (user : Bool) → no_parcel user ≡ work.NotHeld → ⊥
unfolding no_parcel
no-parcel-held true e = cc
no-parcel-held false e = cc

module _ (fr : Frame) (r : Registers) (p : ℕ) (sh : Shared) where
  -- an instruction does something
  held : (n : Instr) (x m parcels : ℕ) → (done_with fr r p sh (has_instr n x m parcels)).work ≡ work.NotHeld → ⊥
  unfolding done_with
  held n x m parcels e = (perform-acted fr r parcels sh (act r (status_of fr r) x m (onward p parcels) n)).1 (rw e tt)

  decoded-none : (x : ℕ) (c : Code) → (done_with fr r p sh (decoded fr sh.mem p x c)).work ≡ work.NotHeld → c ≡ holds_none
  unfolding decoded done_with
  decoded-none x holds_none e = refl
  decoded-none x (holds_one n) e = absurd (held n x 0 1 e)
  decoded-none x (holds_two n) e = absurd (go (fetch_of fr sh.mem (onward p 1)) e)
    where
      go : (o : Option ℕ) → (done_with fr r p sh (with_parcel o (λ m. has_instr n x m 2))).work ≡ work.NotHeld → ⊥
      go None e = no-parcel-held (user fr) e
      go (Some m) e = held n x m 2 e

  work-unknown : (work_of fr r p sh).work ≡ work.NotHeld → Unknown fr sh.mem p
  unfolding work_of present_of done_with
  work-unknown e = go (fetch_of fr sh.mem p) refl e
    where
      go : (o : Option ℕ) → fetch_of fr sh.mem p ≡ o
          → (done_with fr r p sh (with_parcel o (λ x. decoded fr sh.mem p x (code_of (user fr) x)))).work ≡ work.NotHeld → Unknown fr sh.mem p
      go None q e = absurd (no-parcel-held (user fr) e)
      go (Some x) q e = record { x = x; fetched = q; none = decoded-none x (code_of (user fr) x) e }

-- a step answers so only where the first parcel is fetched and is no code
pub not-held-only : (st : State) (sh : Shared) (p : ParcelAddr) → (step_of st sh).answer ≡ NotHeld p → Unknown st.frame sh.mem st.p.0
unfolding step_of finish_of
not-held-only st sh p e =
    let d = work_of st.frame st.registers st.p.0 sh in
    work-unknown st.frame st.registers st.p.0 sh (finish-held st d.work d.stray d.registers d.shared p e)

-- and there always, with its own P, changing nothing
pub not-held : (st : State) (sh : Shared) → Unknown st.frame sh.mem st.p.0 → step_of st sh ≡ out (NotHeld st.p) None st sh
unfolding step_of finish_of finish work_of present_of decoded done_with
not-held st sh h = rw (h.fetched, h.none)
