-- One step on lent words, and what it makes of steps taken together. Assumes nothing.
use Prim.Native.Nat.{ℕ, zero, suc, ◌+◌, ◌-◌, ◌^◌, ◌<◌, ◌≤◌}
use mathlib.Core.Path.{◌≡◌, refl, sym, ◌∙◌, ap}
use mathlib.Core.Bool.{Bool, true, false}
use mathlib.Core.List.{List}
use native.Mathlib.Omega.{arith}
use lib.ListN.{length, get_or, set}
use lib.Seq.{get_or-set_same}
use lib.Dec.{eqb}
use borrow.Author.Tests.{ne_eqb, eq-eqb}
use Rattle.std.specs.Prelude.{Option, Some, None, Ok}
use Rattle.machine.specs.declared.ParcelAddr.{ParcelAddr}
use Rattle.machine.specs.declared.Reach.{Reach}
use Rattle.machine.specs.declared.Stray.{Stray}
use Rattle.machine.specs.declared.Work.{Work}
use Rattle.machine.specs.declared.Work.TheVariants as work
use Rattle.machine.specs.declared.Answer.{Answer}
use Rattle.machine.specs.declared.Answer.TheVariants.{Stepped, Exchanged, NotHeld, MonitorFetch}
use Rattle.machine.specs.Run.{Last}
use Rattle.machine.specs.Word.{pick}
use Rattle.machine.specs.Parcel.{onward}
use Rattle.machine.specs.State.{State, Registers, Frame, Shared, sharing, addr, user}
use Rattle.machine.specs.Work.{Done, done, work_of}
use Rattle.machine.specs.Exchange.{operand_range}
use Rattle.machine.specs.Step.{out, in_user_mode, exchange, ranged, finish, finish_of, step_of, counted}
use Rattle.machine.specs.Layout.{registers_of, frame_of, state_of}
use Rattle.access.specs.Executed.{told}
use Rattle.access.proofs.Places.{p-puts}
use Rattle.dispatch.specs.Table.{Ready, Works}
use Rattle.laws.proofs.Laws.{Narrow, Idle, work-p, work-ok, work-length, work-idle}
use Rattle.turns.specs.Turn.{state_at, moved_to, steps_of, steps_after, last_from, last_after, end_of, Bursts, Fitting}

-- work that only steps: the step's answer, and where P goes; it has no stray
finish-moved : (st : State) (w : Work) (s : Option Stray) (r : Registers) (sh : Shared) (q : ParcelAddr) → moved_to st.p.0 w ≡ Some q
    → finish st w s r sh ≡ out Stepped s (record { p = q; registers = r; frame = st.frame }) sh
unfolding finish
finish-moved st work.PastOne s r sh q e = let z : addr (onward st.p.0 1) ≡ q = cc in rw z
finish-moved st work.PastTwo s r sh q e = let z : addr (onward st.p.0 2) ≡ q = cc in rw z
finish-moved st (work.To p) s r sh q e = let z : p ≡ q = cc in rw z
finish-moved st work.NormalExit s r sh q e = cc
finish-moved st work.ErrorExit s r sh q e = cc
finish-moved st work.StrayedOne s r sh q e = cc
finish-moved st work.StrayedTwo s r sh q e = cc
finish-moved st work.ProgramRange s r sh q e = cc
finish-moved st work.NotHeld s r sh q e = cc
finish-moved st work.MonitorFetch s r sh q e = cc

told_moved : (p : ℕ) (w : Work) (r : List ℕ) (len : ℕ) (q : ParcelAddr) → moved_to p w ≡ Some q → told w r len ≡ None
told_moved p work.PastOne r len q e = refl
told_moved p work.PastTwo r len q e = refl
told_moved p (work.To q') r len q e = refl
told_moved p work.NormalExit r len q e = refl
told_moved p work.ErrorExit r len q e = refl
told_moved p work.StrayedOne r len q e = cc
told_moved p work.StrayedTwo r len q e = cc
told_moved p work.ProgramRange r len q e = refl
told_moved p work.NotHeld r len q e = refl
told_moved p work.MonitorFetch r len q e = refl

-- work that does more: of the state before only P, the frame and, where nothing was done, the registers count
finish-same : (fr : Frame) (p : ParcelAddr) (r r' : Registers) (w : Work) (s : Option Stray) (sh : Shared) → moved_to p.0 w ≡ None → (Idle w → r ≡ r')
    → finish (record { p = p; registers = r; frame = fr }) w s r' sh ≡ finish (record { p = p; registers = r'; frame = fr }) w s r' sh
unfolding finish
finish-same fr p r r' work.PastOne s sh e h = cc
finish-same fr p r r' work.PastTwo s sh e h = cc
finish-same fr p r r' (work.To q) s sh e h = cc
finish-same fr p r r' work.NormalExit s sh e h = refl
finish-same fr p r r' work.ErrorExit s sh e h = refl
finish-same fr p r r' work.StrayedOne s sh e h = refl
finish-same fr p r r' work.StrayedTwo s sh e h = refl
finish-same fr p r r' work.ProgramRange s sh e h = refl
finish-same fr p r r' work.NotHeld s sh e h = rw (h tt)
finish-same fr p r r' work.MonitorFetch s sh e h = rw (h tt)

-- the work of a step at p left r' and mem', and ended with w
module _ (w : Work) (r r' mem mem' : List ℕ) (p : ParcelAddr) (did : Works w r r' mem mem' p.0) where
  step_is : step_of (state_at p r) (sharing mem) ≡ finish (state_at p r) w (told w r' (length mem')) (registers_of r') (sharing mem')
  unfolding step_of finish_of
  step_is = rw (← did.done)

  pub steps_on : (q : ParcelAddr) → moved_to p.0 w ≡ Some q → step_of (state_at p r) (sharing mem) ≡ out Stepped None (state_at q r') (sharing mem')
  steps_on q e =
      step_is ∙ finish-moved (state_at p r) w (told w r' (length mem')) (registers_of r') (sharing mem') q e
      ∙ rw (told_moved p.0 w r' (length mem') q e, did.frame)

  idle-same : Idle w → registers_of r ≡ registers_of r'
  idle-same i =
      let e : work_of (frame_of r) (registers_of r) p.0 (sharing mem) ≡ done w None (registers_of r) (sharing mem)
      = work-idle (frame_of r) (registers_of r) p.0 (sharing mem) (rw (← did.done)) i in
      ap (λ (d : Done). d.registers) (sym e ∙ sym did.done)

  -- a step that does more than step, as its end finds it
  pub steps-last : moved_to p.0 w ≡ None → step_of (state_at p r) (sharing mem) ≡ end_of p w r' mem'
  steps-last e =
      step_is
      ∙ rw did.frame (finish-same (frame_of r) p (registers_of r) (registers_of r') w (told w r' (length mem')) (sharing mem') e idle-same)

  -- and the words are ready for the next
  pub ready_on : (f : Reach) → Ready r f (length mem) → length r' ≡ 672 → (length mem' ≡ length mem) × Ready r' f (length mem') × Narrow w
  ready_on f g long =
      let m : length mem' ≡ length mem = rw (← did.done) at (work-length (frame_of r) (registers_of r) p.0 (sharing mem)) in (
        m,
        record {
          long = long;
          reaches = rw (did.frame, m) g.reaches;
          frame = rw did.frame g.frame;
          control = rw (← did.done) at (work-ok (frame_of r) (registers_of r) p.0 (sharing mem) g.control);
          processor = rw did.frame g.processor;
        },
        work-p (frame_of r) (registers_of r) p.0 (sharing mem) {w = w} (rw (← did.done)),
      )

-- where P goes is an address
pub narrow_at : (w : Work) (p q : ParcelAddr) → moved_to p.0 w ≡ Some q → Narrow w → q.0 < 2 ^ 24
narrow_at work.PastOne p q e h = let z : addr (onward p.0 1) ≡ q = cc in rw (← z) (omega arith)
narrow_at work.PastTwo p q e h = let z : addr (onward p.0 2) ≡ q = cc in rw (← z) (omega arith)
narrow_at (work.To p') p q e h = let z : p' ≡ q = cc in rw (← z) h
narrow_at work.NormalExit p q e h = cc
narrow_at work.ErrorExit p q e h = cc
narrow_at work.StrayedOne p q e h = cc
narrow_at work.StrayedTwo p q e h = cc
narrow_at work.ProgramRange p q e h = cc
narrow_at work.NotHeld p q e h = cc
narrow_at work.MonitorFetch p q e h = cc

-- words that are ready fit
pub fits : (r : List ℕ) (f : Reach) (len : ℕ) → Ready r f len → 4096 ≤ len → Fitting r len
fits r f len k l = record { long = k.long; frame = k.frame; control = k.control; processor = k.processor; least = l; most = k.reaches.size }

-- one step with budget left
steps-one : (through : Bool) (left : ℕ) (l : Last) (s : Option Stray) (n : ℕ) (st : State) (sh : Shared) → (left ≡ 0 → ⊥)
    → steps_of through left l s n st sh ≡ steps_after through (left - 1) s n (step_of st sh)
unfolding steps_of
steps-one through zero l s n st sh h = absurd (h refl)
steps-one through (suc left) l s n st sh h = let k : suc left - 1 ≡ left = omega arith in rw k

-- how the burst's loop stands: `left` of its budget are left, and what is left to do from here is the whole
pub record Going (r₀ mem₀ r mem : List ℕ) (f : Reach) (from p : ParcelAddr) (budget left : ℕ) : Type 0 where
  pub within : left ≤ budget
  pub narrow : p.0 < 2 ^ 24
  pub ready : Ready r f (length mem)
  pub long : length mem ≡ length mem₀
  pub rest : (through : Bool) (l : Last) (s : Option Stray) (m : ℕ)
      → steps_of through left (last_from l (budget - left)) s (m + (budget - left)) (state_at p r) (sharing mem)
      ≡ steps_of through budget l s m (state_at from r₀) (sharing mem₀)

pub begins : (r mem : List ℕ) (f : Reach) (from : ParcelAddr) (budget : ℕ) → Ready r f (length mem) → from.0 < 2 ^ 24
    → Going r mem r mem f from from budget budget
begins r mem f from budget h l =
    let e : budget - budget ≡ 0 = omega arith in
    record { within = omega arith; narrow = l; ready = h; long = refl; rest = λ through l s m. let z : m + 0 ≡ m = omega arith in rw (e, z) }

-- a step at p whose work is w, leaving r' and mem'
module _ (r₀ mem₀ r mem r' mem' : List ℕ) (f : Reach) (from p : ParcelAddr) (budget left : ℕ) (w : Work)
    (g : Going r₀ mem₀ r mem f from p budget left) (some : left ≡ 0 → ⊥) (did : Works w r r' mem mem' p.0) (long : length r' ≡ 672) where
  pub goes_on_lem : (q : ParcelAddr) → moved_to p.0 w ≡ Some q → Going r₀ mem₀ r' mem' f from q budget (left - 1)
  goes_on_lem q e =
      let k = ready_on w r r' mem mem' p did f g.ready long in
      let n : budget - (left - 1) ≡ suc (budget - left) = omega (arith, some, g.within) in
      record {
        within = omega (arith, g.within);
        narrow = narrow_at w p q e k.2;
        ready = k.1;
        long = k.0 ∙ g.long;
        rest = λ through l s m.
            let more : m + suc (budget - left) ≡ m + (budget - left) + 1 = omega arith in
            rw (n, more) (sym (steps-one through left (last_from l (budget - left)) s (m + (budget - left)) (state_at p r) (sharing mem) some
            ∙ rw (steps_on w r r' mem mem' p did q e)) ∙ g.rest through l s m);
      }

  pub ends : moved_to p.0 w ≡ None → Bursts p (budget - left) w r₀ r' mem₀ mem' f from budget
  ends e =
      let k = ready_on w r r' mem mem' p did f g.ready long in
      let n : eqb (budget - left) budget ≡ false = ne_eqb (budget - left) budget (λ z. some (omega (arith, g.within))) in
      let less : budget - (budget - left) - 1 ≡ left - 1 = omega (arith, g.within) in
      record {
        ready = k.1;
        narrow = g.narrow;
        work = k.2;
        steps = omega arith;
        rest = λ through l s m.
            rw (n, less) (rw (← steps-last w r r' mem mem' p did e)
            (sym (steps-one through left (last_from l (budget - left)) s (m + (budget - left)) (state_at p r) (sharing mem) some)) ∙ g.rest through l s m);
      }

-- all steps are taken
pub spent : (r₀ mem₀ r mem : List ℕ) (f : Reach) (from p : ParcelAddr) (budget left : ℕ) → Going r₀ mem₀ r mem f from p budget left → left ≡ 0
    → Bursts p budget (work.To p) r₀ r mem₀ mem f from budget
unfolding steps_of
spent r₀ mem₀ r mem f from p budget left g e =
    let z : budget - 0 ≡ budget = omega arith in
    record {
      ready = g.ready;
      narrow = g.narrow;
      work = g.narrow;
      steps = omega arith;
      rest = λ through l s m. rw (eq-eqb budget budget refl) (rw (e, z) at (g.rest through l s m));
    }

-- P set in its place
pub set_p : (p : ParcelAddr) (r : List ℕ) → length r ≡ 672 → state_of (set r 0 p.0) ≡ state_at p r
set_p p r long = let k = p-puts r p.0 in rw (get_or-set_same r 0 p.0 0 (omega arith), k.0, k.1)

pub some_after : (n : ℕ) → (n ≡ 0 → ⊥) → Ok (Some Stepped) ≡ last_after n
some_after zero h = absurd (h refl)
some_after (suc n) h = refl

-- after an operand outside: MM clear and IOR set, or not
module _ (r : List ℕ) (p : ℕ) (s : Option Stray) (sh : Shared) where
  pub ranged-leaves : get_or r 8 0 ≡ 0 → eqb (get_or r 9 0) 1 ≡ true → ranged (frame_of r) (registers_of r) p s sh ≡ exchange
      (frame_of r) (registers_of r) p operand_range s sh
  unfolding ranged frame_of registers_of
  ranged-leaves e f = rw (e, f)

  pub ranged-monitor : (get_or r 8 0 ≡ 0 → ⊥) → ranged (frame_of r) (registers_of r) p s sh ≡ out Stepped s (state_at (addr p) r) sh
  unfolding ranged frame_of registers_of
  ranged-monitor e = rw (ne_eqb (get_or r 8 0) 0 e)

  pub ranged-passes : get_or r 8 0 ≡ 0 → eqb (get_or r 9 0) 1 ≡ false → ranged (frame_of r) (registers_of r) p s sh ≡ out Stepped s (state_at (addr p) r) sh
  unfolding ranged frame_of registers_of
  ranged-passes e f = rw (e, f)

-- the flag of an exit is one of nine bits
pub flag_small : (fr : Frame) (flag : ℕ) → flag < 512 → in_user_mode fr flag < 512
flag_small fr flag l = go (user fr)
  where
    go : (u : Bool) → pick u flag 0 < 512
    go true = l
    go false = omega arith

pub counted-small : (o : Answer) → counted o ≤ 1
counted-small Stepped = omega arith
counted-small (Exchanged flags) = omega arith
counted-small (NotHeld p) = omega arith
counted-small (MonitorFetch p) = omega arith
