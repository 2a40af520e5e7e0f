-- What steps keep; stretches, and turns and runs made of them. Assumes nothing.
use Prim.Native.Nat.{ℕ, zero, suc, ◌+◌, ◌-◌, ◌*◌, ◌^◌, ◌<◌, ◌≤◌}
use mathlib.Core.Path.{◌≡◌, refl, sym, ◌∙◌, ap, subst}
use mathlib.Core.Bool.{Bool, true, false, ◌&&◌}
use mathlib.Core.List.{List}
use native.Mathlib.Omega.{arith}
use lib.ListN.{length, get_or}
use lib.Dec.{eqb}
use borrow.Author.Tests.{ne_eqb, eq-eqb}
use Rattle.std.specs.Prelude.{Option, Some, None, Ok, Err}
use Rattle.machine.specs.declared.ParcelAddr.{ParcelAddr}
use Rattle.machine.specs.declared.Reach.{Reach}
use Rattle.machine.specs.declared.Stray.{Stray}
use Rattle.machine.specs.declared.Work.{Work}
use Rattle.machine.specs.declared.Work.TheVariants as work
use Rattle.machine.specs.declared.Answer.{Answer}
use Rattle.machine.specs.declared.Answer.TheVariants.{Stepped, Exchanged, NotHeld, MonitorFetch}
use Rattle.machine.specs.declared.Ending.TheVariants as ending
use Rattle.machine.specs.Run.{Last}
use Rattle.machine.specs.Word.{pick, bit}
use Rattle.machine.specs.Parcel.{onward}
use Rattle.machine.specs.State.{Registers, Frame, State, Shared, sharing, addr, user}
use Rattle.machine.specs.Memory.{or_else}
use Rattle.machine.specs.Exchange.{loaded, save}
use Rattle.machine.specs.Step.{Out, out, exchange, ranged, finish, step_of, stops, goes_on, counted}
use Rattle.machine.specs.Run.{Turned, turned, turn_of, Ended, ended, run_of}
use Rattle.machine.specs.Layout.{registers_of, frame_of, state_of}
use Rattle.access.specs.Executed.{told, FrameOk, ControlOk}
use Rattle.access.proofs.Places.{fill-length}
use Rattle.laws.proofs.Below.{picked}
use Rattle.laws.proofs.Laws.{Narrow, loaded-ok}
use Rattle.turns.specs.declared.Strays.TheVariants as strays
use Rattle.turns.specs.declared.Came.{Came}
use Rattle.turns.specs.declared.Came.TheVariants as came
use Rattle.turns.specs.Turn.{state_at, strays_of, goes, last_goes, steps_of, steps_after, last_from, last_after, end_of, Bursts, Fitting, Within, Sound, Comes}
use Rattle.turns.specs.Turn.{Stands, Strayed, resumed, Part, last_ending}
use Rattle.turns.specs.Turn as turn
use Rattle.turns.proofs.Steps.{fits, counted-small}

pub untold : false ≡ true → ⊥
untold e = let z : ◌≡◌ {A = ℕ} 0 1 = cc in omega arith

-- ---- the end of every step leaves numbers that fit, and memory its length

abbrev pub Fine : ℕ → State → Shared → Type 0
Fine len st sh =
    record {
      frame : FrameOk st.frame;
      control : ControlOk st.registers;
      processor : st.frame.processor < 2;
      p : st.p.0 < 2 ^ 24;
      long : length sh.mem ≡ len;
    }

module _ (len : ℕ) (fr : Frame) (r : Registers) (sh : Shared) (f : FrameOk fr) (k : ControlOk r) (n : fr.processor < 2) (l : length sh.mem ≡ len) where
  exchange-fine : (p flags : ℕ) (s : Option Stray) → Fine len (exchange fr r p flags s sh).state (exchange fr r p flags s sh).shared
  unfolding exchange save loaded
  exchange-fine p flags s =
      let o = loaded-ok sh.mem r.xa r fr in
      record { frame = o.1; control = o.0; processor = n; p = o.2; long = fill-length _ _ 16 sh.mem ∙ l }

  stepped-fine : (p : ParcelAddr) → p.0 < 2 ^ 24 → Fine len (record { p = p; registers = r; frame = fr }) sh
  stepped-fine p h = record { frame = f; control = k; processor = n; p = h; long = l }

  pub ranged-fine : (p : ℕ) (s : Option Stray) → p < 2 ^ 24 → Fine len (ranged fr r p s sh).state (ranged fr r p s sh).shared
  unfolding ranged
  ranged-fine p s h =
      picked (λ (o : Out). Fine len o.state o.shared) (user fr && eqb r.ior 1) (exchange-fine p _ s) (stepped-fine (addr p) h)

  pub finish-fine : (p : ParcelAddr) (w : Work) (s : Option Stray) → Narrow w → p.0 < 2 ^ 24
      → Fine len (finish (record { p = p; registers = r; frame = fr }) w s r sh).state (finish (record { p = p; registers = r; frame = fr }) w s r sh).shared
  unfolding finish
  finish-fine p work.PastOne s h g = stepped-fine _ (omega arith)
  finish-fine p work.PastTwo s h g = stepped-fine _ (omega arith)
  finish-fine p (work.To q) s h g = stepped-fine q h
  finish-fine p work.NormalExit s h g = exchange-fine _ _ s
  finish-fine p work.ErrorExit s h g = exchange-fine _ _ s
  finish-fine p work.StrayedOne s h g = ranged-fine _ s (omega arith)
  finish-fine p work.StrayedTwo s h g = ranged-fine _ s (omega arith)
  finish-fine p work.ProgramRange s h g = exchange-fine _ _ s
  finish-fine p work.NotHeld s h g = stepped-fine p g
  finish-fine p work.MonitorFetch s h g = stepped-fine p g

-- so words that fitted fit after it
pub stands : (r r' mem mem' : List ℕ) → Fitting r (length mem) → length r' ≡ 672 → Fine (length mem) (state_of r') (sharing mem') → Stands r' mem mem'
stands r r' mem mem' f long h =
    record {
      fitting = record {
        long = long;
        frame = h.frame;
        control = h.control;
        processor = h.processor;
        least = omega (arith, h.long, f.least);
        most = omega (arith, h.long, f.most);
      };
      narrow = h.p;
      long = h.long;
    }

-- where the end of a step is o, whose state and memory are these
pub fine-at : (len : ℕ) (o : Answer) (s : Option Stray) (st : State) (sh : Shared) (e : Out) → out o s st sh ≡ e → Fine len e.state e.shared → Fine len st sh
fine-at len o s st sh e q h = rw (← q) at h

-- P in its place
pub set-fine : (r r' mem : List ℕ) (p : ParcelAddr) → Fitting r (length mem) → p.0 < 2 ^ 24 → state_of r' ≡ state_at p r → Fine (length mem) (state_of r') (sharing mem)
set-fine r r' mem p f l e =
    subst (λ (x : State). Fine (length mem) x (sharing mem)) (sym e)
    (record { frame = f.frame; control = f.control; processor = f.processor; p = l; long = refl })

-- ---- what a burst comes to

-- the work that strayed, and work that did not
strays-one : (w : Work) → strays_of w ≡ strays.One → w ≡ work.StrayedOne
strays-one work.PastOne e = absurd (let z : ◌≡◌ {A = ℕ} 0 1 = cc in omega arith)
strays-one work.PastTwo e = absurd (let z : ◌≡◌ {A = ℕ} 0 1 = cc in omega arith)
strays-one (work.To q) e = absurd (let z : ◌≡◌ {A = ℕ} 0 1 = cc in omega arith)
strays-one work.NormalExit e = absurd (let z : ◌≡◌ {A = ℕ} 0 1 = cc in omega arith)
strays-one work.ErrorExit e = absurd (let z : ◌≡◌ {A = ℕ} 0 1 = cc in omega arith)
strays-one work.StrayedOne e = refl
strays-one work.StrayedTwo e = absurd (let z : ◌≡◌ {A = ℕ} 0 1 = cc in omega arith)
strays-one work.ProgramRange e = absurd (let z : ◌≡◌ {A = ℕ} 0 1 = cc in omega arith)
strays-one work.NotHeld e = absurd (let z : ◌≡◌ {A = ℕ} 0 1 = cc in omega arith)
strays-one work.MonitorFetch e = absurd (let z : ◌≡◌ {A = ℕ} 0 1 = cc in omega arith)

strays-two : (w : Work) → strays_of w ≡ strays.Two → w ≡ work.StrayedTwo
strays-two work.PastOne e = absurd (let z : ◌≡◌ {A = ℕ} 0 1 = cc in omega arith)
strays-two work.PastTwo e = absurd (let z : ◌≡◌ {A = ℕ} 0 1 = cc in omega arith)
strays-two (work.To q) e = absurd (let z : ◌≡◌ {A = ℕ} 0 1 = cc in omega arith)
strays-two work.NormalExit e = absurd (let z : ◌≡◌ {A = ℕ} 0 1 = cc in omega arith)
strays-two work.ErrorExit e = absurd (let z : ◌≡◌ {A = ℕ} 0 1 = cc in omega arith)
strays-two work.StrayedOne e = absurd (let z : ◌≡◌ {A = ℕ} 0 1 = cc in omega arith)
strays-two work.StrayedTwo e = refl
strays-two work.ProgramRange e = absurd (let z : ◌≡◌ {A = ℕ} 0 1 = cc in omega arith)
strays-two work.NotHeld e = absurd (let z : ◌≡◌ {A = ℕ} 0 1 = cc in omega arith)
strays-two work.MonitorFetch e = absurd (let z : ◌≡◌ {A = ℕ} 0 1 = cc in omega arith)

told_none : (w : Work) (r : List ℕ) (len : ℕ) → strays_of w ≡ strays.None → told w r len ≡ None
told_none work.PastOne r len e = refl
told_none work.PastTwo r len e = refl
told_none (work.To q) r len e = refl
told_none work.NormalExit r len e = refl
told_none work.ErrorExit r len e = refl
told_none work.StrayedOne r len e = absurd (let z : ◌≡◌ {A = ℕ} 0 1 = cc in omega arith)
told_none work.StrayedTwo r len e = absurd (let z : ◌≡◌ {A = ℕ} 0 1 = cc in omega arith)
told_none work.ProgramRange r len e = refl
told_none work.NotHeld r len e = refl
told_none work.MonitorFetch r len e = refl

module _ (p : ParcelAddr) (n : ℕ) (w : Work) (r r' mem mem' : List ℕ) (f : Reach) (budget : ℕ)
    (b : Bursts p n w r r' mem mem' f (addr (get_or r 0 0)) budget) (most : budget ≤ 1000000) (fit : Fitting r (length mem)) (long : length mem' ≡ length mem) where
  pub still-fitting : Fitting r' (length mem')
  still-fitting = fits r' f (length mem') b.ready (omega (arith, long, fit.least))

  pub came-spent : (r'' : List ℕ) → length r'' ≡ 672 → n ≡ budget → state_of r'' ≡ state_at p r' → Comes (came.Spent n) budget r r'' mem mem'
  came-spent r'' l e stored =
      let k = stands r' r'' mem' mem' still-fitting l (set-fine r' r'' mem' p still-fitting b.narrow stored) in
      record {
        fitting = k.fitting;
        long = long;
        within = e;
        sound = (omega (arith, e, most), k.narrow);
        rest = λ through l s m. rw stored (rw (eq-eqb n budget e) at (b.rest through l s m));
      }

  module _ (some : n ≡ budget → ⊥) where
    less : n < budget
    less = omega (arith, b.steps, some)

    pub came-one : strays_of w ≡ strays.One → Comes (came.StrayedOne n p) budget r r' mem mem'
    came-one e =
        record {
          fitting = still-fitting;
          long = long;
          within = less;
          sound = (omega (arith, less, most), b.narrow);
          rest = λ through l s m. rw (strays-one w e, ne_eqb n budget some) at (b.rest through l s m);
        }

    pub came-two : strays_of w ≡ strays.Two → Comes (came.StrayedTwo n p) budget r r' mem mem'
    came-two e =
        record {
          fitting = still-fitting;
          long = long;
          within = less;
          sound = (omega (arith, less, most), b.narrow);
          rest = λ through l s m. rw (strays-two w e, ne_eqb n budget some) at (b.rest through l s m);
        }

    pub came-ended : (o : Answer) (r'' mem'' : List ℕ) → length r'' ≡ 672 → strays_of w ≡ strays.None
        → ((s : Option Stray) → out o s (state_of r'') (sharing mem'') ≡ finish (state_at p r') w s (registers_of r') (sharing mem'))
        → Comes (came.Ended n o) budget r r'' mem mem''
    came-ended o r'' mem'' l e h =
        let g = still-fitting in
        let k = stands r' r'' mem' mem'' g l (fine-at (length mem') o None (state_of r'') (sharing mem'') _ (h None)
        (finish-fine (length mem') (frame_of r') (registers_of r') (sharing mem') g.frame g.control g.processor refl p w None b.work b.narrow)) in
        record {
          fitting = k.fitting;
          long = k.long ∙ long;
          within = less;
          sound = (omega (arith, less, most), k.narrow);
          rest = λ through l s m.
              ap (λ (x : Out). steps_after through (budget - n - 1) s (m + n) x) (h None)
              ∙ (rw (told_none w r' (length mem') e, ne_eqb n budget some) at (b.rest through l s m));
        }

-- ---- a stretch is the first part of the steps

-- a last answer that goes on was counted
module _ (through : Bool) where
  goes-counted : (o : Answer) → goes through o ≡ true → counted o ≡ 1
  goes-counted Stepped e = refl
  goes-counted (Exchanged flags) e = refl
  goes-counted (NotHeld p) e = absurd (untold e)
  goes-counted (MonitorFetch p) e = absurd (untold e)

-- all the budget is spent
pub part-spent : (n budget : ℕ) (st : State) (sh : Shared) → n ≡ budget
    → Part (last_after n) None n budget st sh (λ through l s m. turned (last_from l n) s (m + n) st sh)
unfolding steps_of
part-spent zero budget st sh e =
    record {
      within = omega arith;
      some = λ through z. absurd (untold z);
      was = λ ne. absurd (ne (sym e));
      rest = λ through l s m. refl;
    }
part-spent (suc n) budget st sh e =
    let z : budget - suc n ≡ 0 = omega arith in
    record {
      within = omega arith;
      some = λ through z. omega arith;
      was = λ ne. (Stepped, refl);
      rest = λ through l s m. rw z;
    }

-- or one more step ended
pub part-after : (o : Answer) (s : Option Stray) (n k budget : ℕ) (st : State) (sh : Shared) (e : Out) → out o s st sh ≡ e → n < budget → k ≡ n + counted o
    → Part (Ok (Some o)) s k budget st sh (λ through l₀ s₀ m. steps_after through (budget - n - 1) s₀ (m + n) e)
part-after o s n k budget st sh e q l c =
    rw (← q, c)
    (record {
      within = omega (arith, counted-small o);
      some = λ through g. omega (arith, goes-counted through o g);
      was = λ ne. (o, refl);
      rest = λ through l₀ s₀ m. go through s₀ m o;
    })
  where
    go : (through : Bool) (s₀ : Option Stray) (m : ℕ) (o : Answer)
        → pick (goes through o) (steps_of through (budget - (n + counted o)) (Ok (Some o)) (or_else s s₀) (m + (n + counted o)) st sh)
        (turned (Ok (Some o)) (or_else s s₀) (m + (n + counted o)) st sh)
        ≡ steps_after through (budget - n - 1) s₀ (m + n) (out o s st sh)
    go through s₀ m Stepped =
        let a : budget - (n + 1) ≡ budget - n - 1 = omega arith in
        let b : m + (n + 1) ≡ m + n + 1 = omega arith in
        rw (a, b)
    go through s₀ m (Exchanged flags) =
        let a : budget - (n + 1) ≡ budget - n - 1 = omega arith in
        let b : m + (n + 1) ≡ m + n + 1 = omega arith in
        rw (a, b)
    go through s₀ m (NotHeld p) = let b : m + (n + 0) ≡ m + n + 0 = omega arith in rw b
    go through s₀ m (MonitorFetch p) = let b : m + (n + 0) ≡ m + n + 0 = omega arith in rw b

-- a step whose work strayed ended
pub strayed-ends : (o : Answer) (s : Option Stray) (n steps p : ℕ) (w : Work) (r r' mem mem' : List ℕ) → Fitting r (length mem) → p < 2 ^ 24 → length r' ≡ 672
    → s ≡ told w r (length mem) → ((s : Option Stray) → out o s (state_of r') (sharing mem') ≡ ranged (frame_of r) (registers_of r) p s (sharing mem))
    → n ≡ steps + counted o → Strayed (Ok (Some o)) s n steps p w r r' mem mem'
strayed-ends o s n steps p w r r' mem mem' f l long t h c =
    let e : out o s (state_of r') (sharing mem') ≡ ranged (frame_of r) (registers_of r) p (told w r (length mem)) (sharing mem) = rw t (h (told w r (length mem))) in
    record {
      answer = o;
      last = refl;
      count = c;
      ended = e;
      stands = stands r r' mem mem' f long (fine-at (length mem) o s (state_of r') (sharing mem') _ e
          (ranged-fine (length mem) (frame_of r) (registers_of r) (sharing mem) f.frame f.control f.processor refl p _ l));
    }

-- what a burst came to, its last step ended
stayed : (r mem : List ℕ) → Fitting r (length mem) → get_or r 0 0 < 2 ^ 24 → Stands r mem mem
stayed r mem f l = record { fitting = f; narrow = l; long = refl }

pub end-spent : (l : Last) (n : ℕ) (c : Came) (r mem : List ℕ) → c ≡ came.Spent n → l ≡ last_after n → Fitting r (length mem) → Sound c r
    → turn.Ended l None n c r r mem mem
end-spent l n c r mem e q f k =
    rw (e, q) (record { stands = stayed r mem f (rw e at k).1; part = λ budget w. part-spent n budget (state_of r) (sharing mem) w })

pub end-ended : (o : Answer) (n k : ℕ) (c : Came) (r mem : List ℕ) → c ≡ came.Ended n o → k ≡ n + counted o → Fitting r (length mem) → Sound c r
    → turn.Ended (Ok (Some o)) None k c r r mem mem
end-ended o n k c r mem e q f h =
    rw e
    (record { stands = stayed r mem f (rw e at h).1; part = λ budget w. part-after o None n k budget (state_of r) (sharing mem) _ refl w q })

module _ (l : Last) (s : Option Stray) (k n : ℕ) (p : ParcelAddr) (c : Came) (r r' mem mem' : List ℕ) where
  pub end-one : c ≡ came.StrayedOne n p → Strayed l s k n (onward p.0 1) work.StrayedOne r r' mem mem' → turn.Ended l s k c r r' mem mem'
  unfolding finish
  end-one e h =
      rw (e, h.last)
      (record { stands = h.stands; part = λ budget w. part-after h.answer s n k budget (state_of r') (sharing mem') _ h.ended w h.count })

  pub end-two : c ≡ came.StrayedTwo n p → Strayed l s k n (onward p.0 2) work.StrayedTwo r r' mem mem' → turn.Ended l s k c r r' mem mem'
  unfolding finish
  end-two e h =
      rw (e, h.last)
      (record { stands = h.stands; part = λ budget w. part-after h.answer s n k budget (state_of r') (sharing mem') _ h.ended w h.count })

-- ---- the loop over stretches

-- how it stands: what is left from here is the whole
pub record Running (whole : Turned) (len : ℕ) (r mem : List ℕ) (through : Bool) (budget : ℕ) (l : Last) (s : Option Stray) (steps : ℕ) : Type 0 where
  pub fitting : Fitting r (length mem)
  pub p : get_or r 0 0 < 2 ^ 24
  pub long : length mem ≡ len
  pub within : steps ≤ budget
  pub rest : resumed through budget (Ok None) None 0 l s steps (state_of r) (sharing mem) ≡ whole

-- the first stretch
pub running : (c : Came) (r r' r'' mem mem' mem'' : List ℕ) (budget : ℕ) (l : Last) (s : Option Stray) (n : ℕ) (through : Bool)
    → Comes c budget r r' mem mem' → turn.Ended l s n c r' r'' mem' mem''
    → Running (steps_of through budget (Ok None) None 0 (state_of r) (sharing mem)) (length mem) r'' mem'' through budget l s n
running c r r' r'' mem mem' mem'' budget l s n through h e =
    let k = e.part budget h.within in
    record {
      fitting = e.stands.fitting;
      p = e.stands.narrow;
      long = e.stands.long ∙ h.long;
      within = k.within;
      rest = k.rest through (Ok None) None 0 ∙ h.rest through (Ok None) None 0;
    }

-- twice the steps left, and one more while the last answer goes on
abbrev pub togo : Bool → ℕ → ℕ → Last → ℕ
togo through budget steps l = (budget - steps) * 2 + bit (last_goes through l)

-- which stray counts
or-clean : (s : Option Stray) → or_else s None ≡ s
or-clean None = refl
or-clean (Some stray) = refl

or-or : (s t u : Option Stray) → or_else (or_else s t) u ≡ or_else s (or_else t u)
or-or None t u = refl
or-or (Some stray) t u = refl

-- one stretch more, of what is left
module _ (whole : Turned) (len : ℕ) (c : Came) (r r' r'' mem mem' mem'' : List ℕ) (through : Bool) (budget : ℕ) (l l' : Last) (s s' : Option Stray) (n n' : ℕ)
    (g : Running whole len r mem through budget l s n) (some : n < budget) (on : last_goes through l ≡ true)
    (h : Comes c (budget - n) r r' mem mem') (e : turn.Ended l' s' n' c r' r'' mem' mem'') where
  k : Part l' s' n' (budget - n) (state_of r'') (sharing mem'') (λ through l₀ s₀ m. turn.came_end through (budget - n) l₀ s₀ m c r' mem')
  k = e.part (budget - n) h.within

  -- the last answer before went on
  went : (l : Last) → last_goes through l ≡ true
      → resumed through budget (Ok None) None 0 l s n (state_of r) (sharing mem)
      ≡ steps_of through (budget - n) l (or_else s None) n (state_of r) (sharing mem)
  went (Ok None) z = absurd (untold z)
  went (Ok (Some o)) z = let a : 0 + n ≡ n = omega arith in rw (z, a)
  went (Err j) z = absurd (untold z)

  joined : (o : Answer) → l' ≡ Ok (Some o)
      → resumed through budget (Ok None) None 0 l' (or_else s' s) (n + n') (state_of r'') (sharing mem'')
      ≡ resumed through (budget - n) l (or_else s None) n l' s' n' (state_of r'') (sharing mem'')
  joined o q =
      let a : budget - (n + n') ≡ budget - n - n' = omega arith in
      let b : 0 + (n + n') ≡ n + n' = omega arith in
      rw (q, a, b, or-or s' s None)

  pub runs_on : Running whole len r'' mem'' through budget l' (or_else s' s) (n + n') × (togo through budget (n + n') l' < togo through budget n l)
  runs_on =
      let w = k.was (λ z. omega (arith, some, z)) in
      let same = joined w.0 w.1 ∙ k.rest through l (or_else s None) n ∙ h.rest through l (or_else s None) n ∙ sym (went l on) ∙ g.rest in (
        record {
          fitting = e.stands.fitting;
          p = e.stands.narrow;
          long = e.stands.long ∙ h.long ∙ g.long;
          within = omega (arith, k.within, some);
          rest = same;
        },
        rw on (fewer (last_goes through l') refl),
      )
    where
      fewer : (b : Bool) → last_goes through l' ≡ b → (budget - (n + n')) * 2 + bit b < (budget - n) * 2 + 1
      fewer true z = omega (arith, k.some through z, k.within, some)
      fewer false z = omega (arith, k.within, some)

-- the loop is left: the budget is spent, or the last answer ends it
pub over : (r mem : List ℕ) (through : Bool) (budget : ℕ) (l : Last) (s : Option Stray) (n : ℕ) → (last_goes through l ≡ true → budget - n ≡ 0)
    → resumed through budget (Ok None) None 0 l s n (state_of r) (sharing mem) ≡ turned l s n (state_of r) (sharing mem)
unfolding steps_of
over r mem through budget (Ok None) s n h = rw (or-clean s) (let a : 0 + n ≡ n = omega arith in rw a)
over r mem through budget (Ok (Some o)) s n h = rw (or-clean s) (let a : 0 + n ≡ n = omega arith in rw a (go (goes through o) refl))
  where
    go : (b : Bool) → goes through o ≡ b
        → pick b (steps_of through (budget - n) (Ok (Some o)) s n (state_of r) (sharing mem)) (turned (Ok (Some o)) s n (state_of r) (sharing mem))
        ≡ turned (Ok (Some o)) s n (state_of r) (sharing mem)
    go true z = rw (h z)
    go false z = refl
over r mem through budget (Err j) s n h = rw (or-clean s) (let a : 0 + n ≡ n = omega arith in rw a)

-- ---- turns and runs

pub turn_is : (budget : ℕ) (l : Last) (s : Option Stray) (n : ℕ) (st : State) (sh : Shared) → steps_of false budget l s n st sh ≡ turn_of budget l s n st sh
unfolding steps_of turn_of
turn_is zero l s n st sh = refl
turn_is (suc budget) l s n st sh =
    let o = step_of st sh in
    go o.answer _ _ _ (turn_is budget (Ok (Some o.answer)) (or_else o.stray s) (n + counted o.answer) o.state o.shared)
  where
    go : (a : Answer) (x x' y : Turned) → x ≡ x' → pick (goes false a) x y ≡ pick (goes_on a) x' y
    go Stepped x x' y e = e
    go (Exchanged flags) x x' y e = refl
    go (NotHeld p) x x' y e = refl
    go (MonitorFetch p) x x' y e = refl

-- a run ends as its last answer says
abbrev pub ended_as : Turned → Ended
ended_as t = ended (last_ending t.last) t.stray t.steps t.state t.shared

pub run_is : (budget : ℕ) (l : Last) (s : Option Stray) (n : ℕ) (st : State) (sh : Shared) → last_ending l ≡ Ok ending.Budget
    → ended_as (steps_of true budget l s n st sh) ≡ run_of budget s n st sh
unfolding steps_of run_of
run_is zero l s n st sh e = rw e
run_is (suc budget) l s n st sh e =
    let o = step_of st sh in
    go o.answer _ _ (run_is budget (Ok (Some o.answer)) (or_else o.stray s) (n + counted o.answer) o.state o.shared)
  where
    t : Answer → Turned
    t a = let o = step_of st sh in turned (Ok (Some a)) (or_else o.stray s) (n + counted a) o.state o.shared

    go : (a : Answer) (x : Turned) (y : Ended) → (last_ending (Ok (Some a)) ≡ Ok ending.Budget → ended_as x ≡ y)
        → ended_as (pick (goes true a) x (t a)) ≡ pick (stops a) (ended_as (t a)) y
    go Stepped x y h = h refl
    go (Exchanged flags) x y h = h refl
    go (NotHeld p) x y h = refl
    go (MonitorFetch p) x y h = refl
