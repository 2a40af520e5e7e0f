-- One step of a pair run on lent words, and what it makes of the run. Assumes nothing.
use Prim.Native.Nat.{ℕ, zero, suc, ◌+◌, ◌-◌, ◌^◌, ◌<◌, ◌≤◌}
use mathlib.Core.Path.{◌≡◌, refl, sym, ◌∙◌, ap, subst}
use mathlib.Core.Logic.{inl, inr, ⊎_elim}
use mathlib.Core.Bool.{Bool, true, false, not}
use mathlib.Core.List.{List, [], ◌∷◌}
use native.Mathlib.Omega.{arith}
use native.Mathlib.Numerals.{add-one}
use lib.ListN.{length, get_or, drop}
use lib.Seq.{drop-cons, drop-length}
use lib.Dec.{eqb}
use borrow.Author.Tests.{ne_eqb, eq-eqb}
use Rattle.std.specs.Prelude.{Option, Some, Ok, None}
use Rattle.machine.specs.declared.ParcelAddr.{ParcelAddr}
use Rattle.machine.specs.declared.Reach.{Reach}
use Rattle.machine.specs.declared.Stray.{Stray}
use Rattle.machine.specs.declared.Work.{Work}
use Rattle.machine.specs.declared.Work.TheVariants as work
use Rattle.machine.specs.declared.Answer.{Answer}
use Rattle.machine.specs.declared.Answer.TheVariants.{Stepped, Exchanged, NotHeld, MonitorFetch}
use Rattle.machine.specs.Run.{Last}
use Rattle.machine.specs.Word.{pick}
use Rattle.machine.specs.State.{State, Shared, sharing, addr}
use Rattle.machine.specs.Memory.{or_else}
use Rattle.machine.specs.Step.{Out, out, finish, step_of, goes_on, counted}
use Rattle.machine.specs.Run.{Half, half_with, PairEnded, pair_ended, pair_of}
use Rattle.machine.specs.Layout.{part, registers_of, frame_of, state_of, first_of, second_of}
use Rattle.access.specs.Executed.{told}
use Rattle.access.proofs.Places.{part_at}
use Rattle.dispatch.specs.Table.{Ready, Works}
use Rattle.laws.proofs.Laws.{Narrow}
use Rattle.turns.specs.declared.pair.Next.{Next}
use Rattle.turns.specs.declared.pair.PairBurst.{PairBurst}
use Rattle.turns.specs.declared.pair.Told.{Told}
use Rattle.turns.specs.Turn.{state_at, moved_to, goes, last_after, end_of, Fitting, Stands}
use Rattle.turns.specs.Pair.{Side, side_of, window_of, here, there, pair_at, end_at, pair_after, own, other, pair_from, Standing, Passes}
use Rattle.turns.specs.Pair.{Both, came_end, Coming, PairBursts}
use Rattle.turns.proofs.Steps.{steps_on, steps-last, ready_on, narrow_at, fits}
use Rattle.turns.proofs.Runs.{untold, finish-fine, stands, fine-at}
use Rattle.turns.proofs.Lent.{part-long}

-- with both P in their places, a run and its end are the same seen from either side
module _ (at : ℕ) (side : Side at) (l : Last) (n : ℕ) (s t : Option Stray) (pair : List ℕ) (sh : Shared) where
  run-in-order : (bytes : List ℕ)
      → pair_at at bytes l n (half_with (state_of (part at 672 pair)) (here at s t)) (other at s t pair) sh
      ≡ pair_of bytes l n (half_with (first_of pair) s) (half_with (second_of pair) t) sh
  run-in-order bytes = ⊎_elim (λ e. rw e) (λ e. rw e) side.1

  end-in-order : pair_ended l n (half_with (first_of pair) s) (half_with (second_of pair) t) sh
      ≡ end_at at l n (half_with (state_of (part at 672 pair)) (here at s t)) (other at s t pair) sh
  end-in-order = ⊎_elim (λ e. rw e) (λ e. rw e) side.1

-- any byte but 0 names the second
pub second-side : (byte : ℕ) → (byte ≡ 0 → ⊥) → 672 ≡ side_of byte
second-side zero h = absurd (h refl)
second-side (suc b) h = refl

-- P in its place
p-at : (at : ℕ) (pair : List ℕ) → get_or (part at 672 pair) 0 0 ≡ get_or pair at 0
p-at at pair = let z : at + 0 ≡ at = omega arith in rw z at (part_at at 672 pair 0 (omega arith))

-- both may go on, their P in their places
pub record Stored (f g : Reach) (pair : List ℕ) (len : ℕ) : Type 0 where
  pub first : Ready (part 0 672 pair) f len
  pub second : Ready (part 672 672 pair) g len
  pub narrow : (get_or pair 0 0 < 2 ^ 24) × (get_or pair 672 0 < 2 ^ 24)

-- P is loaded of either
module _ (f g : Reach) (pair : List ℕ) (byte : ℕ) where
  abbrev first : Next
  first = record { at = 0; p = addr (get_or pair 0 0); f = f; byte = byte }

  abbrev second : Next
  second = record { at = 672; p = addr (get_or pair 672 0); f = g; byte = byte }

  first-stands : (len : ℕ) → Stored f g pair len → Standing first f g pair len
  first-stands len s =
      let q : get_or (part 672 672 pair) 0 0 < 2 ^ 24 = rw (p-at 672 pair) s.narrow.1 in
      record { side = (omega arith, inl refl); narrow = s.narrow.0; other = q; window = refl; here = s.first; there = s.second }

  second-stands : (len : ℕ) → Stored f g pair len → Standing second f g pair len
  second-stands len s =
      let q : get_or (part 0 672 pair) 0 0 < 2 ^ 24 = rw (p-at 0 pair) s.narrow.0 in
      record { side = (omega arith, inr refl); narrow = s.narrow.1; other = q; window = refl; here = s.second; there = s.first }

-- P of the one whose step was next is stored
module _ (a : Next) (f g : Reach) (pair pair' : List ℕ) (side : Side a.at) (whole : length pair' ≡ 1344)
    (stored : state_of (part a.at 672 pair') ≡ state_at a.p (part a.at 672 pair))
    (kept : part (672 - a.at) 672 pair' ≡ part (672 - a.at) 672 pair) where
  ready-stored : (len : ℕ) → Ready (part a.at 672 pair) a.f len → Ready (part a.at 672 pair') a.f len
  ready-stored len h =
      let fr : frame_of (part a.at 672 pair') ≡ frame_of (part a.at 672 pair) = ap (λ (s : State). s.frame) stored in
      let rs : registers_of (part a.at 672 pair') ≡ registers_of (part a.at 672 pair) = ap (λ (s : State). s.registers) stored in
      record {
        long = part-long a.at pair' side whole;
        reaches = rw fr h.reaches;
        frame = rw fr h.frame;
        control = rw rs h.control;
        processor = rw fr h.processor;
      }

  stores : (len : ℕ) → Standing a f g pair len → Stored f g pair' len
  stores len s =
      let x : Ready (part a.at 672 pair') (window_of a.at f g) len
      = subst (λ (h : Reach). Ready (part a.at 672 pair') h len) s.window (ready-stored len s.here) in
      let y : Ready (part (672 - a.at) 672 pair') (window_of (672 - a.at) f g) len = rw kept s.there in
      let p : get_or pair' a.at 0 < 2 ^ 24 = rw (← p-at a.at pair', ap (λ (s : State). s.p.0) stored) s.narrow in
      let q : get_or pair' (672 - a.at) 0 < 2 ^ 24 = rw (← p-at (672 - a.at) pair', kept) s.other in
      ⊎_elim (λ e. record { first = rw e at x; second = rw e at y; narrow = (rw e at p, rw e at q) })
      (λ e. record { first = rw e at y; second = rw e at x; narrow = (rw e at q, rw e at p) }) side.1

  same-run : (bytes : List ℕ) (l : Last) (n : ℕ) (s t : Option Stray) (sh : Shared)
      → pair_of bytes l n (half_with (first_of pair') s) (half_with (second_of pair') t) sh ≡ pair_from a bytes l n s t pair sh
  same-run bytes l n s t sh = sym (run-in-order a.at side l n s t pair' sh bytes) ∙ rw (stored, kept)

  pub passes-first : (byte : ℕ) → Passes a (first f g pair' byte) f g pair pair'
  passes-first byte =
      record { stands = λ len s. first-stands f g pair' byte len (stores len s); same = λ bytes l n s t sh. rw (← p-at 0 pair') (same-run bytes l n s t sh) }

  pub passes-second : (byte : ℕ) → Passes a (second f g pair' byte) f g pair pair'
  passes-second byte =
      record { stands = λ len s. second-stands f g pair' byte len (stores len s); same = λ bytes l n s t sh. rw (← p-at 672 pair') (same-run bytes l n s t sh) }

-- one step of a pair run with bytes left, of the one that the next byte names
module _ (schedule : List ℕ) (n at : ℕ) (l : Last) (k : ℕ) (x y : Half) (sh : Shared) (some : n < length schedule)
    (named : at ≡ side_of (get_or schedule n 0)) where
  -- that byte
  next-byte : drop n schedule ≡ get_or schedule n 0 ∷ drop (n + 1) schedule
  next-byte = rw add-one (drop-cons schedule n 0 some)

  pair_one : pair_at at (drop n schedule) l k x y sh ≡ pair_after at (drop (n + 1) schedule) k (step_of x.state sh) x y
  unfolding pair_of
  pair_one = rw (next-byte, named) (go (get_or schedule n 0) (drop (n + 1) schedule))
    where
      go : (b : ℕ) (bytes : List ℕ) → pair_at (side_of b) (b ∷ bytes) l k x y sh ≡ pair_after (side_of b) bytes k (step_of x.state sh) x y
      go zero bytes = refl
      go (suc b) bytes = refl

-- how the loop stands: n of the schedule's bytes are done, and what is left to do from here is the whole
pub record Along (schedule : List ℕ) (from : ℕ) (pair₀ mem₀ pair mem : List ℕ) (f g : Reach) (a : Next) (n : ℕ) : Type 0 where
  pub within : n ≤ length schedule
  pub begun : from ≤ n
  pub whole : length pair ≡ 1344
  pub long : length mem ≡ length mem₀
  pub least : 4096 ≤ length mem₀
  pub named : a.at ≡ side_of a.byte
  pub rest : (s t : Option Stray) → pair_from a (drop n schedule) (last_after n) n s t pair (sharing mem)
      ≡ pair_of (drop from schedule) (last_after from) from (half_with (first_of pair₀) s) (half_with (second_of pair₀) t) (sharing mem₀)
  pub stands : Standing a f g pair (length mem)

-- at the start
pub begins : (schedule : List ℕ) (from : ℕ) (pair mem : List ℕ) (f g : Reach) → from ≤ length schedule → length pair ≡ 1344 → 4096 ≤ length mem
    → Stored f g pair (length mem) → Along schedule from pair mem pair mem f g (first f g pair 0) from
begins schedule from pair mem f g within whole least s =
    record {
      within = within;
      begun = omega arith;
      whole = whole;
      long = refl;
      least = least;
      named = refl;
      rest = λ s t. rw (p-at 0 pair);
      stands = first-stands f g pair 0 (length mem) s;
    }

-- the next byte names the one whose step is next: it passed to it, or it was the same byte before
module _ (schedule : List ℕ) (from : ℕ) (pair₀ mem₀ pair mem : List ℕ) (f g : Reach) (a : Next) (n : ℕ)
    (h : Along schedule from pair₀ mem₀ pair mem f g a n) (pair' : List ℕ) (b : Next) where
  abbrev pub Named : Type 0
  Named = Along schedule from pair₀ mem₀ pair' mem f g b n × (b.at ≡ side_of (get_or schedule n 0))

  pub passed : (l : List ℕ) (to : Next) → Passes a to f g pair l → (to.at ≡ side_of (get_or schedule n 0)) × (to.byte ≡ get_or schedule n 0) → length l ≡ 1344
      → pair' ≡ l → b ≡ to → Named
  passed l to t named whole e d = rw (e, d) (
    record {
      within = h.within;
      begun = h.begun;
      whole = whole;
      long = h.long;
      least = h.least;
      named = rw named.1 named.0;
      rest = λ u v. t.same (drop n schedule) (last_after n) n u v (sharing mem) ∙ h.rest u v;
      stands = t.stands (length mem) h.stands;
    },
    named.0,
  )

  pub stayed : get_or schedule n 0 ≡ a.byte → pair' ≡ pair → b ≡ a → Named
  stayed same e d = rw (e, d) (h, rw same h.named)

-- the step of a at its P; its work is w, leaving pair' and mem'
module _ (schedule : List ℕ) (from : ℕ) (pair₀ mem₀ pair pair' mem mem' : List ℕ) (f g : Reach) (a : Next) (n : ℕ) (w : Work)
    (h : Along schedule from pair₀ mem₀ pair mem f g a n × (a.at ≡ side_of (get_or schedule n 0))) (some : n < length schedule)
    (did : Works w (part a.at 672 pair) (part a.at 672 pair') mem mem' a.p.0)
    (kept : part (672 - a.at) 672 pair' ≡ part (672 - a.at) 672 pair) (whole : length pair' ≡ 1344) where
  stood : Standing a f g pair (length mem)
  stood = h.0.stands

  after : (length mem' ≡ length mem) × Ready (part a.at 672 pair') a.f (length mem') × Narrow w
  after = ready_on w (part a.at 672 pair) (part a.at 672 pair') mem mem' a.p did a.f stood.here (part-long a.at pair' stood.side whole)

  stands-there : Ready (part (672 - a.at) 672 pair') (window_of (672 - a.at) f g) (length mem')
  stands-there = rw (kept, after.0) stood.there

  one : (s t : Option Stray) → pair_from a (drop n schedule) (last_after n) n s t pair (sharing mem)
      ≡ pair_after a.at (drop (n + 1) schedule) n (step_of (state_at a.p (part a.at 672 pair)) (sharing mem)) (own a.at a.p s t pair) (other a.at s t pair)
  one s t = pair_one schedule n a.at (last_after n) n (own a.at a.p s t pair) (other a.at s t pair) (sharing mem) some h.1

  pub goes_on_lem : (q : ParcelAddr) → moved_to a.p.0 w ≡ Some q
      → Along schedule from pair₀ mem₀ pair' mem' f g (record { at = a.at; p = q; f = a.f; byte = a.byte }) (n + 1)
  goes_on_lem q e =
      let k : n + 1 ≡ suc n = omega arith in
      let more : last_after (n + 1) ≡ Ok (Some Stepped) = ap last_after k in
      record {
        within = omega (arith, some);
        begun = omega (arith, h.0.begun);
        whole = whole;
        long = after.0 ∙ h.0.long;
        least = h.0.least;
        named = h.0.named;
        rest = λ s t. rw (more, kept) (sym (one s t ∙ rw (steps_on w (part a.at 672 pair) (part a.at 672 pair') mem mem' a.p did q e)) ∙ h.0.rest s t);
        stands = record {
          side = stood.side;
          narrow = narrow_at w a.p q e after.2;
          other = rw kept stood.other;
          window = stood.window;
          here = after.1;
          there = stands-there;
        };
      }

  pub ends : moved_to a.p.0 w ≡ None → PairBursts a.at a.p n w schedule from pair₀ pair' mem₀ mem'
  ends e =
      let ne : eqb n (length schedule) ≡ false = ne_eqb n (length schedule) (λ z. omega (arith, some)) in
      let l : 4096 ≤ length mem' = omega (arith, after.0, h.0.long, h.0.least) in
      record {
        coming = record {
          side = stood.side;
          fitting = fits (part a.at 672 pair') a.f (length mem') after.1 l;
          other = (fits (part (672 - a.at) 672 pair') (window_of (672 - a.at) f g) (length mem') stands-there l, rw kept stood.other);
          narrow = stood.narrow;
          work = after.2;
          steps = omega (arith, some);
        };
        long = after.0 ∙ h.0.long;
        least = h.0.begun;
        run = λ s t. rw (ne, kept) (rw (← steps-last w (part a.at 672 pair) (part a.at 672 pair') mem mem' a.p did e) (sym (one s t)) ∙ h.0.rest s t);
      }

-- all steps are taken
pub spent : (schedule : List ℕ) (from : ℕ) (pair₀ mem₀ pair mem : List ℕ) (f g : Reach) (a : Next) (n : ℕ) → Along schedule from pair₀ mem₀ pair mem f g a n
    → length schedule ≤ n → PairBursts a.at a.p n (work.To a.p) schedule from pair₀ pair mem₀ mem
unfolding pair_of
spent schedule from pair₀ mem₀ pair mem f g a n h l =
    let e : n ≡ length schedule = omega (arith, h.within) in
    let none : drop n schedule ≡ [] = rw e (drop-length schedule) in
    let m : 4096 ≤ length mem = omega (arith, h.long, h.least) in
    record {
      coming = record {
        side = h.stands.side;
        fitting = fits (part a.at 672 pair) a.f (length mem) h.stands.here m;
        other = (fits (part (672 - a.at) 672 pair) (window_of (672 - a.at) f g) (length mem) h.stands.there m, h.stands.other);
        narrow = h.stands.narrow;
        work = h.stands.narrow;
        steps = h.within;
      };
      long = h.long;
      least = h.begun;
      run = λ s t. rw (eq-eqb n (length schedule) e) (rw none at (h.rest s t));
    }

-- ---- the loop over bursts

pub not-true : (b : Bool) → not b ≡ true → b ≡ false
not-true true e = sym e
not-true false e = refl

pub not-false : (b : Bool) → not b ≡ false → b ≡ true
not-false true e = refl
not-false false e = sym e

-- how it stands: what is left from here is the whole
pub record Turning (whole : PairEnded) (len : ℕ) (schedule pair mem : List ℕ) (b : PairBurst) (o : Told) : Type 0 where
  pub size : length pair ≡ 1344
  pub long : length mem ≡ len
  pub coming : Coming b.at b.p b.steps b.work schedule pair mem
  pub rest : came_end schedule b.at b.p b.steps b.work o.first o.second pair mem ≡ whole

-- a burst more, from byte `from` on
pub turning : (whole : PairEnded) (len : ℕ) (schedule : List ℕ) (from : ℕ) (pair pair' mem mem' : List ℕ) (b : PairBurst) (o : Told)
    → PairBursts b.at b.p b.steps b.work schedule from pair pair' mem mem' → length pair' ≡ 1344 → length mem ≡ len
    → pair_of (drop from schedule) (last_after from) from (half_with (first_of pair) o.first) (half_with (second_of pair) o.second) (sharing mem) ≡ whole
    → Turning whole len schedule pair' mem' b o
turning whole len schedule from pair pair' mem mem' b o h size long e =
    record { size = size; long = h.long ∙ long; coming = h.coming; rest = h.run o.first o.second ∙ e }

-- all steps are taken: P is put in its place
pub turned-out : (whole : PairEnded) (len : ℕ) (schedule pair pair' mem : List ℕ) (b : PairBurst) (o : Told) (n : ℕ) (l : Last)
    → Turning whole len schedule pair mem b o → length schedule ≤ b.steps
    → state_of (part b.at 672 pair') ≡ state_at b.p (part b.at 672 pair) → part (672 - b.at) 672 pair' ≡ part (672 - b.at) 672 pair
    → n ≡ b.steps → l ≡ last_after n
    → pair_ended l n (half_with (first_of pair') o.first) (half_with (second_of pair') o.second) (sharing mem) ≡ whole
turned-out whole len schedule pair pair' mem b o n l h more stored kept c q =
    let e : b.steps ≡ length schedule = omega (arith, h.coming.steps) in
    rw (q, c) (end-in-order b.at h.coming.side (last_after b.steps) b.steps o.first o.second pair' (sharing mem)
    ∙ rw (stored, kept) (rw (eq-eqb b.steps (length schedule) e) at h.rest))

-- the step after a burst ended: its answer, its stray, and what it left
module _ (whole : PairEnded) (len : ℕ) (schedule pair pair' mem mem' : List ℕ) (b : PairBurst) (o o' : Told) (a : Answer) (s : Option Stray)
    (h : Turning whole len schedule pair mem b o) (some : b.steps < length schedule)
    (strayed : s ≡ told b.work (part b.at 672 pair) (length mem))
    (ended : (s : Option Stray) → out a s (state_of (part b.at 672 pair')) (sharing mem')
    ≡ finish (state_at b.p (part b.at 672 pair)) b.work s (registers_of (part b.at 672 pair)) (sharing mem))
    (kept : part (672 - b.at) 672 pair' ≡ part (672 - b.at) 672 pair) (size : length pair' ≡ 1344)
    (told-first : o'.first ≡ pick (eqb b.at 0) (or_else s o.first) o.first)
    (told-second : o'.second ≡ pick (eqb b.at 0) o.second (or_else s o.second)) where
  -- the strays from either side
  newer-own : here b.at o'.first o'.second ≡ or_else s (here b.at o.first o.second)
  newer-own = rw (told-first, told-second) (go (eqb b.at 0))
    where
      go : (t : Bool) → pick t (pick t (or_else s o.first) o.first) (pick t o.second (or_else s o.second)) ≡ or_else s (pick t o.first o.second)
      go true = refl
      go false = refl

  same-other : there b.at o'.first o'.second ≡ there b.at o.first o.second
  same-other = rw (told-first, told-second) (go (eqb b.at 0))
    where
      go : (t : Bool) → pick t (pick t o.second (or_else s o.second)) (pick t (or_else s o.first) o.first) ≡ pick t o.second o.first
      go true = refl
      go false = refl

  follows : pair_after b.at (drop (b.steps + 1) schedule) b.steps (out a s (state_of (part b.at 672 pair')) (sharing mem'))
      (own b.at b.p o.first o.second pair) (other b.at o.first o.second pair) ≡ whole
  follows =
      let ne : eqb b.steps (length schedule) ≡ false = ne_eqb b.steps (length schedule) (λ z. omega (arith, some)) in
      let e : out a s (state_of (part b.at 672 pair')) (sharing mem') ≡ end_of b.p b.work (part b.at 672 pair) mem
      = ended s ∙ rw strayed in
      ap (λ (x : Out). pair_after b.at (drop (b.steps + 1) schedule) b.steps x (own b.at b.p o.first o.second pair)
      (other b.at o.first o.second pair)) e
      ∙ (rw ne at h.rest)

  -- it was the last
  pub last_step : goes false a ≡ false
      → pair_ended (Ok (Some a)) (b.steps + counted a) (half_with (first_of pair') o'.first) (half_with (second_of pair') o'.second) (sharing mem') ≡ whole
  last_step g =
      end-in-order b.at h.coming.side (Ok (Some a)) (b.steps + counted a) o'.first o'.second pair' (sharing mem')
      ∙ rw (newer-own, same-other, kept) (rw (ends-here a g) at follows)
    where
      ends-here : (a : Answer) → goes false a ≡ false → goes_on a ≡ false
      ends-here Stepped g = g
      ends-here (Exchanged flags) g = refl
      ends-here (NotHeld p) g = refl
      ends-here (MonitorFetch p) g = refl

  -- or both may go on
  abbrev r : List ℕ
  r = part b.at 672 pair

  stands_here : Stands (part b.at 672 pair') mem mem'
  stands_here =
      let f = h.coming.fitting in
      stands r (part b.at 672 pair') mem mem' f (part-long b.at pair' h.coming.side size)
      (fine-at (length mem) a s (state_of (part b.at 672 pair')) (sharing mem') _ (ended s)
      (finish-fine (length mem) (frame_of r) (registers_of r) (sharing mem) f.frame f.control f.processor refl b.p b.work s
      h.coming.work h.coming.narrow))

  pub both : Both pair' (length mem')
  both =
      let x : Fitting (part b.at 672 pair') (length mem') = stands_here.fitting in
      let y : Fitting (part (672 - b.at) 672 pair') (length mem') = rw (kept, stands_here.long) h.coming.other.0 in
      let p : get_or pair' b.at 0 < 2 ^ 24 = rw (← p-at b.at pair') stands_here.narrow in
      let q : get_or pair' (672 - b.at) 0 < 2 ^ 24 = rw (← p-at (672 - b.at) pair', kept) h.coming.other.1 in
      ⊎_elim (λ e. record { first = rw e at x; second = rw e at y; narrow = (rw e at p, rw e at q) })
      (λ e. record { first = rw e at y; second = rw e at x; narrow = (rw e at q, rw e at p) }) h.coming.side.1

  pub memory-long : length mem' ≡ len
  memory-long = stands_here.long ∙ h.long

  pub next-step : goes false a ≡ true
      → pair_of (drop (b.steps + 1) schedule) (last_after (b.steps + 1)) (b.steps + 1) (half_with (first_of pair') o'.first)
      (half_with (second_of pair') o'.second) (sharing mem') ≡ whole
  next-step g =
      let k : b.steps + 1 ≡ suc b.steps = omega arith in
      let more : last_after (b.steps + 1) ≡ Ok (Some Stepped) = ap last_after k in
      let e : a ≡ Stepped = stepped a g in
      rw more (sym (run-in-order b.at h.coming.side (Ok (Some Stepped)) (b.steps + 1) o'.first o'.second pair' (sharing mem') (drop (b.steps + 1) schedule))
      ∙ rw (newer-own, same-other, kept) (rw e at follows))
    where
      stepped : (a : Answer) → goes false a ≡ true → a ≡ Stepped
      stepped Stepped g = refl
      stepped (Exchanged flags) g = absurd (untold g)
      stepped (NotHeld p) g = absurd (untold g)
      stepped (MonitorFetch p) g = absurd (untold g)
