-- A pair run on the words of two processors in one list. Assumes nothing.
use Rattle.std.specs.Prelude.{ℕ, zero, suc, ◌+◌, ◌-◌, ◌^◌, ◌<◌, ◌≤◌, ◌≡◌, ◌⊎◌, List, length, get_or, drop, eqb, Option, Some, Ok}
use Rattle.machine.specs.declared.ParcelAddr.{ParcelAddr}
use Rattle.machine.specs.declared.Reach.{Reach}
use Rattle.machine.specs.declared.Stray.{Stray}
use Rattle.machine.specs.declared.Work.{Work}
use Rattle.machine.specs.Run.{Last}
use Rattle.machine.specs.Word.{pick}
use Rattle.machine.specs.State.{Shared, sharing}
use Rattle.machine.specs.Step.{Out, goes_on, counted}
use Rattle.machine.specs.Run.{Half, half_with, half_after, PairEnded, pair_ended, pair_of}
use Rattle.machine.specs.Layout.{part, state_of, first_of, second_of}
use Rattle.dispatch.specs.Table.{Ready}
use Rattle.laws.proofs.Laws.{Narrow}
use Rattle.turns.specs.Turn.{state_at, last_after, end_of, Fitting}
use Rattle.turns.specs.declared.pair.Next.{Next}

-- where the words of one of the two start; the other's start at 672 - at
abbrev pub Side : ℕ → Type 0
Side at = (at ≤ 672) × ((at ≡ 0) ⊎ (at ≡ 672))

-- by the byte that names it
abbrev pub side_of : ℕ → ℕ
side_of zero = 0
side_of (suc b) = 672

-- and of two windows its own
abbrev pub window_of : ℕ → Reach → Reach → Reach
window_of at f g = pick (eqb at 0) f g

-- of the strays of the first and the second that of the one at `at`, and the other's
abbrev pub here : ℕ → Option Stray → Option Stray → Option Stray
here at s t = pick (eqb at 0) s t

abbrev pub there : ℕ → Option Stray → Option Stray → Option Stray
there at s t = pick (eqb at 0) t s

-- a pair run and its end where x is the one at `at`, y the other
abbrev pub pair_at : ℕ → List ℕ → Last → ℕ → Half → Half → Shared → PairEnded
pair_at at bytes l n x y sh = pick (eqb at 0) (pair_of bytes l n x y sh) (pair_of bytes l n y x sh)

abbrev pub end_at : ℕ → Last → ℕ → Half → Half → Shared → PairEnded
end_at at l n x y sh = pick (eqb at 0) (pair_ended l n x y sh) (pair_ended l n y x sh)

-- what follows a step of the one at `at`, n having been counted before it
abbrev pub pair_after : ℕ → List ℕ → ℕ → Out → Half → Half → PairEnded
pair_after at bytes n o x y =
    pick (goes_on o.answer) (pair_at at bytes (Ok (Some o.answer)) (n + counted o.answer) (half_after x o) y o.shared)
    (end_at at (Ok (Some o.answer)) (n + counted o.answer) (half_after x o) y o.shared)

-- the two of a pair's words, P of the one at `at` being p; s and t are the strays of the first and the second
abbrev pub own : ℕ → ParcelAddr → Option Stray → Option Stray → List ℕ → Half
own at p s t pair = half_with (state_at p (part at 672 pair)) (here at s t)

abbrev pub other : ℕ → Option Stray → Option Stray → List ℕ → Half
other at s t pair = half_with (state_of (part (672 - at) 672 pair)) (there at s t)

-- the rest of a pair run; P of the one whose step is next is not in its place
abbrev pub pair_from : Next → List ℕ → Last → ℕ → Option Stray → Option Stray → List ℕ → Shared → PairEnded
pair_from a bytes l n s t pair sh = pair_at a.at bytes l n (own a.at a.p s t pair) (other a.at s t pair) sh

-- both may go on in a memory of len words; f and g are what they reach
pub record Standing (a : Next) (f g : Reach) (pair : List ℕ) (len : ℕ) : Type 0 where
  pub side : Side a.at
  pub narrow : a.p.0 < 2 ^ 24
  pub other : get_or (part (672 - a.at) 672 pair) 0 0 < 2 ^ 24
  pub window : a.f ≡ window_of a.at f g
  pub here : Ready (part a.at 672 pair) a.f len
  pub there : Ready (part (672 - a.at) 672 pair) (window_of (672 - a.at) f g) len

-- whose step is next passes from a to b: both may go on as before, and the pair run is the same
pub record Passes (a b : Next) (f g : Reach) (pair pair' : List ℕ) : Type 0 where
  pub stands : (len : ℕ) → Standing a f g pair len → Standing b f g pair' len
  pub same : (bytes : List ℕ) (l : Last) (n : ℕ) (s t : Option Stray) (sh : Shared) → pair_from b bytes l n s t pair' sh ≡ pair_from a bytes l n s t pair sh

-- both fit a memory of len words, their P in their places
pub record Both (pair : List ℕ) (len : ℕ) : Type 0 where
  pub first : Fitting (part 0 672 pair) len
  pub second : Fitting (part 672 672 pair) len
  pub narrow : (get_or pair 0 0 < 2 ^ 24) × (get_or pair 672 0 < 2 ^ 24)

-- what is left of a schedule after n of its steps, which came to p of the one at `at`: nothing, or all that follows the next step, whose work
-- ended with w
abbrev pub came_end : List ℕ → ℕ → ParcelAddr → ℕ → Work → Option Stray → Option Stray → List ℕ → List ℕ → PairEnded
came_end schedule at p n w s t pair mem =
    pick (eqb n (length schedule)) (end_at at (last_after n) n (own at p s t pair) (other at s t pair) (sharing mem))
    (pair_after at (drop (n + 1) schedule) n (end_of p w (part at 672 pair) mem) (own at p s t pair) (other at s t pair))

-- how far a burst came: whose step is next, its P, the steps, and the work of the next
pub record Coming (at : ℕ) (p : ParcelAddr) (n : ℕ) (w : Work) (schedule pair mem : List ℕ) : Type 0 where
  pub side : Side at
  pub fitting : Fitting (part at 672 pair) (length mem)
  pub other : Fitting (part (672 - at) 672 pair) (length mem) × (get_or (part (672 - at) 672 pair) 0 0 < 2 ^ 24)
  pub narrow : p.0 < 2 ^ 24
  pub work : Narrow w
  pub steps : n ≤ length schedule

-- a schedule's steps from its byte `from` on, from pair and mem to pair' and mem'
pub record PairBursts (at : ℕ) (p : ParcelAddr) (n : ℕ) (w : Work) (schedule : List ℕ) (from : ℕ) (pair pair' mem mem' : List ℕ) : Type 0 where
  pub coming : Coming at p n w schedule pair' mem'
  pub long : length mem' ≡ length mem
  pub least : from ≤ n
  pub run : (s t : Option Stray) → came_end schedule at p n w s t pair' mem'
      ≡ pair_of (drop from schedule) (last_after from) from (half_with (first_of pair) s) (half_with (second_of pair) t) (sharing mem)
