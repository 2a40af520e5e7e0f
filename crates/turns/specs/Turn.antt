-- Steps taken together on lent words: a burst while each only steps, then the end of the one that does more. Assumes nothing.
use Rattle.std.specs.Prelude.{ℕ, zero, suc, ◌+◌, ◌-◌, ◌^◌, ◌<◌, ◌≤◌, ◌≡◌, Bool, true, false, List, length, get_or, eqb, Option, Some, None, Result, Ok, Err}
use Rattle.machine.specs.declared.ParcelAddr.{ParcelAddr}
use Rattle.machine.specs.declared.Reach.{Reach}
use Rattle.machine.specs.declared.Stray.{Stray}
use Rattle.machine.specs.declared.Work.{Work}
use Rattle.machine.specs.declared.Work.TheVariants as work
use Rattle.machine.specs.declared.Answer.{Answer}
use Rattle.machine.specs.declared.Answer.TheVariants.{Stepped, Exchanged, NotHeld, MonitorFetch}
use Rattle.machine.specs.declared.Ending.{Ending}
use Rattle.machine.specs.declared.Ending.TheVariants as ending
use Rattle.machine.specs.Run.{Last}
use Rattle.machine.specs.Word.{pick}
use Rattle.machine.specs.Parcel.{onward}
use Rattle.machine.specs.State.{State, Shared, sharing, addr}
use Rattle.machine.specs.Memory.{or_else}
use Rattle.machine.specs.Step.{Out, out, ranged, finish, step_of, counted}
use Rattle.machine.specs.Run.{Turned, turned, ending_of}
use Rattle.machine.specs.Layout.{registers_of, frame_of, state_of}
use Rattle.access.specs.Executed.{told, FrameOk, ControlOk}
use Rattle.dispatch.specs.Table.{Ready}
use Rattle.laws.proofs.Laws.{Narrow}
use Rattle.turns.specs.declared.Strays.{Strays}
use Rattle.turns.specs.declared.Strays.TheVariants as strays
use Rattle.turns.specs.declared.Came.{Came}
use Rattle.turns.specs.declared.Came.TheVariants as came

-- a processor's words whose P is p; place 0 is not looked at
abbrev pub state_at : ParcelAddr → List ℕ → State
state_at p r = record { p = p; registers = registers_of r; frame = frame_of r }

-- where P goes after work that only steps, none where it does more
abbrev pub moved_to : ℕ → Work → Option ParcelAddr
moved_to p work.PastOne = Some (addr (onward p 1))
moved_to p work.PastTwo = Some (addr (onward p 2))
moved_to p (work.To target) = Some target
moved_to p work.NormalExit = None
moved_to p work.ErrorExit = None
moved_to p work.StrayedOne = None
moved_to p work.StrayedTwo = None
moved_to p work.ProgramRange = None
moved_to p work.NotHeld = None
moved_to p work.MonitorFetch = None

-- whether an operand of work lay outside, and of how many parcels its instruction is
abbrev pub strays_of : Work → Strays
strays_of work.PastOne = strays.None
strays_of work.PastTwo = strays.None
strays_of (work.To target) = strays.None
strays_of work.NormalExit = strays.None
strays_of work.ErrorExit = strays.None
strays_of work.StrayedOne = strays.One
strays_of work.StrayedTwo = strays.Two
strays_of work.ProgramRange = strays.None
strays_of work.NotHeld = strays.None
strays_of work.MonitorFetch = strays.None

-- whether steps go on after an answer, after an exchange only if they go through it; and after a last answer
abbrev pub goes : Bool → Answer → Bool
goes through Stepped = true
goes through (Exchanged flags) = through
goes through (NotHeld p) = false
goes through (MonitorFetch p) = false

abbrev pub last_goes : Bool → Last → Bool
last_goes through (Ok None) = false
last_goes through (Ok (Some o)) = goes through o
last_goes through (Err n) = false

-- steps while they go on, at most `budget`: a turn or, through exchanges, a run
unfoldable pub steps_of : Bool → ℕ → Last → Option Stray → ℕ → State → Shared → Turned
steps_of through zero l s n st sh = turned l s n st sh
steps_of through (suc budget) l s n st sh =
    let o = step_of st sh in
    pick (goes through o.answer)
    (steps_of through budget (Ok (Some o.answer)) (or_else o.stray s) (n + counted o.answer) o.state o.shared)
    (turned (Ok (Some o.answer)) (or_else o.stray s) (n + counted o.answer) o.state o.shared)

-- after a step, with `left` of the budget left
abbrev pub steps_after : Bool → ℕ → Option Stray → ℕ → Out → Turned
steps_after through left s n o =
    pick (goes through o.answer)
    (steps_of through left (Ok (Some o.answer)) (or_else o.stray s) (n + counted o.answer) o.state o.shared)
    (turned (Ok (Some o.answer)) (or_else o.stray s) (n + counted o.answer) o.state o.shared)

-- the last answer after n more steps that each stepped; and of these alone
abbrev pub last_from : Last → ℕ → Last
last_from l zero = l
last_from l (suc n) = Ok (Some Stepped)

abbrev pub last_after : ℕ → Last
last_after n = last_from (Ok None) n

-- the end of a step at p whose work ended with w
abbrev pub end_of : ParcelAddr → Work → List ℕ → List ℕ → Out
end_of p w r mem = finish (state_at p r) w (told w r (length mem)) (registers_of r) (sharing mem)

-- what is left of `budget` steps after a burst of n that came to p: nothing, or all that follows the next step, whose work ended with w
abbrev pub burst_end : Bool → ℕ → Last → Option Stray → ℕ → ParcelAddr → ℕ → Work → List ℕ → List ℕ → Turned
burst_end through budget l s m p n w r mem =
    pick (eqb n budget) (turned (last_from l n) s (m + n) (state_at p r) (sharing mem)) (steps_after through (budget - n - 1) s (m + n) (end_of p w r mem))

-- a burst from r and mem to r' and mem': where P came, its steps, and the work of the next
pub record Bursts (p : ParcelAddr) (n : ℕ) (w : Work) (r r' mem mem' : List ℕ) (f : Reach) (from : ParcelAddr) (budget : ℕ) : Type 0 where
  pub ready : Ready r' f (length mem')
  pub narrow : p.0 < 2 ^ 24
  pub work : Narrow w
  pub steps : n ≤ budget
  pub rest : (through : Bool) (l : Last) (s : Option Stray) (m : ℕ)
      → burst_end through budget l s m p n w r' mem' ≡ steps_of through budget l s m (state_at from r) (sharing mem)

-- what steps ask of the words and the memory that they are lent: numbers that fit, and 4,096 to 4,194,304 words
pub record Fitting (r : List ℕ) (len : ℕ) : Type 0 where
  pub long : length r ≡ 672
  pub frame : FrameOk (frame_of r)
  pub control : ControlOk (registers_of r)
  pub processor : (frame_of r).processor < 2
  pub least : 4096 ≤ len
  pub most : len ≤ 4194304

-- what is left after a burst that came to c
abbrev pub came_end : Bool → ℕ → Last → Option Stray → ℕ → Came → List ℕ → List ℕ → Turned
came_end through budget l s m (came.Spent n) r mem = turned (last_from l n) s (m + n) (state_of r) (sharing mem)
came_end through budget l s m (came.StrayedOne n p) r mem = steps_after through (budget - n - 1) s (m + n) (end_of p work.StrayedOne r mem)
came_end through budget l s m (came.StrayedTwo n p) r mem = steps_after through (budget - n - 1) s (m + n) (end_of p work.StrayedTwo r mem)
came_end through budget l s m (came.Ended n o) r mem = steps_after through (budget - n - 1) s (m + n) (out o None (state_of r) (sharing mem))

-- its steps are all of the budget, or fewer
abbrev pub Within : ℕ → Came → Type 0
Within budget (came.Spent n) = n ≡ budget
Within budget (came.StrayedOne n p) = n < budget
Within budget (came.StrayedTwo n p) = n < budget
Within budget (came.Ended n o) = n < budget

-- they are at most 1,000,000; and P, in its place or beside the words, is an address
abbrev pub Sound : Came → List ℕ → Type 0
Sound (came.Spent n) r = (n ≤ 1000000) × (get_or r 0 0 < 2 ^ 24)
Sound (came.StrayedOne n p) r = (n ≤ 1000000) × (p.0 < 2 ^ 24)
Sound (came.StrayedTwo n p) r = (n ≤ 1000000) × (p.0 < 2 ^ 24)
Sound (came.Ended n o) r = (n ≤ 1000000) × (get_or r 0 0 < 2 ^ 24)

-- a burst of at most `budget` steps from r and mem to r' and mem' came to c
pub record Comes (c : Came) (budget : ℕ) (r r' mem mem' : List ℕ) : Type 0 where
  pub fitting : Fitting r' (length mem')
  pub long : length mem' ≡ length mem
  pub within : Within budget c
  pub sound : Sound c r'
  pub rest : (through : Bool) (l : Last) (s : Option Stray) (m : ℕ)
      → came_end through budget l s m c r' mem' ≡ steps_of through budget l s m (state_of r) (sharing mem)

-- the words after steps: they fit still, and so does P in its place
pub record Stands (r mem mem' : List ℕ) : Type 0 where
  pub fitting : Fitting r (length mem')
  pub narrow : get_or r 0 0 < 2 ^ 24
  pub long : length mem' ≡ length mem

-- from r and mem to r' and mem' a step whose work w strayed ended, P going to p: its answer, its stray
pub record Strayed (l : Last) (s : Option Stray) (n steps p : ℕ) (w : Work) (r r' mem mem' : List ℕ) : Type 0 where
  pub answer : Answer
  pub last : l ≡ Ok (Some answer)
  pub count : n ≡ steps + counted answer
  pub ended : out answer s (state_of r') (sharing mem') ≡ ranged (frame_of r) (registers_of r) p (told w r (length mem)) (sharing mem)
  pub stands : Stands r' mem mem'

-- what is left of `budget` steps after n of them, the last answer and the stray of these being l' and s'
abbrev pub resumed : Bool → ℕ → Last → Option Stray → ℕ → Last → Option Stray → ℕ → State → Shared → Turned
resumed through budget l s m (Ok None) s' n st sh = turned l (or_else s' s) (m + n) st sh
resumed through budget l s m (Ok (Some o)) s' n st sh =
    pick (goes through o) (steps_of through (budget - n) (Ok (Some o)) (or_else s' s) (m + n) st sh) (turned (Ok (Some o)) (or_else s' s) (m + n) st sh)
resumed through budget l s m (Err k) s' n st sh = turned (Err k) (or_else s' s) (m + n) st sh

-- n steps, of which the last answer and the stray are l and s, are the first of `budget` steps of which `all` is to come
pub record Part (l : Last) (s : Option Stray) (n budget : ℕ) (st : State) (sh : Shared) (all : Bool → Last → Option Stray → ℕ → Turned) : Type 0 where
  pub within : n ≤ budget
  pub some : (through : Bool) → last_goes through l ≡ true → 1 ≤ n
  pub was : (budget ≡ 0 → ⊥) → (o : Answer) × (l ≡ Ok (Some o))
  pub rest : (through : Bool) (l₀ : Last) (s₀ : Option Stray) (m : ℕ) → resumed through budget l₀ s₀ m l s n st sh ≡ all through l₀ s₀ m

-- from r and mem to r' and mem' the step after a burst that came to c ended
pub record Ended (l : Last) (s : Option Stray) (n : ℕ) (c : Came) (r r' mem mem' : List ℕ) : Type 0 where
  pub stands : Stands r' mem mem'
  pub part : (budget : ℕ) → Within budget c → Part l s n budget (state_of r') (sharing mem') (λ through l₀ s₀ m. came_end through budget l₀ s₀ m c r mem)

-- the ending of a run by its last answer
abbrev pub last_ending : Last → Result Ending ℕ
last_ending (Ok None) = Ok ending.Budget
last_ending (Ok (Some o)) = Ok (ending_of o)
last_ending (Err n) = Err n
