-- Demand 3: two processors on one memory whose fields are apart, in any order of steps. Assumes nothing.
-- Said of any step, it would hold of one that does nothing. So it is said of the definitions' own `pair_of` and `run_of`, which
-- are made of `step_of` and which the code's results have to equal.
use Rattle.std.specs.Prelude.{ℕ, zero, suc, ◌*◌, ◌≤◌, ◌<◌, ◌≡◌, ◌⊎◌, List, [], ◌∷◌, ◌++◌, length, get_or, None, Ok}
use Rattle.machine.specs.declared.Answer.TheVariants.{Stepped}
use Rattle.machine.specs.declared.Ending.TheVariants as ending
use Rattle.machine.specs.State.{Frame, State, Shared}
use Rattle.machine.specs.Memory.{Field, code_field, data_field}
use Rattle.machine.specs.Step.{step_of}
use Rattle.machine.specs.Run.{zeros, Ended, run_of, Half, half, PairEnded, pair_of}

-- w is a word of a field in a memory of len words
abbrev pub In : Field → ℕ → ℕ → Type 0
In f len w = (f.base * 32 ≤ w) × (w < f.limit * 32) × (w < len)

-- w is a word of one of the processor's own two fields
abbrev pub Own : Frame → ℕ → ℕ → Type 0
Own fr len w = In (code_field fr) len w ⊎ In (data_field fr) len w

-- w is a word of neither one's data field
abbrev pub Neither : Frame → Frame → ℕ → ℕ → Type 0
Neither x y len w = ¬ (In (data_field x) len w) × ¬ (In (data_field y) len w)

-- two memories of one length, with the same word wherever P holds
pub record Agree (P : ℕ → Type 0) (m m' : List ℕ) : Type 0 where
  pub long : length m ≡ length m'
  pub same : (w : ℕ) → P w → get_or m w 0 ≡ get_or m' w 0

-- the data fields share no word, and neither shares one with the other's instruction field; the instruction fields may
pub record Apart (x y : Frame) (len : ℕ) : Type 0 where
  pub operands : (w : ℕ) → In (data_field x) len w → In (data_field y) len w → ⊥
  pub first : (w : ℕ) → In (data_field x) len w → In (code_field y) len w → ⊥
  pub second : (w : ℕ) → In (data_field y) len w → In (code_field x) len w → ⊥

-- the steps of each processor in a schedule
unfoldable pub firsts : List ℕ → ℕ
firsts [] = 0
firsts (zero ∷ bytes) = suc (firsts bytes)
firsts (suc b ∷ bytes) = firsts bytes

unfoldable pub seconds : List ℕ → ℕ
seconds [] = 0
seconds (zero ∷ bytes) = seconds bytes
seconds (suc b ∷ bytes) = suc (seconds bytes)

-- n bytes 1, as `zeros` are n bytes 0
unfoldable pub one_bytes : ℕ → List ℕ
one_bytes zero = []
one_bytes (suc n) = 1 ∷ one_bytes n

-- a pair run from its beginning, and n steps of one processor alone
abbrev pub together : List ℕ → State → State → Shared → PairEnded
together bytes x y sh = pair_of bytes (Ok None) 0 (half x) (half y) sh

abbrev pub alone : ℕ → State → Shared → Ended
alone n x sh = run_of n None 0 x sh

-- no step of the schedule exchanges or stops: the processor that a byte names takes a step, and answers that it stepped
abbrev pub Smooth : List ℕ → State → State → Shared → Type 0
Smooth [] x y sh = Unit {0}
Smooth (zero ∷ bytes) x y sh = ((step_of x sh).answer ≡ Stepped) × Smooth bytes (step_of x sh).state y (step_of x sh).shared
Smooth (suc b ∷ bytes) x y sh = ((step_of y sh).answer ≡ Stepped) × Smooth bytes x (step_of y sh).state (step_of y sh).shared

-- x' and sh' are what n steps of processor x alone leave, from sh: each of them answers Stepped, the budget ends them, the whole
-- state and the stray are those of x', and memory has the same words in the processor's own two fields
pub record AsAlone (n : ℕ) (x : State) (sh : Shared) (x' : Half) (sh' : Shared) : Type 0 where
  pub each : (k : ℕ) → k < n → (step_of (alone k x sh).state (alone k x sh).shared).answer ≡ Stepped
  pub ending : (alone n x sh).ending ≡ Ok ending.Budget
  pub steps : (alone n x sh).steps ≡ n
  pub state : (alone n x sh).state ≡ x'.state
  pub stray : (alone n x sh).stray ≡ x'.stray
  pub fields : Agree (Own x.frame (length sh.mem)) (alone n x sh).shared.mem sh'.mem

-- how the schedule `bytes` ends, from x, y and sh
pub record Undisturbed (bytes : List ℕ) (x y : State) (sh : Shared) : Type 0 where
  -- each processor as alone, whatever stands outside its own two fields
  pub first : (other : Shared) → Agree (Own x.frame (length sh.mem)) sh.mem other.mem →
      AsAlone (firsts bytes) x other (together bytes x y sh).first (together bytes x y sh).shared
  pub second : (other : Shared) → Agree (Own y.frame (length sh.mem)) sh.mem other.mem →
      AsAlone (seconds bytes) y other (together bytes x y sh).second (together bytes x y sh).shared
  -- no word outside the two data fields changes
  pub rest : Agree (Neither x.frame y.frame (length sh.mem)) (together bytes x y sh).shared.mem sh.mem
  -- every step of the schedule is taken
  pub steps : (together bytes x y sh).steps ≡ length bytes
  -- in any other order of as many steps of each no step exchanges or stops either, and it ends just so, its last answer included
  pub smooth : (other : List ℕ) → firsts other ≡ firsts bytes → seconds other ≡ seconds bytes → Smooth other x y sh
  pub orders : (other : List ℕ) → firsts other ≡ firsts bytes → seconds other ≡ seconds bytes → together other x y sh ≡ together bytes x y sh
  -- so does the one after the other
  pub one_by_one : together (zeros (firsts bytes) ++ one_bytes (seconds bytes)) x y sh ≡ together bytes x y sh

-- each has its steps undisturbed, in every order in which no step exchanges or stops
unfoldable pub Demand3 : Type 0
Demand3 = (bytes : List ℕ) (x y : State) (sh : Shared) → Apart x.frame y.frame (length sh.mem) → Smooth bytes x y sh → Undisturbed bytes x y sh
