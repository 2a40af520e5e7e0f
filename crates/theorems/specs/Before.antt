-- The step as it was before it told why an operand lay outside. Assumes nothing.
use Rattle.std.specs.Prelude.{ℕ, zero, suc, ◌*◌, ◌%◌, ◌^◌, Bool, true, false, ◌&&◌, ◌||◌, List, length, get_or, set, eqb, leb, ltb, Option, Some, None}
use Rattle.machine.specs.declared.ParcelAddr.{ParcelAddr}
use Rattle.machine.specs.declared.Answer.{Answer}
use Rattle.machine.specs.declared.Answer.TheVariants as answer
use Rattle.machine.specs.Word.{pick}
use Rattle.machine.specs.Parcel.{word_of, parcel_of, onward}
use Rattle.machine.specs.State.{Frame, Registers, State, Shared, sharing, addr, user, apply}
use Rattle.machine.specs.Memory.{Field, code_field, data_field, sum_of}
use Rattle.machine.specs.Act.{Act, does, goes, reads_words, writes_words, leaves_normally, leaves_by_error, act}
use Rattle.machine.specs.Codes.{Code, holds_none, holds_one, holds_two, code_of}
use Rattle.machine.specs.Work.{Present, has_none, not_held, has_instr, with_parcel, status_of}
use Rattle.machine.specs.Exchange.{normal_exit, error_exit, program_range, operand_range, save, loaded}
use Rattle.machine.specs.Step.{Out, in_user_mode}

-- a word is in its place, or beyond the field or the memory
pub data Old : Type 0 where
  at_place : (n : ℕ) → Old
  beyond : Old

unfoldable pub old_place : Field → ℕ → ℕ → Old
old_place f len w =
    pick (ltb (sum_of f w) (f.base * 32)) beyond
    (pick (leb (f.limit * 32) (sum_of f w)) beyond
    (pick (leb len (sum_of f w)) beyond
    (at_place (sum_of f w))))

abbrev pub is_beyond : Old → Bool
is_beyond (at_place n) = false
is_beyond beyond = true

abbrev pub old_load_at : List ℕ → Old → ℕ
old_load_at mem (at_place n) = get_or mem n 0
old_load_at mem beyond = 0

abbrev pub old_store_at : List ℕ → Old → ℕ → List ℕ
old_store_at mem (at_place n) x = set mem n x
old_store_at mem beyond x = mem

abbrev pub old_load : Field → List ℕ → ℕ → ℕ
old_load f mem w = old_load_at mem (old_place f (length mem) w)

abbrev pub old_store : Field → List ℕ → ℕ → ℕ → List ℕ
old_store f mem w x = old_store_at mem (old_place f (length mem) w) x

unfoldable pub old_stores : Field → (ℕ → ℕ) → (ℕ → ℕ) → ℕ → List ℕ → List ℕ
old_stores f at val zero mem = mem
old_stores f at val (suc n) mem = old_store f (old_stores f at val n mem) (at n) (val n)

-- one of the first n addresses is outside
unfoldable pub any_outside : Field → (ℕ → ℕ) → ℕ → ℕ → Bool
any_outside f at len zero = false
any_outside f at len (suc n) = any_outside f at len n || is_beyond (old_place f len (at n))

-- the parcel at p, and what stands there
abbrev pub old_parcel_at : List ℕ → ℕ → Old → Option ℕ
old_parcel_at mem p (at_place n) = Some (parcel_of (get_or mem n 0) p)
old_parcel_at mem p beyond = None

abbrev pub old_fetch : Frame → List ℕ → ℕ → Option ℕ
old_fetch fr mem p = old_parcel_at mem p (old_place (code_field fr) (length mem) (word_of p))

abbrev pub old_decoded : Frame → List ℕ → ℕ → ℕ → Code → Present
old_decoded fr mem p x holds_none = not_held
old_decoded fr mem p x (holds_one n) = has_instr n x 0 1
old_decoded fr mem p x (holds_two n) = with_parcel (old_fetch fr mem (onward p 1)) (λ m. has_instr n x m 2)

abbrev pub old_present : Frame → List ℕ → ℕ → Present
old_present fr mem p = with_parcel (old_fetch fr mem p) (λ x. old_decoded fr mem p x (code_of (user fr) x))

-- what a step gave
pub record Plain : Type 0 where
  pub answer : Answer
  pub state : State
  pub shared : Shared

abbrev pub plain : Answer → State → Shared → Plain
plain o st sh = record { answer = o; state = st; shared = sh }

-- what one gives now, but for its stray
abbrev pub bare : Out → Plain
bare o = plain o.answer o.state o.shared

-- the ends of a step: an exchange, P saved as p; P going to q, or past the instruction; a parcel outside; an operand that may be outside
abbrev pub exchanges : State → Registers → ℕ → ℕ → Shared → Plain
exchanges st r p flags sh =
    plain (answer.Exchanged flags) (loaded sh.mem r.xa r st.frame) (sharing (save st.frame r p flags r.xa sh.mem))

abbrev pub steps : State → Registers → ParcelAddr → Shared → Plain
steps st r q sh = plain answer.Stepped (record { p = q; registers = r; frame = st.frame }) sh

abbrev pub passes : State → ℕ → Registers → Shared → Plain
passes st parcels r sh = steps st r (addr (onward st.p.0 parcels)) sh

abbrev pub lost : State → Shared → Plain
lost st sh = pick (user st.frame) (exchanges st st.registers st.p.0 program_range sh) (plain (answer.MonitorFetch st.p) st sh)

abbrev pub ends : State → ℕ → Bool → Registers → Shared → Plain
ends st parcels outside r sh =
    pick (outside && user st.frame && eqb st.registers.ior 1)
    (exchanges st r (onward st.p.0 parcels) operand_range sh) (passes st parcels r sh)

unfoldable pub old_perform : State → ℕ → Shared → Act → Plain
old_perform st parcels sh (does put) = passes st parcels (apply put st.registers) sh
old_perform st parcels sh (goes target put) = steps st (apply put st.registers) (addr (target % 2 ^ 24)) sh
old_perform st parcels sh (reads_words n at put) =
    let field = data_field st.frame in
    ends st parcels (any_outside field at (length sh.mem) n) (apply (put (λ e. old_load field sh.mem (at e))) st.registers) sh
old_perform st parcels sh (writes_words n at val) =
    let field = data_field st.frame in
    ends st parcels (any_outside field at (length sh.mem) n) st.registers (sharing (old_stores field at val n sh.mem))
old_perform st parcels sh leaves_normally = exchanges st st.registers (onward st.p.0 1) (in_user_mode st.frame normal_exit) sh
old_perform st parcels sh leaves_by_error = exchanges st st.registers (onward st.p.0 1) (in_user_mode st.frame error_exit) sh

unfoldable pub old_done : State → Shared → Present → Plain
old_done st sh has_none = lost st sh
old_done st sh not_held = plain (answer.NotHeld st.p) st sh
old_done st sh (has_instr n x m parcels) =
    old_perform st parcels sh (act st.registers (status_of st.frame st.registers) x m (onward st.p.0 parcels) n)

unfoldable pub old_step : State → Shared → Plain
old_step st sh = old_done st sh (old_present st.frame sh.mem st.p.0)
