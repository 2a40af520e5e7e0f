-- But for its stray, every step is what it was before it had one. Assumes nothing.
use Prim.Native.Nat.{ℕ, zero, suc, ◌*◌}
use mathlib.Core.Path.{◌≡◌, refl, ◌∙◌, ap, fun_ext}
use mathlib.Core.Bool.{Bool, true, false, ◌&&◌, ◌||◌}
use mathlib.Core.List.{List}
use lib.ListN.{length}
use lib.Dec.{eqb, leb, ltb}
use Rattle.std.specs.Prelude.{Option, Some, None, Result, Ok, Err}
use Rattle.machine.specs.declared.Cause.{Cause}
use Rattle.machine.specs.declared.Cause.TheVariants.{BelowBase, OverLimit, BeyondMemory}
use Rattle.machine.specs.declared.Stray.{Stray}
use Rattle.machine.specs.declared.Answer.TheVariants.{MonitorFetch}
use Rattle.machine.specs.Word.{pick}
use Rattle.machine.specs.Parcel.{word_of, onward}
use Rattle.machine.specs.State.{Frame, Registers, State, Shared, sharing, addr, user, apply}
use Rattle.machine.specs.Memory.{Field, code_field, data_field, sum_of, place_of, load_at, store_at, load, store, stores}
use Rattle.machine.specs.Memory.{or_else, stray_at, first_outside, parcel_at, fetch_of}
use Rattle.machine.specs.Act.{Instr, Act, does, goes, reads_words, writes_words, leaves_normally, leaves_by_error, act}
use Rattle.machine.specs.Codes.{Code, holds_none, holds_one, holds_two, code_of}
use Rattle.machine.specs.Work.{Present, has_instr, with_parcel, decoded, present_of, past, outside, perform, no_parcel, status_of, done_with, work_of}
use Rattle.machine.specs.Exchange.{program_range, operand_range}
use Rattle.machine.specs.Step.{exchange, stepped, ranged, finish, finish_of, step_of}
use Rattle.laws.proofs.Acts.{ActOk, act-ok}
use Rattle.theorems.specs.Before.{Old, at_place, beyond, old_place, is_beyond, old_load_at, old_store_at, old_load, old_store, old_stores, any_outside}
use Rattle.theorems.specs.Before.{old_parcel_at, old_fetch, old_decoded, Plain, plain, bare, exchanges, passes, ends, old_perform, old_done, old_step}
use Rattle.theorems.proofs.Keeps.{apply-filed}

-- ---- memory

-- the place without the cause is the old one
abbrev pub erase : Result ℕ Cause → Old
erase (Ok n) = at_place n
erase (Err cause) = beyond

pub place-before : (f : Field) (len w : ℕ) → old_place f len w ≡ erase (place_of f len w)
unfolding place_of old_place
place-before f len w = go (ltb (sum_of f w) (f.base * 32)) (leb (f.limit * 32) (sum_of f w)) (leb len (sum_of f w))
  where
    go : (s t u : Bool) → pick s beyond (pick t beyond (pick u beyond (at_place (sum_of f w))))
        ≡ erase (pick s (Err BelowBase) (pick t (Err OverLimit) (pick u (Err BeyondMemory) (Ok (sum_of f w)))))
    go true t u = refl
    go false true u = refl
    go false false true = refl
    go false false false = refl

-- so a word read is the same, words stored, and a parcel fetched
pub load-before : (f : Field) (mem : List ℕ) (w : ℕ) → load f mem w ≡ old_load f mem w
unfolding load
load-before f mem w = rw (place-before f (length mem) w) (go (place_of f (length mem) w))
  where
    go : (o : Result ℕ Cause) → load_at mem o ≡ old_load_at mem (erase o)
    go (Ok n) = refl
    go (Err cause) = refl

store-before : (f : Field) (mem : List ℕ) (w x : ℕ) → store f mem w x ≡ old_store f mem w x
unfolding store
store-before f mem w x = rw (place-before f (length mem) w) (go (place_of f (length mem) w))
  where
    go : (o : Result ℕ Cause) → store_at mem o x ≡ old_store_at mem (erase o) x
    go (Ok n) = refl
    go (Err cause) = refl

pub stores-before : (f : Field) (at val : ℕ → ℕ) (n : ℕ) (mem : List ℕ) → stores f at val n mem ≡ old_stores f at val n mem
unfolding stores old_stores
stores-before f at val zero mem = refl
stores-before f at val (suc n) mem =
    ap (λ (m : List ℕ). store f m (at n) (val n)) (stores-before f at val n mem) ∙ store-before f (old_stores f at val n mem) (at n) (val n)

pub fetch-before : (fr : Frame) (mem : List ℕ) (p : ℕ) → fetch_of fr mem p ≡ old_fetch fr mem p
unfolding fetch_of
fetch-before fr mem p = rw (place-before (code_field fr) (length mem) (word_of p)) (go (place_of (code_field fr) (length mem) (word_of p)))
  where
    go : (o : Result ℕ Cause) → parcel_at mem p o ≡ old_parcel_at mem p (erase o)
    go (Ok n) = refl
    go (Err cause) = refl

-- and there is a stray exactly where a word was outside
abbrev pub strayed : Option Stray → Bool
strayed None = false
strayed (Some stray) = true

pub any-before : (f : Field) (at : ℕ → ℕ) (len n : ℕ) → strayed (first_outside f at len n) ≡ any_outside f at len n
unfolding first_outside any_outside
any-before f at len zero = refl
any-before f at len (suc n) =
    rw (← (any-before f at len n), place-before f len (at n)) (go (first_outside f at len n) (place_of f len (at n)))
  where
    go : (s : Option Stray) (o : Result ℕ Cause) → strayed (or_else s (stray_at n o)) ≡ (strayed s || is_beyond (erase o))
    go None (Ok m) = refl
    go None (Err cause) = refl
    go (Some stray) o = refl

-- ---- a step

module _ (st : State) where
  -- past an instruction of one parcel or of two, without a stray and with any
  clean-before : (one : Bool) (r : Registers) (sh : Shared) → bare (finish st (past (pick one 1 2) None) None r sh) ≡ passes st (pick one 1 2) r sh
  unfolding finish
  clean-before true r sh = refl
  clean-before false r sh = refl

  ranged-before : (parcels : ℕ) (s : Option Stray) (r : Registers) (sh : Shared) → r.ior ≡ st.registers.ior
      → bare (ranged st.frame r (onward st.p.0 parcels) s sh) ≡ ends st parcels true r sh
  unfolding ranged exchange
  ranged-before parcels s r sh i = go (user st.frame && eqb r.ior 1) ∙ ap (λ (k : ℕ). old (user st.frame && eqb k 1)) i
    where
      p : ℕ
      p = onward st.p.0 parcels

      old : Bool → Plain
      old t = pick t (exchanges st r p operand_range sh) (passes st parcels r sh)

      go : (t : Bool) → bare (pick t (exchange st.frame r p operand_range s sh) (stepped st.frame r (addr p) s sh)) ≡ old t
      go true = refl
      go false = refl

  past-before : (one : Bool) (s : Option Stray) (r : Registers) (sh : Shared) → r.ior ≡ st.registers.ior
      → bare (finish st (past (pick one 1 2) s) s r sh) ≡ ends st (pick one 1 2) (strayed s) r sh
  unfolding finish
  past-before one None r sh i = clean-before one r sh
  past-before true (Some stray) r sh i = ranged-before 1 (Some stray) r sh i
  past-before false (Some stray) r sh i = ranged-before 2 (Some stray) r sh i

  module _ (sh : Shared) where
    -- an act, of an instruction of one parcel or of two
    perform-before : (one : Bool) (a : Act) → ActOk ⊥ a
        → bare (finish_of st (perform st.frame st.registers (pick one 1 2) sh a)) ≡ old_perform st (pick one 1 2) sh a
    unfolding finish_of finish perform outside exchange old_perform
    perform-before one (does put) h = clean-before one (apply put st.registers) sh
    perform-before one (goes q put) h = refl
    perform-before one (reads_words n at put) h =
        let field = data_field st.frame in
        let word : ℕ → ℕ = λ e. load field sh.mem (at e) in
        let same : word ≡ (λ e. old_load field sh.mem (at e)) = fun_ext (λ e. load-before field sh.mem (at e)) in
        past-before one (first_outside field at (length sh.mem) n) (apply (put word) st.registers) sh (apply-filed (put word) st.registers (h word).0).1
        ∙ rw (any-before field at (length sh.mem) n)
        (ap (λ (w : ℕ → ℕ). ends st (pick one 1 2) (any_outside field at (length sh.mem) n) (apply (put w) st.registers) sh) same)
    perform-before one (writes_words n at val) h =
        let field = data_field st.frame in
        past-before one (first_outside field at (length sh.mem) n) st.registers (sharing (stores field at val n sh.mem)) refl
        ∙ (rw (any-before field at (length sh.mem) n, stores-before field at val n sh.mem))
    perform-before one leaves_normally h = refl
    perform-before one leaves_by_error h = refl

    abbrev now : Present → Plain
    now o = bare (finish_of st (done_with st.frame st.registers st.p.0 sh o))

    has-before : (one : Bool) (n : Instr) (x m : ℕ) → now (has_instr n x m (pick one 1 2)) ≡ old_done st sh (has_instr n x m (pick one 1 2))
    unfolding done_with old_done
    has-before one n x m =
        let r = st.registers in
        let next = onward st.p.0 (pick one 1 2) in
        perform-before one (act r (status_of st.frame r) x m next n) (act-ok ⊥ r (status_of st.frame r) x m next (λ z. absurd z) n)

    fetched-before : (q : ℕ) (f f' : ℕ → Present) → ((x : ℕ) → now (f x) ≡ old_done st sh (f' x))
        → now (with_parcel (fetch_of st.frame sh.mem q) f) ≡ old_done st sh (with_parcel (old_fetch st.frame sh.mem q) f')
    unfolding done_with old_done finish_of finish no_parcel exchange
    fetched-before q f f' h = rw (fetch-before st.frame sh.mem q) (go (old_fetch st.frame sh.mem q))
      where
        none : (t : Bool) → bare (finish st (no_parcel t) None st.registers sh)
            ≡ pick t (exchanges st st.registers st.p.0 program_range sh) (plain (MonitorFetch st.p) st sh)
        none true = refl
        none false = refl

        go : (o : Option ℕ) → now (with_parcel o f) ≡ old_done st sh (with_parcel o f')
        go None = none (user st.frame)
        go (Some x) = h x

    decoded-before : (x : ℕ) (c : Code)
        → now (decoded st.frame sh.mem st.p.0 x c) ≡ old_done st sh (old_decoded st.frame sh.mem st.p.0 x c)
    unfolding decoded done_with old_done finish_of finish
    decoded-before x holds_none = refl
    decoded-before x (holds_one n) = has-before true n x 0
    decoded-before x (holds_two n) = fetched-before (onward st.p.0 1) (λ m. has_instr n x m 2) (λ m. has_instr n x m 2) (λ m. has-before false n x m)

    -- nothing else of a step changed: its answer, state and memory are the old ones
    pub as_before : bare (step_of st sh) ≡ old_step st sh
    unfolding step_of work_of present_of old_step
    as_before = fetched-before st.p.0 _ _ (λ x. decoded-before x (code_of (user st.frame) x))
