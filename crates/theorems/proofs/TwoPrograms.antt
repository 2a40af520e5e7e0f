-- Demand 3 of two small programs: what it asks can be met, and both do their work. Assumes nothing.
use Prim.Native.Nat.{ℕ, ◌+◌, ◌*◌, ◌^◌}
use mathlib.Core.Path.{◌≡◌, refl}
use mathlib.Core.List.{List, [], ◌∷◌}
use native.Mathlib.Omega.{arith}
use lib.ListN.{length, set}
use Rattle.std.specs.Prelude.{Some, Ok}
use Rattle.machine.specs.declared.Answer.TheVariants.{Stepped}
use Rattle.machine.specs.Word.{sum24, sum64, ones_right}
use Rattle.machine.specs.State.{State, sharing, addr, apply}
use Rattle.machine.specs.Memory.{place_of, load, store, stores, first_outside, fetch_of}
use Rattle.machine.specs.Act.{act}
use Rattle.machine.specs.Codes.{code_of}
use Rattle.machine.specs.Work.{decoded, present_of, outside, perform, done_with, work_of}
use Rattle.machine.specs.Step.{finish, finish_of, step_of}
use Rattle.machine.specs.Run.{zeros, half, pair_ended, pair_of}
use Rattle.machine.specs.Refusal.{below, registers_fit, frame_fits, state_fits, memory_fits, pair_refusal}
use Rattle.machine.specs.Refusal as Refusal
use Rattle.theorems.specs.Statement.{Apart, together, Smooth, Undisturbed, Demand3}
use Rattle.theorems.proofs.Pair.{undisturbed}

-- four parcels
abbrev pub word : ℕ → ℕ → ℕ → ℕ → ℕ
word a b c d = a * 2 ^ 48 + b * 2 ^ 32 + c * 2 ^ 16 + d

-- 4,096 words; the first processor's program is in words 0 and 1: A1 is 5, A2 is A1+A1, A2 to word 3, A3 from word 3;
-- the second's in words 64 and 65: S1 is eight ones, S1 is S1+S1, S1 to word 2, S2 from word 2
unfoldable pub memory : List ℕ
memory =
    let one = set (set (zeros 4096) 0 (word 0o022105 0o030211 0o110200 3)) 1 (word 0o100300 3 0 0) in
    set (set one 64 (word 0o042170 0o060111 0o130100 2)) 65 (word 0o120200 2 0 0)

-- a processor whose instruction field is block n and whose data field is block n + 1, at parcel p
abbrev pub at : ℕ → ℕ → ℕ → List ℕ → List ℕ → State
at number n p a s =
    record {
      p = addr p;
      registers = record { a = a; s = s; b = zeros 64; t = zeros 64; v = zeros 512; xa = 0; vl = 1; vm = 0; ior = 0; bdm = 0 };
      frame = record { iba = n; ila = n + 1; dba = n + 1; dla = n + 2; mm = 0; ifp = 0; fps = 0; ps = 0; cln = 0; processor = number };
    }

abbrev pub first : State
first = at 0 0 0 (zeros 8) (zeros 8)

abbrev pub second : State
second = at 1 2 0 (zeros 8) (zeros 8)

abbrev pub schedule : List ℕ
schedule = 0 ∷ 1 ∷ 1 ∷ 0 ∷ 0 ∷ 1 ∷ 0 ∷ 1 ∷ []

-- a pair run that is not refused
pub taken : pair_refusal (length memory) first second schedule ≡ 0
unfolding memory zeros pair_refusal Refusal.first_due memory_fits state_fits registers_fit frame_fits below
taken = refl

apart : Apart first.frame second.frame (length memory)
apart = record { operands = λ w a b. omega arith; first = λ w a b. omega arith; second = λ w a b. omega arith }

-- each of its steps steps, and what it comes to
pub ends : Smooth schedule first second (sharing memory)
    × (together schedule first second (sharing memory)
    ≡ pair_ended (Ok (Some Stepped)) 8 (half (at 0 0 6 (0 ∷ 5 ∷ 10 ∷ 10 ∷ zeros 4) (zeros 8))) (half (at 1 2 6 (zeros 8) (0 ∷ 510 ∷ 510 ∷ zeros 5)))
    (sharing (set (set memory 35 10) 98 510)))
unfolding memory zeros pair_of step_of finish_of finish work_of present_of decoded done_with fetch_of place_of perform act apply code_of
    load store stores outside first_outside sum24 sum64 ones_right
ends = ((refl, (refl, (refl, (refl, (refl, (refl, (refl, (refl, tt)))))))), refl)

pub example : Undisturbed schedule first second (sharing memory)
unfolding Demand3
example = undisturbed schedule first second (sharing memory) apart ends.0
