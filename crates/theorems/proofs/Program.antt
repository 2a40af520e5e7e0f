-- A small program and the processors on it, of which the theorems about wrong calls speak. Assumes nothing.
use Prim.Native.Nat.{ℕ, ◌+◌, ◌*◌, ◌^◌}
use mathlib.Core.Path.{◌≡◌, refl}
use mathlib.Core.List.{◌∷◌}
use lib.ListN.{length, get_or}
use Rattle.std.specs.Prelude.{None}
use Rattle.machine.specs.declared.Answer.TheVariants.{Stepped, NotHeld, MonitorFetch}
use Rattle.machine.specs.State.{State, Shared, sharing, addr, apply}
use Rattle.machine.specs.Memory.{place_of, fetch_of}
use Rattle.machine.specs.Act.{act}
use Rattle.machine.specs.Codes.{code_of, code001}
use Rattle.machine.specs.Work.{decoded, present_of, perform, no_parcel, done_with, work_of}
use Rattle.machine.specs.Step.{out, finish, finish_of, step_of}
use Rattle.machine.specs.Run.{zeros}

-- processor n in monitor mode at parcel p, its instruction field the first `limit` blocks of memory
unfoldable pub at : ℕ → ℕ → ℕ → State
at limit n p =
    record {
      p = addr p;
      registers = record { a = zeros 8; s = zeros 8; b = zeros 64; t = zeros 64; v = zeros 512; xa = 0; vl = 1; vm = 0; ior = 0; bdm = 0 };
      frame = record { iba = 0; ila = limit; dba = 0; dla = 0; mm = 1; ifp = 0; fps = 0; ps = 0; cln = 0; processor = n };
    }

-- 4,096 words, whose first holds 001000, 001000, 000001: two passes and a parcel that is not held
unfoldable pub program : Shared
program = sharing ((512 * 2 ^ 48 + 512 * 2 ^ 32 + 2 ^ 16) ∷ zeros 4095)

pub program-length : length program.mem ≡ 4096
unfolding program zeros
program-length = refl

pub program-first : get_or program.mem 0 0 ≡ 512 * 2 ^ 48 + 512 * 2 ^ 32 + 2 ^ 16
unfolding program
program-first = refl

-- the passes move P on
pub passes-0 : step_of (at 1 0 0) program ≡ out Stepped None (at 1 0 1) program
unfolding at step_of finish_of finish work_of present_of decoded done_with fetch_of place_of perform act apply code_of code001
passes-0 = rw (program-length, program-first)

pub passes-1 : step_of (at 1 0 1) program ≡ out Stepped None (at 1 0 2) program
unfolding at step_of finish_of finish work_of present_of decoded done_with fetch_of place_of perform act apply code_of code001
passes-1 = rw (program-length, program-first)

-- then it stops
pub stops-2 : step_of (at 1 0 2) program ≡ out (NotHeld (addr 2)) None (at 1 0 2) program
unfolding at step_of finish_of finish work_of present_of decoded done_with fetch_of place_of code_of
stops-2 = rw (program-length, program-first)

-- and where the field is empty it cannot begin
pub stops-0 : step_of (at 0 0 0) program ≡ out (MonitorFetch (addr 0)) None (at 0 0 0) program
unfolding at step_of finish_of finish work_of present_of done_with fetch_of place_of no_parcel
stops-0 = refl
