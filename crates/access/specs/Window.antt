-- The two fields of a processor as windows of memory: made once, and good until an exchange. Assumes nothing.
use Rattle.std.specs.Prelude.{◌≡◌, ℕ, ◌+◌, ◌-◌, ◌*◌, ◌%◌, ◌^◌, ◌<◌, ◌≤◌, Bool, true, false, List, nat_le, nat_lt}
use Rattle.std.specs.Prelude.{slice_index, slice_set, Option, Some, None, Result, Ok, Err}
use Rattle.machine.specs.declared.Cause.{Cause}
use Rattle.machine.specs.declared.Reach.{Reach}
use Rattle.machine.specs.Word.{pick}
use Rattle.machine.specs.Parcel.{word_of, parcel_of}
use Rattle.machine.specs.State.{Frame}

-- how many words of a field lie in a memory: from the base up to the limit or the end
abbrev pub extent : ℕ → ℕ → ℕ → ℕ
extent base limit len = pick (nat_le (limit * 32) len) (limit * 32) len - base * 32

-- f is what a processor with the frame fr reaches in a memory of len words
pub record Reaches (fr : Frame) (f : Reach) (len : ℕ) : Type 0 where
  pub iba : fr.iba < 2 ^ 17
  pub dba : fr.dba < 2 ^ 17
  pub size : len ≤ 2 ^ 22
  pub code : f.code.first ≡ fr.iba * 32
  pub span : f.code.words ≡ extent fr.iba fr.ila len
  pub operands : f.operands.first ≡ fr.dba * 32
  pub words : f.operands.words ≡ extent fr.dba fr.dla len

-- a window of so many words from `first` on lies in a memory of len words
abbrev pub Inside : ℕ → ℕ → ℕ → Type 0
Inside first words len = (w : ℕ) → w < words → first + w < len

-- where an address lies in a window: at a place of memory; or none, beyond it, as one outside the field is for any cause
abbrev pub spot_of : Result ℕ Cause → Option ℕ
spot_of (Ok n) = Some n
spot_of (Err cause) = None

abbrev pub is_beyond : Option ℕ → Bool
is_beyond (Some n) = false
is_beyond None = true

abbrev pub load_in : List ℕ → Option ℕ → ℕ
load_in mem (Some n) = slice_index mem n
load_in mem None = 0

abbrev pub store_in : List ℕ → Option ℕ → ℕ → List ℕ
store_in mem (Some n) x = slice_set mem n x
store_in mem None x = mem

-- the parcel at p, and the place of an address, by windows
unfoldable pub fetch_in : Reach → List ℕ → ℕ → Option ℕ
fetch_in f mem p = pick (nat_lt (word_of p) f.code.words) (Some (parcel_of (slice_index mem (f.code.first + word_of p)) p)) None

unfoldable pub place_in : ℕ → ℕ → ℕ → Option ℕ
place_in first words address = pick (nat_lt (address % 2 ^ 22) words) (Some (first + address % 2 ^ 22)) None
