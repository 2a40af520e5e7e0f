-- What the functions that move words of memory promise. Assumes nothing.
use Rattle.std.specs.Prelude.{◌≡◌, ℕ, zero, suc, ◌+◌, ◌-◌, ◌*◌, ◌%◌, ◌^◌, ◌<◌, ◌≤◌, Bool, false, ◌&&◌, ◌||◌, List, ◌==◌, nat_le, slice_index, Option}
use Rattle.machine.specs.Word.{pick}
use Rattle.machine.specs.State.{Registers, Frame, ai, si, Put, to_a, to_s}
use Rattle.access.specs.Window.{extent, Inside, is_beyond, load_in, store_in, place_in}
use Rattle.access.specs.Executed.{Executes, ended_by, noted, cut_to, ring_at}
use Rattle.memory.specs.declared.File.{File}
use Rattle.memory.specs.declared.File.TheVariants.{A, S}

-- the first two digits of a load and of a store of a register of each file
abbrev pub load_code : File → ℕ
load_code A = 0o10
load_code S = 0o12

abbrev pub store_code : File → ℕ
store_code A = 0o11
store_code S = 0o13

-- the register that is stored, and what a word that is loaded comes to
abbrev pub register_of : File → Registers → ℕ → ℕ
register_of A r i = ai r i
register_of S r i = si r i

abbrev pub to_register : File → ℕ → ℕ → Put
to_register A i word = to_a i (word % 2 ^ 24)
to_register S i word = to_s i word

-- `words` words from `first` on are the data field of a processor with the frame fr, in a memory of len words
pub record DataWindow (fr : Frame) (first words len : ℕ) : Type 0 where
  pub dba : fr.dba < 2 ^ 17
  pub size : len ≤ 2 ^ 22
  pub start : first ≡ fr.dba * 32
  pub count : words ≡ extent fr.dba fr.dla len

-- they lie in a memory of len words, and 22 bits address them
pub record Held (first words len : ℕ) : Type 0 where
  pub inside : Inside first words len
  pub low : first ≤ 2 ^ 22
  pub short : words ≤ 2 ^ 22

-- the places of the addresses from, from + by, from + 2 by, ..
abbrev pub row_in : ℕ → ℕ → ℕ → ℕ → (ℕ → Option ℕ)
row_in first words from by = λ e. place_in first words (from + e * by)

-- one of the first n places is outside
unfoldable pub any_beyond : (ℕ → Option ℕ) → ℕ → Bool
any_beyond at zero = false
any_beyond at (suc n) = any_beyond at n || is_beyond (at n)

-- n words stored, rising: word e is `val e`, at the place `at e`
unfoldable pub stores_at : (ℕ → Option ℕ) → (ℕ → ℕ) → ℕ → List ℕ → List ℕ
stores_at at val zero mem = mem
stores_at at val (suc n) mem = store_in (stores_at at val n mem) (at n) (val n)

-- from r to r' n registers of the file at a place, from `reg` on, were read from a row of words; o says whether one lay outside
pub record ReadRow (r r' mem : List ℕ) (first words from by file reg n : ℕ) (narrow o : Bool) : Type 0 where
  pub became : r' ≡ ring_at file reg (λ e. cut_to narrow (load_in mem (row_in first words from by e))) n r
  pub beyond : o ≡ any_beyond (row_in first words from by) n

-- from mem to mem' they were stored
pub record StoredRow (r mem mem' : List ℕ) (first words from by file reg n : ℕ) (o : Bool) : Type 0 where
  pub became : mem' ≡ stores_at (row_in first words from by) (λ e. slice_index r (file + (reg + e) % 64)) n mem
  pub beyond : o ≡ any_beyond (row_in first words from by) n

-- how many of n words can be moved sixteen at a time: where they follow one another, the registers from `reg` on do not return to the first,
-- and all words from `from` on are inside
unfoldable pub straight_of : ℕ → ℕ → ℕ → ℕ → ℕ → ℕ
straight_of words reg n from by = pick (by == 1 && nat_le (reg + n) 64 && nat_le (from % 2 ^ 22 + n) words) (n - n % 16) 0

-- from r to r' and from mem to mem' the block move x was made, however it ends: `outside` says whether a word lay outside
pub record Moved (outside : Bool) (r r' mem mem' : List ℕ) (x : ℕ) : Type 0 where
  pub executes : (p : ℕ) → Executes (ended_by 1 outside) r (noted outside x r') mem mem' p x
