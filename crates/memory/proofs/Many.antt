-- 034 to 037, 176 and 177: from the row that was moved to what the definitions say of the code. Assumes nothing.
use Rattle.std.proofs.Common.{◌≡◌, ℕ, zero, suc, ◌+◌, ◌*◌, ◌/◌, ◌%◌, ◌^◌, ◌<◌, ◌≤◌, Bool, true, false, List, length, get_or, sym, Option}
use Rattle.std.proofs.Common.{refl, ap, ◌∙◌, subst, arith, get_or-set_same, le-ltb, lt-ltb}
use mathlib.Core.Path.{fun_ext}
use Rattle.machine.specs.Word.{pick}
use Rattle.machine.specs.Parcel.{i_of, j_of, k_of, jk_of}
use Rattle.machine.specs.State.{Registers, user, ai, ak, el, Put, to_bs, to_ts, to_v, apply}
use Rattle.machine.specs.Memory.{data_field, place_of, load, first_outside}
use Rattle.machine.specs.Act.{Instr, reads_words, writes_words, read_b, store_b, read_t, store_t, load_v, store_v, act}
use Rattle.machine.specs.Codes.{holds_one, code_of}
use Rattle.machine.specs.Work.{outside}
use Rattle.machine.specs.Layout.{registers_of, frame_of}
use Rattle.access.specs.Window.{load_in}
use Rattle.access.specs.Executed.{block_count, block_by, Puts, ended_by, noted, cut_to, ring_at}
use Rattle.access.proofs.Leaf.{act_at, one}
use Rattle.access.proofs.Places.{p-puts, to-elements, el-at}
use Rattle.access.proofs.Rings.{bs-of, ts-of, ring-b, ring-t, ring-fill}
use Rattle.memory.specs.Moves.{DataWindow, row_in, any_beyond, stores_at, ReadRow, StoredRow, Moved}
use Rattle.memory.proofs.Fields.{row_of, load-spot, any-outside, all-stored, Tells, tells, reads, writes}

-- an instruction of one parcel that moves a row of `count` words
module _ (n : Instr) (count by : ℕ) (r mem : List ℕ) (first words x : ℕ) (o : Bool)
    (h : DataWindow (frame_of r) first words (length mem)) (held : code_of (user (frame_of r)) x ≡ holds_one n)
    (has : (count ≡ block_count (registers_of r) x) × (by ≡ block_by (registers_of r) x))
    (beyond : o ≡ any_beyond (row_in first words (ai (registers_of r) 0) by) count) where
  abbrev at : ℕ → ℕ
  at e = ai (registers_of r) 0 + e * by

  -- it ended as its stray has it, and P's place tells the move: the words that say where its operands were are as before
  row_told : (r' : List ℕ) → length r' ≡ 672 → frame_of r' ≡ frame_of r → (registers_of r').a ≡ (registers_of r).a → (registers_of r').vl ≡ (registers_of r).vl
      → Tells (ended_by 1 o) 1 r' (noted o x r') (length mem) (first_outside (data_field (frame_of r)) at (length mem) count)
  row_told r' long f a v =
      let one = beyond ∙ ap (λ (row : ℕ → Option ℕ). any_beyond row count) (row_of (frame_of r) first words (length mem) h (ai (registers_of r) 0) by)
      ∙ any-outside (data_field (frame_of r)) at (length mem) count in
      tells 1 o x r' (length mem) _ one
      (rw ((p-puts r' x).0, (p-puts r' x).1, get_or-set_same r' 0 x 0 (omega arith), f, a, v, has.0, has.1))

  -- they are read, and a register is written that is neither A nor VL
  row_read : (put : (ℕ → ℕ) → Put) (r' : List ℕ) → length r' ≡ 672 → ((p : ℕ) → act_at r p x 0 1 n ≡ reads_words count at put)
      → ((f : ℕ → ℕ) → ((apply (put f) (registers_of r)).a ≡ (registers_of r).a) × ((apply (put f) (registers_of r)).vl ≡ (registers_of r).vl))
      → Puts r r' (put (λ e. load_in mem (row_in first words (ai (registers_of r) 0) by e))) → Moved o r r' mem mem x
  unfolding load outside
  row_read put r' long a i k =
      let same : ◌≡◌ {A = ℕ → ℕ} (λ e. load_in mem (row_in first words (ai (registers_of r) 0) by e)) (λ e. load (data_field (frame_of r)) mem (at e))
      = ap {B = ℕ → ℕ} (λ row e. load_in mem (row e)) (row_of (frame_of r) first words (length mem) h (ai (registers_of r) 0) by)
      ∙ fun_ext (λ e. load-spot mem (place_of (data_field (frame_of r)) (length mem) (at e))) in
      let t = subst (λ (f : ℕ → ℕ). Puts r r' (put f)) same k in
      let u = i (λ e. load (data_field (frame_of r)) mem (at e)) in
      let s = row_told r' long t.frame (ap (λ (q : Registers). q.a) t.registers ∙ u.0) (ap (λ (q : Registers). q.vl) t.registers ∙ u.1) in
      record {
        executes = λ p. one (ended_by 1 o) r (noted o x r') mem mem p x n held (s.frame ∙ t.frame)
            (rw (a p) (reads (ended_by 1 o) r r' (noted o x r') mem 1 count at put s t));
      }

  -- they are stored
  row-stored : (val : ℕ → ℕ) (mem' : List ℕ) → length r ≡ 672 → ((p : ℕ) → act_at r p x 0 1 n ≡ writes_words count at val)
      → mem' ≡ stores_at (row_in first words (ai (registers_of r) 0) by) val count mem → Moved o r r mem mem' x
  unfolding outside
  row-stored val mem' long a k =
      let t = k ∙ ap (λ (row : ℕ → Option ℕ). stores_at row val count mem) (row_of (frame_of r) first words (length mem) h (ai (registers_of r) 0) by)
      ∙ all-stored (data_field (frame_of r)) at val count mem in
      let s = row_told r long refl refl refl in
      record {
        executes = λ p. one (ended_by 1 o) r (noted o x r) mem mem' p x n held s.frame
            (rw (a p) (writes (ended_by 1 o) r (noted o x r) mem mem' 1 count at val s t));
      }

-- the next address is one more
by_one : (a : ℕ) → ◌≡◌ {A = ℕ → ℕ} (λ e. a + e * 1) (λ e. a + e)
by_one a = fun_ext (λ e. omega arith)

-- 034 to 037, of B registers or else of T registers: the instruction, what is written, and what is stored
abbrev block_read : Bool → Instr
block_read b = pick b read_b read_t

abbrev block_stored : Bool → Instr
block_stored b = pick b store_b store_t

abbrev to_block : Bool → ℕ → ℕ → (ℕ → ℕ) → Put
to_block true jk n word = to_bs jk n (λ e. word e % 2 ^ 24)
to_block false jk n word = to_ts jk n word

abbrev from_block : Bool → Registers → ℕ → ℕ → ℕ
from_block b r jk e = get_or (pick b r.b r.t) ((jk + e) % 64) 0

-- the place of a file of 64 registers
pub block-low : (b : Bool) (n : ℕ) → n ≡ pick b 32 96 → n + 64 ≤ 672
block-low true n e = omega arith
block-low false n e = omega arith

-- the code
read-code : (b u : Bool) (x : ℕ) → x / 512 ≡ pick b 0o034 0o036 → code_of u x ≡ holds_one (block_read b)
unfolding code_of
read-code true u x e = rw e
read-code false u x e = rw e

stored-code : (b u : Bool) (x : ℕ) → x / 512 ≡ pick b 0o035 0o037 → code_of u x ≡ holds_one (block_stored b)
unfolding code_of
stored-code true u x e = rw e
stored-code false u x e = rw e

-- what it asks
read-act : (b : Bool) (r : Registers) (status x m past : ℕ)
    → act r status x m past (block_read b) ≡ reads_words (ai r (i_of x) % 128) (λ e. ai r 0 + e * 1) (to_block b (jk_of x) (ai r (i_of x) % 128))
unfolding act
read-act true r status x m past = rw (by_one (ai r 0))
read-act false r status x m past = rw (by_one (ai r 0))

stored-act : (b : Bool) (r : Registers) (status x m past : ℕ)
    → act r status x m past (block_stored b) ≡ writes_words (ai r (i_of x) % 128) (λ e. ai r 0 + e * 1) (from_block b r (jk_of x))
unfolding act
stored-act true r status x m past = rw (by_one (ai r 0))
stored-act false r status x m past = rw (by_one (ai r 0))

-- what the registers come to: A and VL stay
block-kept : (b : Bool) (jk n : ℕ) (f : ℕ → ℕ) (r : Registers) → ((apply (to_block b jk n f) r).a ≡ r.a) × ((apply (to_block b jk n f) r).vl ≡ r.vl)
unfolding apply
block-kept true jk n f r = (refl, refl)
block-kept false jk n f r = (refl, refl)

-- how many words, and how far apart: 034 to 037 are below 100
low-code : (b : Bool) (c u v : ℕ) → c ≡ pick b u v → u < 64 → v < 64 → c < 64
low-code true c u v e k l = omega arith
low-code false c u v e k l = omega arith

block-has : (r : Registers) (x : ℕ) → x / 512 < 64 → (ai r (i_of x) % 128 ≡ block_count r x) × (1 ≡ block_by r x)
block-has r x l = rw (lt-ltb (x / 512) 64 l) (refl, refl)

block-puts : (b : Bool) (r r' : List ℕ) (jk n : ℕ) (f : ℕ → ℕ) → r' ≡ ring_at (pick b 32 96) jk (λ e. cut_to b (f e)) n r → Puts r r' (to_block b jk n f)
block-puts true r r' jk n f e = bs-of r jk (λ i. f i % 2 ^ 24) r' n e
block-puts false r r' jk n f e = ts-of r jk f r' n e

-- what is stored
block-from : (b : Bool) (r : List ℕ) (jk : ℕ) → ◌≡◌ {A = ℕ → ℕ} (λ e. get_or r (pick b 32 96 + (jk + e) % 64) 0) (from_block b (registers_of r) jk)
block-from true r jk = ring-b r jk
block-from false r jk = ring-t r jk

module _ (b : Bool) (r mem : List ℕ) (first words x : ℕ) (o : Bool) (h : DataWindow (frame_of r) first words (length mem)) where
  abbrev count : ℕ
  count = ai (registers_of r) (i_of x) % 128

  -- so the block was moved
  pub block-read : (r' : List ℕ) → length r' ≡ 672 → x / 512 ≡ pick b 0o034 0o036
      → ReadRow r r' mem first words (ai (registers_of r) 0) 1 (pick b 32 96) (jk_of x) count b o → Moved o r r' mem mem x
  block-read r' long e g =
      row_read (block_read b) count 1 r mem first words x o h (read-code b (user (frame_of r)) x e)
      (block-has (registers_of r) x (low-code b (x / 512) 0o034 0o036 e (omega arith) (omega arith)))
      g.beyond (to_block b (jk_of x) count) r' long
      (λ p. read-act b (registers_of r) _ x 0 _) (λ f. block-kept b (jk_of x) count f (registers_of r)) (block-puts b r r' (jk_of x) count _ g.became)

  pub block-stored : (mem' : List ℕ) → length r ≡ 672 → x / 512 ≡ pick b 0o035 0o037
      → StoredRow r mem mem' first words (ai (registers_of r) 0) 1 (pick b 32 96) (jk_of x) count o → Moved o r r mem mem' x
  block-stored mem' long e g =
      row-stored (block_stored b) count 1 r mem first words x o h (stored-code b (user (frame_of r)) x e)
      (block-has (registers_of r) x (low-code b (x / 512) 0o035 0o037 e (omega arith) (omega arith)))
      g.beyond (from_block b (registers_of r) (jk_of x)) mem' long
      (λ p. stored-act b (registers_of r) _ x 0 _)
      (g.became ∙ ap (λ (val : ℕ → ℕ). stores_at (row_in first words (ai (registers_of r) 0) 1) val count mem) (block-from b r (jk_of x)))

-- only the first n values matter
stores_same : (at : ℕ → Option ℕ) (f g : ℕ → ℕ) (n : ℕ) (mem : List ℕ) → ((e : ℕ) → e < n → f e ≡ g e) → stores_at at f n mem ≡ stores_at at g n mem
unfolding stores_at
stores_same at f g zero mem h = refl
stores_same at f g (suc n) mem h = rw (stores_same at f g n mem (λ e l. h e (omega arith)), h n (omega arith))

-- 176 and 177: the elements of a V register
module _ (r mem : List ℕ) (first words x : ℕ) (o : Bool) (h : DataWindow (frame_of r) first words (length mem)) (short : (registers_of r).vl ≤ 64) where
  vector-has : 64 ≤ x / 512 → ((registers_of r).vl ≡ block_count (registers_of r) x) × (ak (registers_of r) (k_of x) ≡ block_by (registers_of r) x)
  vector-has l = rw (le-ltb (x / 512) 64 l) (refl, refl)

  pub vector-read : (r' : List ℕ) → length r' ≡ 672 → x / 512 ≡ 0o176 → j_of x ≡ 0
      → ReadRow r r' mem first words (ai (registers_of r) 0) (ak (registers_of r) (k_of x)) (160 + i_of x * 64) 0 (registers_of r).vl false o
      → Moved o r r' mem mem x
  unfolding code_of act apply
  vector-read r' long e z g =
      let f : ℕ → ℕ = λ i. load_in mem (row_in first words (ai (registers_of r) 0) (ak (registers_of r) (k_of x)) i) in
      let s : 160 + i_of x * 64 + 0 ≡ 160 + i_of x * 64 = omega arith in
      let k = rw (ring-fill (160 + i_of x * 64) 0 f r (registers_of r).vl (omega arith), s) at g.became in
      row_read load_v (registers_of r).vl (ak (registers_of r) (k_of x)) r mem first words x o h (rw (e, z)) (vector-has (omega (arith, e))) g.beyond
      (λ word. to_v (i_of x) word) r' long
      (λ p. refl) (λ f. (refl, refl)) (to-elements r r' (i_of x) f (registers_of r).vl (omega arith) short refl k)

  pub vector-stored : (mem' : List ℕ) → length r ≡ 672 → x / 512 ≡ 0o177 → i_of x ≡ 0
      → StoredRow r mem mem' first words (ai (registers_of r) 0) (ak (registers_of r) (k_of x)) (160 + j_of x * 64) 0 (registers_of r).vl o → Moved o r r mem mem' x
  unfolding code_of act
  vector-stored mem' long e z g =
      row-stored store_v (registers_of r).vl (ak (registers_of r) (k_of x)) r mem first words x o h (rw (e, z)) (vector-has (omega (arith, e))) g.beyond
      (λ i. el (registers_of r).v (j_of x) i) mem' long
      (λ p. refl) (g.became ∙ stores_same _ _ _ (registers_of r).vl mem same)
    where
      same : (i : ℕ) → i < (registers_of r).vl → get_or r (160 + j_of x * 64 + (0 + i) % 64) 0 ≡ el (registers_of r).v (j_of x) i
      same i l = let s : (0 + i) % 64 ≡ i = omega arith in rw s (sym (el-at r (j_of x) i (omega arith) (omega arith)))
