-- 10h to 13h: from the word that was moved to what the definitions say of the code. Assumes nothing.
use Rattle.std.specs.Prelude.{Some}
use Rattle.std.proofs.Common.{◌≡◌, ℕ, zero, suc, ◌+◌, ◌*◌, ◌/◌, ◌%◌, ◌^◌, ◌<◌, Bool, List, length, refl, ◌∙◌, arith, get_or-set_same}
use Rattle.machine.specs.declared.Reach.{Reach}
use Rattle.machine.specs.declared.Work.{Work}
use Rattle.machine.specs.Parcel.{h_of, i_of, jkm_of, onward}
use Rattle.machine.specs.State.{Registers, user, ah}
use Rattle.machine.specs.Memory.{data_field, place_of, load, store, stores, first_outside, fetch_of}
use Rattle.machine.specs.Act.{Instr, reads_words, writes_words, load_a, store_a, load_s, store_s, act}
use Rattle.machine.specs.Codes.{Code, holds_two, every_h, nth, code_of}
use Rattle.machine.specs.Work.{outside}
use Rattle.machine.specs.Layout.{registers_of, frame_of}
use Rattle.access.specs.Window.{Reaches, spot_of, is_beyond, load_in, store_in, place_in}
use Rattle.access.specs.Executed.{Executes, Puts, Ends}
use Rattle.access.proofs.Places.{p-puts}
use Rattle.access.proofs.Leaf.{two}
use Rattle.memory.specs.declared.File.{File}
use Rattle.memory.specs.declared.File.TheVariants.{A, S}
use Rattle.memory.specs.Moves.{any_beyond, load_code, store_code, register_of, to_register}
use Rattle.memory.proofs.Fields.{reached, place-of, place-low, load-spot, store-spot, any-outside, Tells, tells, reads, writes}

-- the eight codes of a group are one
every-same : (c : Code) (h : ℕ) → h < 8 → nth (every_h c) h ≡ c
every-same c zero l = refl
every-same c (suc zero) l = refl
every-same c (suc (suc zero)) l = refl
every-same c (suc (suc (suc zero))) l = refl
every-same c (suc (suc (suc (suc zero)))) l = refl
every-same c (suc (suc (suc (suc (suc zero))))) l = refl
every-same c (suc (suc (suc (suc (suc (suc zero)))))) l = refl
every-same c (suc (suc (suc (suc (suc (suc (suc zero))))))) l = refl
every-same c (suc (suc (suc (suc (suc (suc (suc (suc h)))))))) l = absurd (omega arith)

-- the instruction
abbrev pub loading : File → Instr
loading A = load_a
loading S = load_s

abbrev pub storing : File → Instr
storing A = store_a
storing S = store_s

-- the code
pub load_code_lem : (file : File) (u : Bool) (x : ℕ) → x / 512 / 8 ≡ load_code file → code_of u x ≡ holds_two (loading file)
unfolding code_of
load_code_lem A u x e = rw e (every-same (holds_two load_a) (h_of x) (omega arith))
load_code_lem S u x e = rw e (every-same (holds_two load_s) (h_of x) (omega arith))

pub store_code_lem : (file : File) (u : Bool) (x : ℕ) → x / 512 / 8 ≡ store_code file → code_of u x ≡ holds_two (storing file)
unfolding code_of
store_code_lem A u x e = rw e (every-same (holds_two store_a) (h_of x) (omega arith))
store_code_lem S u x e = rw e (every-same (holds_two store_s) (h_of x) (omega arith))

-- what it asks
load-act : (file : File) (r : Registers) (status x m past : ℕ)
    → act r status x m past (loading file) ≡ reads_words 1 (λ e. ah r (h_of x) + jkm_of x m) (λ word. to_register file (i_of x) (word 0))
unfolding act
load-act A r status x m past = refl
load-act S r status x m past = refl

store-act : (file : File) (r : Registers) (status x m past : ℕ)
    → act r status x m past (storing file) ≡ writes_words 1 (λ e. ah r (h_of x) + jkm_of x m) (λ e. register_of file r (i_of x))
unfolding act
store-act A r status x m past = refl
store-act S r status x m past = refl

-- the word at Ah + jkm, whose low 64 bits are n
module _ (file : File) (w : Work) (r mem : List ℕ) (f : Reach) (p x m n : ℕ) (o : Bool) (h : Reaches (frame_of r) f (length mem))
    (second : fetch_of (frame_of r) mem (onward p 1) ≡ Some m) (low : n ≡ (ah (registers_of r) (h_of x) + jkm_of x m) % 2 ^ 64)
    (beyond : o ≡ is_beyond (place_in f.operands.first f.operands.words n)) where
  abbrev address : ℕ
  address = ah (registers_of r) (h_of x) + jkm_of x m

  place : place_in f.operands.first f.operands.words n ≡ spot_of (place_of (data_field (frame_of r)) (length mem) address)
  place = place-of (frame_of r) f.operands.first f.operands.words (length mem) (reached (frame_of r) f (length mem) h) n address (omega (arith, low))

  -- it ended as its stray has it, and P's place tells the address
  single : (r' r'' : List ℕ) → frame_of r' ≡ frame_of r → length r' ≡ 672 → Ends w r' r'' 2 o (n % 2 ^ 22)
      → Tells w 2 r' r'' (length mem) (first_outside (data_field (frame_of r)) (λ e. address) (length mem) 1)
  unfolding first_outside any_beyond
  single r' r'' e l k =
      let same : place_of (data_field (frame_of r)) (length mem) (n % 2 ^ 22 + 0 * 0) ≡ place_of (data_field (frame_of r)) (length mem) address
      = place-low (data_field (frame_of r)) (length mem) _ address (omega (arith, low)) in
      let one = any-outside (data_field (frame_of r)) (λ e. address) (length mem) 1 in
      rw (k.work, k.words) (tells 2 o (n % 2 ^ 22) r' (length mem) _ (beyond ∙ rw place one)
      (rw ((p-puts r' (n % 2 ^ 22)).1, e, get_or-set_same r' 0 (n % 2 ^ 22) 0 (omega arith), same)))

  -- so it was loaded, or stored
  pub loaded : (r' r'' : List ℕ) (y : ℕ) → x / 512 / 8 ≡ load_code file → y ≡ load_in mem (place_in f.operands.first f.operands.words n)
      → Puts r r' (to_register file (i_of x) y) → length r' ≡ 672 → Ends w r' r'' 2 o (n % 2 ^ 22) → Executes w r r'' mem mem p x
  unfolding load outside
  loaded r' r'' y c g k l e =
      let t = rw (g, place, load-spot mem (place_of (data_field (frame_of r)) (length mem) address)) at k in
      let s = single r' r'' k.frame l e in
      two w r r'' mem mem p x (loading file) m (load_code_lem file (user (frame_of r)) x c) second (s.frame ∙ k.frame) (rw (load-act file (registers_of r) _ x m _)
      (reads w r r' r'' mem 2 1 (λ e. address) (λ word. to_register file (i_of x) (word 0)) s t))

  pub stored : (r'' mem' : List ℕ) → x / 512 / 8 ≡ store_code file
      → mem' ≡ store_in mem (place_in f.operands.first f.operands.words n) (register_of file (registers_of r) (i_of x))
      → length r ≡ 672 → Ends w r r'' 2 o (n % 2 ^ 22) → Executes w r r'' mem mem' p x
  unfolding store stores outside
  stored r'' mem' c g l e =
      let s = single r r'' refl l e in
      two w r r'' mem mem' p x (storing file) m (store_code_lem file (user (frame_of r)) x c) second s.frame (rw (store-act file (registers_of r) _ x m _)
      (writes w r r'' mem mem' 2 1 (λ e. address) (λ e. register_of file (registers_of r) (i_of x)) s
      (g ∙ rw place (store-spot mem (place_of (data_field (frame_of r)) (length mem) address) (register_of file (registers_of r) (i_of x))))))
