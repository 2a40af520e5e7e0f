-- A form written where there is room: its signs, and the operands between them. Assumes nothing.
use mathlib.Core.Path.{◌≡◌, refl, sym, ap, ◌∙◌, subst}
use mathlib.Core.Bool.{Bool, true, false}
use mathlib.Core.List.{List, [], ◌∷◌, ◌++◌}
use Prim.Native.Nat.{ℕ, zero, suc, ◌+◌, ◌*◌, ◌≤◌, ◌<◌}
use native.Mathlib.Numerals.{add-one}
use native.Mathlib.Omega.{arith}
use lib.ListN.{length, get_or, drop, set, length-set, length-append}
use lib.Seq.{drop-cons}
use lib.Dec.{eqb}
use borrow.Author.Tests.{ne_eqb}
use Rattle.machine.specs.Word.{pick}
use Rattle.text.specs.Report.{Wrote}
use Rattle.text.proofs.Writing.{then, wrote-byte, wrote_none, wrote_as}
use Rattle.spelling.specs.Words.{operand_text}
use Rattle.spelling.specs.Listing.{line_of}
use Rattle.spelling.specs.Rows.{row_of, form_table, instruction_of, row_in, operands_held, signs_of, after_signs, Ends, parts_of, spelled_of, Small, Fills, Ready}
use Rattle.spelling.specs.declared.Operand.{Operand}
use Rattle.spelling.specs.declared.Instruction.{Instruction}
use Rattle.spelling.proofs.Table.{row_small}
use Rattle.spelling.proofs.Forms.{forms-length}
use Rattle.spelling.proofs.Lines.{line-of-some, row-spells}

-- room for two texts is room for the first, and after it for the second
pub room-first : (at n : ℕ) (xs ys : List ℕ) → at + length (xs ++ ys) ≤ n → at + length xs ≤ n
room-first at n xs ys h = let e = length-append xs ys in omega (arith, e)

pub room-then : {d m xs : List ℕ} {at r n : ℕ} (ys : List ℕ) → Wrote d at xs m r → n ≡ length d → at + length (xs ++ ys) ≤ length d → r + length ys ≤ n
room-then {d} {m} {xs} ys w e h = let f = length-append xs ys in let place = w.place in omega (arith, f, place)

-- what is to end is not at its end
pub ends-inside : (l : List ℕ) (p : ℕ) → Ends (drop p l) → p < length l
unfolding Ends
ends-inside [] zero e = absurd e
ends-inside [] (suc p) e = absurd e
ends-inside (b ∷ l) zero e = omega arith
ends-inside (b ∷ l) (suc p) e = let more = ends-inside l p e in omega (arith, more)

-- the signs of the table l from a place on, of which those up to p are written
pub record Going (line₀ : List ℕ) (at : ℕ) (l : List ℕ) (from : ℕ) (line : List ℕ) (to p : ℕ) : Type 0 where
  pub ends : Ends (drop p l)
  pub same : length line ≡ length line₀
  pub room : to + length (signs_of (drop p l)) ≤ length line₀
  pub wrote : (k : List ℕ) (q : ℕ) → Wrote line to (signs_of (drop p l)) k q → Wrote line₀ at (signs_of (drop from l)) k q
  pub after : after_signs (drop p l) ≡ after_signs (drop from l)

-- they are all written, and the place q of the table follows
abbrev pub Signs : List ℕ → ℕ → List ℕ → ℕ → List ℕ → ℕ → ℕ → Type 0
Signs line₀ at l from line to q = Wrote line₀ at (signs_of (drop from l)) line to × (drop q l ≡ after_signs (drop from l))

pub going : (line : List ℕ) (at : ℕ) (l : List ℕ) (from : ℕ) → Ends (drop from l) → at + length (signs_of (drop from l)) ≤ length line
    → Going line at l from line at from
going line at l from e room = record { ends = e; same = refl; room = room; wrote = λ k q w. w; after = refl }

-- the byte b comes next
module _ {line₀ : List ℕ} {at : ℕ} {l : List ℕ} {from : ℕ} {line : List ℕ} {to p : ℕ} (g : Going line₀ at l from line to p) (b : ℕ) (e : b ≡ get_or l p 0) where
  left : drop p l ≡ b ∷ drop (p + 1) l
  left = drop-cons l p 0 (ends-inside l p g.ends) ∙ rw (← e, add-one p)

  -- an operand stands there
  pub operand-next : b ≡ 0 → Signs line₀ at l from line to (p + 1)
  unfolding signs_of after_signs
  operand-next z =
      let none : signs_of (drop p l) ≡ [] = rw (left, z) in
      let rest : after_signs (drop p l) ≡ drop (p + 1) l = rw (left, z) in
      (g.wrote line to (wrote_as none (wrote_none line to)), sym rest ∙ g.after)

  -- a sign or the newline
  module _ (n : b ≡ 0 → ⊥) where
    some-signs : 1 ≤ length (signs_of (drop p l))
    unfolding signs_of
    some-signs = rw (left, ne_eqb b 0 n) (go (eqb b 10))
      where
        go : (t : Bool) → 1 ≤ length (pick t (b ∷ []) (b ∷ signs_of (drop (p + 1) l)))
        go true = omega arith
        go false = omega arith

    pub room_next : to < length line₀
    room_next = omega (arith, g.room, some-signs)

    pub newline-next : {m : List ℕ} → m ≡ set line to b → b ≡ 10 → Signs line₀ at l from m (to + 1) (p + 1)
    unfolding signs_of after_signs
    newline-next {m} w z =
        let one : signs_of (drop p l) ≡ b ∷ [] = rw (left, z) in
        let rest : after_signs (drop p l) ≡ drop (p + 1) l = rw (left, z) in
        (g.wrote m (to + 1) (wrote_as one (wrote-byte w)), sym rest ∙ g.after)

    pub sign-next : {m : List ℕ} → m ≡ set line to b → (b ≡ 10 → ⊥) → Going line₀ at l from m (to + 1) (p + 1)
    unfolding signs_of after_signs Ends
    sign-next {m} w t =
        let more : signs_of (drop p l) ≡ b ∷ signs_of (drop (p + 1) l) = rw (left, ne_eqb b 0 n, ne_eqb b 10 t) in
        let rest : after_signs (drop p l) ≡ after_signs (drop (p + 1) l) = rw (left, ne_eqb b 0 n, ne_eqb b 10 t) in
        let here : Ends (b ∷ drop (p + 1) l) = subst Ends left g.ends in
        let long = ap length more in
        record {
          ends = here n t;
          same = (rw (w, length-set line to b)) ∙ g.same;
          room = omega (arith, g.room, long);
          wrote = λ k q v. g.wrote k q (wrote_as more (then (wrote-byte w) v));
          after = sym rest ∙ g.after;
        }

-- a form that is to take operands has an end
fills-ends : (l : List ℕ) (os : List Operand) → Fills l os → Ends l
unfolding Fills
fills-ends l [] f = f
fills-ends l (o ∷ os) f = f.0

-- operands are left, and the bytes l after the first
abbrev pub Left : List ℕ → List Operand → Type 0
Left l [] = Unit
Left l (o ∷ os) = Small o × Fills l os

after_first : (l : List ℕ) (os : List Operand) → Fills l os → Left (after_signs l) os
unfolding Fills
after_first l [] f = tt
after_first l (o ∷ os) f = (f.1, f.2)

-- an instruction's line of which the operands os are left, and the place `from` of the table l follows the first
pub record Spelling (line₀ : List ℕ) (start : ℕ) (l : List ℕ) (ins : Instruction) (line : List ℕ) (at from : ℕ) (os : List Operand) : Type 0 where
  pub left : Left (drop from l) os
  pub room : at + length (parts_of (drop from l) os) ≤ length line
  pub wrote : (k : List ℕ) (q : ℕ) → Wrote line at (parts_of (drop from l) os) k q → Wrote line₀ start (spelled_of l ins) k q

-- its signs before the first
module _ {line : List ℕ} {start : ℕ} {l : List ℕ} {ins same : Instruction} (r : Ready line start l ins) (e : ins ≡ same) where
  abbrev form : List ℕ
  form = drop (row_in same * 12) l

  pub signs-fit : Ends form × (start + length (signs_of form) ≤ length line)
  unfolding spelled_of
  signs-fit =
      let parts = parts_of (after_signs form) (operands_held same) in
      (fills-ends form (operands_held same) (rw (← e) r.spells), room-first start (length line) (signs_of form) parts (rw (← e) r.room))

  pub row_inside : row_in same * 12 < 1284
  row_inside = let inside = ends-inside l (row_in same * 12) signs-fit.0 in omega (arith, inside, r.table)

  pub spelling : {m : List ℕ} {at : ℕ} (from : ℕ) → Signs line start l (row_in same * 12) m at from → length m ≡ length line
      → Spelling line start l ins m at from (operands_held same)
  unfolding spelled_of
  spelling from signs kept =
      let next = signs.1 in
      record {
        left = rw next (after_first form (operands_held same) (rw (← e) r.spells));
        room = rw next (room-then (parts_of (after_signs form) (operands_held same)) signs.0 kept (rw (← e) r.room));
        wrote = λ k q v. rw e (then signs.0 (rw (← next) v));
      }

-- an operand and the signs after it
module _ {line₀ : List ℕ} {start : ℕ} {l : List ℕ} {ins : Instruction} {line : List ℕ} {at from : ℕ} where
  pub part-fits : {o : Operand} {os : List Operand} → Spelling line₀ start l ins line at from (o ∷ os)
      → Ends (drop from l) × Small o × (at + length (operand_text o ++ signs_of (drop from l)) ≤ length line)
  unfolding parts_of
  part-fits {o} {os} s =
      let here = operand_text o ++ signs_of (drop from l) in
      (fills-ends _ os s.left.1, s.left.0, room-first at (length line) here (parts_of (after_signs (drop from l)) os) s.room)

  pub part-next : {o : Operand} {os : List Operand} {m : List ℕ} {to : ℕ} (q : ℕ) → Spelling line₀ start l ins line at from (o ∷ os)
      → Wrote line at (operand_text o ++ signs_of (drop from l)) m to × (drop q l ≡ after_signs (drop from l)) → length m ≡ length line
      → Spelling line₀ start l ins m to q os
  unfolding parts_of
  part-next {o} {os} q s p kept =
      let next = p.1 in
      record {
        left = rw next (after_first (drop from l) os s.left.1);
        room = rw next (room-then (parts_of (after_signs (drop from l)) os) p.0 kept s.room);
        wrote = λ k q v. s.wrote k q (then p.0 (rw (← next) v));
      }

  pub all-parts : Spelling line₀ start l ins line at from [] → Wrote line₀ start (spelled_of l ins) line at
  unfolding parts_of
  all-parts s = s.wrote line at (wrote_none line at)

-- the instruction of a row that has a spelling, made from its parcels, spells their line
module _ (x m row : ℕ) (forms : List ℕ) (ins : Instruction) (h : x < 65536) (r : row ≡ row_of x) (f : forms ≡ form_table) (i : ins ≡ instruction_of row x m) where
  pub line-spelled : (row ≡ 0 → ⊥) → line_of x m ≡ spelled_of forms ins
  line-spelled n = rw (f, i, r) (line-of-some x m h (ne_eqb (row_of x) 0 (λ e. n (r ∙ e))))

  pub line-ready : {line : List ℕ} {at : ℕ} → (row ≡ 0 → ⊥) → m < 65536 → at + length (line_of x m) ≤ length line → Ready line at forms ins
  line-ready n l room =
      record {
        spells = rw (f, i, r) (row-spells (row_of x) x m (row_small x h) l);
        room = rw (← line-spelled n) room;
        table = rw f forms-length;
      }

pub ruleset part_rules = (room-first, room-then)
