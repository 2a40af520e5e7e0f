-- The bytes of a row's form are those of its words, and a newline. Assumes nothing.
use Prim.Native.Nat.{ℕ, zero, suc, ◌+◌, ◌*◌, ◌/◌, ◌%◌, ◌<◌}
use mathlib.Core.Path.{◌≡◌, refl, sym, ◌∙◌, ap}
use mathlib.Core.List.{List, [], ◌∷◌, ◌++◌, map}
use native.Mathlib.Nat.{add-zero}
use native.Mathlib.Omega.{arith}
use lib.ListN.{length, get_or, drop}
use lib.Seq.{drop-cons}
use borrow.Author.Tests.{lt-ltb, le-ltb}
use Rattle.spelling.specs.Rows.{row_words, mark, form_at, table, form_table}
use Rattle.spelling.proofs.Entries.{entry}

table-length : (f : ℕ → ℕ) (i n : ℕ) → length (table f i n) ≡ n
table-length f i zero = refl
table-length f i (suc n) = ap suc (table-length f (suc i) n)

pub forms-length : length form_table ≡ 1284
unfolding form_table
forms-length = table-length (λ n. form_at (n / 12) (n % 12)) 0 1284

module _ (r : ℕ) (h : r < 107) (few : length (row_words r) < 12) where
  byte_at : (p : ℕ) → p < 12 → drop (r * 12 + p) form_table ≡ form_at r p ∷ drop (r * 12 + suc p) form_table
  unfolding form_table
  byte_at p k =
      let a : (0 + (r * 12 + p)) / 12 ≡ r = omega arith in
      let b : (0 + (r * 12 + p)) % 12 ≡ p = omega arith in
      let on : suc (r * 12 + p) ≡ r * 12 + suc p = omega arith in
      drop-cons form_table (r * 12 + p) 0 (omega (arith, forms-length))
      ∙ rw (entry (λ n. form_at (n / 12) (n % 12)) 0 1284 (r * 12 + p) (omega arith), a, b, on)

  -- words left, of which the first is the word p
  bytes_left : (left : List ℕ) (p : ℕ) → drop p (row_words r) ≡ left → p + length left ≡ length (row_words r)
      → drop (r * 12 + p) form_table ≡ map mark left ++ (10 ∷ drop (r * 12 + suc (length (row_words r))) form_table)
  unfolding form_at
  bytes_left [] p e n =
      let end : p ≡ length (row_words r) = omega arith in
      byte_at p (omega arith) ∙ rw (le-ltb p (length (row_words r)) (omega arith), end)
  bytes_left (w ∷ left) p e n =
      let inside : p < length (row_words r) = omega arith in
      let cons = sym e ∙ drop-cons (row_words r) p 0 inside in
      let first : w ≡ get_or (row_words r) p 0 = cc in
      let rest : left ≡ drop (suc p) (row_words r) = cc in
      byte_at p (omega arith) ∙ rw (lt-ltb p (length (row_words r)) inside, ← first, bytes_left left (suc p) (sym rest) (omega arith))

  pub form-bytes : drop (r * 12) form_table ≡ map mark (row_words r) ++ (10 ∷ drop (r * 12 + suc (length (row_words r))) form_table)
  form-bytes = ap (λ (n : ℕ). drop n form_table) (sym (add-zero (r * 12))) ∙ bytes_left (row_words r) 0 refl (omega arith)
