-- From what a vector instruction's function wrote to what the definitions say of its code. Assumes nothing.
use Prim.Native.Nat.{ℕ, ◌+◌, ◌/◌}
use mathlib.Core.Path.{◌≡◌, refl}
use mathlib.Core.Bool.{Bool, true, false}
use mathlib.Core.List.{List}
use Rattle.machine.specs.declared.Work.TheVariants.{PastOne}
use Rattle.machine.specs.Word.{pick}
use Rattle.machine.specs.Parcel.{i_of, k_of}
use Rattle.machine.specs.State.{ak, to_v, to_vm}
use Rattle.machine.specs.Act as I
use Rattle.machine.specs.Act.{masked, marks_of, act}
use Rattle.machine.specs.Codes.{code_of}
use Rattle.machine.specs.Layout.{registers_of}
use Rattle.access.specs.Executed.{Alone, Puts}
use Rattle.access.proofs.Leaf.{puts}
use Rattle.vector.specs.Element.{TwoWords, And, Or, Xor, Sum, Difference, OneWord, ShiftLeft, ShiftRight, Ones, Parity, Test, Zero, NonZero, Plus, Minus}
use Rattle.vector.specs.Element.{two_of, one_of, test_of, code_of_two, OneCode, digit_of}
use Rattle.vector.proofs.Loops.{vj, vk, left}

-- element e of a merge of Sj or Vj, and Vk
abbrev pub merged_of : Bool → List ℕ → ℕ → ℕ → ℕ
merged_of scalar r x e = pick (masked (registers_of r).vm e) (left scalar r x e) (vk r x e)

module _ (r r' : List ℕ) (x : ℕ) where
  -- Vi of Sj or Vj, and Vk
  pub making : (op : TwoWords) (scalar : Bool) → x / 512 ≡ code_of_two op + pick scalar 0 1
      → Puts r r' (to_v (i_of x) (λ e. two_of op (left scalar r x e) (vk r x e))) → Alone PastOne r r' x
  unfolding code_of act
  making And true e h = λ p mem. puts I.and_sv _ _ _ _ mem p _ (refl, h) (rw e) refl
  making And false e h = λ p mem. puts I.and_vv _ _ _ _ mem p _ (refl, h) (rw e) refl
  making Or true e h = λ p mem. puts I.or_sv _ _ _ _ mem p _ (refl, h) (rw e) refl
  making Or false e h = λ p mem. puts I.or_vv _ _ _ _ mem p _ (refl, h) (rw e) refl
  making Xor true e h = λ p mem. puts I.xor_sv _ _ _ _ mem p _ (refl, h) (rw e) refl
  making Xor false e h = λ p mem. puts I.xor_vv _ _ _ _ mem p _ (refl, h) (rw e) refl
  making Sum true e h = λ p mem. puts I.sum_sv _ _ _ _ mem p _ (refl, h) (rw e) refl
  making Sum false e h = λ p mem. puts I.sum_vv _ _ _ _ mem p _ (refl, h) (rw e) refl
  making Difference true e h = λ p mem. puts I.difference_sv _ _ _ _ mem p _ (refl, h) (rw e) refl
  making Difference false e h = λ p mem. puts I.difference_vv _ _ _ _ mem p _ (refl, h) (rw e) refl

  -- Vi of Sj or Vj, and Vk, by VM
  pub merging : (scalar : Bool) → x / 512 ≡ pick scalar 0o146 0o147 → Puts r r' (to_v (i_of x) (merged_of scalar r x)) → Alone PastOne r r' x
  unfolding code_of act
  merging true e h = λ p mem. puts I.merge_sv _ _ _ _ mem p _ (refl, h) (rw e) refl
  merging false e h = λ p mem. puts I.merge_vv _ _ _ _ mem p _ (refl, h) (rw e) refl

  -- Vi of Vj
  pub of-vj : (op : OneWord) → OneCode op x → Puts r r' (to_v (i_of x) (λ e. one_of op (vj r x e) (ak (registers_of r) (k_of x)))) → Alone PastOne r r' x
  unfolding code_of act
  of-vj ShiftLeft e h = λ p mem. puts I.left_v _ _ _ _ mem p _ (refl, h) (rw e) refl
  of-vj ShiftRight e h = λ p mem. puts I.right_v _ _ _ _ mem p _ (refl, h) (rw e) refl
  of-vj Ones e h = λ p mem. puts I.ones_v _ _ _ _ mem p _ (refl, h) (rw (e.0, e.1)) refl
  of-vj Parity e h = λ p mem. puts I.parity_v _ _ _ _ mem p _ (refl, h) (rw (e.0, e.1)) refl

  -- VM of Vj
  pub marking : (test : Test) → (x / 512 ≡ 0o175) × (i_of x ≡ 0) × (k_of x ≡ digit_of test)
      → Puts r r' (to_vm (marks_of (λ e. test_of test (vj r x e)) (registers_of r).vl)) → Alone PastOne r r' x
  unfolding code_of act
  marking Zero e h = λ p mem. puts I.mark_z _ _ _ _ mem p _ (refl, h) (rw (e.0, e.1, e.2)) refl
  marking NonZero e h = λ p mem. puts I.mark_n _ _ _ _ mem p _ (refl, h) (rw (e.0, e.1, e.2)) refl
  marking Plus e h = λ p mem. puts I.mark_p _ _ _ _ mem p _ (refl, h) (rw (e.0, e.1, e.2)) refl
  marking Minus e h = λ p mem. puts I.mark_m _ _ _ _ mem p _ (refl, h) (rw (e.0, e.1, e.2)) refl
