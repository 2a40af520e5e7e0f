-- Laws of texts written one after the other, and of a number's digits. Assumes nothing.
use mathlib.Core.Path.{◌≡◌, refl, sym, ap, ◌∙◌, subst}
use mathlib.Core.List.{List, [], ◌∷◌, ◌++◌}
use Prim.Native.Nat.{ℕ, zero, suc, ◌+◌, ◌-◌, ◌/◌, ◌%◌, ◌^◌, ◌≤◌, ◌<◌}
use native.Mathlib.Nat.{add-zero, add-suc, suc-add, div-lt_iff_lt-mul, lt_of_lt_of_le, pow-suc, mul-le-mul_left}
use native.Mathlib.Numerals.{add-one}
use native.Mathlib.Omega.{arith}
use lib.ListN.{length, get_or, drop, set, length-append}
use lib.Seq.{sets, set_comm, drop-cons, drop-length}
use borrow.Author.Tests.{lt-ltb, le-ltb}
use Rattle.text.specs.Digits.{glyph_of, digits, places_of, width_of, shown}
use Rattle.text.specs.Report.{after_commas, commas, changes, change, change_text, changed_words, Wrote}
use Rattle.std.proofs.Common.{Bool, true, false, not, eqb, take, max}
use Rattle.std.specs.Int.{from_bool}
use Rattle.machine.specs.Word.{pick}
use Rattle.std.proofs.lemmas.Grind.{common_steps}
use Rattle.text.proofs.Reading.{left-suc}

pub sets-append : (l : List ℕ) (i : ℕ) (xs ys : List ℕ) → sets l i (xs ++ ys) ≡ sets (sets l i xs) (i + length xs) ys
sets-append l i [] ys = simp add-zero
sets-append l i (x ∷ xs) ys = simp add-suc (sets-append (set l i x) (suc i) xs ys ∙ simp suc-add)

-- one text after another is the two joined
pub then : {d m k : List ℕ} {at r q : ℕ} {xs ys : List ℕ} → Wrote d at xs m r → Wrote m r ys k q → Wrote d at (xs ++ ys) k q
then {d} {m} {k} {at} {r} {q} {xs} {ys} a b =
    let e = a.bytes in
    let f = a.place in
    record {
      bytes = b.bytes ∙ simp (e, f) (sym (sets-append d at xs ys));
      place = simp length-append (omega (arith, a.place, b.place));
    }

pub wrote-byte : {d m : List ℕ} {at b : ℕ} → m ≡ set d at b → Wrote d at (b ∷ []) m (at + 1)
wrote-byte e = record { bytes = e; place = refl }

pub wrote_none : (d : List ℕ) (at : ℕ) → Wrote d at [] d at
wrote_none d at = record { bytes = refl; place = sym (add-zero at) }

-- the text is known by another name
pub wrote_as : {d m : List ℕ} {at r : ℕ} {xs ys : List ℕ} → xs ≡ ys → Wrote d at ys m r → Wrote d at xs m r
wrote_as {d} {m} {at} {r} e w = subst (λ (zs : List ℕ). Wrote d at zs m r) (sym e) w

-- a text of bytes: one more
pub text-next : {d m k : List ℕ} {q : ℕ} (s : List ℕ) (at i : ℕ) → i < length s → m ≡ set d (at + i) (get_or s i 0)
    → Wrote m (at + (i + 1)) (drop (i + 1) s) k q → Wrote d (at + i) (drop i s) k q
text-next {d} {m} {k} {q} s at i h e w =
    let on : at + (i + 1) ≡ at + i + 1 = omega arith in
    wrote_as (rw (add-one i, drop-cons s i 0 h)) (then (wrote-byte e) (subst (λ (p : ℕ). Wrote m p (drop (i + 1) s) k q) on w))

-- the last of a text may be stored first
sets-snoc : (l : List ℕ) (i : ℕ) (xs : List ℕ) (y : ℕ) → sets l i (xs ++ (y ∷ [])) ≡ sets (set l (i + length xs) y) i xs
sets-snoc l i [] y = simp add-zero
sets-snoc l i (x ∷ xs) y =
    let apart : i ≡ i + suc (length xs) → ⊥ = λ e. omega arith in
    let e : suc i + length xs ≡ i + suc (length xs) = omega arith in
    sets-snoc (set l i x) (suc i) xs y ∙ ap (λ (k : ℕ). sets (set (set l i x) k y) (suc i) xs) e
    ∙ ap (λ (m : List ℕ). sets m (suc i) xs) (set_comm l i (i + suc (length xs)) x y apart)

pub digits-length : (b k n : ℕ) → length (digits b k n) ≡ k
unfolding digits
digits-length b zero n = refl
digits-length b (suc k) n = length-append (digits b k (n / b)) (glyph_of (n % b) ∷ []) ∙ ap (λ (m : ℕ). m + 1) (digits-length b k (n / b)) ∙ add-one k

-- digits stored are digits written
pub wrote-digits : {d m : List ℕ} {at : ℕ} (b k n : ℕ) → m ≡ sets d at (digits b k n) → Wrote d at (digits b k n) m (at + k)
wrote-digits {d} {m} {at} b k n e = record { bytes = e; place = ap (λ (i : ℕ). at + i) (sym (digits-length b k n)) }

-- digits stored from the right: one more, and none left
pub digits-next : (l : List ℕ) (at b i rest : ℕ) → 0 < i
    → sets l at (digits b i rest) ≡ sets (set l (at + (i - 1)) (glyph_of (rest % b))) at (digits b (i - 1) (rest / b))
unfolding digits
digits-next l at b zero rest h = absurd (omega arith)
digits-next l at b (suc i) rest h =
    let e : suc i - 1 ≡ i = omega arith in
    simp e (sets-snoc l at (digits b i (rest / b)) (glyph_of (rest % b)) ∙ simp (digits-length b i (rest / b)))

pub digits-done : (l : List ℕ) (at b i rest : ℕ) → i ≤ 0 → sets l at (digits b i rest) ≡ l
unfolding digits
digits-done l at b zero rest h = refl
digits-done l at b (suc i) rest h = absurd (omega arith)

-- digits counted: one more, and the last
pub places-next : (most b rest : ℕ) → rest ≤ most → b ≤ rest → 1 < b → places_of most b rest ≡ places_of (most - 1) b (rest / b) + 1
unfolding places_of
places-next zero b rest h more big = absurd (omega arith)
places-next (suc most) b rest h more big =
    let e : suc most - 1 ≡ most = omega arith in
    simp (e, le-ltb _ _ more)

pub places-last : (most b rest : ℕ) → rest < b → places_of most b rest ≡ 1
unfolding places_of
places-last zero b rest h = refl
places-last (suc most) b rest h = simp (lt-ltb _ _ h)

-- a number of m + 1 bits has one bit fewer after a division
pub one_fewer : (b rest m : ℕ) → 1 < b → rest < 2 ^ suc m → rest / b < 2 ^ m
one_fewer b rest m big h =
    let some : 0 < b = omega arith in
    (div-lt_iff_lt-mul some).1 (lt_of_lt_of_le (subst (λ (n : ℕ). rest < n) (pow-suc 2 m) h) (mul-le-mul_left (2 ^ m) big))

pub two-left : (rest m : ℕ) → 2 ≤ rest → rest < 2 ^ m → 2 ≤ m
two-left rest zero h l = absurd (omega arith)
two-left rest (suc zero) h l = absurd (omega arith)
two-left rest (suc (suc m)) h l = omega arith

-- digits stored at a number's own width are the number
module _ (b least n : ℕ) where
  pub width-max : width_of b least n ≡ max (places_of n b n) least
  unfolding width_of
  width-max = grind (arith, common_steps)

  pub width-own : (k : ℕ) → k ≡ places_of n b n → least ≤ k → width_of b least n ≡ k
  unfolding width_of
  width-own k e h = simp (← e, le-ltb _ _ h)

  pub wrote-number : {d m : List ℕ} {at w : ℕ} → width_of b least n ≡ w → m ≡ sets d at (digits b w n) → Wrote d at (shown b least n) m (at + w)
  unfolding shown
  wrote-number {d} {m} {at} {w} e h = record { bytes = simp e h; place = simp e (ap (λ (k : ℕ). at + k) (sym (digits-length b w n))) }

-- a list written: the first number, then the rest, each with a comma before it
pub commas-first : (ns : List ℕ) (least : ℕ) → 0 < length ns → commas least ns ≡ shown 16 least (get_or ns 0 0) ++ after_commas least (drop 1 ns)
unfolding commas
commas-first [] least e = absurd (omega arith)
commas-first (n ∷ ns) least e = refl

pub commas-next : (ns : List ℕ) (least i : ℕ) → i < length ns
    → after_commas least (drop i ns) ≡ (44 ∷ []) ++ shown 16 least (get_or ns i 0) ++ after_commas least (drop (i + 1) ns)
unfolding after_commas
commas-next ns least i h = simp (drop-cons ns i 0 h, add-one i)

-- what is left of a list of numbers after its first
pub rest_at : (ns : List ℕ) (i : ℕ) → get_or (take (length ns - 1) (drop 1 ns)) i 0 ≡ get_or ns (i + 1) 0
rest_at ns i = grind (arith, common_steps)

pub commas-done : (ns : List ℕ) (least i : ℕ) → i ≡ length ns → after_commas least (drop i ns) ≡ []
unfolding after_commas
commas-done ns least i e = simp (e, drop-length ns)

-- two words that differ count as 1
pub change-as : (x y : ℕ) → (change x y ≡ from_bool (not (eqb x y))) × (change x y ≤ 1)
change-as x y = go (eqb x y)
  where
    go : (t : Bool) → (pick t 0 1 ≡ from_bool (not t)) × (pick t 0 1 ≤ 1)
    go true = (refl, omega arith)
    go false = (refl, omega arith)

-- memory compared: n words, of which a are passed
module _ (before after : List ℕ) (n a : ℕ) where
  module _ (more : a < n) where
    pub changes-next : changes (n - a) a before after ≡ change (get_or before a 0) (get_or after a 0) + changes (n - (a + 1)) (a + 1) before after
    unfolding changes
    changes-next = rw (left-suc n a more)

    pub words-next : changed_words (n - a) a before after ≡ change_text a (get_or before a 0) (get_or after a 0) ++ changed_words (n - (a + 1)) (a + 1) before after
    unfolding changed_words
    words-next = rw (left-suc n a more)

  module _ (none : n ≤ a) where
    changes-none : n - a ≡ 0
    changes-none = omega arith

    pub changes-done : changes (n - a) a before after ≡ 0
    unfolding changes
    changes-done = simp changes-none

    pub words-done : changed_words (n - a) a before after ≡ []
    unfolding changed_words
    words-done = simp changes-none
