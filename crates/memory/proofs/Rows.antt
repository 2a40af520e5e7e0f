-- Rows of words by windows: places, one turn of each loop, and the words that go straight. Assumes nothing.
use Rattle.std.proofs.Common.{◌≡◌, ℕ, zero, suc, ◌+◌, ◌-◌, ◌*◌, ◌%◌, ◌^◌, ◌<◌, ◌≤◌, Bool, true, false, ◌&&◌, ◌||◌}
use Rattle.std.proofs.Common.{eqb, leb, List, None, Option, Some, is_some, not, is_none}
use Rattle.std.proofs.Common.{get_or, sym, refl, ◌∙◌, add-one, arith, le-ltb, lt-ltb, eqb-true, leb-true}
use Rattle.machine.specs.Word.{pick}
use Rattle.machine.specs.State.{fill}
use Rattle.access.specs.Window.{is_beyond, load_in, store_in, place_in}
use Rattle.access.specs.Executed.{cut_to, ring_at}
use Rattle.memory.specs.Moves.{row_in, any_beyond, stores_at, straight_of}

-- what `is_none` answers
pub is-none : {T : Type 0} (o : Option T) (b : Bool) → is_some o ≡ not b → b ≡ is_none o
is-none None true e = refl
is-none None false e = cc
is-none (Some x) true e = cc
is-none (Some x) false e = refl

-- an address whose low 22 bits are w: in a window, and beyond it
module _ (first words n w : ℕ) (low : w ≡ n % 2 ^ 22) where
  pub place-in : w < words → place_in first words n ≡ Some (first + w)
  unfolding place_in
  place-in l = rw (← low, lt-ltb w words l)

  pub place_out : words ≤ w → place_in first words n ≡ None
  unfolding place_in
  place_out l = rw (← low, le-ltb w words l)

-- only the low 22 bits of an address count
pub same_place : (first words n address : ℕ) → n % 2 ^ 22 ≡ address % 2 ^ 22 → place_in first words n ≡ place_in first words address
unfolding place_in
same_place first words n address e = rw e

-- the next address
pub next_address : (at from e by : ℕ) → at % 2 ^ 22 ≡ (from + e * by) % 2 ^ 22 → (at + by) % 2 ^ 64 % 2 ^ 22 ≡ (from + (e + 1) * by) % 2 ^ 22
next_address at from e by h = omega arith

-- one word more
pub beyond-turn : (at : ℕ → Option ℕ) (e : ℕ) (o b : Bool) → o ≡ any_beyond at e → b ≡ is_beyond (at e) → (o || b) ≡ any_beyond at (e + 1)
unfolding any_beyond
beyond-turn at e o b p q = rw add-one (rw (p, q))

pub stores-turn : (at : ℕ → Option ℕ) (val : ℕ → ℕ) (e : ℕ) (m₀ m m' : List ℕ) → m ≡ stores_at at val e m₀ → m' ≡ store_in m (at e) (val e)
    → m' ≡ stores_at at val (e + 1) m₀
unfolding stores_at
stores-turn at val e m₀ m m' p q = rw add-one (rw (q, p))

-- n places more
pub fill_more : (at : ℕ) (f g : ℕ → ℕ) (m : ℕ) (l : List ℕ) (n : ℕ) → ((i : ℕ) → i < n → g i ≡ f (m + i))
    → fill (at + m) g n (fill at f m l) ≡ fill at f (m + n) l
unfolding fill
fill_more at f g m l zero h = let e : m + 0 ≡ m = omega arith in rw e
fill_more at f g m l (suc n) h =
    let e : m + suc n ≡ suc (m + n) = omega arith in
    let k : at + m + n ≡ at + (m + n) = omega arith in
    rw (e, k, fill_more at f g m l n (λ i t. h i (omega arith)), h n (omega arith))

-- n places that are filled are a ring that does not return, and a row that is inside
fill-ring : (at reg : ℕ) (f g : ℕ → ℕ) (n : ℕ) (l : List ℕ) → reg + n ≤ 64 → ((e : ℕ) → e < n → f e ≡ g e) → fill (at + reg) f n l ≡ ring_at at reg g n l
unfolding fill ring_at
fill-ring at reg f g zero l h k = refl
fill-ring at reg f g (suc n) l h k =
    let i : at + (reg + n) % 64 ≡ at + reg + n = omega arith in
    rw (i, fill-ring at reg f g n l (omega arith) (λ e t. k e (omega arith)), k n (omega arith))

fill-row : (first : ℕ) (at : ℕ → Option ℕ) (f g : ℕ → ℕ) (n : ℕ) (l : List ℕ) → ((e : ℕ) → e < n → at e ≡ Some (first + e)) → ((e : ℕ) → e < n → f e ≡ g e)
    → fill first f n l ≡ stores_at at g n l
unfolding fill stores_at
fill-row first at f g zero l h k = refl
fill-row first at f g (suc n) l h k =
    rw (fill-row first at f g n l (λ e t. h e (omega arith)) (λ e t. k e (omega arith)), h n (omega arith), k n (omega arith))

none-beyond : (first : ℕ) (at : ℕ → Option ℕ) (n : ℕ) → ((e : ℕ) → e < n → at e ≡ Some (first + e)) → any_beyond at n ≡ false
unfolding any_beyond
none-beyond first at zero h = refl
none-beyond first at (suc n) h = rw (none-beyond first at n (λ e t. h e (omega arith)), h n (omega arith))

-- what is known of the m words that go straight
pub record Straight (words reg n from by m : ℕ) : Type 0 where
  pub most : m ≤ n
  pub sixteens : m % 16 ≡ 0
  pub registers : reg + m ≤ 64
  pub inside : (e : ℕ) → e < m → from % 2 ^ 22 + e < words
  pub address : (e : ℕ) → e ≤ m → from + e * by ≡ from + e

pub straight-known : (words reg n from by m : ℕ) → reg < 64 → m ≡ straight_of words reg n from by → Straight words reg n from by m
unfolding straight_of
straight-known words reg n from by m l e = go (eqb by 1) (leb (reg + n) 64) (leb (from % 2 ^ 22 + n) words) refl refl refl e
  where
    none : m ≡ 0 → Straight words reg n from by m
    none z =
        record {
          most = omega arith;
          sixteens = omega arith;
          registers = omega arith;
          inside = λ e t. omega arith;
          address = λ e t. let k : e ≡ 0 = omega arith in rw k (omega arith);
        }

    go : (s t u : Bool) → eqb by 1 ≡ s → leb (reg + n) 64 ≡ t → leb (from % 2 ^ 22 + n) words ≡ u → m ≡ pick (s && t && u) (n - n % 16) 0
        → Straight words reg n from by m
    go true true true a b c z =
        record {
          most = omega arith;
          sixteens = omega arith;
          registers = omega (arith, leb-true (reg + n) 64 b);
          inside = λ e t. omega (arith, leb-true (from % 2 ^ 22 + n) words c);
          address = λ e t. rw (eqb-true by 1 a) (omega arith);
        }
    go true true false a b c z = none z
    go true false u a b c z = none z
    go false t u a b c z = none z

module _ (first words reg n from by m : ℕ) (short : words ≤ 2 ^ 22) (s : Straight words reg n from by m) where
  -- their places follow one another
  straight-place : (e : ℕ) → e < m → row_in first words from by e ≡ Some (first + from % 2 ^ 22 + e)
  unfolding place_in
  straight-place e l =
      let a : (from + e * by) % 2 ^ 22 ≡ from % 2 ^ 22 + e = rw (s.address e (omega arith)) (omega (arith, s.inside e l)) in
      let k : first + (from % 2 ^ 22 + e) ≡ first + from % 2 ^ 22 + e = omega arith in
      rw (a, lt-ltb (from % 2 ^ 22 + e) words (s.inside e l), k)

  -- none is outside
  pub straight-inside : false ≡ any_beyond (row_in first words from by) m
  straight-inside = sym (none-beyond (first + from % 2 ^ 22) (row_in first words from by) m straight-place)

  -- what a copy of them makes of a processor's words, and of memory
  pub straight-read : (file : ℕ) (narrow : Bool) (mem r r' : List ℕ) → r' ≡ fill (file + reg) (λ e. cut_to narrow (get_or mem (first + from % 2 ^ 22 + e) 0)) m r
      → r' ≡ ring_at file reg (λ e. cut_to narrow (load_in mem (row_in first words from by e))) m r
  straight-read file narrow mem r r' e =
      e ∙ fill-ring file reg _ (λ i. cut_to narrow (load_in mem (row_in first words from by i))) m r s.registers (λ i l. rw (straight-place i l))

  pub straight-stored : (file : ℕ) (r mem mem' : List ℕ) → mem' ≡ fill (first + from % 2 ^ 22) (λ e. get_or r (file + reg + e) 0) m mem
      → mem' ≡ stores_at (row_in first words from by) (λ e. get_or r (file + (reg + e) % 64) 0) m mem
  straight-stored file r mem mem' e =
      e ∙ fill-row (first + from % 2 ^ 22) (row_in first words from by) _ (λ i. get_or r (file + (reg + i) % 64) 0) m mem straight-place
      (λ i l. let k : file + reg + i ≡ file + (reg + i) % 64 = omega (arith, s.registers) in rw k)
