-- What a read depends on and what a store changes, where P is any set of words. Assumes nothing.
use Prim.Native.Nat.{ℕ, zero, suc, ◌<◌}
use mathlib.Core.Path.{◌≡◌, refl, sym, ◌∙◌}
use mathlib.Core.List.{List}
use native.Mathlib.Omega.{arith}
use native.Mathlib.Decide.{ℕ_discrete, dec_lt}
use lib.ListN.{length, get_or, set, length-set}
use lib.Seq.{get_or-set_same, get_or-set_other, set_out}
use Rattle.std.specs.Prelude.{Result, Ok, Err}
use Rattle.machine.specs.declared.Cause.{Cause}
use Rattle.machine.specs.Parcel.{word_of}
use Rattle.machine.specs.State.{Frame}
use Rattle.machine.specs.Memory.{Field, code_field, place_of, load_at, store_at, load, store, stores, parcel_at, fetch_of}
use Rattle.theorems.specs.Statement.{In, Agree}
use Rattle.theorems.proofs.Outside.{cause-first}

-- only words of Q differ
abbrev pub Only : (ℕ → Type 0) → List ℕ → List ℕ → Type 0
Only Q m m' = Agree (λ w. ¬ (Q w)) m' m

module _ {P : ℕ → Type 0} where
  pub itself : (m : List ℕ) → Agree P m m
  itself m = record { long = refl; same = λ w p. refl }

  pub flip : {m m' : List ℕ} → Agree P m m' → Agree P m' m
  flip h = record { long = sym h.long; same = λ w p. sym (h.same w p) }

  pub chain : {m m' m'' : List ℕ} → Agree P m m' → Agree P m' m'' → Agree P m m''
  chain h k = record { long = h.long ∙ k.long; same = λ w p. h.same w p ∙ k.same w p }

  pub weaken : {Q : ℕ → Type 0} {m m' : List ℕ} → ((w : ℕ) → Q w → P w) → Agree P m m' → Agree Q m m'
  weaken i h = record { long = h.long; same = λ w q. h.same w (i w q) }

  -- a change elsewhere leaves an agreement as it was
  pub other : {Q : ℕ → Type 0} {m m' n : List ℕ} → ((w : ℕ) → Q w → P w → ⊥) → Only Q m m' → Agree P m n → Agree P m' n
  other apart k h = record { long = k.long ∙ h.long; same = λ w p. k.same w (λ q. apart w q p) ∙ h.same w p }

-- a place that is found is a word of the field
pub place-in : (f : Field) (len a n : ℕ) → place_of f len a ≡ Ok n → In f len n
place-in f len a n e = ((cause-first f len a (Ok n)).0 e).1

-- a word read, and a parcel fetched, depend on the words of the field alone
pub load-agree : (f : Field) (len : ℕ) (m m' : List ℕ) (a : ℕ) → length m ≡ len → Agree (In f len) m m' → load f m a ≡ load f m' a
unfolding load
load-agree f len m m' a e h = rw (← h.long, e) (go (place_of f len a) refl)
  where
    go : (o : Result ℕ Cause) → place_of f len a ≡ o → load_at m o ≡ load_at m' o
    go (Ok n) q = h.same n (place-in f len a n q)
    go (Err cause) q = refl

pub fetch-agree : (fr : Frame) (len : ℕ) (m m' : List ℕ) (p : ℕ) → length m ≡ len → Agree (In (code_field fr) len) m m' → fetch_of fr m p ≡ fetch_of fr m' p
unfolding fetch_of
fetch-agree fr len m m' p e h = rw (← h.long, e) (go (place_of (code_field fr) len (word_of p)) refl)
  where
    go : (o : Result ℕ Cause) → place_of (code_field fr) len (word_of p) ≡ o → parcel_at m p o ≡ parcel_at m' p o
    go (Ok n) q = rw (h.same n (place-in (code_field fr) len (word_of p) n q))
    go (Err cause) q = refl

-- the same store in two memories leaves them agreeing wherever they did
set-agree : {P : ℕ → Type 0} (m m' : List ℕ) (n v : ℕ) → Agree P m m' → Agree P (set m n v) (set m' n v)
set-agree {P} m m' n v h =
    record { long = simp length-set h.long; same = λ w p. go w p (ℕ_discrete w n) (dec_lt n (length m)) }
  where
    go : (w : ℕ) → P w → Dec (w ≡ n) → Dec (n < length m) → get_or (set m n v) w 0 ≡ get_or (set m' n v) w 0
    go w p (no ne) d = get_or-set_other m n w v 0 ne ∙ h.same w p ∙ sym (get_or-set_other m' n w v 0 ne)
    go w p (yes e) (yes l) = rw e (get_or-set_same m n v 0 l ∙ sym (get_or-set_same m' n v 0 (rw h.long at l)))
    go w p (yes e) (no g) = rw (set_out m n v (omega arith), set_out m' n v (omega (arith, h.long))) (h.same w p)

store-agree : {P : ℕ → Type 0} (f : Field) (m m' : List ℕ) (a v : ℕ) → Agree P m m' → Agree P (store f m a v) (store f m' a v)
unfolding store
store-agree {P} f m m' a v h = rw h.long (go (place_of f (length m') a))
  where
    go : (o : Result ℕ Cause) → Agree P (store_at m o v) (store_at m' o v)
    go (Ok n) = set-agree m m' n v h
    go (Err cause) = h

pub stores-agree : {P : ℕ → Type 0} (f : Field) (at val : ℕ → ℕ) (n : ℕ) (m m' : List ℕ) → Agree P m m' → Agree P (stores f at val n m) (stores f at val n m')
unfolding stores
stores-agree f at val zero m m' h = h
stores-agree f at val (suc n) m m' h = store-agree f (stores f at val n m) (stores f at val n m') (at n) (val n) (stores-agree f at val n m m' h)

-- a store changes only words of the field
store-only : (f : Field) (len : ℕ) (m : List ℕ) (a v : ℕ) → length m ≡ len → Only (In f len) m (store f m a v)
unfolding store
store-only f len m a v e = rw e (go (place_of f len a) refl)
  where
    go : (o : Result ℕ Cause) → place_of f len a ≡ o → Only (In f len) m (store_at m o v)
    go (Ok n) q =
        record { long = length-set m n v; same = λ w out. get_or-set_other m n w v 0 (λ z. out (rw z (place-in f len a n q))) }
    go (Err cause) q = itself m

pub stores-only : (f : Field) (len : ℕ) (at val : ℕ → ℕ) (n : ℕ) (m : List ℕ) → length m ≡ len → Only (In f len) m (stores f at val n m)
unfolding stores
stores-only f len at val zero m e = itself m
stores-only f len at val (suc n) m e =
    let ih = stores-only f len at val n m e in
    chain (store-only f len (stores f at val n m) (at n) (val n) (ih.long ∙ e)) ih
