-- Two results of a call that its statement allows are equal: what it answers, the processors and memory. c is what the definition gives, and
-- what is told of a result leaves nothing of it out. Assumes nothing.
use mathlib.Core.Path.{◌≡◌, refl, sym, ap, ap₂, ◌∙◌}
use Rattle.std.specs.Prelude.{ℕ, ⊤, Option, None, Result, Ok, Err}
use Rattle.machine.specs.declared.Answer.{Answer}
use Rattle.machine.specs.declared.Ending.{Ending}
use Rattle.machine.specs.declared.Refusal.{Refusal}
use Rattle.machine.specs.declared.Stray.{Stray}
use Rattle.machine.specs.State.{State, Shared}
use Rattle.machine.specs.Run.{Turned, turned, Ended, ended, half, half_with, PairEnded, pair_ended}
use Rattle.machine.specs.Call.{Started, started, Replied, replied, number_of}
use Rattle.machine.proofs.Refusals.{number-once, tells-once}
use Rattle.turns.specs.declared.Turned as lib_turned
use Rattle.turns.specs.declared.run.Ran as lib_ran
use Rattle.turns.specs.declared.pair.Paired as lib_paired
use Rattle.turns.specs.declared.pair.Told as lib_told
use Rattle.xmp.specs.declared.Replied as lib_replied
use Rattle.xmp.specs.Reply.{told_reply, told_turned, told_ended, told_paired}

-- a start answers nothing but that it was done, or why not
pub start-once : (c : Started) (o o' : Result ⊤ Refusal) (st st' : State) → started (number_of o) st ≡ c → started (number_of o') st' ≡ c
    → (o ≡ o') × (st ≡ st')
start-once c o o' st st' e e' =
    let same = e ∙ sym e' in
    (number-once o o' (ap (λ (s : Started). s.refused) same), ap (λ (s : Started). s.state) same)

-- the other four by one law; what is kept is the processors and memory
done : {A E : Type 0} {a b : A} → ◌≡◌ {A = Result A E} (Ok a) (Ok b) → a ≡ b
done e = cc

-- an answer of three parts is known by them
three : {A B C R : Type 0} (f : A → B → C → R) {a a' : A} {b b' : B} {c c' : C} → a ≡ a' → b ≡ b' → c ≡ c' → f a b c ≡ f a' b' c'
three f d e g = rw (d, e, g)

abbrev Kept : Type 0
Kept = State × Shared

abbrev PairKept : Type 0
PairKept = State × State × Shared

pub step-once : (c : Replied) (o o' : Result lib_replied.Replied Refusal) (st st' : State) (sh sh' : Shared) → told_reply o st sh ≡ c
    → told_reply o' st' sh' ≡ c → (o ≡ o') × (st ≡ st') × (sh ≡ sh')
step-once c o o' st st' sh sh' e e' =
    let r =
    tells-once (λ (r : Replied). r.reply) (λ (r : Replied). (r.state, r.shared)) (λ (k : Kept) (a : lib_replied.Replied). replied (Ok a.answer) a.stray k.0 k.1)
    (λ (k : Kept) (n : ℕ). replied (Err n) None k.0 k.1) (λ (a : lib_replied.Replied). a.answer) (λ k a. refl) (λ k n. refl) (λ k a. refl) (λ k n. refl) same
    (st, sh) (st', sh') o o' (e ∙ sym e')
    in
    (r.0, ap (λ (k : Kept). k.0) r.1, ap (λ (k : Kept). k.1) r.1)
  where
    same : (k k' : Kept) (a b : lib_replied.Replied) → replied (Ok a.answer) a.stray k.0 k.1 ≡ replied (Ok b.answer) b.stray k'.0 k'.1 → a ≡ b
    same k k' a b h =
        ap₂ (λ (x : Answer) (s : Option Stray). record { answer = x; stray = s }) (done (ap (λ (r : Replied). r.reply) h)) (ap (λ (r : Replied). r.stray) h)

pub turn-once : (c : Turned) (o o' : Result lib_turned.Turned Refusal) (st st' : State) (sh sh' : Shared) → told_turned o st sh ≡ c
    → told_turned o' st' sh' ≡ c → (o ≡ o') × (st ≡ st') × (sh ≡ sh')
turn-once c o o' st st' sh sh' e e' =
    let r =
    tells-once (λ (t : Turned). t.last) (λ (t : Turned). (t.state, t.shared)) (λ (k : Kept) (a : lib_turned.Turned). turned (Ok a.last) a.stray a.steps k.0 k.1)
    (λ (k : Kept) (n : ℕ). turned (Err n) None 0 k.0 k.1) (λ (a : lib_turned.Turned). a.last) (λ k a. refl) (λ k n. refl) (λ k a. refl) (λ k n. refl) same
    (st, sh) (st', sh') o o' (e ∙ sym e')
    in
    (r.0, ap (λ (k : Kept). k.0) r.1, ap (λ (k : Kept). k.1) r.1)
  where
    same : (k k' : Kept) (a b : lib_turned.Turned)
        → turned (Ok a.last) a.stray a.steps k.0 k.1 ≡ turned (Ok b.last) b.stray b.steps k'.0 k'.1 → a ≡ b
    same k k' a b h =
        three (λ (l : Option Answer) (s : Option Stray) (n : ℕ). record { last = l; stray = s; steps = n }) (done (ap (λ (t : Turned). t.last) h))
        (ap (λ (t : Turned). t.stray) h) (ap (λ (t : Turned). t.steps) h)

pub run-once : (c : Ended) (o o' : Result lib_ran.Ran Refusal) (st st' : State) (sh sh' : Shared) → told_ended o st sh ≡ c
    → told_ended o' st' sh' ≡ c → (o ≡ o') × (st ≡ st') × (sh ≡ sh')
run-once c o o' st st' sh sh' e e' =
    let r =
    tells-once (λ (d : Ended). d.ending) (λ (d : Ended). (d.state, d.shared)) (λ (k : Kept) (a : lib_ran.Ran). ended (Ok a.ending) a.stray a.steps k.0 k.1)
    (λ (k : Kept) (n : ℕ). ended (Err n) None 0 k.0 k.1) (λ (a : lib_ran.Ran). a.ending) (λ k a. refl) (λ k n. refl) (λ k a. refl) (λ k n. refl) same
    (st, sh) (st', sh') o o' (e ∙ sym e')
    in
    (r.0, ap (λ (k : Kept). k.0) r.1, ap (λ (k : Kept). k.1) r.1)
  where
    same : (k k' : Kept) (a b : lib_ran.Ran)
        → ended (Ok a.ending) a.stray a.steps k.0 k.1 ≡ ended (Ok b.ending) b.stray b.steps k'.0 k'.1 → a ≡ b
    same k k' a b h =
        three (λ (x : Ending) (s : Option Stray) (n : ℕ). record { ending = x; stray = s; steps = n }) (done (ap (λ (d : Ended). d.ending) h))
        (ap (λ (d : Ended). d.stray) h) (ap (λ (d : Ended). d.steps) h)

pub pair-once : (c : PairEnded) (o o' : Result lib_paired.Paired Refusal) (x x' y y' : State) (sh sh' : Shared) → told_paired o x y sh ≡ c
    → told_paired o' x' y' sh' ≡ c → (o ≡ o') × (x ≡ x') × (y ≡ y') × (sh ≡ sh')
pair-once c o o' x x' y y' sh sh' e e' =
    let r =
    tells-once (λ (d : PairEnded). d.last) (λ (d : PairEnded). (d.first.state, d.second.state, d.shared)) made
    (λ (k : PairKept) (n : ℕ). pair_ended (Err n) 0 (half k.0) (half k.1) k.2) (λ (a : lib_paired.Paired). a.last)
    (λ k a. refl) (λ k n. refl) (λ k a. refl) (λ k n. refl) same (x, y, sh) (x', y', sh') o o' (e ∙ sym e')
    in
    (r.0, ap (λ (k : PairKept). k.0) r.1, ap (λ (k : PairKept). k.1) r.1, ap (λ (k : PairKept). k.2) r.1)
  where
    made : PairKept → lib_paired.Paired → PairEnded
    made k a = pair_ended (Ok a.last) a.steps (half_with k.0 a.strays.first) (half_with k.1 a.strays.second) k.2

    strays : (d : PairEnded) → lib_told.Told
    strays d = record { first = d.first.stray; second = d.second.stray }

    same : (k k' : PairKept) (a b : lib_paired.Paired) → made k a ≡ made k' b → a ≡ b
    same k k' a b h =
        three (λ (l : Option Answer) (t : lib_told.Told) (n : ℕ). record { last = l; strays = t; steps = n }) (done (ap (λ (d : PairEnded). d.last) h))
        (ap strays h) (ap (λ (d : PairEnded). d.steps) h)
