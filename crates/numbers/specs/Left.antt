-- What a call leaves to its caller: the number of its refusal, 0 for none, the processors and the lists that it was lent. Assumes nothing.
use Rattle.std.specs.Prelude.{ℕ, List, [], ◌∷◌, get_or, eqb}
use Rattle.machine.specs.Word.{pick}
use Rattle.machine.specs.State.{State}
use Rattle.machine.specs.Run.{Turned, Ended, PairEnded}
use Rattle.machine.specs.Call.{Started, Replied, reply_numbers, ending_numbers, last_numbers, stray_numbers}

pub record Left : Type 0 where
  pub number : ℕ
  pub processors : List State
  pub lent : List (List ℕ)

abbrev pub left : ℕ → List State → List (List ℕ) → Left
left n states lists = record { number = n; processors = states; lent = lists }

-- of the numbers of an answer: that of a refusal, 0 for none; the kind, 15 for no answer; its value, 0 where it has none
abbrev pub refused : List ℕ → ℕ
refused numbers = get_or numbers 0 0

abbrev pub kind : List ℕ → ℕ
kind numbers = get_or numbers 1 15

abbrev pub value : List ℕ → ℕ
value numbers = get_or numbers 2 0

-- the last two side by side
abbrev pub two_of : List ℕ → List ℕ
two_of numbers = kind numbers ∷ value numbers ∷ []

-- of the numbers of a stray: the cause, 0 for none; its element
abbrev pub cause : List ℕ → ℕ
cause numbers = get_or numbers 0 0

abbrev pub element : List ℕ → ℕ
element numbers = get_or numbers 1 0

-- a report: what was made or, refused, what it was
abbrev pub unless_refused : List ℕ → List ℕ → List ℕ → List ℕ
unless_refused numbers made found = pick (eqb (refused numbers) 0) made found

-- a start
abbrev pub after_start : Started → Left
after_start c = left c.refused (c.state ∷ []) []

-- a step: the kind and the value of its answer, and its stray
abbrev pub after_step : List ℕ → Replied → Left
after_step answer c =
    let n = reply_numbers c.reply in
    let s = stray_numbers c.stray in
    left (refused n) (c.state ∷ []) (c.shared.mem ∷ unless_refused n (kind n ∷ value n ∷ cause s ∷ element s ∷ []) answer ∷ [])

-- a turn: the kind and the value of its last answer, the steps, and the stray
abbrev pub after_turn : List ℕ → Turned → Left
after_turn report c =
    let n = last_numbers c.last in
    let s = stray_numbers c.stray in
    left (refused n) (c.state ∷ []) (c.shared.mem ∷ unless_refused n (kind n ∷ value n ∷ c.steps ∷ cause s ∷ element s ∷ []) report ∷ [])

-- a run: the same of its ending
abbrev pub after_run : List ℕ → Ended → Left
after_run report c =
    let n = ending_numbers c.ending in
    let s = stray_numbers c.stray in
    left (refused n) (c.state ∷ []) (c.shared.mem ∷ unless_refused n (kind n ∷ value n ∷ c.steps ∷ cause s ∷ element s ∷ []) report ∷ [])

-- a pair run: the same of its last answer, and of both processors the stray
abbrev pub after_pair : List ℕ → PairEnded → Left
after_pair report c =
    let n = last_numbers c.last in
    let s = stray_numbers c.first.stray in
    let t = stray_numbers c.second.stray in
    left (refused n) (c.first.state ∷ c.second.state ∷ [])
    (c.shared.mem ∷ unless_refused n (kind n ∷ value n ∷ c.steps ∷ cause s ∷ element s ∷ cause t ∷ element t ∷ []) report ∷ [])
