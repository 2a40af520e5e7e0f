-- Two results of a call of the library that its statement allows are equal: the number, the processors and all that was lent. One law of
-- every call, c being what the definition says that it leaves. Assumes nothing.
use Prim.Native.Nat.{ℕ}
use mathlib.Core.Path.{◌≡◌, sym, ◌∙◌, ap}
use mathlib.Core.List.{List}
use Rattle.machine.specs.State.{State}
use Rattle.numbers.specs.Left.{Left, left}

pub left_unique : (c : Left) (n n' : ℕ) (states states' : List State) (lent lent' : List (List ℕ)) → left n states lent ≡ c
    → left n' states' lent' ≡ c → (n ≡ n') × (states ≡ states') × (lent ≡ lent')
left_unique c n n' states states' lent lent' e e' =
    let same = e ∙ sym e' in
    (ap (λ (l : Left). l.number) same, ap (λ (l : Left). l.processors) same, ap (λ (l : Left). l.lent) same)
