-- What one step may change, and the sizes that it keeps. Assumes nothing.
use Rattle.std.specs.Prelude.{ℕ, ◌+◌, ◌*◌, ◌≤◌, ◌<◌, ◌≡◌, ◌⊎◌, length}
use Rattle.machine.specs.State.{Registers, State}
use Rattle.machine.specs.Memory.{data_field}
use Rattle.theorems.specs.Statement.{In}

-- w is a word of package x
abbrev pub Package : ℕ → ℕ → Type 0
Package x w = (x * 16 ≤ w) × (w < x * 16 + 16)

-- w is a word of the data field, or of the package that XA names before the step
abbrev pub Touches : State → ℕ → ℕ → Type 0
Touches st len w = In (data_field st.frame) len w ⊎ Package st.registers.xa w

-- the register files have their sizes
pub record Sized (r : Registers) : Type 0 where
  pub a : length r.a ≡ 8
  pub s : length r.s ≡ 8
  pub b : length r.b ≡ 64
  pub t : length r.t ≡ 64
  pub v : length r.v ≡ 512
