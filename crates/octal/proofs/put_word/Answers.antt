use mathlib.Core.Path.{refl}
use native.Mathlib.Omega.{arith}
use Rattle.text.proofs.Writing.{then, wrote-byte, wrote-digits}
use Rattle.octal.proofs.Written.{wrote-to}
use Rattle.octal.proofs.put_word.Goals as goal

pub returns : goal.returns
returns c = (
  wrote-to (omega arith) (then (wrote-digits 16 4 _
      c.put_digits.ensures) (then
      (wrote-to (omega arith) (wrote-byte c.put_byte.ensures))
      (then (wrote-to (omega arith) (wrote-digits 16 16 _ c.put_digits-2.ensures)) (wrote-byte
      c.put_byte-2.ensures)))),
  refl,
)
