use mathlib.Core.Path.{◌≡◌, refl, ◌∙◌}
use mathlib.Core.Bool.{false}
use native.Mathlib.Omega.{arith}
use lib.ListN.{get_or}
use borrow.Author.Tests.{leb-true, leb-false}
use Rattle.spelling.specs.Candidate.{bytes_of, is_octal, number_at}
use Rattle.guess.proofs.Laws.{octal, below-octal, above-octal, number_more, number-stops, number-full}
use Rattle.guess.proofs.Told.{seen}
use Rattle.guess.proofs.number.Goals as goal
use Rattle.guess.proofs.number.Goals.{then-b-lt48-via-then-b-lt48, then-b-lt48-via-else-b-lt48+then-b-ge56}

pub loop-p-init : goal.loop-p-init
unfolding number_at
loop-p-init c = record { small = omega arith; same = refl }

pub loop-p-preserved : goal.loop-p-preserved
loop-p-preserved c =
    let here = seen c.args.line.now c.loop-p.p c.told-line (omega arith) in
    let digit = octal _ c.if-b-lt48.false (leb-false _ _ c.if-b-ge56.false-raw) in
    let more = number_more (bytes_of c.args.line.now) c.loop-p.p c.loop-p.value (omega arith) (rw here digit) in
    record { small = omega arith; same = c.loop-p.invariant.same ∙ (rw here at more) }

pub returns : goal.returns
returns c =
    let all = c.loop-p.invariant.same ∙ number-full _ _ _ c.loop-p-test.false in
    record {
      number = (rw all, c.loop-p.invariant.small);
      after = (rw all (omega arith), omega arith);
    }

pub returns-then-b-lt48 : goal.returns-then-b-lt48
returns-then-b-lt48 c =
    let here = seen c.args.line.now c.loop-p.p c.told-line (omega arith) in
    let other : is_octal (get_or c.args.line.now c.loop-p.p 0) ≡ false = elim c.then-b-lt48.branch [
      | then-b-lt48-via-then-b-lt48 w ↦ below-octal _ w.if-b-lt48.true
      | then-b-lt48-via-else-b-lt48+then-b-ge56 w ↦ above-octal _ (leb-true 56 (get_or c.args.line.now c.loop-p.p 0) w.if-b-ge56.true-raw)
    ] in
    let all = c.loop-p.invariant.same ∙ number-stops _ _ _ (omega arith) (rw here other) in
    record {
      number = (rw all, c.loop-p.invariant.small);
      after = (rw all, omega arith);
    }
