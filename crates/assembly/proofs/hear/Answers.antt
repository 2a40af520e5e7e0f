use mathlib.Core.Path.{sym, subst, ap, ◌∙◌}
use mathlib.Core.List.{◌++◌}
use Prim.Native.Nat.{ℕ}
use native.Mathlib.Omega.{arith}
use borrow.Author.Tests.{not-true, not-false}
use Rattle.spelling.specs.Listing.{data_line}
use Rattle.assembly.specs.Reads.{length_if, Hears}
use Rattle.assembly.proofs.Guessing.{hears-one, hears-no-one, hears-data, hears-no-data, hears-two, hears-no-two}
use Rattle.assembly.proofs.hear.Goals as goal

pub returns-in_err-line_in : goal.returns-in_err-line_in
returns-in_err-line_in c =
    let one = sym c.has_second.ensures ∙ not-true _ c.if-not-has_second.true-raw in
    λ rest.
    subst (Hears (c.args.text.now ++ rest)) (sym c.from_residual.ensures)
    (hears-no-one c.args.text.now rest (omega arith) c.guess-g.result (c.guess-g.ensures rest) c.new-first.result.parcel c.new-first.ensures one
    (sym c.line_in.ensures ∙ c.in_err-line_in.was))

pub returns-then-not-has_second : goal.returns-then-not-has_second
returns-then-not-has_second c =
    let one = sym c.has_second.ensures ∙ not-true _ c.if-not-has_second.true-raw in
    λ rest.
    hears-one c.args.text.now rest (omega arith) c.guess-g.result (c.guess-g.ensures rest) c.new-first.result.parcel c.new-first.ensures one _
    (sym c.line_in.ensures ∙ c.in_ok-line_in.was)

pub returns-in_err-data_in-in-None : goal.returns-in_err-data_in-in-None
returns-in_err-data_in-in-None c =
    let more = sym c.has_second.ensures ∙ not-false _ c.if-not-has_second.false-raw in
    λ rest.
    subst (Hears (c.args.text.now ++ rest)) (sym c.from_residual-in_err-data_in-in-None.ensures)
    (hears-no-data c.args.text.now rest (omega arith) c.guess-g.result (c.guess-g.ensures rest) c.new-first.result.parcel c.new-first.ensures more c.in-None.is
    (ap (λ (n : ℕ). length_if c.args.text.now (data_line n)) c.new-first.ensures ∙ sym c.data_in.ensures ∙ c.in_err-data_in-in-None.was))

pub returns-in_ok-data_in-in-None : goal.returns-in_ok-data_in-in-None
returns-in_ok-data_in-in-None c =
    let more = sym c.has_second.ensures ∙ not-false _ c.if-not-has_second.false-raw in
    λ rest.
    hears-data c.args.text.now rest (omega arith) c.guess-g.result (c.guess-g.ensures rest) c.new-first.result.parcel c.new-first.ensures more c.in-None.is _
    (ap (λ (n : ℕ). length_if c.args.text.now (data_line n)) c.new-first.ensures ∙ sym c.data_in.ensures ∙ c.in_ok-data_in-in-None.was)

pub returns-in_err-line_in-in-Some : goal.returns-in_err-line_in-in-Some
returns-in_err-line_in-in-Some c =
    let more = sym c.has_second.ensures ∙ not-false _ c.if-not-has_second.false-raw in
    λ rest.
    subst (Hears (c.args.text.now ++ rest)) (sym c.from_residual-in_err-line_in-in-Some.ensures)
    (hears-no-two c.args.text.now rest (omega arith) c.guess-g.result (c.guess-g.ensures rest) c.new-first.result.parcel c.new-first.ensures more c.in-Some.m c.in-Some.is
    (sym c.line_in-in-Some.ensures ∙ c.in_err-line_in-in-Some.was))

pub returns-in_ok-line_in-in-Some : goal.returns-in_ok-line_in-in-Some
returns-in_ok-line_in-in-Some c =
    let more = sym c.has_second.ensures ∙ not-false _ c.if-not-has_second.false-raw in
    λ rest.
    hears-two c.args.text.now rest (omega arith) c.guess-g.result (c.guess-g.ensures rest) c.new-first.result.parcel c.new-first.ensures more c.in-Some.m c.in-Some.is _
    (sym c.line_in-in-Some.ensures ∙ c.in_ok-line_in-in-Some.was)
