use native.Mathlib.Omega.{arith}
use Rattle.spelling.specs.Rows.{row_in, operands_held}
use Rattle.line.proofs.Written.{row_inside, signs-fit, spelling, part-fits, part-next, all-parts}
use Rattle.line.proofs.Tables.put_instruction.Goals as goal

pub overflow_mul-row : goal.overflow_mul-row
unfolding row_in
overflow_mul-row c = omega (arith, row_inside c.requires c.in-Bare.is)

pub put_signs-requires : goal.put_signs-requires
unfolding row_in
put_signs-requires c = signs-fit c.requires c.in-Bare.is

pub overflow_mul-row-in-OfOne : goal.overflow_mul-row-in-OfOne
unfolding row_in
overflow_mul-row-in-OfOne c = omega (arith, row_inside c.requires c.in-OfOne.is)

pub put_signs-head-requires : goal.put_signs-head-requires
unfolding row_in
put_signs-head-requires c = signs-fit c.requires c.in-OfOne.is

pub put_part-requires : goal.put_part-requires
unfolding row_in operands_held
put_part-requires c =
    let s0 = spelling c.requires c.in-OfOne.is c.put_signs-head.result.from (c.put_signs-head.ensures.wrote, c.put_signs-head.ensures.rest) c.put_signs-head.auto.line in
    part-fits s0

pub overflow_mul-row-in-OfTwo : goal.overflow_mul-row-in-OfTwo
unfolding row_in
overflow_mul-row-in-OfTwo c = omega (arith, row_inside c.requires c.in-OfTwo.is)

pub put_signs-head-requires-in-OfTwo : goal.put_signs-head-requires-in-OfTwo
unfolding row_in
put_signs-head-requires-in-OfTwo c = signs-fit c.requires c.in-OfTwo.is

pub put_part-after_a-requires : goal.put_part-after_a-requires
unfolding row_in operands_held
put_part-after_a-requires c =
    let s0 = spelling c.requires c.in-OfTwo.is c.put_signs-head-in-OfTwo.result.from
    (c.put_signs-head-in-OfTwo.ensures.wrote, c.put_signs-head-in-OfTwo.ensures.rest) c.put_signs-head-in-OfTwo.auto.line in
    part-fits s0

pub put_part-requires-in-OfTwo : goal.put_part-requires-in-OfTwo
unfolding row_in operands_held
put_part-requires-in-OfTwo c =
    let s0 = spelling c.requires c.in-OfTwo.is c.put_signs-head-in-OfTwo.result.from
    (c.put_signs-head-in-OfTwo.ensures.wrote, c.put_signs-head-in-OfTwo.ensures.rest) c.put_signs-head-in-OfTwo.auto.line in
    let s1 = part-next c.put_part-after_a.result.from s0 (c.put_part-after_a.ensures.wrote, c.put_part-after_a.ensures.rest) c.put_part-after_a.auto.line in
    part-fits s1

pub overflow_mul-row-in-OfThree : goal.overflow_mul-row-in-OfThree
unfolding row_in
overflow_mul-row-in-OfThree c = omega (arith, row_inside c.requires c.in-OfThree.is)

pub put_signs-head-requires-in-OfThree : goal.put_signs-head-requires-in-OfThree
unfolding row_in
put_signs-head-requires-in-OfThree c = signs-fit c.requires c.in-OfThree.is

pub put_part-after_a-requires-in-OfThree : goal.put_part-after_a-requires-in-OfThree
unfolding row_in operands_held
put_part-after_a-requires-in-OfThree c =
    let s0 = spelling c.requires c.in-OfThree.is c.put_signs-head-in-OfThree.result.from
    (c.put_signs-head-in-OfThree.ensures.wrote, c.put_signs-head-in-OfThree.ensures.rest) c.put_signs-head-in-OfThree.auto.line
    in
    part-fits s0

pub put_part-after_b-requires : goal.put_part-after_b-requires
unfolding row_in operands_held
put_part-after_b-requires c =
    let s0 = spelling c.requires c.in-OfThree.is c.put_signs-head-in-OfThree.result.from
    (c.put_signs-head-in-OfThree.ensures.wrote, c.put_signs-head-in-OfThree.ensures.rest) c.put_signs-head-in-OfThree.auto.line
    in
    let s1 = part-next c.put_part-after_a-in-OfThree.result.from s0
    (c.put_part-after_a-in-OfThree.ensures.wrote, c.put_part-after_a-in-OfThree.ensures.rest)
    c.put_part-after_a-in-OfThree.auto.line in
    part-fits s1

pub put_part-requires-in-OfThree : goal.put_part-requires-in-OfThree
unfolding row_in operands_held
put_part-requires-in-OfThree c =
    let s0 = spelling c.requires c.in-OfThree.is c.put_signs-head-in-OfThree.result.from
    (c.put_signs-head-in-OfThree.ensures.wrote, c.put_signs-head-in-OfThree.ensures.rest) c.put_signs-head-in-OfThree.auto.line
    in
    let s1 = part-next c.put_part-after_a-in-OfThree.result.from s0
    (c.put_part-after_a-in-OfThree.ensures.wrote, c.put_part-after_a-in-OfThree.ensures.rest)
    c.put_part-after_a-in-OfThree.auto.line in
    let s2 = part-next c.put_part-after_b.result.from s1 (c.put_part-after_b.ensures.wrote, c.put_part-after_b.ensures.rest) c.put_part-after_b.auto.line in
    part-fits s2

pub overflow_mul-row-in-OfFour : goal.overflow_mul-row-in-OfFour
unfolding row_in
overflow_mul-row-in-OfFour c = omega (arith, row_inside c.requires c.in-OfFour.is)

pub put_signs-head-requires-in-OfFour : goal.put_signs-head-requires-in-OfFour
unfolding row_in
put_signs-head-requires-in-OfFour c = signs-fit c.requires c.in-OfFour.is

pub put_part-after_a-requires-in-OfFour : goal.put_part-after_a-requires-in-OfFour
unfolding row_in operands_held
put_part-after_a-requires-in-OfFour c =
    let s0 = spelling c.requires c.in-OfFour.is c.put_signs-head-in-OfFour.result.from
    (c.put_signs-head-in-OfFour.ensures.wrote, c.put_signs-head-in-OfFour.ensures.rest) c.put_signs-head-in-OfFour.auto.line in
    part-fits s0

pub put_part-after_b-requires-in-OfFour : goal.put_part-after_b-requires-in-OfFour
unfolding row_in operands_held
put_part-after_b-requires-in-OfFour c =
    let s0 = spelling c.requires c.in-OfFour.is c.put_signs-head-in-OfFour.result.from
    (c.put_signs-head-in-OfFour.ensures.wrote, c.put_signs-head-in-OfFour.ensures.rest) c.put_signs-head-in-OfFour.auto.line in
    let s1 = part-next c.put_part-after_a-in-OfFour.result.from s0
    (c.put_part-after_a-in-OfFour.ensures.wrote, c.put_part-after_a-in-OfFour.ensures.rest)
    c.put_part-after_a-in-OfFour.auto.line in
    part-fits s1

pub put_part-after_c-requires : goal.put_part-after_c-requires
unfolding row_in operands_held
put_part-after_c-requires c =
    let s0 = spelling c.requires c.in-OfFour.is c.put_signs-head-in-OfFour.result.from
    (c.put_signs-head-in-OfFour.ensures.wrote, c.put_signs-head-in-OfFour.ensures.rest) c.put_signs-head-in-OfFour.auto.line in
    let s1 = part-next c.put_part-after_a-in-OfFour.result.from s0
    (c.put_part-after_a-in-OfFour.ensures.wrote, c.put_part-after_a-in-OfFour.ensures.rest)
    c.put_part-after_a-in-OfFour.auto.line in
    let s2 = part-next c.put_part-after_b-in-OfFour.result.from s1
    (c.put_part-after_b-in-OfFour.ensures.wrote, c.put_part-after_b-in-OfFour.ensures.rest)
    c.put_part-after_b-in-OfFour.auto.line in
    part-fits s2

pub put_part-requires-in-OfFour : goal.put_part-requires-in-OfFour
unfolding row_in operands_held
put_part-requires-in-OfFour c =
    let s0 = spelling c.requires c.in-OfFour.is c.put_signs-head-in-OfFour.result.from
    (c.put_signs-head-in-OfFour.ensures.wrote, c.put_signs-head-in-OfFour.ensures.rest) c.put_signs-head-in-OfFour.auto.line in
    let s1 = part-next c.put_part-after_a-in-OfFour.result.from s0
    (c.put_part-after_a-in-OfFour.ensures.wrote, c.put_part-after_a-in-OfFour.ensures.rest)
    c.put_part-after_a-in-OfFour.auto.line in
    let s2 = part-next c.put_part-after_b-in-OfFour.result.from s1
    (c.put_part-after_b-in-OfFour.ensures.wrote, c.put_part-after_b-in-OfFour.ensures.rest)
    c.put_part-after_b-in-OfFour.auto.line in
    let s3 = part-next c.put_part-after_c.result.from s2 (c.put_part-after_c.ensures.wrote, c.put_part-after_c.ensures.rest) c.put_part-after_c.auto.line in
    part-fits s3

pub returns-in-Bare : goal.returns-in-Bare
unfolding row_in operands_held
returns-in-Bare c =
    let s0 = spelling c.requires c.in-Bare.is c.put_signs.result.from (c.put_signs.ensures.wrote, c.put_signs.ensures.rest) c.put_signs.auto.line in
    all-parts s0

pub returns-in-OfOne : goal.returns-in-OfOne
unfolding row_in operands_held
returns-in-OfOne c =
    let s0 = spelling c.requires c.in-OfOne.is c.put_signs-head.result.from (c.put_signs-head.ensures.wrote, c.put_signs-head.ensures.rest) c.put_signs-head.auto.line in
    let s1 = part-next c.put_part.result.from s0 (c.put_part.ensures.wrote, c.put_part.ensures.rest) c.put_part.auto.line in
    all-parts s1

pub returns-in-OfTwo : goal.returns-in-OfTwo
unfolding row_in operands_held
returns-in-OfTwo c =
    let s0 = spelling c.requires c.in-OfTwo.is c.put_signs-head-in-OfTwo.result.from
    (c.put_signs-head-in-OfTwo.ensures.wrote, c.put_signs-head-in-OfTwo.ensures.rest) c.put_signs-head-in-OfTwo.auto.line in
    let s1 = part-next c.put_part-after_a.result.from s0 (c.put_part-after_a.ensures.wrote, c.put_part-after_a.ensures.rest) c.put_part-after_a.auto.line in
    let s2 = part-next c.put_part-in-OfTwo.result.from s1 (c.put_part-in-OfTwo.ensures.wrote, c.put_part-in-OfTwo.ensures.rest) c.put_part-in-OfTwo.auto.line in
    all-parts s2

pub returns-in-OfThree : goal.returns-in-OfThree
unfolding row_in operands_held
returns-in-OfThree c =
    let s0 = spelling c.requires c.in-OfThree.is c.put_signs-head-in-OfThree.result.from
    (c.put_signs-head-in-OfThree.ensures.wrote, c.put_signs-head-in-OfThree.ensures.rest) c.put_signs-head-in-OfThree.auto.line
    in
    let s1 = part-next c.put_part-after_a-in-OfThree.result.from s0
    (c.put_part-after_a-in-OfThree.ensures.wrote, c.put_part-after_a-in-OfThree.ensures.rest)
    c.put_part-after_a-in-OfThree.auto.line in
    let s2 = part-next c.put_part-after_b.result.from s1 (c.put_part-after_b.ensures.wrote, c.put_part-after_b.ensures.rest) c.put_part-after_b.auto.line in
    let s3 = part-next c.put_part-in-OfThree.result.from s2 (c.put_part-in-OfThree.ensures.wrote, c.put_part-in-OfThree.ensures.rest) c.put_part-in-OfThree.auto.line in
    all-parts s3

pub returns-in-OfFour : goal.returns-in-OfFour
unfolding row_in operands_held
returns-in-OfFour c =
    let s0 = spelling c.requires c.in-OfFour.is c.put_signs-head-in-OfFour.result.from
    (c.put_signs-head-in-OfFour.ensures.wrote, c.put_signs-head-in-OfFour.ensures.rest) c.put_signs-head-in-OfFour.auto.line in
    let s1 = part-next c.put_part-after_a-in-OfFour.result.from s0
    (c.put_part-after_a-in-OfFour.ensures.wrote, c.put_part-after_a-in-OfFour.ensures.rest)
    c.put_part-after_a-in-OfFour.auto.line in
    let s2 = part-next c.put_part-after_b-in-OfFour.result.from s1
    (c.put_part-after_b-in-OfFour.ensures.wrote, c.put_part-after_b-in-OfFour.ensures.rest)
    c.put_part-after_b-in-OfFour.auto.line in
    let s3 = part-next c.put_part-after_c.result.from s2 (c.put_part-after_c.ensures.wrote, c.put_part-after_c.ensures.rest) c.put_part-after_c.auto.line in
    let s4 = part-next c.put_part-in-OfFour.result.from s3 (c.put_part-in-OfFour.ensures.wrote, c.put_part-in-OfFour.ensures.rest) c.put_part-in-OfFour.auto.line in
    all-parts s4
