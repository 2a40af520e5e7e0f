use Rattle.access.specs.Window.{fetch_in}
use Rattle.std.proofs.Common.{arith, rules, le-ltb, lt-ltb}
use Rattle.access.proofs.Windows.{word_in, parcel-in}
use Rattle.access.proofs.fetch.Goals as goal

pub offset_bounds-mem-first : goal.offset_bounds-mem-first
offset_bounds-mem-first c = omega (arith, c.requires _ c.if-w-f.true, c.well_formed)

pub slice_bounds-code-count : goal.slice_bounds-code-count
slice_bounds-code-count c = omega (arith, c.requires _ c.if-w-f.true)

pub slice_bounds-code-start : goal.slice_bounds-code-start
slice_bounds-code-start c = let h = c.requires _ c.if-w-f.true in search rules

pub offset_bounds-code-w : goal.offset_bounds-code-w
offset_bounds-code-w c =
    omega (arith, c.requires _ c.if-w-f.true, c.well_formed)

pub bounds-code-w : goal.bounds-code-w
bounds-code-w c =
    word_in c.args.mem.now _ _
    (c.requires _ c.if-w-f.true)

pub returns-then-w-f : goal.returns-then-w-f
unfolding fetch_in
returns-then-w-f c =
    rw (
      ← c.from-w.ensures,
      lt-ltb _ _ c.if-w-f.true,
      parcel-in
          c.args.mem.now _ _
          (c.requires _ c.if-w-f.true),
    )

pub returns-else-w-f : goal.returns-else-w-f
unfolding fetch_in
returns-else-w-f c = rw (← c.from-w.ensures, le-ltb _ _ c.if-w-f.false)
