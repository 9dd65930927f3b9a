use Prim.Native.Nat.{ℕ, ◌+◌, ◌*◌, ◌-◌}
use mathlib.Core.Path.{◌≡◌}
use native.Mathlib.Omega.{arith}
use Rattle.typing.proofs.SegmentLaws.{packs_small, fill_start, fill_stops, fill_more, fill_done}
use Rattle.typing.proofs.segments.fill_words.Goals as goal

pub loop-j-init : goal.loop-j-init
loop-j-init c = let e : c.args.many - 0 ≡ c.args.many = omega arith in rw e (search fill_start)

pub returns-then-k-gt65535 : goal.returns-then-k-gt65535
returns-then-k-gt65535 c = search fill_stops

pub overflow_add-table : goal.overflow_add-table
overflow_add-table c = omega (arith, packs_small 6 c.pack-p.ensures (omega arith))

pub loop-j-preserved : goal.loop-j-preserved
loop-j-preserved c =
    let left : ℕ = c.args.many - 6 * c.loop-j.j in
    let e : c.args.many - 6 * (c.loop-j.j + 1) ≡ left - c.min.result = omega arith in
    rw e (fill_more _ _ _ _ _ _ c.loop-j.invariant c.requires.many_in_bounds (omega arith) (omega arith) (omega arith) c.pack-p.ensures)

pub returns : goal.returns
returns c = fill_done _ _ _ _ _ _ c.loop-j.invariant (omega arith)
