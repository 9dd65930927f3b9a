use Prim.Native.Nat.{◌*◌, ◌+◌, ◌/◌}
use mathlib.Core.Path.{◌≡◌}
use native.Mathlib.Omega.{arith}
use lib.ListN.{length}
use Rattle.typing.proofs.LaneLaws.{print_four, print_one, print_done}
use Rattle.typing.proofs.lanes.print_by.Goals as goal

pub loop-k-preserved : goal.loop-k-preserved
loop-k-preserved c =
    let e : 4 * (c.loop-k.k + 1) ≡ 4 * c.loop-k.k + 4 = omega arith in
    rw e (print_four _ _ _ _ _ c.loop-k.invariant _ _ (omega arith) c.four.ensures c.next_print-p.ensures)

pub loop-i-init : goal.loop-i-init
loop-i-init c = let e : length c.args.bytes.now / 4 ≡ c.loop-k.k = omega arith in rw e c.loop-k.invariant

pub overflow_cast-bytes : goal.overflow_cast-bytes
overflow_cast-bytes c = omega (arith, c.type_inv.bytes c.loop-i.i)

pub loop-i-preserved : goal.loop-i-preserved
loop-i-preserved c = print_one _ _ _ _ _ c.loop-i.invariant _ (omega arith) (omega arith) c.next_print-p-in-loop-i.ensures

pub returns : goal.returns
returns c = search print_done
