use Prim.Native.Nat.{◌*◌, ◌+◌, ◌/◌}
use mathlib.Core.Path.{◌≡◌, sym}
use native.Mathlib.Omega.{arith}
use borrow.Author.Rules.{rules}
use lib.ListN.{length}
use Rattle.typing.proofs.NameLaws.{eq_name_length, same_step, same_differ, same_done, four_step, four_differ}
use Rattle.typing.proofs.names.same.Goals as goal

pub returns-then-a-b : goal.returns-then-a-b
returns-then-a-b c = sym (eq_name_length _ _ c.if-a-b.true)

pub returns-then-four : goal.returns-then-four
returns-then-four c = search four_differ

pub loop-k-preserved : goal.loop-k-preserved
loop-k-preserved c =
    let f = c.type_inv.a in
    let g = c.type_inv.b in
    let e : 4 * (c.loop-k.k + 1) ≡ 4 * c.loop-k.k + 4 = omega arith in
    rw e (four_step _ _ (4 * c.loop-k.k) c.four.ensures c.four-in-loop-k.ensures (λ j. omega (arith, f j)) (λ j. omega (arith, g j)) (search rules) (omega arith) (search rules) c.loop-k.invariant)

pub loop-i-init : goal.loop-i-init
loop-i-init c = let e : length c.args.a.now / 4 ≡ c.loop-k.k = omega arith in rw e c.loop-k.invariant

pub returns-then-a-i : goal.returns-then-a-i
returns-then-a-i c = search same_differ

pub loop-i-preserved : goal.loop-i-preserved
loop-i-preserved c = search same_step

pub returns : goal.returns
returns c = search same_done
