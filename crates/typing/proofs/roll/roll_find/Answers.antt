use native.Mathlib.Omega.{arith}
use Rattle.typing.proofs.RollLaws.{find_out, find_empty, find_wide, left_start, left_unprinted, left_miss, left_hit, left_done, within_none, within_at}
use Rattle.typing.proofs.roll.roll_find.Goals as goal
use Rattle.typing.proofs.roll.roll_find.Goals.{then-table-o+else-same, else-table-o}

pub returns-then-len-q-clause-finds_on : goal.returns-then-len-q-clause-finds_on
returns-then-len-q-clause-finds_on c = search find_out

pub returns-then-len-q-clause-within_table : goal.returns-then-len-q-clause-within_table
returns-then-len-q-clause-within_table c = search within_none

pub returns-then-n-eq0-clause-finds_on : goal.returns-then-n-eq0-clause-finds_on
returns-then-n-eq0-clause-finds_on c = search find_empty

pub returns-then-n-eq0-clause-within_table : goal.returns-then-n-eq0-clause-within_table
returns-then-n-eq0-clause-within_table c = search within_none

pub returns-then-len-q-2-clause-finds_on : goal.returns-then-len-q-2-clause-finds_on
returns-then-len-q-2-clause-finds_on c = search find_wide

pub returns-then-len-q-2-clause-within_table : goal.returns-then-len-q-2-clause-within_table
returns-then-len-q-2-clause-within_table c = search within_none

pub loop-i-init : goal.loop-i-init
loop-i-init c = left_start _ _ _ _ _ c.factor.ensures c.print_by-p.ensures c.roll_start-i.ensures

pub returns-then-same-clause-finds_on : goal.returns-then-same-clause-finds_on
returns-then-same-clause-finds_on c = left_hit _ _ _ _ _ _ c.loop-i.invariant c.loop-i-test.true c.name_at.ensures c.text_at.ensures c.same.ensures c.if-same.true

pub returns-then-same-clause-within_table : goal.returns-then-same-clause-within_table
returns-then-same-clause-within_table c = within_at _ _ _ (omega arith)

pub loop-i-preserved : goal.loop-i-preserved
loop-i-preserved c =
    elim c.if-table-o.branch [
      | then-table-o+else-same w ↦ left_miss _ _ _ _ _ _ c.loop-i.invariant c.loop-i-test.true w.name_at.ensures w.text_at.ensures w.same.ensures w.if-same.false
      | else-table-o w ↦ left_unprinted _ _ _ _ _ _ c.loop-i.invariant c.loop-i-test.true c.factor.ensures c.print_by-p.ensures w.if-table-o.false
    ]

pub returns-clause-finds_on : goal.returns-clause-finds_on
returns-clause-finds_on c = search left_done

pub returns-clause-within_table : goal.returns-clause-within_table
returns-clause-within_table c = search within_none
