-- By the first byte that is none of the alphabet, or none.
use mathlib.Core.Path.{sym, ◌∙◌}
use Rattle.reading.proofs.Strings.{all_step, all_fail, all_done}
use Rattle.reading.proofs.text.all_of.Goals as goal

pub returns-then-not-has : goal.returns-then-not-has
returns-then-not-has g c = sym (all_fail _ _ _ c.has.ensures c.loop-b-test.true c.if-not-has.true) ∙ c.loop-b.invariant

pub loop-b-preserved : goal.loop-b-preserved
loop-b-preserved g c = all_step _ _ _ c.has.ensures c.loop-b-test.true c.if-not-has.false ∙ c.loop-b.invariant

pub returns : goal.returns
returns g c = sym (all_done _ _ _ c.loop-b-test.false) ∙ c.loop-b.invariant
