-- No byte from i to j is a brace.
use Rattle.text.specs.Form.{Plain}
use Rattle.text.proofs.form.plain_end.Given as goal

abbrev pub invariant-loop-j : goal.invariant-loop-j
invariant-loop-j l = Plain l.form l.i l.j
