-- Those passed have what the function gives.
use Rattle.findings.proofs.ClassLaws.{Filling}
use Rattle.findings.proofs.prints.tabulate.Given as goal

abbrev pub invariant-loop-i : goal.invariant-loop-i
invariant-loop-i g l = Filling (goal.F-post g l.of) l.count l.i l.table
