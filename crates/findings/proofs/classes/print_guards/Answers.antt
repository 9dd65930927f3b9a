-- Place by place, by what the function promises.
use borrow.Author.Rules.{rules}
use Rattle.findings.proofs.classes.print_guards.Goals as goal

pub returns : goal.returns
returns c = record { each = λ k l. let h = c.tabulate.ensures.each k l in search rules }
