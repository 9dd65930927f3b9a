-- Argument by argument.
use Rattle.findings.proofs.MentionLaws.{ArgsLeft}
use Rattle.findings.proofs.mentions.touch_args.Given as goal

abbrev pub invariant-loop-i : goal.invariant-loop-i
invariant-loop-i l = ArgsLeft l.vars.doc.now l.at l.vars.names.now l.initial.marks l.count l._i l.k l.marks
