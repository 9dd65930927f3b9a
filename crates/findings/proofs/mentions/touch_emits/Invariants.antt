-- Output by output.
use Rattle.findings.proofs.MentionLaws.{EmitsLeft}
use Rattle.findings.proofs.mentions.touch_emits.Given as goal

abbrev pub invariant-loop-i : goal.invariant-loop-i
invariant-loop-i l = EmitsLeft l.vars.doc.now l.at l.vars.names.now l.initial.marks l.count l._i l.k l.marks
