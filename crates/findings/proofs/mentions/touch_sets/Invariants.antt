-- Set by set.
use Rattle.findings.proofs.MentionLaws.{SetsLeft}
use Rattle.findings.proofs.mentions.touch_sets.Given as goal

abbrev pub invariant-loop-i : goal.invariant-loop-i
invariant-loop-i l = SetsLeft l.vars.doc.now l.at l.vars.names.now l.initial.marks l.count l._i l.k l.marks
