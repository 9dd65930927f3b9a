-- By whether the places are two.
use Rattle.findings.proofs.LoneLaws.{unmark_one, unmark_two}
use Rattle.findings.proofs.classes.unmark.Goals as goal

pub returns-then-i-j : goal.returns-then-i-j
returns-then-i-j c = search unmark_one

pub returns : goal.returns
returns c = search unmark_two
