-- With priorities, and without by the guards.
use Rattle.findings.proofs.ClashLaws.{pair_given, pair_warn, pair_same}
use Rattle.findings.proofs.clash.note_pair.Goals as goal

pub returns-then-not-bare-clause-noted : goal.returns-then-not-bare-clause-noted
returns-then-not-bare-clause-noted c = search pair_given

pub returns-then-warn-clause-noted : goal.returns-then-warn-clause-noted
returns-then-warn-clause-noted c = search pair_warn

pub returns-clause-noted : goal.returns-clause-noted
returns-clause-noted c = search pair_same
