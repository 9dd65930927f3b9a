-- The turns that are left fall where the places have too little room; with none left they are wide.
use Rattle.findings.proofs.whole.+walk_module.Given as goal

abbrev pub decreases-walk_module : goal.decreases-walk_module
decreases-walk_module l = l.turns
