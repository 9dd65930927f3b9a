-- The turns that are left fall where the places have too little room; with none left they are wide.
use Rattle.offercheck.proofs.module.+print_at.Given as goal

abbrev pub decreases-print_at : goal.decreases-print_at
decreases-print_at l = l.turns
