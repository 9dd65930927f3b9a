-- Each turn puts a finding at least.
use Rattle.std.proofs.Common.{◌-◌}
use Rattle.text.specs.Near.{KeptModule}
use Rattle.offercheck.proofs.lists.print_list.Given as goal

abbrev pub invariant-loop-done : goal.invariant-loop-done
invariant-loop-done l = KeptModule l.list.doc.now l.done.near

abbrev pub decreases-loop-done : goal.decreases-loop-done
decreases-loop-done l = l.list.all - l.done.next
