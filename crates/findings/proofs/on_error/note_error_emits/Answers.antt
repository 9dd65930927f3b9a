use native.Mathlib.Omega.{arith}
use Rattle.findings.proofs.EachLaws.{walk_start, walk_few}
use Rattle.findings.proofs.OnErrorLaws.{error_emits_refused, error_emits_more, error_emits_done}
use Rattle.findings.proofs.on_error.note_error_emits.Goals as goal

pub returns-in_default-clause-notes_error_emits : goal.returns-in_default-clause-notes_error_emits
returns-in_default-clause-notes_error_emits c = search error_emits_refused

pub loop-i-init : goal.loop-i-init
loop-i-init c = (search walk_start, search walk_few, omega arith)

pub loop-i-preserved : goal.loop-i-preserved
loop-i-preserved c = (search error_emits_more, omega arith, omega arith)

pub returns-clause-notes_error_emits : goal.returns-clause-notes_error_emits
returns-clause-notes_error_emits c = search error_emits_done
