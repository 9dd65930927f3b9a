-- The names gathered are touched, and their marks handed on.
use Rattle.typing.proofs.LaneLaws.{laned_start}
use Rattle.findings.proofs.OnceLaws.{once_touched}
use Rattle.findings.proofs.once.touch_once.Goals as goal

pub gather-m-requires-clause-laned : goal.gather-m-requires-clause-laned
gather-m-requires-clause-laned c = search laned_start

pub returns : goal.returns
returns c = search once_touched
