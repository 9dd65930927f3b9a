-- By what its lane has.
use Rattle.findings.proofs.OnceLaws.{mark_room, mark_found, mark_none}
use Rattle.findings.proofs.once.is_marked.Goals as goal

pub bounds-own-j : goal.bounds-own-j
bounds-own-j c = search mark_room

pub returns-in-Some : goal.returns-in-Some
returns-in-Some c = search mark_found

pub returns-in-None : goal.returns-in-None
returns-in-None c = search mark_none
