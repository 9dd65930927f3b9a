-- A path of one name mentions it.
use Rattle.findings.proofs.TouchLaws.{path_refused, path_long, path_one}
use Rattle.findings.proofs.touch.touch_path.Goals as goal

pub returns-in_default : goal.returns-in_default
returns-in_default c = search path_refused

pub returns-then-segments-ne1 : goal.returns-then-segments-ne1
returns-then-segments-ne1 c = search path_long

pub returns : goal.returns
returns c = search path_one
