-- By the names with those that the pattern binds.
use Rattle.text.proofs.JudgedLaws.{bound_row}
use Rattle.text.proofs.BlamedLaws.{inside_site, pattern_at, puts_seen}
use Rattle.text.proofs.judged.put_judged.Goals as goal

pub returns-then-site-eq8-clause-puts_said : goal.returns-then-site-eq8-clause-puts_said
returns-then-site-eq8-clause-puts_said c = search pattern_at

pub put_inside-end-requires-clause-site_value : goal.put_inside-end-requires-clause-site_value
put_inside-end-requires-clause-site_value c = search inside_site

pub returns-clause-puts_said : goal.returns-clause-puts_said
returns-clause-puts_said c = search puts_seen

pub returns-clause-bound_to_2 : goal.returns-clause-bound_to_2
returns-clause-bound_to_2 c = search bound_row
