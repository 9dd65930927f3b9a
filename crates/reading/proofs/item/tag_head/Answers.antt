-- By the range of the first byte.
use Rattle.std.proofs.Common.{rules}
use Rattle.reading.specs.Short.{tag_head}
use Rattle.reading.proofs.Answers.{tests}
use Rattle.reading.proofs.item.tag_head.Goals.{in-129-to-151, in_default, in_default-2}
use Rattle.reading.proofs.item.tag_head.Goals as goal

pub returns-then-matches : goal.returns-then-matches
unfolding tag_head
returns-then-matches c = elim c.if-matches-2.branch [ in-129-to-151 w ↦ search tests | in_default w ↦ search (rules, tests) | in_default-2 w ↦ search (rules, tests) ]

pub returns-else-matches : goal.returns-else-matches
unfolding tag_head
returns-else-matches c = elim c.if-matches-2.branch [ in-129-to-151 w ↦ search (rules, tests) | in_default w ↦ search (rules, tests) | in_default-2 w ↦ search (rules, tests) ]
