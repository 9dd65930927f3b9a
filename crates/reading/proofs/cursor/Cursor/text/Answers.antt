-- By the tests on the way; the head ends within the document.
use Rattle.std.proofs.Common.{rules}
use Rattle.reading.specs.Text.{read_text}
use Rattle.reading.proofs.Answers.{tests, out}
use Rattle.reading.proofs.Strings.{text_from, text_under, text_over, text_inside}
use Rattle.reading.proofs.cursor.Cursor.text.Goals.{then-len-least-via-then-len-least, then-len-least-via-else-len-least+then-len-gt-TEXT}
use Rattle.reading.proofs.cursor.Cursor.text.Goals as goal

pub returns-in_err-len : goal.returns-in_err-len
unfolding read_text
returns-in_err-len c = search (rules, tests, out _ c.kind.ensures c.in_err-len.was)

pub returns-then-len-least : goal.returns-then-len-least
returns-then-len-least c = elim c.then-len-least.branch [ then-len-least-via-then-len-least w ↦ text_under _ _ _ c.kind.ensures c.in_ok-len.was c.least.ensures w.if-len-least.true c.at.ensures | then-len-least-via-else-len-least+then-len-gt-TEXT w ↦ text_over _ _ _ c.kind.ensures c.in_ok-len.was c.least.ensures w.if-len-least.false w.if-len-gt-TEXT.true c.at.ensures ]

pub text_bytes-requires : goal.text_bytes-requires
text_bytes-requires c = text_from c.args.text _ _ c.kind.ensures c.in_ok-len.was

pub returns : goal.returns
returns c = text_inside _ _ _ c.kind.ensures c.in_ok-len.was c.least.ensures c.if-len-least.false c.if-len-gt-TEXT.false c.text_bytes.ensures
