-- The tables, then what is said by them.
use Rattle.text.proofs.EntryLaws.{kept_none}
use Rattle.text.proofs.WordsLaws.{opened_said}
use Rattle.text.proofs.words.say_opened.Goals as goal

pub say_named-requires-clause-kept : goal.say_named-requires-clause-kept
say_named-requires-clause-kept c = search kept_none

pub returns : goal.returns
returns c = search opened_said
