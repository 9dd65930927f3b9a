-- The words have no brace.
use mathlib.Core.List.{[]}
use borrow.Author.Rules.{rules}
use Rattle.text.proofs.PutLaws.{put_is}
use Rattle.text.proofs.PieceLaws.{format_end}
use Rattle.text.proofs.cause.put_plain.Goals as goal

pub returns : goal.returns
returns c = record { put = put_is (format_end _ [] c.requires.brace_free) c.put_bytes.ensures; upper_bound = search rules }
