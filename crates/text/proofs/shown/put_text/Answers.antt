-- A string is a part of the document.
use Rattle.text.proofs.ShownLaws.{text_put}
use borrow.Author.Rules.{rules}
use Rattle.text.proofs.shown.put_text.Goals as goal

pub returns : goal.returns
returns c = let p = text_put _ _ c.text_at.ensures (search rules) c.put_bytes.ensures in record { put = p.0; upper_bound = p.1 }
