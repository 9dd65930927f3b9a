-- By the document's verdict.
use Rattle.std.proofs.lemmas.Result.{err_from_is_err_and}
use Rattle.findings.proofs.ReplyLaws.{line_accepted, line_refused}
use Rattle.findings.proofs.finding_at.Goals as goal

pub returns : goal.returns
returns c = line_accepted _ _ c.in_ok-read_document.ensures c.line.ensures

pub returns-in_err-read_document : goal.returns-in_err-read_document
returns-in_err-read_document c = let p = err_from_is_err_and c.from_residual.result c.from_residual.ensures.1 in rw (p.1, p.2) (line_refused _ _ c.in_err-read_document.ensures)
