-- By the document's verdict.
use Rattle.std.proofs.lemmas.Result.{err_from_is_err_and}
use Rattle.findings.proofs.ReplyLaws.{accepted_reply, accepted_sheet, refused_reply, refused_sheet}
use Rattle.findings.proofs.findings.Goals as goal

pub returns-clause-value : goal.returns-clause-value
returns-clause-value c = accepted_reply _ _ c.in_ok-read_document.ensures c.reply.ensures

pub returns-clause-out_after : goal.returns-clause-out_after
returns-clause-out_after c = accepted_sheet _ _ c.in_ok-read_document.ensures c.reply.ensures

pub returns-in_err-read_document-clause-value : goal.returns-in_err-read_document-clause-value
returns-in_err-read_document-clause-value c = let p = err_from_is_err_and c.from_residual.result c.from_residual.ensures.1 in rw (p.1, p.2) (refused_reply _ _ c.in_err-read_document.ensures)

pub returns-in_err-read_document-clause-out_after : goal.returns-in_err-read_document-clause-out_after
returns-in_err-read_document-clause-out_after c = refused_sheet _ _ c.in_err-read_document.ensures
