-- By the document's verdict.
use Rattle.std.proofs.lemmas.Result.{err_from_is_err_and}
use Rattle.findings.proofs.ReplyLaws.{accepted_counts, accepted_errors, accepted_warnings, refused_counts, refused_errors, refused_warnings, counted_few, counted_none}
use Rattle.findings.proofs.by_kind.Goals as goal

pub returns-clause-value : goal.returns-clause-value
returns-clause-value c = accepted_counts _ _ _ c.in_ok-read_document.ensures c.kinds.ensures.by_kind

pub returns-clause-errors_after : goal.returns-clause-errors_after
returns-clause-errors_after c = accepted_errors _ _ _ c.in_ok-read_document.ensures c.kinds.ensures.by_kind

pub returns-clause-warnings_after : goal.returns-clause-warnings_after
returns-clause-warnings_after c = accepted_warnings _ _ _ c.in_ok-read_document.ensures c.kinds.ensures.by_kind

pub returns-clause-result_bound : goal.returns-clause-result_bound
returns-clause-result_bound c = counted_few _ c.kinds.ensures.result_bound

pub returns-in_err-read_document-clause-value : goal.returns-in_err-read_document-clause-value
returns-in_err-read_document-clause-value c = let p = err_from_is_err_and c.from_residual.result c.from_residual.ensures.1 in rw (p.1, p.2) (refused_counts c.args.doc.now c.args.errors.now c.args.warnings.now c.in_err-read_document.ensures)

pub returns-in_err-read_document-clause-errors_after : goal.returns-in_err-read_document-clause-errors_after
returns-in_err-read_document-clause-errors_after c = refused_errors c.args.doc.now c.args.errors.now c.args.warnings.now c.in_err-read_document.ensures

pub returns-in_err-read_document-clause-warnings_after : goal.returns-in_err-read_document-clause-warnings_after
returns-in_err-read_document-clause-warnings_after c = refused_warnings c.args.doc.now c.args.errors.now c.args.warnings.now c.in_err-read_document.ensures

pub returns-in_err-read_document-clause-result_bound : goal.returns-in_err-read_document-clause-result_bound
returns-in_err-read_document-clause-result_bound c = let p = err_from_is_err_and c.from_residual.result c.from_residual.ensures.1 in rw (p.1, p.2) (counted_none _)
