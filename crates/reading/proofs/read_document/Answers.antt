-- By the length, and where the content ends.
use Rattle.std.proofs.Common.{rules}
use Rattle.reading.proofs.Threads.{on_error}
use Rattle.reading.proofs.Whole.{document_long, document_refused, document_more, document_whole}
use Rattle.reading.proofs.read_document.Goals as goal

pub returns-then-doc-gt-DOCUMENT : goal.returns-then-doc-gt-DOCUMENT
returns-then-doc-gt-DOCUMENT c = document_long _ c.if-doc-gt-DOCUMENT.true c.at.ensures

pub returns-in_err-end : goal.returns-in_err-end
returns-in_err-end c = on_error (document_refused _ c.if-doc-gt-DOCUMENT.false c.past.ensures c.in_err-end.was) (search rules)

pub returns-then-end-doc : goal.returns-then-end-doc
returns-then-end-doc c = document_more _ c.if-doc-gt-DOCUMENT.false c.past.ensures c.in_ok-end.was c.if-end-doc.true c.at-then-end-doc.ensures

pub returns : goal.returns
returns c = document_whole _ c.if-doc-gt-DOCUMENT.false c.past.ensures c.in_ok-end.was c.if-end-doc.false
