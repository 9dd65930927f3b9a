-- By the byte there; past the end there is none.
use Rattle.reading.proofs.Threads.{null_here, null_elsewhere, null_beyond}
use Rattle.reading.proofs.cursor.Cursor.null.Goals.{else-at-doc-via-then-at-doc+else-doc-at, else-at-doc-via-else-at-doc}
use Rattle.reading.proofs.cursor.Cursor.null.Goals as goal

pub returns-then-doc-at : goal.returns-then-doc-at
returns-then-doc-at c = null_here _ _ c.if-doc-at.true

pub returns : goal.returns
returns c = elim c.else-at-doc.branch [ else-at-doc-via-then-at-doc+else-doc-at w ↦ null_elsewhere _ _ w.if-doc-at.false | else-at-doc-via-else-at-doc w ↦ null_beyond _ _ w.if-at-doc.false ]
