-- What the calls for all findings answer and leave, and what the call for one finding answers.
use Rattle.std.specs.Prelude.{ℕ, ◌+◌, ◌*◌, List, ◌++◌, Bool, cond, length, get_or, drop, ltb, Result, Ok, Err}
use Rattle.reading.specs.Read.{Read, ok, refused}
use Rattle.reading.specs.Fault.{number}
use Rattle.reading.specs.Link.{refusal}
use Rattle.reading.specs.declared.fault.Refusal.{Refusal}
use Rattle.reading.specs.Module.{Ir}
use Rattle.findings.specs.Finding.{note, words, in_module}
use Rattle.findings.specs.Findings.{all_errors, all_warnings, findings}
use Rattle.findings.specs.Sheet.{put, flat}
use Rattle.findings.specs.declared.reply.Counts.{Counts}
use Rattle.findings.specs.declared.reply.Denied.{Denied}
use Rattle.findings.specs.declared.reply.Denied.TheVariants.{Refused, Short}
use Rattle.findings.specs.declared.reply.Absent.{Absent}
use Rattle.findings.specs.declared.reply.Absent.TheVariants as absent

-- what the call for all findings answers, and what the call for one does
abbrev pub Reply : Type 0
Reply = Result Counts Denied

abbrev pub Line : Type 0
Line = Result (List ℕ) Absent

-- "findings need more words than were lent"
unfoldable pub too_many_findings : List ℕ → Ir → Bool
too_many_findings o x = ltb (length o) (5 * length (findings x))

-- the answer, by what reading gives and the words that are lent
unfoldable pub reply_to : List ℕ → Read Ir → Reply
reply_to o (refused f p) = Err (Refused (refusal f p))
reply_to o (ok x n) = cond (too_many_findings o x) (Err (Short (length (findings x)))) (Ok (record { errors = length (all_errors x); warnings = length (all_warnings x) }))

-- the lent words afterwards: "words past the written ones keep their old contents"
unfoldable pub sheet_of : List ℕ → Read Ir → List ℕ
sheet_of o (refused f p) = o
sheet_of o (ok x n) = cond (too_many_findings o x) o (flat (findings x) ++ drop (5 * length (findings x)) o)

-- the answer where errors and warnings each have words of their own: the counts, whether all findings fit or not
unfoldable pub counts_to : Read Ir → Result Counts Refusal
counts_to (refused f p) = Err (refusal f p)
counts_to (ok x n) = Ok (record { errors = length (all_errors x); warnings = length (all_warnings x) })

-- the words for errors and those for warnings afterwards
unfoldable pub errors_in : List ℕ → Read Ir → List ℕ
errors_in o (refused f p) = o
errors_in o (ok x n) = put o 0 0 (all_errors x)

unfoldable pub warnings_in : List ℕ → Read Ir → List ℕ
warnings_in o (refused f p) = o
warnings_in o (ok x n) = put o 0 0 (all_warnings x)

-- how many findings an answer counts
unfoldable pub counted : Result Counts Refusal → ℕ
counted (Ok c) = c.errors + c.warnings
counted (Err r) = 0

-- document 01's number of an answer: 0 where the findings were written
unfoldable pub number_of : Reply → ℕ
number_of (Ok c) = 0
number_of (Err (Refused r)) = number r.fault
number_of (Err (Short n)) = 10

-- both counts; or the refusal's place, and 0
unfoldable pub first_word : Reply → ℕ
first_word (Ok c) = c.errors
first_word (Err (Refused r)) = r.place
first_word (Err (Short n)) = n

unfoldable pub second_word : Reply → ℕ
second_word (Ok c) = c.warnings
second_word (Err (Refused r)) = 0
second_word (Err (Short n)) = 0

-- the words of finding number k; or how many there are, where there is no such one
unfoldable pub line_to : ℕ → Read Ir → Line
line_to k (refused f p) = Err (absent.Refused (refusal f p))
line_to k (ok x n) = cond (ltb k (length (findings x))) (Ok (words (get_or (findings x) k (in_module 0 (note 0 0 0 0))))) (Err (absent.Missing (length (findings x))))
