-- What the message call answers, and what it leaves in the lent bytes.
use Rattle.std.specs.Prelude.{ℕ, List, ◌++◌, cond, length, get_or, drop, ltb, Result, Ok, Err}
use Rattle.reading.specs.Read.{Read, ok, refused}
use Rattle.reading.specs.Fault.{number}
use Rattle.reading.specs.Link.{refusal}
use Rattle.reading.specs.Module.{Ir}
use Rattle.findings.specs.Finding.{note, in_module}
use Rattle.findings.specs.Findings.{findings}
use Rattle.findings.specs.declared.reply.Absent.{Absent}
use Rattle.findings.specs.declared.reply.Absent.TheVariants as absent
use Rattle.text.specs.Message.{message_of}
use Rattle.text.specs.declared.told.Untold.{Untold}
use Rattle.text.specs.declared.told.Untold.TheVariants.{Refused, Missing, Short}

-- why there is no message number k, by why there is no such finding: "message number not below the number of findings"
abbrev pub untold_of : ℕ → Absent → Untold
untold_of k (absent.Refused r) = Refused r
untold_of k (absent.Missing n) = Missing k

-- message number k
unfoldable pub message_at : Ir → ℕ → List ℕ
message_at x k = message_of x (get_or (findings x) k (in_module 0 (note 0 0 0 0)))

-- "message longer than the lent bytes"
unfoldable pub sized : List ℕ → List ℕ → Result ℕ Untold
sized o msg = cond (ltb (length o) (length msg)) (Err (Short (length msg))) (Ok (length msg))

unfoldable pub filled : List ℕ → List ℕ → List ℕ
filled o msg = cond (ltb (length o) (length msg)) o (msg ++ drop (length msg) o)

-- the answer, by what reading gives and the bytes that are lent; "message number not below the number of findings"
unfoldable pub told_of : ℕ → List ℕ → Read Ir → Result ℕ Untold
told_of k o (refused f p) = Err (Refused (refusal f p))
told_of k o (ok x n) = cond (ltb k (length (findings x))) (sized o (message_at x k)) (Err (Missing k))

-- the lent bytes afterwards
unfoldable pub text_of : ℕ → List ℕ → Read Ir → List ℕ
text_of k o (refused f p) = o
text_of k o (ok x n) = cond (ltb k (length (findings x))) (filled o (message_at x k)) o

-- document 01's number of an answer, 0 where the message was written; and the message's length, or the refusal's place
unfoldable pub number_of : Result ℕ Untold → ℕ
number_of (Ok n) = 0
number_of (Err (Refused r)) = number r.fault
number_of (Err (Missing k)) = 11
number_of (Err (Short n)) = 12

unfoldable pub place_of : Result ℕ Untold → ℕ
place_of (Ok n) = n
place_of (Err (Refused r)) = r.place
place_of (Err (Missing k)) = k
place_of (Err (Short n)) = n
