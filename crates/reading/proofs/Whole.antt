-- A whole document, by where its content ends.
use Prim.Native.Nat.{ℕ, ◌<◌, ◌≤◌}
use mathlib.Core.Path.{◌≡◌}
use mathlib.Core.List.{List}
use lib.ListN.{length}
use borrow.Author.Tests.{lt-ltb, le-ltb}
use Rattle.std.specs.Prelude.{Result, Ok, Err}
use Rattle.reading.specs.Limits.{max_document}
use Rattle.reading.specs.Module.{read_ir}
use Rattle.reading.specs.Document.{read_document}
use Rattle.reading.specs.Link.{stands, verdict, refusal}
use Rattle.reading.specs.declared.fault.Fault.TheVariants.{TooLong, Trailing}
use Rattle.reading.specs.declared.fault.Refusal.{Refusal}
use Rattle.reading.specs.declared.cursor.Cursor.{Cursor}
use Rattle.reading.proofs.Rules.{pick_true, pick_false, bind_ok, bind_out}
use Rattle.reading.proofs.Answers.{stood, stood_out}

module _ (s : List ℕ) where
  pub document_long : max_document < length s → {e : Refusal} → e ≡ refusal TooLong 0 → Err e ≡ verdict (read_document s)
  unfolding read_document verdict
  document_long h q = rw (q, lt-ltb max_document (length s) h, pick_true)

  module _ (short : length s ≤ max_document) {r : Result Cursor Refusal} (e : r ≡ stands (read_ir s 0)) where
    module _ {c : Cursor} (q : r ≡ Ok c) where
      pub document_more : c.at < length s → {e : Refusal} → e ≡ refusal Trailing c.at → Err e ≡ verdict (read_document s)
      unfolding read_document verdict
      document_more h f = rw (f, le-ltb max_document (length s) short, pick_false, (stood _ e q).1, bind_ok, lt-ltb c.at (length s) h, pick_true)

      pub document_whole : length s ≤ c.at → Ok tt ≡ verdict (read_document s)
      unfolding read_document verdict
      document_whole h = rw (le-ltb max_document (length s) short, pick_false, (stood _ e q).1, bind_ok, le-ltb c.at (length s) h, pick_false)

    pub document_refused : {w : Refusal} → r ≡ Err w → Err w ≡ verdict (read_document s)
    unfolding read_document verdict
    document_refused q = rw (le-ltb max_document (length s) short, pick_false, stood_out _ e q, bind_out)
