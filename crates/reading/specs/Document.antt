-- A whole document: refusals 1 and 8.
use Rattle.std.specs.Prelude.{ℕ, List, length, ltb}
use Rattle.reading.specs.Read.{Read, ok, refused, pick, bind}
use Rattle.reading.specs.Limits.{max_document}
use Rattle.reading.specs.Module.{Ir, read_ir}
use Rattle.reading.specs.declared.fault.Fault.TheVariants.{TooLong, Trailing}

unfoldable pub read_document : List ℕ → Read Ir
read_document s =
    pick (ltb max_document (length s)) (refused TooLong 0)
    (bind (read_ir s 0) λ x n. pick (ltb n (length s)) (refused Trailing n) (ok x n))
