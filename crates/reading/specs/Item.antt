-- Items with their limits: refusals 4, 5 and 9.
use Rattle.std.specs.Prelude.{ℕ, Bool, true, false, ltb, eqb}
use Rattle.reading.specs.Read.{Reader, ok, refused, pick, bind}
use Rattle.reading.specs.Limits.{max_version}
use Rattle.reading.specs.Head.{read_head}
use Rattle.reading.specs.declared.fault.Fault.TheVariants.{Unexpected, OutOfRange, UnknownVersion}
use Rattle.reading.specs.declared.item.Tag.{Tag}

-- the argument of an item of the major type that is due
unfoldable pub read_kind : ℕ → Reader ℕ
read_kind due s at = bind (read_head s at) λ h n. pick (eqb h.major due) (ok h.argument n) (refused Unexpected at)

-- a number that is at most the limit
unfoldable pub read_number : ℕ → Reader ℕ
read_number limit s at = bind (read_kind 0 s at) λ v n. pick (ltb limit v) (refused OutOfRange at) (ok v n)

-- ir_version
unfoldable pub read_ir_version : Reader ℕ
read_ir_version s at = bind (read_kind 0 s at) λ v n. pick (ltb max_version v) (refused UnknownVersion at) (ok v n)

-- a bare case number
unfoldable pub read_case : ℕ → Reader ℕ
read_case cases s at = bind (read_kind 0 s at) λ v n. pick (ltb v cases) (ok v n) (refused Unexpected at)

-- f4 is false and f5 is true
unfoldable pub read_bool : Reader Bool
read_bool s at =
    bind (read_kind 7 s at) λ v n.
    pick (eqb v 20) (ok false n) (pick (eqb v 21) (ok true n) (refused Unexpected at))

-- the head of a record of as many fields
unfoldable pub read_fields : ℕ → Reader (Unit {0})
read_fields fields s at = bind (read_kind 4 s at) λ v n. pick (eqb v fields) (ok tt n) (refused Unexpected at)

-- the head of a list: its length
unfoldable pub read_count : ℕ → Reader ℕ
read_count limit s at = bind (read_kind 4 s at) λ v n. pick (ltb limit v) (refused OutOfRange at) (ok v n)

-- the head of a data enum: the array's start and count, the case number and its place
unfoldable pub read_tag : Reader Tag
read_tag s at =
    bind (read_kind 4 s at) λ count n.
    pick (eqb count 0) (refused Unexpected at)
    (bind (read_kind 0 s n) λ case m. ok (record { start = at; count = count; case = case; place = n }) m)
