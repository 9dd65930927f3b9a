-- The head of an item (RFC 8949, section 3), with the refusals 2, 3 and 4.
use Rattle.std.specs.Prelude.{ℕ, ◌+◌, ◌-◌, ◌*◌, ◌/◌, ◌%◌, List, length, get_or, ltb, leb, eqb}
use Rattle.reading.specs.Read.{Read, Reader, ok, refused, pick}
use Rattle.reading.specs.declared.cursor.Head.{Head}
use Rattle.reading.specs.declared.fault.Fault.TheVariants.{Truncated, NonCanonical, Unexpected}

-- numbers of one, two, four and eight bytes, the most significant first
unfoldable pub be1 : List ℕ → ℕ → ℕ
be1 s at = get_or s at 0

unfoldable pub be2 : List ℕ → ℕ → ℕ
be2 s at = be1 s at * 256 + be1 s (at + 1)

unfoldable pub be4 : List ℕ → ℕ → ℕ
be4 s at = be2 s at * 65536 + be2 s (at + 2)

unfoldable pub be8 : List ℕ → ℕ → ℕ
be8 s at = be4 s at * 4294967296 + be4 s (at + 4)

-- a head whose argument was read: 3 where a shorter head would do
unfoldable pub settled : ℕ → ℕ → ℕ → ℕ → ℕ → Read Head
settled major arg least at next =
    pick (ltb arg least) (refused NonCanonical at) (ok (record { major = major; argument = arg }) next)

-- a head whose argument stands in the width bytes after it
unfoldable pub long_head : ℕ → (List ℕ → ℕ → ℕ) → ℕ → ℕ → Reader Head
long_head major be width least s at =
    pick (ltb (length s - at - 1) width) (refused Truncated at)
    (settled major (be s (at + 1)) least at (at + 1 + width))

-- additional information 24 to 27
unfoldable pub wide_head : ℕ → ℕ → Reader Head
wide_head major info s at =
    pick (eqb info 24) (long_head major be1 1 24 s at)
    (pick (eqb info 25) (long_head major be2 2 256 s at)
    (pick (eqb info 26) (long_head major be4 4 65536 s at)
    (long_head major be8 8 4294967296 s at)))

-- major type 7: false, true, null and nothing else
unfoldable pub simple : ℕ → ℕ → Read Head
simple info at =
    pick (ltb info 20) (refused Unexpected at)
    (pick (ltb 22 info) (refused Unexpected at) (ok (record { major = 7; argument = info }) (at + 1)))

-- what the first byte decides, its major type and additional information given
unfoldable pub head_with : ℕ → ℕ → Reader Head
head_with major info s at =
    pick (ltb 27 info) (refused NonCanonical at)
    (pick (eqb major 7) (simple info at)
    (pick (ltb info 24) (ok (record { major = major; argument = info }) (at + 1)) (wide_head major info s at)))

unfoldable pub read_head : Reader Head
read_head s at =
    pick (leb (length s) at) (refused Truncated at) (head_with (get_or s at 0 / 32) (get_or s at 0 % 32) s at)
