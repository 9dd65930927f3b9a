-- Past items, whatever they hold; and the bytes of a string as a part of the document.
use Rattle.std.specs.Prelude.{ℕ, zero, suc, ◌+◌, ◌-◌, List, [], length, take, drop, ltb}
use Rattle.reading.specs.Read.{Read, Reader, ok, refused, pick, bind}
use Rattle.reading.specs.Head.{read_head}
use Rattle.reading.specs.Item.{read_kind}
use Rattle.reading.specs.Items.{inside, payload}
use Rattle.reading.specs.declared.fault.Fault.TheVariants.{Truncated}

-- past one head and its string's bytes: the items then left, those inside it and more after it;
-- 2 where the bytes left cannot hold them, for an item takes a byte at least
unfoldable pub skip_body : ℕ → ℕ → ℕ → List ℕ → ℕ → ℕ → Read ℕ
skip_body more items bytes s at n =
    pick (ltb (length s - n) (more + items + bytes)) (refused Truncated at) (ok (more + items) (n + bytes))

unfoldable pub skip_head : ℕ → Reader ℕ
skip_head more s at = bind (read_head s at) λ h n. skip_body more (inside h) (payload h) s at n

-- past so many items: none, or one by rec
unfoldable pub skip_or : (ℕ → Reader (Unit {0})) → ℕ → Reader (Unit {0})
skip_or rec zero s at = ok tt at
skip_or rec (suc k) s at = rec k s at

-- past so many items, with as many heads at most
unfoldable pub skip_within : ℕ → ℕ → Reader (Unit {0})
skip_within zero = skip_or λ k s at. refused Truncated at
skip_within (suc heads) = skip_or λ k s at. bind (skip_head k s at) λ left n. skip_within heads left s n

-- past so many items: there is a head for each byte left at most
unfoldable pub skip_items : ℕ → Reader (Unit {0})
skip_items k s at = skip_within (length s - at) k s at

-- the bytes of the string at a place; none where no string stands there
unfoldable pub span_of : List ℕ → Read ℕ → List ℕ
span_of s (ok len n) = pick (ltb (length s - n) len) [] (take len (drop n s))
span_of s (refused f p) = []

unfoldable pub text_at : List ℕ → ℕ → List ℕ
text_at s at = span_of s (read_kind 3 s at)
