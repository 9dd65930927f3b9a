-- Segments: the words behind the block of a table of enums hold the variants of its long enums, looked for by their marks. A segment is a word
-- that says how many words it has, and above that its key, and then those words, each for six variants, the last for as many as are left: 2 ^ 48
-- times the place of the first, and a byte for each, the lowest for the first: its mark by the key, which is not 0. The word under the enum's name
-- is then 65536 more than the word at which its segment begins; a smaller word is the place of the list of variants. A document of more than
-- 65,535 bytes has no segments.
use Rattle.std.specs.Prelude.{ℕ, zero, suc, ◌+◌, ◌-◌, ◌*◌, ◌/◌, ◌%◌, ◌^◌, ◌<◌, ◌≤◌, ◌≡◌, List, Bool, true, false, length, get_or, take, eqb, ltb, Option as Maybe, Some, None}
use Rattle.std.proofs.Math.Option.{Option, none, some}
use Rattle.reading.specs.Read.{pick}
use Rattle.reading.specs.Text.{Name}
use Rattle.reading.specs.Skip.{text_at}
use Rattle.typing.specs.Names.{eq_name}
use Rattle.typing.specs.Lanes.{print_by, factor, spread}
use Rattle.typing.specs.Table.{after_item, member_from, member_at}
use Rattle.typing.specs.declared.segments.Packed.{Packed}

-- the mark of a name by a key: a byte, not 0
unfoldable pub mark_by : ℕ → Name → ℕ
mark_by key n = spread (print_by (factor key) 0 n) / 2 ^ 24 % 255 + 1

-- whether one of k marks is m
unfoldable pub marked : ℕ → ℕ → ℕ → Bool
marked zero m marks = false
marked (suc k) m marks = pick (eqb (marks % 2 ^ 8) m) true (marked k m (marks / 2 ^ 8))

-- whether one of the k names from a place on that have the mark m is the name
unfoldable pub named_by : ℕ → List ℕ → Name → ℕ → ℕ → ℕ → Bool
named_by zero s n m marks at = false
named_by (suc k) s n m marks at =
    pick (pick (eqb (marks % 2 ^ 8) m) (eq_name (text_at s at) n) false) true (named_by k s n m (marks / 2 ^ 8) (after_item s at))

-- whether one of a word's six is
unfoldable pub word_has : List ℕ → Name → ℕ → ℕ → Bool
word_has s n m w = named_by 6 s n m (w % 2 ^ 48) (w / 2 ^ 48)

-- whether one of the k words from word q on has the name, which has the mark m, from the last of them on
unfoldable pub among : ℕ → List ℕ → Name → ℕ → List ℕ → ℕ → Bool
among zero s n m T q = false
among (suc k) s n m T q = pick (word_has s n m (get_or T (q + k) 0)) true (among k s n m T q)

-- how many words a segment's first word says it has, and by which key
abbrev pub words_of : ℕ → ℕ
words_of h = h % 2 ^ 8

abbrev pub key_at : ℕ → ℕ
key_at h = h / 2 ^ 8

-- whether the segment that begins at word q, and ends in the table, has the name
unfoldable pub segment_has : List ℕ → Name → List ℕ → ℕ → Bool
segment_has s n T q =
    pick (ltb q (length T))
    (pick (ltb (words_of (get_or T q 0)) (length T - q)) (among (words_of (get_or T q 0)) s n (mark_by (key_at (get_or T q 0)) n) T (q + 1)) false)
    false

-- whether the enum with a word under its name has the variant
unfoldable pub variant_in : List ℕ → List ℕ → Name → ℕ → Bool
variant_in s T n w = pick (ltb w 65536) (member_at s w n) (pick (ltb 65535 (length s)) (member_at s w n) (segment_has s n T (w - 65536)))

unfoldable pub variant_held : List ℕ → List ℕ → Name → Option ℕ → Bool
variant_held s T n none = false
variant_held s T n (some w) = variant_in s T n w

-- the marks of the k names from a place on, the first's lowest
unfoldable pub marks_from : ℕ → ℕ → List ℕ → ℕ → ℕ
marks_from zero key s at = 0
marks_from (suc k) key s at = mark_by key (text_at s at) + 2 ^ 8 * marks_from k key s (after_item s at)

-- the place after the k items from a place on
unfoldable pub after_items : ℕ → List ℕ → ℕ → ℕ
after_items zero s at = at
after_items (suc k) s at = after_items k s (after_item s at)

-- those marks, and where the names end
pub record Packs (k key : ℕ) (s : List ℕ) (at : ℕ) (r : Packed) : Type 0 where
  pub marks : r.marks ≡ marks_from k key s at
  pub next : r.next ≡ after_items k s at

-- a table after so many names from a place on were put into the words from word q on, six a word, by a key; r says whether all were
pub record FillsWords (key : ℕ) (s : List ℕ) (first many : ℕ) (T : List ℕ) (q : ℕ) (r : Bool) (T' : List ℕ) : Type 0 where
  pub size : length T' ≡ length T
  pub kept : take q T' ≡ take q T
  pub has : r ≡ true → (n : Name) → among ((many + 5) / 6) s n (mark_by key n) T' q ≡ member_from many s first n

-- the same by one of 8 keys, if all were
unfoldable pub FillsKeyed : List ℕ → ℕ → ℕ → List ℕ → ℕ → Maybe ℕ → List ℕ → Type 0
FillsKeyed s first many T q (Some key) T' = (key < 8) × FillsWords key s first many T q true T'
FillsKeyed s first many T q None T' = (length T' ≡ length T) × (take q T' ≡ take q T)

-- a word under a name says what variants the list at a place has; a segment of it lies between two words
pub record Under (s T : List ℕ) (w low high list : ℕ) : Type 0 where
  pub has : (n : Name) → variant_in s T n w ≡ member_at s list n
  pub inside : 65535 < w → length s ≤ 65535 → (low ≤ w - 65536) × (w - 65536 + words_of (get_or T (w - 65536) 0) < high)

-- a table after a segment of r words was put at word q, or none, if r is 0: the words before are as they were
pub record Segmented (s : List ℕ) (list : ℕ) (T : List ℕ) (q r : ℕ) (T' : List ℕ) : Type 0 where
  pub size : length T' ≡ length T
  pub kept : take q T' ≡ take q T
  pub room : q + r ≤ length T
  pub count : 0 < r → words_of (get_or T' q 0) + 1 ≡ r
  pub has : 0 < r → (n : Name) → segment_has s n T' q ≡ member_at s list n

-- a table after the list of pair i was given a segment between words q and r, or none: the other words before word q are as they were
pub record IndexedOne (s T : List ℕ) (i q r : ℕ) (T' : List ℕ) : Type 0 where
  pub size : length T' ≡ length T
  pub more : q ≤ r
  pub room : r ≤ length T
  pub kept : (j : ℕ) → j < q → (j ≡ 2 * i + 1 → ⊥) → get_or T' j 0 ≡ get_or T j 0
  pub under : Under s T' (get_or T' (2 * i + 1) 0) q r (get_or T (2 * i + 1) 0)

-- a table after the lists of its first k pairs were given segments behind its block, or none: the block's other words are as they were
pub record Indexed (s T : List ℕ) (k : ℕ) (T' : List ℕ) : Type 0 where
  pub size : length T' ≡ length T
  pub kept : (j : ℕ) → j < 829 → ((i : ℕ) → i < k → j ≡ 2 * i + 1 → ⊥) → get_or T' j 0 ≡ get_or T j 0
  pub unders : (i : ℕ) → i < k → Under s T' (get_or T' (2 * i + 1) 0) 829 (length T) (get_or T (2 * i + 1) 0)
