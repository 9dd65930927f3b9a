-- Tables of blocks. A block holds up to 255 pairs of places, of a name and of what is declared under it, on 63 lanes by the name's print and the
-- block's key. It has 829 words: the pairs, then a head for each lane, then the key, then a link for each pair. A head or a link is one more than a
-- pair's number; a lane ends where there is no such pair. The pairs of a lane are looked through from the last on, and so are the blocks of a table.
-- A lane may leave out a pair whose name a later pair of the lane has. A table of enums is one block and other words behind it.
use Rattle.std.specs.Prelude.{ℕ, zero, suc, ◌+◌, ◌-◌, ◌*◌, ◌/◌, ◌%◌, ◌^◌, ◌<◌, ◌≡◌, List, length, get_or, take, eqb, ltb}
use Rattle.std.proofs.Math.Option.{Option, none, some}
use Rattle.reading.specs.Read.{pick}
use Rattle.reading.specs.Text.{Name}
use Rattle.reading.specs.Skip.{text_at}
use Rattle.typing.specs.Names.{eq_name}
use Rattle.typing.specs.Causes.{first_of}
use Rattle.typing.specs.Env.{Env, given}
use Rattle.typing.specs.Lanes.{print_by, factor, spread, Woven}
use Rattle.typing.specs.Table.{last_in, type_found, variant_found}
use Rattle.typing.specs.Segments.{variant_held}

-- the words of the block from word o on: the name of pair i and what is under it, the head of a lane, the link of a pair, the key
abbrev pub name_in : List ℕ → ℕ → ℕ → ℕ
name_in T o i = get_or T (o + 2 * i) 0

abbrev pub under_in : List ℕ → ℕ → ℕ → ℕ
under_in T o i = get_or T (o + 2 * i + 1) 0

abbrev pub head_in : List ℕ → ℕ → ℕ → ℕ
head_in T o h = get_or T (o + 510 + h) 0

abbrev pub link_in : List ℕ → ℕ → ℕ → ℕ
link_in T o i = get_or T (o + 574 + i) 0

abbrev pub key_in : List ℕ → ℕ → ℕ
key_in T o = get_or T (o + 573) 0

-- the lane of a name by a key, one of 63
unfoldable pub block_lane : ℕ → Name → ℕ
block_lane key n = spread (print_by (factor key) 0 n) / 2 ^ 16 % 63

abbrev pub lane_in : List ℕ → List ℕ → ℕ → ℕ → ℕ
lane_in s T o i = block_lane (key_in T o) (text_at s (name_in T o i))

-- pair j has the name of pair i
abbrev pub SameName : List ℕ → List ℕ → ℕ → ℕ → ℕ → Type 0
SameName s T o i j = text_at s (name_in T o j) ≡ text_at s (name_in T o i)

-- the first k pairs of the block are on their lanes, which may leave out those of a later one's name
abbrev pub BlockWoven : List ℕ → List ℕ → ℕ → ℕ → Type 0
BlockWoven s T o k = Woven 63 (lane_in s T o) (SameName s T o) k (head_in T o) (link_in T o)

-- what pair i is linked to: the head of its lane, or where that has the same name what the head is linked to
unfoldable pub link_from : List ℕ → List ℕ → ℕ → ℕ → ℕ → ℕ
link_from s T o head i =
    pick (eqb head 0) head
    (pick (eq_name (text_at s (name_in T o (head - 1))) (text_at s (name_in T o i))) (link_in T o (head - 1)) head)

-- what stands under a name along a lane, from a head or link on, in so many steps at most
unfoldable pub along_lane : ℕ → List ℕ → Name → List ℕ → ℕ → ℕ → Option ℕ
along_lane zero s n T o p = none
along_lane (suc f) s n T o p =
    pick (eqb p 0) none
    (pick (ltb 255 p) none
    (pick (eq_name (text_at s (name_in T o (p - 1))) n) (some (under_in T o (p - 1))) (along_lane f s n T o (link_in T o (p - 1)))))

-- in the block from word o on
unfoldable pub block_find : List ℕ → Name → List ℕ → ℕ → Option ℕ
block_find s n T o = along_lane 255 s n T o (head_in T o (block_lane (key_in T o) n))

-- in the first b blocks
unfoldable pub find_blocks : ℕ → List ℕ → Name → List ℕ → Option ℕ
find_blocks zero s n T = none
find_blocks (suc b) s n T = first_of (block_find s n T (829 * b)) (find_blocks b s n T)

unfoldable pub find_in : List ℕ → Name → List ℕ → Option ℕ
find_in s n T = find_blocks (length T / 829) s n T

-- in a table of enums: its block, and other words behind it
unfoldable pub enum_find : List ℕ → Name → List ℕ → Option ℕ
enum_find s n T = pick (ltb (length T) 829) none (block_find s n T 0)

-- the block from word o on has the pairs
pub record Keeps (s pairs T : List ℕ) (o : ℕ) : Type 0 where
  pub finds : (n : Name) → block_find s n T o ≡ last_in s n pairs

-- the block that a table of enums begins with has the enums of the pairs, each with its variants
pub record KeepsEnums (s pairs T : List ℕ) : Type 0 where
  pub known : (e : Name) → given (block_find s e T 0) ≡ given (last_in s e pairs)
  pub has : (e n : Name) → variant_held s T n (block_find s e T 0) ≡ variant_found s n (last_in s e pairs)

-- a block after its first k pairs were put on their lanes: those and all words before the block are as they were
pub record Weaves (s T : List ℕ) (o k : ℕ) (T' : List ℕ) : Type 0 where
  pub size : length T' ≡ length T
  pub kept : take (o + 510) T' ≡ take (o + 510) T
  pub woven : BlockWoven s T' o k

-- the first lanes of the block are empty, and all words before its heads are as they were
pub record Clears (T : List ℕ) (o h : ℕ) (T' : List ℕ) : Type 0 where
  pub size : length T' ≡ length T
  pub kept : take (o + 510) T' ≡ take (o + 510) T
  pub empty : (j : ℕ) → j < h → head_in T' o j ≡ 0

-- what names mean by two tables, of blocks and of enums: names with their types, bindings after variables; enums with their variants
unfoldable pub env_at : List ℕ → List ℕ → List ℕ → Env
env_at s names enums = record {
  bindings = λ n. none;
  vars = λ n. type_found s (find_in s n names);
  enums = λ n. given (enum_find s n enums);
  variants = λ e n. variant_held s enums n (enum_find s e enums);
}
