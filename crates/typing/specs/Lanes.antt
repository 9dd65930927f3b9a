-- Lanes of a table's names, by their prints and a key: a head says where a lane starts, and links lead from a pair to an earlier one, each by one
-- more than its number; 0 ends a lane. In a table of 1024 lanes no pair of a lane is left out.
use Rattle.std.specs.Prelude.{ℕ, ◌+◌, ◌-◌, ◌*◌, ◌/◌, ◌%◌, ◌^◌, ◌<◌, ◌≤◌, ◌≡◌, List, [], ◌∷◌, length, get_or}
use Rattle.reading.specs.Text.{Name}
use Rattle.reading.specs.Skip.{text_at}

-- the print after a word more: both halves of a product count, so that every bit of the word does
unfoldable pub next_print : ℕ → ℕ → ℕ → ℕ
next_print f h w = ((h + w) % 2 ^ 32 * f / 2 ^ 32 + (h + w) % 2 ^ 32 * f % 2 ^ 32) % 2 ^ 32

-- a number made of bytes by a factor, four at a time while there are four: equal bytes have equal prints
unfoldable pub print_by : ℕ → ℕ → List ℕ → ℕ
print_by f h [] = h
print_by f h (a ∷ []) = next_print f h a
print_by f h (a ∷ b ∷ []) = next_print f (next_print f h a) b
print_by f h (a ∷ b ∷ c ∷ []) = next_print f (next_print f (next_print f h a) b) c
print_by f h (a ∷ b ∷ c ∷ d ∷ bs) = print_by f (next_print f h (a + 2 ^ 8 * b + 2 ^ 16 * c + 2 ^ 24 * d)) bs

abbrev pub print : ℕ → List ℕ → ℕ
print h bs = print_by 2654435761 h bs

-- the four bytes from byte i on as a number, the first of them lowest
abbrev pub word_at : List ℕ → ℕ → ℕ
word_at s i = get_or s i 0 + 2 ^ 8 * get_or s (i + 1) 0 + 2 ^ 16 * get_or s (i + 2) 0 + 2 ^ 24 * get_or s (i + 3) 0

-- the factor of a key; that of key 0 makes the print
unfoldable pub factor : ℕ → ℕ
factor key = 2654435761 + 24000 * (key % 2 ^ 16)

-- every bit of a print counts in the upper ones
unfoldable pub spread : ℕ → ℕ
spread p = p * 2654435769 % 2 ^ 32

-- the lane of a name by a key, one of 1024
unfoldable pub lane_by : ℕ → Name → ℕ
lane_by key n = spread (print_by (factor key) 0 n) / 2 ^ 22

-- the lane of pair j
abbrev pub lane_of : List ℕ → List ℕ → ℕ → ℕ → ℕ
lane_of s table key j = lane_by key (text_at s (get_or table (2 * j) 0))

-- the first k pairs are on their lanes, of which there are c: head and link say where each lane starts and how it goes on; behind pair i a lane
-- leaves out pair j only where that is spared
pub record Woven (c : ℕ) (lane : ℕ → ℕ) (spared : ℕ → ℕ → Type 0) (k : ℕ) (head link : ℕ → ℕ) : Type 0 where
  pub head_low : (h : ℕ) → h < c → head h ≤ k
  pub head_on : (h : ℕ) → h < c → 0 < head h → lane (head h - 1) ≡ h
  pub head_last : (h j : ℕ) → h < c → j < k → head h ≤ j → lane j ≡ h → ⊥
  pub link_low : (i : ℕ) → i < k → link i ≤ i
  pub link_on : (i : ℕ) → i < k → 0 < link i → lane (link i - 1) ≡ lane i
  pub link_last : (i j : ℕ) → i < k → j < i → link i ≤ j → lane j ≡ lane i → spared i j

-- the same by two lists, none left out; the key stands behind the heads
abbrev pub key_of : List ℕ → ℕ
key_of heads = get_or heads 1024 0

pub record Lanes (s table : List ℕ) (k : ℕ) (heads links : List ℕ) : Type 0 where
  pub heads_size : length heads ≡ 1025
  pub table_room : 2 * k ≤ length table
  pub links_room : k ≤ length links
  pub woven : Woven 1024 (lane_of s table (key_of heads)) (λ i j. ⊥) k (λ h. get_or heads h 0) (λ i. get_or links i 0)

-- all lanes are empty
pub record Cleared (heads : List ℕ) : Type 0 where
  pub size : length heads ≡ 1025
  pub empty : (h : ℕ) → h < 1024 → get_or heads h 0 ≡ 0

-- a table of n pairs, the first k of them on their lanes
pub record Laned (n : ℕ) (s table : List ℕ) (k : ℕ) (heads links : List ℕ) : Type 0 where
  pub size : length table ≡ 2 * n
  pub links_size : length links ≡ n
  pub lanes : Lanes s table k heads links
