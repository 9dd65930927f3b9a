-- Lanes of transitions, one for each remainder of a print: a head says where it starts, and links lead from place to place. No transition of a
-- lane's remainder is left out.
use Rattle.std.specs.Prelude.{ℕ, ◌*◌, ◌%◌, ◌<◌, ◌≤◌, ◌≡◌, List, length, get_or}
use Rattle.findings.specs.Prints.{print_at}
use Rattle.findings.specs.Reaching.{Taken}

-- the lane of transition i
abbrev pub lane_of : List ℕ → ℕ → ℕ
lane_of prints i = get_or prints (3 * i) 0 % 256

-- that of the transitions to whose state transition p leads
abbrev pub lead_of : List ℕ → ℕ → ℕ
lead_of prints p = print_at prints p 1 % 256

-- the transitions from place i on are linked
pub record Linked (prints : List ℕ) (count i : ℕ) (heads links : List ℕ) : Type 0 where
  pub heads_size : length heads ≡ 256
  pub links_size : length links ≡ 256
  pub low : (h : ℕ) → h < 256 → i ≤ get_or heads h 0
  pub head_on : (h : ℕ) → h < 256 → get_or heads h 0 < count → lane_of prints (get_or heads h 0) ≡ h
  pub head_first : (h j : ℕ) → h < 256 → i ≤ j → j < count → j < get_or heads h 0 → lane_of prints j ≡ h → ⊥
  pub rising : (k : ℕ) → i ≤ k → k < count → k < get_or links k 0
  pub link_on : (k : ℕ) → i ≤ k → k < count → get_or links k 0 < count → lane_of prints (get_or links k 0) ≡ lane_of prints k
  pub link_next : (k j : ℕ) → i ≤ k → k < j → j < count → j < get_or links k 0 → lane_of prints j ≡ lane_of prints k → ⊥

-- each transition links to a later place, the next of its lane
pub record Rising (count : ℕ) (links : List ℕ) : Type 0 where
  pub at : (k : ℕ) → k < count → k < get_or links k 0

pub record Links (prints : List ℕ) (count : ℕ) (links : List ℕ) : Type 0 where
  pub rising : Rising count links
  pub on : (k : ℕ) → k < count → get_or links k 0 < count → lane_of prints (get_or links k 0) ≡ lane_of prints k
  pub next : (k j : ℕ) → k < j → j < count → j < get_or links k 0 → lane_of prints j ≡ lane_of prints k → ⊥

-- on lane h those before place k are taken
pub record Ahead (prints : List ℕ) (count : ℕ) (m : List ℕ) (h k : ℕ) : Type 0 where
  pub on : k < count → lane_of prints k ≡ h
  pub before : (j : ℕ) → j < count → j < k → lane_of prints j ≡ h → Taken m j

-- so are those before each head
pub record Heads (prints : List ℕ) (count : ℕ) (heads m : List ℕ) : Type 0 where
  pub at : (h : ℕ) → h < 256 → Ahead prints count m h (get_or heads h 0)

-- and then those before a place further on
pub record Forth (count : ℕ) (links m : List ℕ) (from r : ℕ) : Type 0 where
  pub of : (prints : List ℕ) (h : ℕ) → Links prints count links → Ahead prints count m h from → Ahead prints count m h r
