-- The walk over transitions, each taken at most once, and what its code promises. A transition is named by its place; marks say which
-- are taken, and a queue holds those in the order in which they were.
use Rattle.std.specs.Prelude.{ℕ, zero, suc, ◌+◌, ◌<◌, ◌≤◌, ◌≡◌, ◌⊎◌, List, Bool, true, false, cond, not, ◌&&◌, ◌||◌, length, get_or, set, eqb, Option}
use Rattle.reading.specs.Limits.{max_list}
use Rattle.reading.specs.Text.{Name, read_name}
use Rattle.reading.specs.Combine.{list_of}
use Rattle.reading.specs.Transition.{Transition}
use Rattle.reading.specs.Skip.{text_at}
use Rattle.typing.specs.Names.{eq_name}
use Rattle.typing.specs.Lanes.{print}
use Rattle.findings.specs.Lists.{Placed, placed, any, each}
use Rattle.findings.specs.Finding.{Note, note, noted}
use Rattle.findings.specs.Noting.{Noted}
use Rattle.findings.specs.Scene.{Reads, RowAt, Rows, StatesAt}
use Rattle.findings.specs.Prints.{PrintOf, Prints}
use Rattle.findings.specs.Promises.{at_place}

abbrev pub Taken : List ℕ → ℕ → Type 0
Taken m i = get_or m i 0 ≡ 0 → ⊥

-- how many of the first places are not taken
unfoldable pub free : List ℕ → ℕ → ℕ
free m zero = 0
free m (suc n) = cond (eqb (get_or m n 0) 0) (suc (free m n)) (free m n)

-- the first t words of the queue are the places that are taken, of count
pub record Queued (count : ℕ) (m q : List ℕ) (t : ℕ) : Type 0 where
  pub long : length m ≡ 256
  pub wide : length q ≡ 256
  pub few : count ≤ 255
  pub balance : t + free m count ≡ count
  pub inside : (k : ℕ) → k < t → get_or q k 0 < count
  pub taken : (k : ℕ) → k < t → Taken m (get_or q k 0)
  pub found : (i : ℕ) → i < count → Taken m i → (k : ℕ) × (k < t) × (get_or q k 0 ≡ i)

-- T j b: the code's answer of transition j is b
module _ (T : ℕ → Bool → Type 0) where
  -- transition i is taken, where it was not and the answer is yes
  pub data Stepped (i : ℕ) (m q : List ℕ) (t : ℕ) (m' q' : List ℕ) (t' : ℕ) : Type 0 where
    stays : Taken m i ⊎ T i false → m' ≡ m → q' ≡ q → t' ≡ t → Stepped i m q t m' q' t'
    takes : get_or m i 0 ≡ 0 → T i true → m' ≡ set m i 1 → q' ≡ set q t i → t' ≡ t + 1 → Stepped i m q t m' q' t'

  -- so are the first i of count
  pub record Swept (count : ℕ) (m q : List ℕ) (t i : ℕ) (m' q' : List ℕ) (t' : ℕ) : Type 0 where
    pub queued : Queued count m' q' t'
    pub more : t ≤ t'
    pub same_queue : (k : ℕ) → k < t → get_or q' k 0 ≡ get_or q k 0
    pub kept : (j : ℕ) → Taken m j → Taken m' j
    pub new : (j : ℕ) → j < count → j < i → Taken m' j ⊎ T j false
    pub only : (j : ℕ) → Taken m' j → Taken m j ⊎ T j true

-- T j b: transition j starts at the first name; U i j b: transition i leads to the state of j
module _ (T : ℕ → Bool → Type 0) (U : ℕ → ℕ → Bool → Type 0) (count : ℕ) where
  -- a chain of answers leads to a transition
  pub data Chained : ℕ → Type 0 where
    first : {j : ℕ} → T j true → Chained j
    next : {i j : ℕ} → Chained i → i < count → U i j true → Chained j

  pub record Walked (m : List ℕ) : Type 0 where
    pub start : (j : ℕ) → j < count → Taken m j ⊎ T j false
    pub closed : (i j : ℕ) → i < count → j < count → Taken m i → Taken m j ⊎ U i j false
    pub sound : (j : ℕ) → j < count → Taken m j → Chained j

-- whether transition j starts at a name
pub record BeginsAt (s rows prints : List ℕ) (w : Name) (j : ℕ) (r : Bool) : Type 0 where
  pub of : (u : Transition) → RowAt s rows j u → PrintOf prints j u → r ≡ eq_name u.state w

-- the names that are reached: the first, and those to which what is taken leads
abbrev pub hit_by : List ℕ → Name → Placed Transition → Bool
hit_by m n x = not (eqb (get_or m x.place 0) 0) && eq_name x.item.next_state n

abbrev pub led_to : List ℕ → List Transition → Name → Name → Bool
led_to m ts w n = eq_name w n || any (hit_by m n) (placed 0 ts)

module _ (s rows prints m : List ℕ) where
  -- of the name at key, which has print p
  pub record IsHit (key p i : ℕ) (r : Bool) : Type 0 where
    pub of : (u : Transition) → RowAt s rows i u → PrintOf prints i u → p ≡ print 0 (text_at s key) → r ≡ hit_by m (text_at s key) (at_place i u)

  pub record IsLed (count at key : ℕ) (r : Bool) : Type 0 where
    pub of : (ts : List Transition) → Rows s rows ts → Prints prints ts → count ≡ length ts → r ≡ led_to m ts (text_at s at) (text_at s key)

-- what is known of transitions
pub record Moves (s rows prints : List ℕ) (count : ℕ) : Type 0 where
  pub transitions : List Transition
  pub rows_are : Rows s rows transitions
  pub prints_are : Prints prints transitions
  pub many : count ≡ length transitions

abbrev pub unled_note : {s rows prints : List ℕ} {count : ℕ} (m : List ℕ) → Name → Moves s rows prints count → Placed Name → List Note
unled_note m w h v = noted (not (led_to m h.transitions w v.item)) (note 21 v.place 0 0)

-- a name that is not reached, those of a list, and those of the State variants
module _ (s : List ℕ) (owner : ℕ) (o : List ℕ) (skip n r : ℕ) (o' : List ℕ) (rows prints : List ℕ) (count : ℕ) (m : List ℕ) (at : ℕ) where
  pub record NotesUnled (key j : ℕ) : Type 0 where
    pub of : (h : Moves s rows prints count) (w : Name) → Reads read_name s key w → Noted owner o skip n (unled_note m (text_at s at) h (at_place j w)) r o'

  pub record NotesUnledAt (list : ℕ) : Type 0 where
    pub of : (h : Moves s rows prints count) (ws : List Name) → Reads (list_of max_list read_name) s list ws → Noted owner o skip n (each (unled_note m (text_at s at) h) (placed 0 ws)) r o'

  pub record NotesUnledStates (found : Option ℕ) : Type 0 where
    pub of : (h : Moves s rows prints count) (vs : List Name) → StatesAt s found vs → Noted owner o skip n (each (unled_note m (text_at s at) h) (placed 0 vs)) r o'
