-- Rolls: the items of a list with the prints of their names, so that a name is looked for among those of its print. A roll is a word that says how
-- many items it has, and above that its key, then the place of each item, and then an index word for each: the print of its name by the key's
-- factor; 2 ^ 32 times a hint, which is that of a lane and one more than the number of the first item whose name is on the lane, or 0 where none
-- is; 2 ^ 40 times the item's next, which is one more than the number of the item that its lane goes on with, or 0 where it ends; and 2 ^ 48 times
-- a word's number, put aside for it. As many lanes as items are there. Any key gives the right answers. The name of an item stands after its
-- head, or after its tag.
use Rattle.std.specs.Prelude.{ℕ, zero, suc, ◌+◌, ◌-◌, ◌*◌, ◌/◌, ◌%◌, ◌^◌, ◌<◌, ◌≤◌, ◌≡◌, List, Bool, true, false, length, get_or, take, eqb, Option as Maybe, Some, None}
use Rattle.std.proofs.Math.Option.{Option, none, some}
use Rattle.std.proofs.Math.ListN.{get_elem?}
use Rattle.reading.specs.Read.{ok, pick}
use Rattle.reading.specs.Limits.{max_list}
use Rattle.reading.specs.Item.{read_count}
use Rattle.reading.specs.Text.{Name}
use Rattle.reading.specs.Combine.{list_of}
use Rattle.reading.specs.Decl.{ConstructorGroup, read_constructor_variant, read_constructor_group}
use Rattle.reading.specs.Skip.{text_at}
use Rattle.typing.specs.Names.{eq_name, first_called}
use Rattle.typing.specs.Patterns.{declared_name}
use Rattle.typing.specs.Lanes.{print_by, factor, spread}
use Rattle.typing.specs.Table.{after_item, after_head, after_tag, found}
use Rattle.typing.specs.Segments.{after_items}
use Rattle.typing.specs.First.{FoundAt}

-- each word is a byte
abbrev pub Bytes : List ℕ → Type 0
Bytes s = (i : ℕ) → get_or s i 0 < 256

-- where the name of the item at a place stands
unfoldable pub name_at : Bool → List ℕ → ℕ → ℕ
name_at tagged s at = pick tagged (after_tag s at) (after_head s at)

-- the words of the roll at word q, which has n items: how many they are and its key, the place of item i, and its index word
abbrev pub many_in : List ℕ → ℕ → ℕ
many_in T q = get_or T q 0 % 2 ^ 8

abbrev pub key_on : List ℕ → ℕ → ℕ
key_on T q = get_or T q 0 / 2 ^ 8

abbrev pub item_in : List ℕ → ℕ → ℕ → ℕ
item_in T q i = get_or T (q + 1 + i) 0

abbrev pub index_in : List ℕ → ℕ → ℕ → ℕ → ℕ
index_in T q n i = get_or T (q + 1 + n + i) 0

-- the parts of an index word
abbrev pub print_of : ℕ → ℕ
print_of w = w % 2 ^ 32

abbrev pub hint_of : ℕ → ℕ
hint_of w = w / 2 ^ 32 % 2 ^ 8

abbrev pub next_of : ℕ → ℕ
next_of w = w / 2 ^ 40 % 2 ^ 8

abbrev pub aside_of : ℕ → ℕ
aside_of w = w / 2 ^ 48

-- the lane of a print, one of n
unfoldable pub roll_lane : ℕ → ℕ → ℕ
roll_lane n p = spread p / 2 ^ 16 % n

-- n items are on the lanes of their prints: a lane's hint leads to its first item, and an item's next to a later one of its lane, past none but
-- those of its own print
pub record Chained (print : ℕ → ℕ) (n : ℕ) (hint next : ℕ → ℕ) : Type 0 where
  pub some_hint : (i : ℕ) → i < n → 0 < hint (roll_lane n (print i))
  pub hint_first : (i : ℕ) → i < n → hint (roll_lane n (print i)) ≤ i + 1
  pub hint_on : (i : ℕ) → i < n → roll_lane n (print (hint (roll_lane n (print i)) - 1)) ≡ roll_lane n (print i)
  pub next_first : (i j : ℕ) → i < j → j < n → roll_lane n (print j) ≡ roll_lane n (print i) → (print j ≡ print i → ⊥) → (i + 1 < next i) × (next i ≤ j + 1)
  pub next_on : (i : ℕ) → i < n → 0 < next i → next i ≤ n → roll_lane n (print (next i - 1)) ≡ roll_lane n (print i)

-- the items of the n index words from word o on are
abbrev pub Hinted : List ℕ → ℕ → ℕ → Type 0
Hinted T o n = Chained (λ i. print_of (get_or T (o + i) 0)) n (λ h. hint_of (get_or T (o + h) 0)) (λ i. next_of (get_or T (o + i) 0))

-- where they are, no item before number r has the print
unfoldable pub StartsOn : List ℕ → ℕ → ℕ → ℕ → ℕ → Type 0
StartsOn T o n p r = Hinted T o n → (i : ℕ) → i < n → print_of (get_or T (o + i) 0) ≡ p → r ≤ i

-- the roll at word q has the n items from a place on
pub record Rolled (tagged : Bool) (s T : List ℕ) (q first n : ℕ) : Type 0 where
  pub many : many_in T q ≡ n
  pub few : n ≤ 255
  pub room : q + 2 * n < length T
  pub item : (i : ℕ) → i < n → item_in T q i ≡ after_items i s first
  pub print_is : (i : ℕ) → i < n → print_of (index_in T q n i) ≡ print_by (factor (key_on T q)) 0 (text_at s (name_at tagged s (after_items i s first)))
  pub hinted : Hinted T (q + 1 + n) n

-- the number of the first of k items from a place on that has the name, where the first has number i
unfoldable pub number_from : ℕ → Bool → List ℕ → ℕ → Name → ℕ → Option ℕ
number_from zero tagged s at x i = none
number_from (suc k) tagged s at x i = pick (eq_name (text_at s (name_at tagged s at)) x) (some i) (number_from k tagged s (after_item s at) x (suc i))

-- for whatever items are on the roll at word q, r is the number of the first that has the name
pub record FindsOn (tagged : Bool) (s : List ℕ) (x : Name) (T : List ℕ) (q : ℕ) (r : Maybe ℕ) : Type 0 where
  pub of : (first n : ℕ) → Rolled tagged s T q first n → r ≡ found (number_from n tagged s first x 0)

-- an item's number, whatever stands in the table: its place stands in it too
unfoldable pub WithinTable : List ℕ → ℕ → Maybe ℕ → Type 0
WithinTable T q (Some i) = q + 1 + i < length T
WithinTable T q None = Unit {0}

-- a table after the places of n items from a place on were put behind word q, and the prints of their names by a key behind those
pub record PutsItems (tagged : Bool) (s : List ℕ) (key first n : ℕ) (T : List ℕ) (q : ℕ) (T' : List ℕ) : Type 0 where
  pub size : length T' ≡ length T
  pub kept : take (q + 1) T' ≡ take (q + 1) T
  pub item : (i : ℕ) → i < n → item_in T' q i ≡ after_items i s first
  pub print_is : (i : ℕ) → i < n → index_in T' q n i ≡ print_by (factor key) 0 (text_at s (name_at tagged s (after_items i s first)))

-- the next of item i, where its lane goes on at a hint: the item there, or where that has the same print what it has as next
unfoldable pub next_from : List ℕ → ℕ → ℕ → ℕ → List ℕ → ℕ
next_from T o i zero nexts = 0
next_from T o i (suc j) nexts = pick (eqb (print_of (get_or T (o + j) 0)) (print_of (get_or T (o + i) 0))) (get_or nexts j 0) (suc j)

-- a table after n index words from word o on were given hints and nexts, which are bytes, and nothing aside
pub record PutsLinks (T : List ℕ) (o n : ℕ) (hints nexts : List ℕ) (T' : List ℕ) : Type 0 where
  pub size : length T' ≡ length T
  pub kept : take o T' ≡ take o T
  pub index : (i : ℕ) → i < n → get_or T' (o + i) 0 ≡ print_of (get_or T (o + i) 0) + 2 ^ 32 * (get_or hints i 0 + 2 ^ 8 * get_or nexts i 0)
  pub bytes : (i : ℕ) → i < n → (get_or hints i 0 < 2 ^ 8) × (get_or nexts i 0 < 2 ^ 8)

-- the same, where the items are on their lanes
pub record PutsHints (T : List ℕ) (o n : ℕ) (T' : List ℕ) : Type 0 where
  pub size : length T' ≡ length T
  pub kept : take o T' ≡ take o T
  pub print_kept : (i : ℕ) → i < n → print_of (get_or T' (o + i) 0) ≡ print_of (get_or T (o + i) 0)
  pub bare : (i : ℕ) → i < n → get_or T' (o + i) 0 < 2 ^ 48
  pub hinted : Hinted T' o n

-- a table after a roll of the n items from a place on was put from word q on, by some key: the words before are as they were
pub record PutsKeyed (tagged : Bool) (s : List ℕ) (first n : ℕ) (T : List ℕ) (q : ℕ) (T' : List ℕ) : Type 0 where
  pub size : length T' ≡ length T
  pub kept : take q T' ≡ take q T
  pub rolled : Rolled tagged s T' q first n
  pub bare : (i : ℕ) → i < n → index_in T' q n i < 2 ^ 48

-- a table after a roll of the items of the list at a place was put from word q on, in r words, or none, if r is 0: the words before are as they were
pub record PutsRoll (tagged : Bool) (s : List ℕ) (list : ℕ) (T : List ℕ) (q r : ℕ) (T' : List ℕ) : Type 0 where
  pub size : length T' ≡ length T
  pub kept : take q T' ≡ take q T
  pub room : q + r ≤ length T
  pub has : 0 < r → (n first : ℕ) → read_count max_list s list ≡ ok n first → (r ≡ 2 * n + 1) × Rolled tagged s T' q first n
  pub bare : 0 < r → (i : ℕ) → i < many_in T' q → index_in T' q (many_in T' q) i < 2 ^ 48
  pub count : 0 < r → (many_in T' q ≤ 255) × (r ≡ 2 * many_in T' q + 1)

-- the place of the variants of group k, by a table of outputs
abbrev pub variants_in : List ℕ → List ℕ → ℕ → ℕ
variants_in s T k = after_item s (after_head s (item_in T 0 k))

-- the word at which those have a roll; 0 where they have none
abbrev pub roll_in : List ℕ → ℕ → ℕ
roll_in T k = aside_of (index_in T 0 (many_in T 0) k)

-- a table of outputs: a roll of the groups, and behind it rolls of the variants of some
pub record OutputsAt (s T : List ℕ) (gs : List ConstructorGroup) : Type 0 where
  pub first : ℕ
  pub groups : Rolled false s T 0 first (length gs)
  pub name_is : (k : ℕ) (x : ConstructorGroup) → get_elem? gs k ≡ some x → text_at s (after_head s (item_in T 0 k)) ≡ x.name
  pub variants_are : (k : ℕ) (x : ConstructorGroup) → get_elem? gs k ≡ some x → (n : ℕ) × (list_of max_list read_constructor_variant s (variants_in s T k) ≡ ok x.variants n)
  pub rolls : (k : ℕ) (x : ConstructorGroup) → get_elem? gs k ≡ some x → 0 < roll_in T k → (n from : ℕ) × (read_count max_list s (variants_in s T k) ≡ ok n from) × Rolled true s T (roll_in T k) from n

-- a table of outputs of n groups after the variants of group k were given a roll between words q and r, or none
pub record RollsOne (s T : List ℕ) (n k q r : ℕ) (T' : List ℕ) : Type 0 where
  pub size : length T' ≡ length T
  pub more : q ≤ r
  pub room : r ≤ length T
  pub few : r ≤ q + 511
  pub kept : (j : ℕ) → j < q → (j ≡ 1 + n + k → ⊥) → get_or T' j 0 ≡ get_or T j 0
  pub index_kept : get_or T' (1 + n + k) 0 % 2 ^ 48 ≡ get_or T (1 + n + k) 0 % 2 ^ 48
  pub none_put : r ≡ q → get_or T' (1 + n + k) 0 ≡ get_or T (1 + n + k) 0
  pub put : q < r → (aside_of (get_or T' (1 + n + k) 0) ≡ q) × ((m from : ℕ) → read_count max_list s (variants_in s T k) ≡ ok m from → (r ≡ q + 2 * m + 1) × Rolled true s T' q from m)

-- a table after it was filled from the list of groups at a place
pub record FillsOutputs (s : List ℕ) (at : ℕ) (T : List ℕ) (T' : List ℕ) : Type 0 where
  pub size : length T' ≡ length T
  pub of : Bytes s → (gs : List ConstructorGroup) (n : ℕ) → list_of max_list read_constructor_group s at ≡ ok gs n → OutputsAt s T' gs

-- the first variant of a name in group k, whose variants stand at a place
pub record FindsVariant (s T : List ℕ) (k variants : ℕ) (w : Name) (r : Maybe ℕ) : Type 0 where
  pub of : Bytes s → (gs : List ConstructorGroup) (g : ConstructorGroup) → OutputsAt s T gs → get_elem? gs k ≡ some g → variants ≡ variants_in s T k → FoundAt read_constructor_variant s r (first_called declared_name w g.variants)
