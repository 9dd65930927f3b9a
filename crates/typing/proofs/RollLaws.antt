-- Rolls: each has the items that were put, and so a search from the first item of a name's print on passes no item of the name.
use Rattle.std.specs.Prelude.{Some, None}
use Prim.Native.Nat.{ℕ, zero, suc, ◌+◌, ◌-◌, ◌*◌, ◌/◌, ◌%◌, ◌^◌, ◌<◌, ◌≤◌}
use mathlib.Core.Path.{◌≡◌, refl, sym, ap, subst, ◌∙◌}
use mathlib.Core.Bool.{Bool, true, false}
use mathlib.Core.List.{List, [], ◌∷◌}
use mathlib.Core.Option.{Option, none, some}
use native.Mathlib.Omega.{arith}
use native.Mathlib.Numerals.{add-one}
use native.Mathlib.Nat.{mod-lt}
use native.Mathlib.Decide.{ℕ_discrete}
use lib.ListN.{length, get_or, set, take, length-set, get_or-eq_default}
use lib.Seq.{get_or-set_same, get_or-set_other, take-set-le}
use lib.Dec.{ltb}
use borrow.Author.Tests.{ltb-true, ltb-false}
use Rattle.reading.specs.Read.{pick}
use Rattle.reading.specs.Limits.{max_list}
use Rattle.reading.specs.Item.{read_count}
use Rattle.reading.specs.Text.{Name}
use Rattle.reading.specs.Skip.{text_at}
use Rattle.reading.proofs.Rules.{by}
use Rattle.typing.specs.Names.{eq_name}
use Rattle.typing.specs.Lanes.{next_print, print_by, factor, spread}
use Rattle.typing.specs.Table.{after_item, after_head, after_tag, found}
use Rattle.typing.specs.Segments.{after_items}
use Rattle.typing.specs.Entries.{opened}
use Rattle.typing.specs.Rolls.{name_at, many_in, key_on, item_in, index_in, print_of, roll_lane, StartsOn, Rolled, number_from, FindsOn, WithinTable, PutsItems, PutsHints, PutsKeyed, PutsRoll}
use Rattle.typing.specs.declared.entries.Entries.{Entries}
use Rattle.typing.proofs.NameLaws.{eq_name_eq}
use Rattle.typing.proofs.BlockLaws.{word_kept}
use Rattle.typing.proofs.SegmentLaws.{front}

-- past the end of a table there is no word
pub past_end : (T : List ℕ) (j : ℕ) → length T ≤ j → 0 ≡ get_or T j 0
past_end T j h = sym (get_or-eq_default T 0 h)

-- where an item's name stands
module _ (s : List ℕ) (at : ℕ) {tagged : Bool} {r : ℕ} where
  pub name_tagged : tagged ≡ true → r ≡ after_tag s at → r ≡ name_at tagged s at
  unfolding name_at pick
  name_tagged e h = rw e h

  pub name_bare : tagged ≡ false → r ≡ after_head s at → r ≡ name_at tagged s at
  unfolding name_at pick
  name_bare e h = rw e h

-- the lane of a print
pub lane_is : (p n : ℕ) {w : ℕ} → w ≡ spread p → w / 65536 % n ≡ roll_lane n p
unfolding roll_lane
lane_is p n e = rw e

-- a print has 32 bits
next_small : (f h w : ℕ) → next_print f h w < 2 ^ 32
unfolding next_print
next_small f h w = mod-lt _ (omega arith)

print_small : (f h : ℕ) (bs : List ℕ) → h < 2 ^ 32 → print_by f h bs < 2 ^ 32
unfolding print_by
print_small f h [] l = l
print_small f h (a ∷ []) l = next_small f h a
print_small f h (a ∷ b ∷ []) l = next_small f (next_print f h a) b
print_small f h (a ∷ b ∷ c ∷ []) l = next_small f (next_print f (next_print f h a) b) c
print_small f h (a ∷ b ∷ c ∷ d ∷ bs) l = print_small f (next_print f h (a + 2 ^ 8 * b + 2 ^ 16 * c + 2 ^ 24 * d)) bs (next_small f h _)

-- one item more is passed
after_more : (i : ℕ) (s : List ℕ) (at : ℕ) → after_items (i + 1) s at ≡ after_item s (after_items i s at)
unfolding after_items
after_more i s at = rw (add-one i) (step i at)
  where
    step : (i at : ℕ) → after_items (suc i) s at ≡ after_item s (after_items i s at)
    step zero at = refl
    step (suc i) at = step i (after_item s at)

-- the items before item i, which stands at place k, are put
module _ (tagged : Bool) (s : List ℕ) (key first many : ℕ) (T : List ℕ) (q : ℕ) where
  pub record Listing (i k : ℕ) (T' : List ℕ) : Type 0 where
    pub low : i ≤ many
    pub next : k ≡ after_items i s first
    pub size : length T' ≡ length T
    pub kept : take (q + 1) T' ≡ take (q + 1) T
    pub item : (j : ℕ) → j < i → item_in T' q j ≡ after_items j s first
    pub print_is : (j : ℕ) → j < i → index_in T' q many j ≡ print_by (factor key) 0 (text_at s (name_at tagged s (after_items j s first)))

  pub list_start : Listing 0 first T
  unfolding after_items
  list_start = record { low = omega arith; next = refl; size = refl; kept = refl; item = λ j h. absurd (omega arith); print_is = λ j h. absurd (omega arith) }

  module _ {i k : ℕ} {T' : List ℕ} (g : Listing i k T') where
    pub list_done : many ≤ i → PutsItems tagged s key first many T q T'
    list_done h = record { size = g.size; kept = g.kept; item = λ j a. g.item j (omega arith); print_is = λ j a. g.print_is j (omega arith) }

    pub list_more : {a f p k' : ℕ} {name : Name} → q + 2 * many < length T → i < many → a ≡ name_at tagged s k → name ≡ text_at s a → f ≡ factor key → p ≡ print_by f 0 name → k' ≡ after_item s k → Listing (i + 1) k' (set (set T' (q + 1 + i) k) (q + 1 + many + i) p)
    list_more {a} {f} {p} {k'} {name} room h n t v e z = record {
      low = omega arith;
      next = z ∙ ap (after_item s) g.next ∙ sym (after_more i s first);
      size = length-set one y p ∙ one_size;
      kept = take-set-le (q + 1) one y p (omega arith) ∙ take-set-le (q + 1) T' x k (omega arith) ∙ g.kept;
      item = λ j l. item_at j l (ℕ_discrete j i);
      print_is = λ j l. print_at_lem j l (ℕ_discrete j i);
    }
      where
        x : ℕ
        x = q + 1 + i

        y : ℕ
        y = q + 1 + many + i

        one : List ℕ
        one = set T' x k

        one_size : length one ≡ length T
        one_size = length-set T' x k ∙ g.size

        item_at : (j : ℕ) → j < i + 1 → Dec (j ≡ i) → item_in (set one y p) q j ≡ after_items j s first
        item_at j l c = get_or-set_other one y (q + 1 + j) p 0 (λ (e : q + 1 + j ≡ y). omega arith) ∙ at c
          where
            at : Dec (j ≡ i) → item_in one q j ≡ after_items j s first
            at (yes e) = let v = g.size in rw e (get_or-set_same T' x k 0 (omega arith) ∙ g.next)
            at (no d) = get_or-set_other T' x (q + 1 + j) k 0 (λ (e : q + 1 + j ≡ x). d (omega arith)) ∙ g.item j (omega arith)

        print_at_lem : (j : ℕ) → j < i + 1 → Dec (j ≡ i) → index_in (set one y p) q many j ≡ print_by (factor key) 0 (text_at s (name_at tagged s (after_items j s first)))
        print_at_lem j l (yes c) = let u = one_size in rw (c, ← g.next, ← n, ← t, ← v) (get_or-set_same one y p 0 (omega arith) ∙ e)
        print_at_lem j l (no d) =
            get_or-set_other one y (q + 1 + many + j) p 0 (λ (e : q + 1 + many + j ≡ y). d (omega arith))
            ∙ get_or-set_other T' x (q + 1 + many + j) k 0 (λ (e : q + 1 + many + j ≡ x). omega arith) ∙ g.print_is j (omega arith)

-- and have room for their hints
pub list_room : {tagged : Bool} {s : List ℕ} {key first n : ℕ} {T : List ℕ} {q : ℕ} {T' : List ℕ} → PutsItems tagged s key first n T q T' → q + 2 * n < length T → q + 1 + n + n ≤ length T'
list_room p h = let y = p.size in omega arith

-- a roll: how many items it has and its key, then the items, then their hints
module _ {tagged : Bool} {s : List ℕ} {key first m : ℕ} (T : List ℕ) {q : ℕ} (few : m ≤ 255) (room : q + 2 * m < length T) {T₁ T₂ : List ℕ} (p : PutsItems tagged s key first m (set T q (m + 256 * key)) q T₁) (h : PutsHints T₁ (q + 1 + m) m T₂) where
  abbrev T₀ : List ℕ
  T₀ = set T q (m + 256 * key)

  pub keyed_size : length T₂ ≡ length T
  keyed_size = h.size ∙ p.size ∙ length-set T q (m + 256 * key)

  before : (j : ℕ) → j < q + 1 + m → get_or T₂ j 0 ≡ get_or T₁ j 0
  before = word_kept T₁ T₂ (q + 1 + m) h.kept

  first_put : get_or T₂ q 0 ≡ m + 256 * key
  first_put = before q (omega arith) ∙ word_kept T₀ T₁ (q + 1) p.kept q (omega arith) ∙ get_or-set_same T q (m + 256 * key) 0 (omega arith)

  key_put : key_on T₂ q ≡ key
  key_put = let y = first_put in omega arith

  small : (i : ℕ) → i < m → index_in T₁ q m i < 2 ^ 32
  small i a = rw (p.print_is i a) (print_small (factor key) 0 _ (omega arith))

  pub keyed_done : PutsKeyed tagged s first m T q T₂
  keyed_done = record {
    size = keyed_size;
    kept = front T₁ T₂ q (q + 1 + m) (omega arith) h.kept ∙ front T₀ T₁ q (q + 1) (omega arith) p.kept ∙ take-set-le q T q (m + 256 * key) (omega arith);
    rolled = record {
      many = let y = first_put in omega arith;
      few = few;
      room = let y = keyed_size in omega arith;
      item = λ i a. before (q + 1 + i) (omega arith) ∙ p.item i a;
      print_is = λ i a. rw key_put (h.print_kept i a ∙ (let y = small i a in let z : print_of (index_in T₁ q m i) ≡ index_in T₁ q m i = omega arith in z) ∙ p.print_is i a);
      hinted = h.hinted;
    };
    bare = h.bare;
  }

-- by one key after another
module _ {tagged : Bool} {s : List ℕ} {first m : ℕ} {T : List ℕ} {q : ℕ} {T' : List ℕ} (g : PutsKeyed tagged s first m T q T') where
  pub keyed_still : PutsKeyed tagged s first m T' q T'
  keyed_still = record { size = refl; kept = refl; rolled = g.rolled; bare = g.bare }

  pub keyed_then : {T'' : List ℕ} → PutsKeyed tagged s first m T' q T'' → PutsKeyed tagged s first m T q T''
  keyed_then h = record { size = h.size ∙ g.size; kept = h.kept ∙ g.kept; rolled = h.rolled; bare = h.bare }

-- a roll of the items of a list, or none
module _ (tagged : Bool) (s : List ℕ) (list : ℕ) (T : List ℕ) (q : ℕ) where
  pub roll_none : q ≤ length T → PutsRoll tagged s list T q 0 T
  roll_none h = record {
    size = refl;
    kept = refl;
    room = omega arith;
    has = λ z. absurd (omega arith);
    bare = λ z. absurd (omega arith);
    count = λ z. absurd (omega arith);
  }

  pub roll_done : (e : Entries) → e ≡ opened (read_count max_list s list) → 2 * e.many < length T - q → {T' : List ℕ} → PutsKeyed tagged s e.first e.many T q T' → PutsRoll tagged s list T q (2 * e.many + 1) T'
  unfolding opened
  roll_done e o room {T'} g =
      let r = g.rolled in
      record {
        size = g.size;
        kept = g.kept;
        room = omega arith;
        has = λ z n first c.
            let v : e ≡ record { many = n; first = first } = o ∙ ap opened c in
            (ap (λ (x : Entries). 2 * x.many + 1) v, subst (λ (x : Entries). Rolled tagged s T' q x.first x.many) v r);
        bare = λ z i. rw r.many (g.bare i);
        count = λ z. (rw r.many r.few, ap (λ (x : ℕ). 2 * x + 1) (sym r.many));
      }

-- what was found stands in the table
pub within_none : (T : List ℕ) (q : ℕ) → WithinTable T q None
unfolding WithinTable
within_none T q = tt

pub within_at : (T : List ℕ) (q i : ℕ) → q + 1 + i < length T → WithinTable T q (Some i)
unfolding WithinTable
within_at T q i h = h

-- the search for a name: those before item i have others
module _ (tagged : Bool) (s : List ℕ) (x : Name) where
  abbrev has_name : ℕ → ℕ → Bool
  has_name first i = eq_name (text_at s (name_at tagged s (after_items i s first))) x

  abbrev from : ℕ → ℕ → ℕ → Option ℕ
  from first n i = number_from (n - i) tagged s (after_items i s first) x i

  from_done : (first n i : ℕ) → n ≤ i → from first n i ≡ none
  unfolding number_from
  from_done first n i h = let z : n - i ≡ 0 = omega arith in rw z

  from_step : (first n i : ℕ) → i < n → from first n i ≡ pick (has_name first i) (some i) (from first n (i + 1))
  unfolding number_from
  from_step first n i h = let z : n - i ≡ suc (n - (i + 1)) = omega arith in rw (z, after_more i s first, add-one i)

  from_past : (first n i : ℕ) → ((j : ℕ) → j < i → j < n → has_name first j ≡ false) → from first n i ≡ number_from n tagged s first x 0
  unfolding after_items pick
  from_past first n zero g = let z : n - 0 ≡ n = omega arith in rw z
  from_past first n (suc i) g =
      by (ltb i n)
      (λ q. let h = ltb-true i n q in sym (rw (g i (omega arith) h, add-one i) at (from_step first n i h)))
      (λ q. let h = ltb-false i n q in from_done first n (suc i) (omega arith) ∙ sym (from_done first n i h))
      ∙ from_past first n i (λ j a. g j (omega arith))

  module _ (T : List ℕ) (q : ℕ) where
    pub record Left (i : ℕ) : Type 0 where
      pub of : (first n : ℕ) → Rolled tagged s T q first n → from first n i ≡ number_from n tagged s first x 0

    pub find_out : length T ≤ q → FindsOn tagged s x T q None
    find_out h = record { of = λ first n r. let m = r.room in absurd (omega arith) }

    pub find_empty : many_in T q ≡ 0 → FindsOn tagged s x T q None
    unfolding number_from found
    find_empty e = record { of = λ first n r. rw (sym r.many ∙ e) }

    pub find_wide : (length T - q - 1) / 2 < many_in T q → FindsOn tagged s x T q None
    find_wide h = record { of = λ first n r. let m = r.room in let e = r.many in absurd (omega arith) }

    pub left_done : (i : ℕ) → Left i → many_in T q ≤ i → FindsOn tagged s x T q None
    unfolding found
    left_done i g h = record { of = λ first n r. let e = r.many in ap found (sym (from_done first n i (omega arith)) ∙ g.of first n r) }

    -- p is the name's print by the roll's key
    module _ {f p : ℕ} (k : f ≡ factor (key_on T q)) (e : p ≡ print_by f 0 x) where
      unprinted : (first n : ℕ) → Rolled tagged s T q first n → (i : ℕ) → i < n → (print_of (index_in T q n i) ≡ p → ⊥) → has_name first i ≡ false
      unprinted first n r i a d = by (has_name first i) (λ t. absurd (d (r.print_is i a ∙ ap (print_by (factor (key_on T q)) 0) (eq_name_eq _ x t) ∙ rw (sym k) (sym e)))) (λ t. t)

      pub left_start : {i : ℕ} → StartsOn T (q + 1 + many_in T q) (many_in T q) p i → Left i
      unfolding StartsOn
      left_start {i} h = record { of = λ first n r. from_past first n i (λ j a b. unprinted first n r j b (λ z. let l = rw r.many at h r.hinted j b z in absurd (omega arith))) }

    -- item i's turn
    module _ (i : ℕ) (g : Left i) (h : i < many_in T q) where
      left_past : ((first n : ℕ) → Rolled tagged s T q first n → i < n → has_name first i ≡ false) → Left (i + 1)
      unfolding pick
      left_past f = record {
        of = λ first n r.
            let e = r.many in
            let l : i < n = omega arith in
            sym (rw (f first n r l) at (from_step first n i l)) ∙ g.of first n r;
      }

      pub left_unprinted : {f p : ℕ} → f ≡ factor (key_on T q) → p ≡ print_by f 0 x → (get_or T (q + 1 + many_in T q + i) 0 % 4294967296 ≡ p → ⊥) → Left (i + 1)
      left_unprinted k e d = left_past (λ first n r l. unprinted k e first n r i l (λ z. d (rw r.many z)))

      module _ {b : Bool} {a : ℕ} {name : Name} (k : a ≡ name_at tagged s (get_or T (q + 1 + i) 0)) (t : name ≡ text_at s a) (c : b ≡ eq_name name x) where
        same_name : (first n : ℕ) → Rolled tagged s T q first n → i < n → b ≡ has_name first i
        same_name first n r l = c ∙ rw (t, k, r.item i l)

        pub left_miss : b ≡ false → Left (i + 1)
        left_miss z = left_past (λ first n r l. sym (same_name first n r l) ∙ z)

        pub left_hit : b ≡ true → FindsOn tagged s x T q (Some i)
        unfolding found pick
        left_hit z = record {
          of = λ first n r.
              let e = r.many in
              let l : i < n = omega arith in
              ap found (sym (rw (sym (same_name first n r l) ∙ z) at (from_step first n i l)) ∙ g.of first n r);
        }
