-- Segments: a word has the names whose marks it was made of, a segment's words those of its list, and so has the word under an enum's name.
use Rattle.std.specs.Prelude.{Option as Maybe, Some, None}
use Prim.Native.Nat.{ℕ, zero, suc, ◌+◌, ◌-◌, ◌*◌, ◌/◌, ◌%◌, ◌^◌, ◌<◌, ◌≤◌}
use mathlib.Core.Path.{◌≡◌, refl, sym, ap, ◌∙◌}
use mathlib.Core.Bool.{Bool, true, false}
use mathlib.Core.List.{List}
use mathlib.Core.Option.{Option, some}
use native.Mathlib.Omega.{arith}
use native.Mathlib.Numerals.{add-one}
use native.Mathlib.Nat.{pow-suc, one-le-pow}
use native.Mathlib.Decide.{ℕ_discrete}
use lib.ListN.{length, get_or, set, take, length-set}
use lib.Seq.{sets, length-sets, get_or-set_same, get_or-set_other, take-set-le, take-take}
use lib.Dec.{eqb, ltb}
use borrow.Author.Tests.{eq-eqb, ne_eqb, lt-ltb, le-ltb, le-leb, ltb-false}
use Rattle.reading.specs.Read.{pick, bind}
use Rattle.reading.specs.Limits.{max_list}
use Rattle.reading.specs.Head.{read_head}
use Rattle.reading.specs.Item.{read_kind, read_count}
use Rattle.reading.specs.Text.{Name}
use Rattle.reading.specs.Skip.{text_at}
use Rattle.reading.proofs.Rules.{by}
use Rattle.typing.specs.Names.{eq_name}
use Rattle.typing.specs.Env.{given}
use Rattle.typing.specs.Table.{after_item, pairs_at, Filled, find_first, member_from, member_of, member_at, variant_found}
use Rattle.typing.specs.Lanes.{print_by, factor, spread}
use Rattle.typing.specs.Segments.{mark_by, marked, named_by, word_has, among, words_of, key_at, segment_has, variant_in, variant_held, marks_from, after_items, Packs, FillsWords, FillsKeyed, Under, Segmented, IndexedOne, Indexed}
use Rattle.typing.specs.Blocks.{BlockWoven, block_find, KeepsEnums, Weaves}
use Rattle.typing.specs.Entries.{opened}
use Rattle.typing.specs.declared.entries.Entries.{Entries}
use Rattle.typing.specs.declared.segments.Packed.{Packed}
use Rattle.typing.proofs.NameLaws.{eq_name_eq}
use Rattle.typing.proofs.TableLaws.{names_open, given_pick}
use Rattle.typing.proofs.LaneLaws.{woven_kept}
use Rattle.typing.proofs.BlockLaws.{word_kept, block_finds, get_d_sets}

-- the mark of a name
pub mark_is : (n : Name) (key : ℕ) {f p q : ℕ} → f ≡ factor key → p ≡ print_by f 0 n → q ≡ spread p → q / 2 ^ 24 % 255 + 1 ≡ mark_by key n
unfolding mark_by
mark_is n key e g h = rw (h, g, e)

mark_range : (key : ℕ) (n : Name) → (0 < mark_by key n) × (mark_by key n < 256)
unfolding mark_by
mark_range key n = (omega arith, omega arith)

-- what is told of so many, of none and of one more
module _ (f : ℕ → Bool) {left : ℕ} {x : Bool} (r : f left ≡ x) where
  of_none : left ≤ 0 → f 0 ≡ x
  of_none h = let z : left ≡ 0 = omega arith in sym (ap f z) ∙ r

  of_more : 0 < left → f (suc (left - 1)) ≡ x
  of_more h = let z : left ≡ suc (left - 1) = omega arith in sym (ap f z) ∙ r

-- whether a mark is among those that are left
module _ (m rest left : ℕ) {x : Bool} (r : marked left m rest ≡ x) where
  pub marks_none : left ≤ 0 → false ≡ x
  unfolding marked
  marks_none = of_none (λ k. marked k m rest) r

  module _ (h : 0 < left) where
    first_mark : pick (eqb (rest % 256) m) true (marked (left - 1) m (rest / 256)) ≡ x
    unfolding marked
    first_mark = of_more (λ k. marked k m rest) r h

    pub marks_hit : rest % 256 ≡ m → true ≡ x
    unfolding pick
    marks_hit e = rw (eq-eqb (rest % 256) m e) at first_mark

    pub marks_miss : (rest % 256 ≡ m → ⊥) → marked (left - 1) m (rest / 256) ≡ x
    unfolding pick
    marks_miss d = rw (ne_eqb (rest % 256) m d) at first_mark

-- whether a name is among those that are left of a word
module _ (s : List ℕ) (n : Name) (m rest at left : ℕ) {x : Bool} (r : named_by left s n m rest at ≡ x) where
  pub named_none : left ≤ 0 → false ≡ x
  unfolding named_by
  named_none = of_none (λ k. named_by k s n m rest at) r

  module _ (h : 0 < left) where
    first_named : pick (pick (eqb (rest % 256) m) (eq_name (text_at s at) n) false) true (named_by (left - 1) s n m (rest / 256) (after_item s at)) ≡ x
    unfolding named_by
    first_named = of_more (λ k. named_by k s n m rest at) r h

    module _ {b : Bool} {key : Name} (e : rest % 256 ≡ m) (c : b ≡ eq_name key n) (t : key ≡ text_at s at) where
      pub named_hit : b ≡ true → true ≡ x
      unfolding pick
      named_hit v = rw (eq-eqb (rest % 256) m e, ← t, ← c, v) at first_named

      pub named_miss : {at' : ℕ} → b ≡ false → at' ≡ after_item s at → named_by (left - 1) s n m (rest / 256) at' ≡ x
      unfolding pick
      named_miss v a = rw a (rw (eq-eqb (rest % 256) m e, ← t, ← c, v) at first_named)

    pub named_other : {at' : ℕ} → (rest % 256 ≡ m → ⊥) → at' ≡ after_item s at → named_by (left - 1) s n m (rest / 256) at' ≡ x
    unfolding pick
    named_other d a = rw a (rw (ne_eqb (rest % 256) m d) at first_named)

pub word_start : (s : List ℕ) (n : Name) (m w : ℕ) → named_by 6 s n m (w % 281474976710656) (w / 281474976710656) ≡ word_has s n m w
unfolding word_has
word_start s n m w = refl

-- a name is passed over with its mark
unmarked : (k : ℕ) (s : List ℕ) (n : Name) (m marks at : ℕ) → marked k m marks ≡ false → named_by k s n m marks at ≡ false
unfolding marked named_by pick
unmarked zero s n m marks at e = refl
unmarked (suc k) s n m marks at e =
    by (eqb (marks % 2 ^ 8) m)
    (λ c. let z : true ≡ false = rw c at e in cc)
    (λ c. rw c (unmarked k s n m (marks / 2 ^ 8) (after_item s at) (rw c at e)))

-- whether a name is in the words that are left
module _ (s : List ℕ) (n : Name) (m : ℕ) (T : List ℕ) (q left : ℕ) {x : Bool} (r : among left s n m T q ≡ x) where
  pub among_none : left ≤ 0 → false ≡ x
  unfolding among
  among_none = of_none (λ k. among k s n m T q) r

  module _ (h : 0 < left) where
    last_word : pick (word_has s n m (get_or T (q + (left - 1)) 0)) true (among (left - 1) s n m T q) ≡ x
    unfolding among
    last_word = of_more (λ k. among k s n m T q) r h

    pub among_hit : {b : Bool} → b ≡ word_has s n m (get_or T (q + (left - 1)) 0) → b ≡ true → true ≡ x
    unfolding pick
    among_hit c v = rw (← c, v) at last_word

    pub among_miss : {b : Bool} → b ≡ word_has s n m (get_or T (q + (left - 1)) 0) → b ≡ false → among (left - 1) s n m T q ≡ x
    unfolding pick
    among_miss c v = rw (← c, v) at last_word

    pub among_unmarked : {b : Bool} → b ≡ marked 6 m (get_or T (q + (left - 1)) 0 % 281474976710656) → b ≡ false → among (left - 1) s n m T q ≡ x
    unfolding word_has
    among_unmarked c v =
        among_miss (sym (unmarked 6 s n m (get_or T (q + (left - 1)) 0 % 281474976710656) (get_or T (q + (left - 1)) 0 / 281474976710656) (sym c ∙ v))) refl

-- whether a name is in the segment at word q
module _ (s : List ℕ) (n : Name) (T : List ℕ) (q : ℕ) where
  pub segment_out : length T ≤ q → false ≡ segment_has s n T q
  unfolding segment_has pick
  segment_out h = rw (le-ltb q (length T) h)

  module _ (h : q < length T) where
    pub segment_wide : length T - q ≤ get_or T q 0 % 256 → false ≡ segment_has s n T q
    unfolding segment_has pick
    segment_wide l = rw (lt-ltb q (length T) h, le-ltb (words_of (get_or T q 0)) (length T - q) l)

    pub segment_has_lem : {b : Bool} {m : ℕ} → get_or T q 0 % 256 < length T - q → m ≡ mark_by (get_or T q 0 / 256) n → b ≡ among (get_or T q 0 % 256) s n m T (q + 1) → b ≡ segment_has s n T q
    unfolding segment_has pick
    segment_has_lem l k e = rw (lt-ltb q (length T) h, lt-ltb (words_of (get_or T q 0)) (length T - q) l, ← k) e

-- by the word under an enum's name
module _ (s T : List ℕ) (n : Name) (w : ℕ) where
  pub by_place : {x : Bool} → w < 65536 → x ≡ member_at s w n → x ≡ variant_in s T n w
  unfolding variant_in pick
  by_place h e = rw (lt-ltb w 65536 h) e

  pub by_length : {x : Bool} → 65536 ≤ w → 65535 < length s → x ≡ member_at s w n → x ≡ variant_in s T n w
  unfolding variant_in pick
  by_length h l e = rw (le-ltb w 65536 h, lt-ltb 65535 (length s) l) e

  pub by_segment : {x : Bool} → 65536 ≤ w → length s ≤ 65535 → x ≡ segment_has s n T (w - 65536) → x ≡ variant_in s T n w
  unfolding variant_in pick
  by_segment h l e = rw (le-ltb w 65536 h, le-ltb 65535 (length s) l) e

none_either : (b : Bool) → pick b false false ≡ false
unfolding pick
none_either true = refl
none_either false = refl

-- a name is found by its mark: equal names have equal marks
by_mark : (key : ℕ) (a n : Name) → pick (eqb (mark_by key a) (mark_by key n)) (eq_name a n) false ≡ eq_name a n
unfolding pick
by_mark key a n =
    by (eq_name a n)
    (λ e. rw (eq-eqb (mark_by key a) (mark_by key n) (ap (mark_by key) (eq_name_eq a n e)), e))
    (λ e. rw e (none_either (eqb (mark_by key a) (mark_by key n))))

-- so marks that are packed have the names that they are of, and past them there is none
packed : (k j key : ℕ) (s : List ℕ) (at : ℕ) (n : Name) → j ≤ k → named_by k s n (mark_by key n) (marks_from j key s at) at ≡ member_from j s at n
unfolding named_by marks_from member_from pick
packed zero zero key s at n h = refl
packed zero (suc j) key s at n h = absurd (omega arith)
packed (suc k) zero key s at n h =
    let l = mark_range key n in
    rw (ne_eqb 0 (mark_by key n) (λ (e : 0 ≡ mark_by key n). omega arith)) (packed k zero key s (after_item s at) n (omega arith))
packed (suc k) (suc j) key s at n h =
    let l = mark_range key (text_at s at) in
    let m : (mark_by key (text_at s at) + 256 * marks_from j key s (after_item s at)) % 256 ≡ mark_by key (text_at s at) = omega arith in
    let d : (mark_by key (text_at s at) + 256 * marks_from j key s (after_item s at)) / 256 ≡ marks_from j key s (after_item s at) = omega arith in
    rw (m, d, by_mark key (text_at s at) n, packed k j key s (after_item s at) n (omega arith))

-- marks take a byte each
marks_small : (c k key : ℕ) (s : List ℕ) (at : ℕ) → k ≤ c → marks_from k key s at < 256 ^ c
unfolding marks_from
marks_small c zero key s at h = one-le-pow c 256 (omega arith)
marks_small zero (suc k) key s at h = absurd (omega arith)
marks_small (suc c) (suc k) key s at h =
    let l = mark_range key (text_at s at) in
    let m = marks_small c k key s (after_item s at) (omega arith) in
    let z = pow-suc 256 c in
    omega arith

-- a word has the names that it is made of
word_of : (s : List ℕ) (n : Name) (key at k : ℕ) → k ≤ 6 → word_has s n (mark_by key n) (at * 2 ^ 48 + marks_from k key s at) ≡ member_from k s at n
unfolding word_has
word_of s n key at k h =
    let l : marks_from k key s at < 2 ^ 48 = marks_small 6 k key s at h in
    let m : (at * 2 ^ 48 + marks_from k key s at) % 2 ^ 48 ≡ marks_from k key s at = omega arith in
    let d : (at * 2 ^ 48 + marks_from k key s at) / 2 ^ 48 ≡ at = omega arith in
    rw (m, d) (packed 6 k key s at n h)

-- the names of a list in parts
names_split : (a b : ℕ) (s : List ℕ) (at : ℕ) (n : Name) → member_from (a + b) s at n ≡ pick (member_from a s at n) true (member_from b s (after_items a s at) n)
unfolding member_from after_items pick
names_split zero b s at n = let z : 0 + b ≡ b = omega arith in rw z
names_split (suc a) b s at n = let z : suc a + b ≡ suc (a + b) = omega arith in rw z (by (eq_name (text_at s at) n) (λ e. rw e) (λ e. rw e (names_split a b s (after_item s at) n)))

-- packed one by one
pub packs_small : {k key : ℕ} {s : List ℕ} {at : ℕ} {r : Packed} (c : ℕ) → Packs k key s at r → k ≤ c → r.marks < 256 ^ c
packs_small {k} {key} {s} {at} c g h = rw g.marks (marks_small c k key s at h)

module _ (key : ℕ) (s : List ℕ) (at many : ℕ) where
  pub pack_none : many ≡ 0 → Packs many key s at (record { marks = 0; next = at })
  unfolding marks_from after_items
  pack_none e = rw e (record { marks = refl; next = refl })

  pub pack_more : {at' : ℕ} {r : Packed} {m : ℕ} {name : Name} → (many ≡ 0 → ⊥) → name ≡ text_at s at → m ≡ mark_by key name → at' ≡ after_item s at → Packs (many - 1) key s at' r → Packs many key s at (record { marks = m + 256 * r.marks; next = r.next })
  unfolding marks_from after_items
  pack_more d t e a g =
      let z : many ≡ suc (many - 1) = omega arith in
      record { marks = rw (z, e, t, g.marks, a); next = rw (z, g.next, a) }

-- the words decide
among_kept : (s : List ℕ) (n : Name) (m : ℕ) (T T' : List ℕ) (q k : ℕ) → ((j : ℕ) → j < k → get_or T' (q + j) 0 ≡ get_or T (q + j) 0) → among k s n m T' q ≡ among k s n m T q
unfolding among
among_kept s n m T T' q zero g = refl
among_kept s n m T T' q (suc k) g = rw (g k (omega arith), among_kept s n m T T' q k (λ j h. g j (omega arith)))

among_set : (s : List ℕ) (n : Name) (m : ℕ) (T : List ℕ) (q j w : ℕ) → q + j < length T → among (j + 1) s n m (set T (q + j) w) q ≡ pick (word_has s n m w) true (among j s n m T q)
unfolding among
among_set s n m T q j w h =
    rw (add-one j, get_or-set_same T (q + j) w 0 h, among_kept s n m T (set T (q + j) w) q j (λ i l. get_or-set_other T (q + j) (q + i) w 0 (λ (e : q + i ≡ q + j). omega arith)))

segment_kept : (s : List ℕ) (n : Name) (T T' : List ℕ) (q : ℕ) → length T' ≡ length T → ((j : ℕ) → q ≤ j → j ≤ q + words_of (get_or T q 0) → get_or T' j 0 ≡ get_or T j 0) → segment_has s n T' q ≡ segment_has s n T q
unfolding segment_has
segment_kept s n T T' q l g =
    rw (l, g q (omega arith) (omega arith), among_kept s n (mark_by (key_at (get_or T q 0)) n) T T' (q + 1) (words_of (get_or T q 0)) (λ j h. g (q + 1 + j) (omega arith) (omega arith)))

either_swap : (a b c : Bool) → pick (pick a true b) true c ≡ pick b true (pick a true c)
unfolding pick
either_swap true true c = refl
either_swap true false c = refl
either_swap false true c = refl
either_swap false false c = refl

either_none : (a : Bool) → pick a true false ≡ a
unfolding pick
either_none true = refl
either_none false = refl

-- words that are filled: the first j of them, and the names from place k on, of which so many are left, have all names
module _ (key : ℕ) (s : List ℕ) (first many : ℕ) (T : List ℕ) (q : ℕ) where
  pub record Filling (j k left : ℕ) (T' : List ℕ) : Type 0 where
    pub size : length T' ≡ length T
    pub kept : take q T' ≡ take q T
    pub words : j + (left + 5) / 6 ≡ (many + 5) / 6
    pub rest : (n : Name) → pick (among j s n (mark_by key n) T' q) true (member_from left s k n) ≡ member_from many s first n

  pub fill_start : Filling 0 first many T
  unfolding among pick
  fill_start = record { size = refl; kept = refl; words = omega arith; rest = λ n. refl }

  module _ {j k left : ℕ} {T' : List ℕ} (g : Filling j k left T') where
    pub fill_stops : FillsWords key s first many T q false T'
    fill_stops = record { size = g.size; kept = g.kept; has = λ (e : false ≡ true) n. cc }

    pub fill_done : left ≤ 0 → FillsWords key s first many T q true T'
    unfolding member_from
    fill_done h = record {
      size = g.size;
      kept = g.kept;
      has = λ e n.
          let z : left ≡ 0 = omega arith in
          let l : (many + 5) / 6 ≡ j = let y = g.words in omega arith in
          rw l (sym (either_none (among j s n (mark_by key n) T' q)) ∙ ap (λ (c : ℕ). pick (among j s n (mark_by key n) T' q) true (member_from c s k n)) (sym z) ∙ g.rest n);
    }

    pub fill_more : {six : ℕ} {p : Packed} → q + (many + 5) / 6 ≤ length T → six ≤ 6 → six ≤ left → (left - six + 5) / 6 + 1 ≡ (left + 5) / 6 → Packs six key s k p → Filling (j + 1) p.next (left - six) (set T' (q + j) (k * 281474976710656 + p.marks))
    fill_more {six} {p} room few low more o =
        let w = k * 281474976710656 + p.marks in
        let y = g.size in
        let words = g.words in
        record {
          size = length-set T' (q + j) w ∙ g.size;
          kept = take-set-le q T' (q + j) w (omega arith) ∙ g.kept;
          words = omega arith;
          rest = λ n.
              let z : six + (left - six) ≡ left = omega arith in
              rw (among_set s n (mark_by key n) T' q j w (omega arith), o.marks, o.next, word_of s n key k six few)
              (either_swap (member_from six s k n) (among j s n (mark_by key n) T' q) (member_from (left - six) s (after_items six s k) n)
              ∙ ap (pick (among j s n (mark_by key n) T' q) true) (sym (names_split six (left - six) s k n) ∙ ap (λ (c : ℕ). member_from c s k n) z)
              ∙ g.rest n);
        }

-- by one key after another
module _ {s : List ℕ} {first many : ℕ} {T : List ℕ} {q key : ℕ} {r : Bool} {T' : List ℕ} (g : FillsWords key s first many T q r T') where
  pub fills_then : {key' : ℕ} {r' : Bool} {T'' : List ℕ} → FillsWords key' s first many T' q r' T'' → FillsWords key' s first many T q r' T''
  fills_then h = record { size = h.size ∙ g.size; kept = h.kept ∙ g.kept; has = h.has }

  pub keyed_none : FillsKeyed s first many T q None T'
  unfolding FillsKeyed
  keyed_none = (g.size, g.kept)

  module _ (e : r ≡ true) where
    pub fills_all : FillsWords key s first many T q true T'
    fills_all = rw e at g

    pub fills_still : FillsWords key s first many T' q true T'
    fills_still = record { size = refl; kept = refl; has = λ z. g.has e }

    pub keyed_at : key < 8 → FillsKeyed s first many T q (Some key) T'
    unfolding FillsKeyed
    keyed_at l = (l, fills_all)

-- fewer words are as they were, too
pub front : (T T' : List ℕ) (m n : ℕ) → m ≤ n → take n T' ≡ take n T → take m T' ≡ take m T
front T T' m n h e = sym (take-take m n T' h) ∙ ap (take m) e ∙ take-take m n T h

-- a segment: its first word, and its words after that
module _ (s T : List ℕ) (q : ℕ) where
  segment_none : (list : ℕ) {T' : List ℕ} → q ≤ length T → length T' ≡ length T → take q T' ≡ take q T → Segmented s list T q 0 T'
  segment_none list h l k = record { size = l; kept = k; room = omega arith; count = λ z. absurd (omega arith); has = λ z. absurd (omega arith) }

  pub segment_empty : (list : ℕ) → q ≤ length T → Segmented s list T q 0 T
  segment_empty list h = segment_none list h refl refl

  module _ (e : Entries) (f : Maybe ℕ) (T' : List ℕ) (g : FillsKeyed s e.first e.many T (q + 1) f T') where
    pub segment_stops : (list : ℕ) → f ≡ None → q ≤ length T → Segmented s list T q 0 T'
    unfolding FillsKeyed
    segment_stops list z h =
        let k : (length T' ≡ length T) × (take (q + 1) T' ≡ take (q + 1) T) = rw z at g in
        segment_none list h k.0 (front T T' q (q + 1) (omega arith) k.1)

    module _ {key : ℕ} (z : f ≡ Some key) where
      by_key : (key < 8) × FillsWords key s e.first e.many T (q + 1) true T'
      unfolding FillsKeyed
      by_key = rw z at g

      pub key_small : key < 8
      key_small = by_key.0

      pub segment_done : (list : ℕ) → e ≡ opened (read_count max_list s list) → e.many ≤ 255 → (e.many + 5) / 6 < length T - q → Segmented s list T q ((e.many + 5) / 6 + 1) (set T' q ((e.many + 5) / 6 + 256 * key))
      segment_done list o few room =
          let k = by_key.1 in
          let words = (e.many + 5) / 6 in
          let h = words + 256 * key in
          let y = k.size in
          let c = get_or-set_same T' q h 0 (omega arith) in
          let y' = length-set T' q h ∙ k.size in
          let w : words_of (get_or (set T' q h) q 0) ≡ words = omega arith in
          let d : key_at (get_or (set T' q h) q 0) ≡ key = omega arith in
          record {
            size = y';
            kept = take-set-le q T' q h (omega arith) ∙ front T T' q (q + 1) (omega arith) k.kept;
            room = omega arith;
            count = λ z. ap (λ (i : ℕ). i + 1) w;
            has = λ z n.
                sym (segment_has_lem s n (set T' q h) q (omega arith) (omega arith) refl refl)
                ∙ rw (w, d)
                (among_kept s n (mark_by key n) T' (set T' q h) (q + 1) words (λ a b. get_or-set_other T' q (q + 1 + a) h 0 (λ (e : q + 1 + a ≡ q). omega arith))
                ∙ k.has refl n ∙ names_open s list n o);
          }

-- a word under a name depends on the words of its segment only
under_kept : {s T T' : List ℕ} {w low high low' high' list : ℕ} → Under s T w low high list → length T' ≡ length T → ((j : ℕ) → low ≤ j → j < high → get_or T' j 0 ≡ get_or T j 0) → low' ≤ low → high ≤ high' → Under s T' w low' high' list
unfolding variant_in pick
under_kept {s} {T} {T'} {w} {low} {high} u l g a b = record {
  has = λ n. same n ∙ u.has n;
  inside = λ c d. let v = u.inside c d in let e = g (w - 65536) v.0 (omega arith) in (omega arith, omega arith);
}
  where
    same : (n : Name) → variant_in s T' n w ≡ variant_in s T n w
    same n =
        by (ltb w 65536)
        (λ c. rw c)
        (λ c.
        by (ltb 65535 (length s))
        (λ d. rw (c, d))
        (λ d.
        let h = ltb-false w 65536 c in
        let v = u.inside (omega arith) (ltb-false 65535 (length s) d) in
        rw (c, d) (segment_kept s n T T' (w - 65536) l (λ j x y. g j (omega arith) (omega arith)))))

-- a place, and a segment
under_place : (s T : List ℕ) (w low high list : ℕ) → w ≤ 65535 → ((n : Name) → member_at s w n ≡ member_at s list n) → Under s T w low high list
under_place s T w low high list h g = record { has = λ n. sym (by_place s T n w (omega arith) refl) ∙ g n; inside = λ a. absurd (omega arith) }

under_long : (s T : List ℕ) (w low high : ℕ) → 65535 < length s → Under s T w low high w
unfolding variant_in pick
under_long s T w low high h = record { has = λ n. by (ltb w 65536) (λ c. rw c) (λ c. rw (c, lt-ltb 65535 (length s) h)); inside = λ a b. absurd (omega arith) }

under_segment : {s T T' : List ℕ} {list q r : ℕ} → length s ≤ 65535 → Segmented s list T q r T' → 0 < r → Under s T' (65536 + q) q (q + r) list
under_segment {s} {T} {T'} {list} {q} {r} h g l =
    let z : 65536 + q - 65536 ≡ q = omega arith in
    let c = g.count l in
    record {
      has = λ n. sym (by_segment s T' n (65536 + q) (omega arith) h (ap (segment_has s n T') (sym z))) ∙ g.has l n;
      inside = λ a b. (omega arith, rw z (omega arith));
    }

-- past the end of a document stands no list
none_past : (s : List ℕ) (at : ℕ) (n : Name) → length s ≤ at → member_at s at n ≡ false
unfolding member_at member_of read_count read_kind read_head bind pick
none_past s at n h = rw (le-leb (length s) at h)

-- the list of one pair
module _ (s T : List ℕ) (i q : ℕ) (size : 829 ≤ length T) (short : length s ≤ 65535) (before : 2 * i + 1 < q) (room : q ≤ length T) where
  pub index_past : 65535 < get_or T (2 * i + 1) 0 → IndexedOne s T i q q (set T (2 * i + 1) 65535)
  index_past h = record {
    size = length-set T (2 * i + 1) 65535;
    more = omega arith;
    room = room;
    kept = λ j a d. get_or-set_other T (2 * i + 1) j 65535 0 d;
    under =
        rw (get_or-set_same T (2 * i + 1) 65535 0 (omega arith))
        (under_place s (set T (2 * i + 1) 65535) 65535 q q (get_or T (2 * i + 1) 0) (omega arith) (λ n. none_past s 65535 n short ∙ sym (none_past s (get_or T (2 * i + 1) 0) n (omega arith))));
  }

  module _ {r : ℕ} {T' : List ℕ} (g : Segmented s (get_or T (2 * i + 1) 0) T q r T') where
    word_before : (j : ℕ) → j < q → get_or T' j 0 ≡ get_or T j 0
    word_before = word_kept T T' q g.kept

    pub index_none : get_or T (2 * i + 1) 0 ≤ 65535 → r ≡ 0 → IndexedOne s T i q q T'
    index_none h e = record {
      size = g.size;
      more = omega arith;
      room = room;
      kept = λ j a d. word_before j a;
      under = rw (word_before (2 * i + 1) before) (under_place s T' (get_or T (2 * i + 1) 0) q q (get_or T (2 * i + 1) 0) h (λ n. refl));
    }

    pub index_given : (r ≡ 0 → ⊥) → IndexedOne s T i q (q + r) (set T' (2 * i + 1) (65536 + q))
    index_given d =
        let y = g.size in
        let m = g.room in
        record {
          size = length-set T' (2 * i + 1) (65536 + q) ∙ g.size;
          more = omega arith;
          room = omega arith;
          kept = λ j a b. get_or-set_other T' (2 * i + 1) j (65536 + q) 0 b ∙ word_before j a;
          under =
              rw (get_or-set_same T' (2 * i + 1) (65536 + q) 0 (omega arith))
              (under_kept (under_segment short g (omega arith)) (length-set T' (2 * i + 1) (65536 + q)) (λ j a b. get_or-set_other T' (2 * i + 1) j (65536 + q) 0 (λ (e : j ≡ 2 * i + 1). omega arith)) (omega arith) (omega arith));
        }

-- pair by pair: those before pair i are through, and their segments lie behind the block and before word q
module _ (s T : List ℕ) (k : ℕ) where
  pub record Indexing (i q : ℕ) (T' : List ℕ) : Type 0 where
    pub size : length T' ≡ length T
    pub few : i ≤ k
    pub block : k ≤ 255
    pub low : 829 ≤ q
    pub room : q ≤ length T
    pub kept : (j : ℕ) → j < 829 → ((x : ℕ) → x < i → j ≡ 2 * x + 1 → ⊥) → get_or T' j 0 ≡ get_or T j 0
    pub unders : (j : ℕ) → j < i → Under s T' (get_or T' (2 * j + 1) 0) 829 q (get_or T (2 * j + 1) 0)

  pub index_start : k ≤ 255 → 829 ≤ length T → Indexing 0 829 T
  index_start b h = record {
    size = refl;
    few = omega arith;
    block = b;
    low = omega arith;
    room = h;
    kept = λ j a d. refl;
    unders = λ j a. absurd (omega arith);
  }

  pub index_long : 65535 < length s → Indexed s T k T
  index_long h = record { size = refl; kept = λ j a d. refl; unders = λ j a. under_long s T (get_or T (2 * j + 1) 0) 829 (length T) h }

  module _ {i q : ℕ} {T' : List ℕ} (g : Indexing i q T') where
    pub index_done : k ≤ i → Indexed s T k T'
    index_done h = record {
      size = g.size;
      kept = λ j a d. let l = g.few in g.kept j a (λ x b. d x (omega arith));
      unders = λ j a. under_kept (g.unders j (omega arith)) refl (λ x y z. refl) (omega arith) g.room;
    }

    pub index_more : {r : ℕ} {T'' : List ℕ} → i < k → IndexedOne s T' i q r T'' → Indexing (i + 1) r T''
    index_more {r} {T''} h o =
        let l = g.low in
        let m = o.more in
        let n = o.room in
        let y = g.size in
        record {
          size = o.size ∙ g.size;
          few = omega arith;
          block = g.block;
          low = omega arith;
          room = omega arith;
          kept = λ j a d. o.kept j (omega arith) (d i (omega arith)) ∙ g.kept j a (λ x b. d x (omega arith));
          unders = λ j a. at j a (ℕ_discrete j i);
        }
      where
        at : (j : ℕ) → j < i + 1 → Dec (j ≡ i) → Under s T'' (get_or T'' (2 * j + 1) 0) 829 r (get_or T (2 * j + 1) 0)
        at j a (yes e) =
            let b = g.block in
            let u : Under s T'' (get_or T'' (2 * i + 1) 0) 829 r (get_or T' (2 * i + 1) 0) = under_kept o.under refl (λ x y z. refl) g.low (omega arith) in
            rw e (rw (g.kept (2 * i + 1) (omega arith) (λ x b (z : 2 * i + 1 ≡ 2 * x + 1). omega arith)) at u)
        at j a (no d) =
            let b = g.block in
            let l = g.low in
            rw (o.kept (2 * j + 1) (omega arith) (λ (e : 2 * j + 1 ≡ 2 * i + 1). d (omega arith)))
            (under_kept (g.unders j (omega arith)) o.size (λ x y z. o.kept x z (λ (e : x ≡ 2 * i + 1). omega arith)) (omega arith) o.more)

-- what is found under a name
held_pick : (s T : List ℕ) (n : Name) (b : Bool) (w : ℕ) (o : Option ℕ) → variant_held s T n (pick b (some w) o) ≡ pick b (variant_in s T n w) (variant_held s T n o)
unfolding variant_held pick
held_pick s T n true w o = refl
held_pick s T n false w o = refl

found_pick : (s : List ℕ) (n : Name) (b : Bool) (w : ℕ) (o : Option ℕ) → variant_found s n (pick b (some w) o) ≡ pick b (member_at s w n) (variant_found s n o)
unfolding variant_found pick
found_pick s n true w o = refl
found_pick s n false w o = refl

module _ (s T P : List ℕ) (e : Name) where
  known_first : (k : ℕ) → ((i : ℕ) → i < k → get_or T (2 * i) 0 ≡ get_or P (2 * i) 0) → given (find_first s e T k) ≡ given (find_first s e P k)
  unfolding find_first
  known_first zero g = refl
  known_first (suc k) g = rw (g k (omega arith), given_pick, known_first k (λ i h. g i (omega arith)), given_pick)

  held_first : (n : Name) (k : ℕ) → ((i : ℕ) → i < k → get_or T (2 * i) 0 ≡ get_or P (2 * i) 0) → ((i : ℕ) → i < k → variant_in s T n (get_or T (2 * i + 1) 0) ≡ member_at s (get_or P (2 * i + 1) 0) n) → variant_held s T n (find_first s e T k) ≡ variant_found s n (find_first s e P k)
  unfolding find_first variant_held variant_found
  held_first n zero g u = refl
  held_first n (suc k) g u = rw (g k (omega arith), held_pick, u k (omega arith), held_first n k (λ i h. g i (omega arith)) (λ i h. u i (omega arith)), found_pick)

-- a table of enums that was filled, then put on its lanes, then given its segments
pub enums_filled : (s T : List ℕ) (at : ℕ) {r : ℕ} {T₁ T₂ T₃ : List ℕ} → Filled T (pairs_at s at) r T₁ → r ≤ 510 → 829 ≤ length T → Weaves s T₁ 0 (r / 2) T₂ → Indexed s T₂ (r / 2) T₃ → KeepsEnums s (pairs_at s at) T₃
enums_filled s T at {r} {T₁} {T₂} {T₃} f h m w x = record {
  known = λ e. ap given (finds e) ∙ known_first s T₃ P e k names ∙ sym (ap (λ (c : ℕ). given (find_first s e P c)) half);
  has = λ e n.
      ap (variant_held s T₃ n) (finds e) ∙ held_first s T₃ P e n k names (λ i a. unders i a n) ∙ sym (ap (λ (c : ℕ). variant_found s n (find_first s e P c)) half);
}
  where
    P : List ℕ
    P = pairs_at s at

    k : ℕ
    k = r / 2

    half : length P / 2 ≡ k
    half = let n = f.many in omega arith

    from_zero : (j : ℕ) → 0 + j ≡ j
    from_zero j = omega arith

    -- the words of the block that are under no name
    name : (i j : ℕ) → i < k → j ≡ 2 * i → get_or T₃ j 0 ≡ get_or T₂ j 0
    name i j a e = x.kept j (omega arith) (λ l b (z : j ≡ 2 * l + 1). omega arith)

    past : (j : ℕ) → 510 ≤ j → j < 829 → get_or T₃ j 0 ≡ get_or T₂ j 0
    past j a b = x.kept j b (λ i c (e : j ≡ 2 * i + 1). omega arith)

    text : (i : ℕ) → i < k → text_at s (get_or T₃ (0 + 2 * i) 0) ≡ text_at s (get_or T₂ (0 + 2 * i) 0)
    text i a = ap (text_at s) (name i (0 + 2 * i) a (omega arith))

    woven : BlockWoven s T₃ 0 k
    woven =
        woven_kept w.woven
        (λ i a. rw (past 573 (omega arith) (omega arith), text i a))
        (λ l a. past (510 + l) (omega arith) (omega arith))
        (λ i a. past (574 + i) (omega arith) (omega arith))
        (λ i j a b e. text j (omega arith) ∙ e ∙ sym (text i a))

    finds : (e : Name) → block_find s e T₃ 0 ≡ find_first s e T₃ k
    finds e = block_finds s T₃ T₃ 0 k e (omega arith) (λ j a. ap (λ (i : ℕ). get_or T₃ i 0) (from_zero j)) woven

    pair : (j : ℕ) → j < 2 * k → get_or T₂ j 0 ≡ get_or P j 0
    pair j a =
        let n = f.many in
        word_kept T₁ T₂ 510 w.kept j (omega arith)
        ∙ ap (λ (l : List ℕ). get_or l j 0) f.words ∙ ap (λ (i : ℕ). get_or (sets T 0 P) i 0) (sym (from_zero j)) ∙ get_d_sets P T 0 j (omega arith) (omega arith)

    names : (i : ℕ) → i < k → get_or T₃ (2 * i) 0 ≡ get_or P (2 * i) 0
    names i a = name i (2 * i) a refl ∙ pair (2 * i) (omega arith)

    unders : (i : ℕ) → i < k → (n : Name) → variant_in s T₃ n (get_or T₃ (2 * i + 1) 0) ≡ member_at s (get_or P (2 * i + 1) 0) n
    unders i a n = (x.unders i a).has n ∙ ap (λ (l : ℕ). member_at s l n) (pair (2 * i + 1) (omega arith))

pub enums_size : {s T P : List ℕ} {r k : ℕ} {T₁ T₂ T₃ : List ℕ} → Filled T P r T₁ → Weaves s T₁ 0 k T₂ → Indexed s T₂ k T₃ → length T₃ ≡ length T
enums_size {T = T} {P = P} f w x = x.size ∙ w.size ∙ ap length f.words ∙ length-sets T 0 P
