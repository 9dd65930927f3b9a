-- An item is refused exactly for the fault that it has, at its start: each way by the tests of its definition, in their order.
use Prim.Native.Nat.{ℕ, ◌+◌, ◌-◌, ◌<◌, ◌≤◌}
use mathlib.Core.Path.{◌≡◌, refl, sym, ap, ◌∙◌, subst}
use mathlib.Core.List.{List}
use mathlib.Core.Bool.{Bool, true, false}
use mathlib.Core.Logic.{◌↔◌, inl, inr}
use native.Mathlib.Omega.{arith}
use lib.ListN.{length}
use lib.Dec.{ltb}
use borrow.Author.Tests.{ltb-true, ltb-false, leb-true, leb-false, eqb-true, eqb-false, lt-ltb, le-ltb, le-leb, lt-leb, eq-eqb, ne_eqb}
use Rattle.reading.specs.Read.{Read, ok, refused, pick, bind}
use Rattle.reading.specs.Limits.{max_text}
use Rattle.reading.specs.Head.{long_head, settled, wide_head, simple, head_with, read_head}
use Rattle.reading.specs.Item.{read_kind, read_number, read_case, read_bool, read_fields, read_count, read_tag}
use Rattle.reading.specs.Text.{text_bytes, read_text}
use Rattle.reading.specs.Faulty.{Wide, one_byte, two_bytes, four_bytes, eight_bytes, major_at, info_at, HeadFault, missing, reserved, other_simple, cut, longer, KindFault, no_head, other_kind, ItemFault, no_item, bad, NumberFault, CountFault, CaseFault, FieldsFault, BoolFault, TagFault, no_array, empty_array, no_case, TextFault, no_string, other_length, ends_early, other_byte}
use Rattle.reading.specs.declared.fault.Fault.{Fault}
use Rattle.reading.specs.declared.fault.Fault.TheVariants.{Unexpected, OutOfRange}
use Rattle.reading.proofs.Rules.{pick_true, pick_false, bind_ok, bind_out}
use Rattle.reading.proofs.Blames.{Blames, blames_ok, blames_refused, blames_pick, blames_bind}

-- at the item's start, the fault that P names
abbrev Start : (Fault → Type 0) → ℕ → Fault → ℕ → Type 0
Start P at f p = P f × (p ≡ at)

-- a test that decides nothing
either_way : {A : Type 0} (b : Bool) {x y : A} → y ≡ x → pick b x y ≡ x
unfolding pick
either_way true e = refl
either_way false e = e

module _ (s : List ℕ) (at : ℕ) where
  abbrev H : Fault → ℕ → Type 0
  H = Start (HeadFault s at) at

  long_faulty : {i : ℕ} {be : List ℕ → ℕ → ℕ} {width least : ℕ} → at < length s → (major_at s at ≡ 7 → ⊥) → info_at s at ≡ i → Wide i be width least → Blames H (long_head (major_at s at) be width least s at)
  unfolding long_head settled
  long_faulty l m i w =
      blames_pick H _ _ _ (λ q. blames_refused H _ _ (cut l m i w (ltb-true _ _ q), refl)) λ q.
      blames_pick H _ _ _ (λ r. blames_refused H _ _ (longer l m i w (ltb-false _ _ q) (ltb-true _ _ r), refl)) (λ _. blames_ok H _ _)

  head_faulty : Blames H (read_head s at)
  unfolding read_head head_with wide_head simple
  head_faulty =
      blames_pick H _ _ _ (λ q. blames_refused H _ _ (missing (leb-true _ _ q), refl)) λ q.
      let l : at < length s = leb-false _ _ q in
      blames_pick H _ _ _ (λ r. blames_refused H _ _ (reserved l (ltb-true _ _ r), refl)) λ r.
      let small : info_at s at ≤ 27 = ltb-false _ _ r in
      blames_pick H _ _ _ (λ m.
      blames_pick H _ _ _ (λ t. blames_refused H _ _ (other_simple l small (eqb-true _ _ m) (inl (ltb-true _ _ t)), refl)) λ _.
      blames_pick H _ _ _ (λ t. blames_refused H _ _ (other_simple l small (eqb-true _ _ m) (inr (ltb-true _ _ t)), refl)) λ _. blames_ok H _ _) λ m.
      let m7 = eqb-false (major_at s at) 7 m in
      blames_pick H _ _ _ (λ _. blames_ok H _ _) λ t.
      blames_pick H _ _ _ (λ i. long_faulty l m7 (eqb-true _ _ i) one_byte) λ n24.
      blames_pick H _ _ _ (λ i. long_faulty l m7 (eqb-true _ _ i) two_bytes) λ n25.
      blames_pick H _ _ _ (λ i. long_faulty l m7 (eqb-true _ _ i) four_bytes) λ n26.
      let i : info_at s at ≡ 27 = omega (arith, ltb-false (info_at s at) 24 t, eqb-false (info_at s at) 24 n24, eqb-false (info_at s at) 25 n25, eqb-false (info_at s at) 26 n26) in
      long_faulty l m7 i eight_bytes

  -- a head with its argument in the bytes after it
  wide_is : {i : ℕ} {be : List ℕ → ℕ → ℕ} {width least : ℕ} → at < length s → (major_at s at ≡ 7 → ⊥) → info_at s at ≡ i → Wide i be width least → read_head s at ≡ long_head (major_at s at) be width least s at
  unfolding read_head head_with wide_head
  wide_is l m i one_byte = rw (lt-leb (length s) at l, pick_false, i, pick_false, ne_eqb (major_at s at) 7 m, pick_false, pick_false, pick_true)
  wide_is l m i two_bytes = rw (lt-leb (length s) at l, pick_false, i, pick_false, ne_eqb (major_at s at) 7 m, pick_false, pick_false, pick_false, pick_true)
  wide_is l m i four_bytes = rw (lt-leb (length s) at l, pick_false, i, pick_false, ne_eqb (major_at s at) 7 m, pick_false, pick_false, pick_false, pick_false, pick_true)
  wide_is l m i eight_bytes = rw (lt-leb (length s) at l, pick_false, i, pick_false, ne_eqb (major_at s at) 7 m, pick_false, pick_false, pick_false, pick_false, pick_false)

  faulty_head : {f : Fault} → HeadFault s at f → read_head s at ≡ refused f at
  unfolding read_head head_with simple long_head settled
  faulty_head (missing h) = rw (le-leb (length s) at h, pick_true)
  faulty_head (reserved l h) = rw (lt-leb (length s) at l, pick_false, lt-ltb 27 (info_at s at) h, pick_true)
  faulty_head (other_simple l i m (inl h)) = rw (lt-leb (length s) at l, pick_false, le-ltb 27 (info_at s at) i, pick_false, eq-eqb (major_at s at) 7 m, pick_true, lt-ltb (info_at s at) 20 h, pick_true)
  faulty_head (other_simple l i m (inr h)) =
      let j : 20 ≤ info_at s at = omega arith in
      rw (lt-leb (length s) at l, pick_false, le-ltb 27 (info_at s at) i, pick_false, eq-eqb (major_at s at) 7 m, pick_true, le-ltb (info_at s at) 20 j, pick_false, lt-ltb 22 (info_at s at) h, pick_true)
  faulty_head (cut {width = width} l m i w h) = wide_is l m i w ∙ rw (lt-ltb (length s - at - 1) width h, pick_true)
  faulty_head (longer {be = be} {width = width} {least = least} l m i w h k) = wide_is l m i w ∙ rw (le-ltb (length s - at - 1) width h, pick_false, lt-ltb (be s (at + 1)) least k, pick_true)

  -- 2, 3 and 4 of a head
  pub head_refused : (f : Fault) (p : ℕ) → (read_head s at ≡ refused f p) ↔ (HeadFault s at f × (p ≡ at))
  head_refused f p = (head_faulty f p, λ h. faulty_head h.0 ∙ ap (refused f) (sym h.1))

  -- and the faults of an item are those of its head, with 4 for another kind
  module _ (due : ℕ) where
    abbrev K : Fault → ℕ → Type 0
    K = Start (KindFault due s at) at

    kind_faulty : Blames K (read_kind due s at)
    unfolding read_kind
    kind_faulty =
        blames_bind K _ _ (λ f p e. let h = head_faulty f p e in (no_head h.0, h.1)) λ h n e.
        blames_pick K _ _ _ (λ _. blames_ok K _ _) (λ q. blames_refused K _ _ (other_kind e (eqb-false _ _ q), refl))

    faulty_kind : {f : Fault} → KindFault due s at f → read_kind due s at ≡ refused f at
    unfolding read_kind
    faulty_kind (no_head h) = rw (faulty_head h, bind_out)
    faulty_kind (other_kind {h = h} e q) = rw (e, bind_ok, ne_eqb h.major due q, pick_false)

    pub kind_refused : (f : Fault) (p : ℕ) → (read_kind due s at ≡ refused f p) ↔ (KindFault due s at f × (p ≡ at))
    kind_refused f p = (kind_faulty f p, λ h. faulty_kind h.0 ∙ ap (refused f) (sym h.1))

  -- a number that has to pass a test
  module _ {A : Type 0} (due : ℕ) (Bad : ℕ → Type 0) (g : Fault) (k : ℕ → ℕ → Read A)
      (faulty : (v n : ℕ) → Blames (λ f p. ((f ≡ g) × Bad v) × (p ≡ at)) (k v n)) (refuses : (v n : ℕ) → Bad v → k v n ≡ refused g at) where
    item_faulty : Blames (Start (ItemFault due Bad g s at) at) (bind (read_kind due s at) k)
    item_faulty =
        blames_bind (Start (ItemFault due Bad g s at) at) _ _ (λ f p e. let h = kind_faulty due f p e in (no_item h.0, h.1)) λ v n e f p q.
        let h = faulty v n f p q in
        (subst (ItemFault due Bad g s at) (sym h.0.0) (bad e h.0.1), h.1)

    faulty_item : {f : Fault} → ItemFault due Bad g s at f → bind (read_kind due s at) k ≡ refused f at
    faulty_item (no_item h) = rw (faulty_kind due h, bind_out)
    faulty_item (bad {v = v} {n = n} e h) = rw (e, bind_ok) (refuses v n h)

    item_refused : (f : Fault) (p : ℕ) → (bind (read_kind due s at) k ≡ refused f p) ↔ (ItemFault due Bad g s at f × (p ≡ at))
    item_refused f p = (item_faulty f p, λ h. faulty_item h.0 ∙ ap (refused f) (sym h.1))

  -- 5 of a number, and of a list
  pub number_refused : (limit : ℕ) (f : Fault) (p : ℕ) → (read_number limit s at ≡ refused f p) ↔ (NumberFault limit s at f × (p ≡ at))
  unfolding read_number
  number_refused limit = item_refused 0 _ OutOfRange _
      (λ v n. blames_pick _ _ _ _ (λ q. blames_refused _ OutOfRange at ((refl, ltb-true _ _ q), refl)) (λ _. blames_ok _ v n))
      (λ v n h. rw (lt-ltb limit v h, pick_true))

  pub count_refused : (limit : ℕ) (f : Fault) (p : ℕ) → (read_count limit s at ≡ refused f p) ↔ (CountFault limit s at f × (p ≡ at))
  unfolding read_count
  count_refused limit = item_refused 4 _ OutOfRange _
      (λ v n. blames_pick _ _ _ _ (λ q. blames_refused _ OutOfRange at ((refl, ltb-true _ _ q), refl)) (λ _. blames_ok _ v n))
      (λ v n h. rw (lt-ltb limit v h, pick_true))

  -- 4 of a case number, a record's head and a bool
  pub case_refused : (cases : ℕ) (f : Fault) (p : ℕ) → (read_case cases s at ≡ refused f p) ↔ (CaseFault cases s at f × (p ≡ at))
  unfolding read_case
  case_refused cases = item_refused 0 _ Unexpected _
      (λ v n. blames_pick _ _ _ _ (λ _. blames_ok _ v n) (λ q. blames_refused _ Unexpected at ((refl, ltb-false _ _ q), refl)))
      (λ v n h. rw (le-ltb v cases h, pick_false))

  pub fields_refused : (fields : ℕ) (f : Fault) (p : ℕ) → (read_fields fields s at ≡ refused f p) ↔ (FieldsFault fields s at f × (p ≡ at))
  unfolding read_fields
  fields_refused fields = item_refused 4 _ Unexpected _
      (λ v n. blames_pick _ _ _ _ (λ _. blames_ok _ tt n) (λ q. blames_refused _ Unexpected at ((refl, eqb-false _ _ q), refl)))
      (λ v n h. rw (ne_eqb v fields h, pick_false))

  pub bool_refused : (f : Fault) (p : ℕ) → (read_bool s at ≡ refused f p) ↔ (BoolFault s at f × (p ≡ at))
  unfolding read_bool
  bool_refused = item_refused 7 _ Unexpected _
      (λ v n. blames_pick _ _ _ _ (λ _. blames_ok _ false n) λ q.
      blames_pick _ _ _ _ (λ _. blames_ok _ true n) (λ r. blames_refused _ Unexpected at ((refl, (eqb-false _ _ q, eqb-false _ _ r)), refl)))
      (λ v n h. rw (ne_eqb v 20 h.0, pick_false, ne_eqb v 21 h.1, pick_false))

  -- 5, 2 and 6 of a string, in this order
  module _ (least : ℕ) (alphabet : ℕ → Bool) where
    text_faulty : Blames (Start (TextFault least alphabet s at) at) (read_text least alphabet s at)
    unfolding read_text text_bytes
    text_faulty =
        let T : Fault → ℕ → Type 0 = Start (TextFault least alphabet s at) at in
        blames_bind T _ _ (λ f p e. let h = kind_faulty 3 f p e in (no_string h.0, h.1)) λ len n e.
        blames_pick T _ _ _ (λ q. blames_refused T _ _ (other_length e (inl (ltb-true _ _ q)), refl)) λ l.
        blames_pick T _ _ _ (λ q. blames_refused T _ _ (other_length e (inr (ltb-true _ _ q)), refl)) λ u.
        blames_pick T _ _ _ (λ q. blames_refused T _ _ (ends_early e (ltb-false _ _ l) (ltb-false _ _ u) (ltb-true _ _ q), refl)) λ t.
        blames_pick T _ _ _ (λ _. blames_ok T _ _) (λ q. blames_refused T _ _ (other_byte e (ltb-false _ _ l) (ltb-false _ _ u) (ltb-false _ _ t) q, refl))

    faulty_text : {f : Fault} → TextFault least alphabet s at f → read_text least alphabet s at ≡ refused f at
    unfolding read_text text_bytes
    faulty_text (no_string h) = rw (faulty_kind 3 h, bind_out)
    faulty_text (other_length {len = len} e (inl h)) = rw (e, bind_ok, lt-ltb len least h, pick_true)
    faulty_text (other_length {len = len} e (inr h)) = rw (e, bind_ok) (either_way (ltb len least) (rw (lt-ltb max_text len h, pick_true)))
    faulty_text (ends_early {len = len} {n = n} e l u h) = rw (e, bind_ok, le-ltb len least l, pick_false, le-ltb max_text len u, pick_false, lt-ltb (length s - n) len h, pick_true)
    faulty_text (other_byte {len = len} {n = n} e l u h q) = rw (e, bind_ok, le-ltb len least l, pick_false, le-ltb max_text len u, pick_false, le-ltb (length s - n) len h, pick_false, q, pick_false)

    pub text_refused : (f : Fault) (p : ℕ) → (read_text least alphabet s at ≡ refused f p) ↔ (TextFault least alphabet s at f × (p ≡ at))
    text_refused f p = (text_faulty f p, λ h. faulty_text h.0 ∙ ap (refused f) (sym h.1))

-- the head of a data enum
module _ (s : List ℕ) (at : ℕ) where
  tag_faulty : Blames (TagFault s at) (read_tag s at)
  unfolding read_tag
  tag_faulty =
      blames_bind (TagFault s at) _ _ (λ f p e. let h = kind_faulty s at 4 f p e in subst (TagFault s at f) (sym h.1) (no_array h.0)) λ c n e.
      blames_pick (TagFault s at) _ _ _ (λ q. blames_refused (TagFault s at) _ _ (empty_array (e ∙ ap (λ (z : ℕ). ok z n) (eqb-true c 0 q)))) λ q.
      blames_bind (TagFault s at) _ _ (λ f p r. let h = kind_faulty s n 0 f p r in subst (TagFault s at f) (sym h.1) (no_case e (eqb-false c 0 q) h.0)) λ k m r.
      blames_ok (TagFault s at) _ _

  faulty_tag : {f : Fault} {p : ℕ} → TagFault s at f p → read_tag s at ≡ refused f p
  unfolding read_tag
  faulty_tag (no_array h) = rw (faulty_kind s at 4 h, bind_out)
  faulty_tag (empty_array e) = rw (e, bind_ok, pick_true)
  faulty_tag (no_case {count = c} {n = n} e q h) = rw (e, bind_ok, ne_eqb c 0 q, pick_false, faulty_kind s n 0 h, bind_out)

  pub tag_refused : (f : Fault) (p : ℕ) → (read_tag s at ≡ refused f p) ↔ TagFault s at f p
  tag_refused f p = (tag_faulty f p, faulty_tag)
