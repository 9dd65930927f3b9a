-- Short items: what their first byte says of the place after them.
use Rattle.std.specs.Prelude.{Option, Some, None}
use Prim.Native.Nat.{ℕ, suc, ◌+◌, ◌-◌, ◌/◌, ◌%◌, ◌<◌, ◌≤◌}
use mathlib.Core.Path.{◌≡◌, refl, sym, ap, subst, ◌∙◌}
use mathlib.Core.List.{List}
use native.Mathlib.Omega.{arith}
use lib.ListN.{length, get_or, take, drop, length-take, length-drop}
use lib.Seq.{get_or-take, get_or-drop}
use mir.Syntax.{w8}
use mir.Val.{Fits}
use borrow.Author.Tests.{lt-ltb, le-ltb, lt-leb, eq-eqb, ne_eqb}
use Rattle.reading.specs.Read.{ok, pick}
use Rattle.reading.specs.Head.{read_head, head_with, simple}
use Rattle.reading.specs.declared.cursor.Head.{Head}
use Rattle.reading.specs.Text.{Name}
use Rattle.reading.specs.Skip.{text_at}
use Rattle.reading.specs.Items.{inside, payload, Items, none, more}
use Rattle.reading.proofs.Rules.{pick_true, pick_false}
use Rattle.reading.proofs.Short.{by_range}
use Rattle.reading.proofs.Skips.{items_passed, span_one}
use Rattle.typing.specs.Table.{place_after, after_item, Past, Ended, Stops, Differs}
use Rattle.typing.proofs.NameLaws.{eq_name_length, eq_name_byte}

module _ (s : List ℕ) (at : ℕ) (h : at < length s) where
  -- a head of one byte, and a simple value
  pub head_one : (a b : ℕ) → get_or s at 0 / 32 ≡ a → get_or s at 0 % 32 ≡ b → a < 7 → b < 24 → read_head s at ≡ ok (record { major = a; argument = b }) (at + 1)
  unfolding read_head head_with
  head_one a b i j k l =
      rw (lt-leb (length s) at h, pick_false, i, j, le-ltb 27 b (omega arith), pick_false, ne_eqb a 7 (λ z. omega arith), pick_false, lt-ltb b 24 l, pick_true)

  head_simple : 243 < get_or s at 0 → get_or s at 0 < 247 → read_head s at ≡ ok (record { major = 7; argument = get_or s at 0 % 32 }) (at + 1)
  unfolding read_head head_with simple
  head_simple l m =
      let i : get_or s at 0 / 32 ≡ 7 = omega arith in
      let j : get_or s at 0 % 32 ≤ 27 = omega arith in
      let u : 20 ≤ get_or s at 0 % 32 = omega arith in
      let v : get_or s at 0 % 32 ≤ 22 = omega arith in
      rw (lt-leb (length s) at h, pick_false, i, le-ltb 27 (get_or s at 0 % 32) j, pick_false, eq-eqb 7 7 refl, pick_true, le-ltb (get_or s at 0 % 32) 20 u, pick_false, le-ltb 22 (get_or s at 0 % 32) v, pick_false)

  -- the first of so many items, with what it holds after it
  item_opens : (k : ℕ) (x : Head) {n : ℕ} → read_head s at ≡ ok x (at + 1) → payload x ≡ 0 → Items s (k + inside x) (at + 1) n → Items s (suc k) at n
  item_opens k x {n} e p g = let w : at + 1 ≡ at + 1 + payload x = omega arith in more x (at + 1) e (subst (λ (z : ℕ). Items s (k + inside x) z n) w g)

  -- with nothing after the head but so many bytes
  one_item : (x : Head) → read_head s at ≡ ok x (at + 1) → inside x ≡ 0 → at + 1 + payload x ≤ length s → Ended s at (at + 1 + payload x)
  one_item x e i l = record { item = more {k = 0} {n = at + 1 + payload x} x (at + 1) e (rw i none); room = l }

  -- by the byte
  byte_item : (x : Head) → read_head s at ≡ ok x (at + 1) → inside x ≡ 0 → payload x ≡ 0 → Ended s at (at + 1)
  byte_item x e i p =
      let w : at + 1 + payload x ≡ at + 1 = omega arith in
      subst (Ended s at) w (one_item x e i (omega arith))

  ends_number : get_or s at 0 < 24 → Ended s at (at + 1)
  unfolding inside payload pick
  ends_number l = byte_item _ (head_one 0 (get_or s at 0) (omega arith) (omega arith) (omega arith) l) refl refl

  pub stops_number : get_or s at 0 < 24 → Stops s at (Some (at + 1))
  unfolding Stops
  stops_number = ends_number

  pub stops_empty : get_or s at 0 ≡ 128 → Stops s at (Some (at + 1))
  unfolding Stops inside payload pick
  stops_empty l = byte_item _ (head_one 4 0 (omega arith) (omega arith) (omega arith) (omega arith)) refl refl

  pub stops_simple : 243 < get_or s at 0 → get_or s at 0 < 247 → Stops s at (Some (at + 1))
  unfolding Stops inside payload pick
  stops_simple l m = byte_item _ (head_simple l m) refl refl

  pub stops_name : 96 < get_or s at 0 → get_or s at 0 < 120 → get_or s at 0 - 96 < length s - at → Stops s at (Some (at + 1 + (get_or s at 0 - 96)))
  unfolding Stops inside payload pick
  stops_name l m o = one_item _ (head_one 3 (get_or s at 0 - 96) (omega arith) (omega arith) (omega arith) (omega arith)) refl (omega arith)

-- the last byte of a part
last_of : (s : List ℕ) (at n : ℕ) → 0 < n → get_or (take n (drop (at + 1) s)) (n - 1) 0 ≡ get_or s (at + n) 0
last_of s at n h =
    let i : n - 1 < n = omega arith in
    let j : at + 1 + (n - 1) ≡ at + n = omega arith in
    rw (get_or-take n (drop (at + 1) s) (n - 1) 0 i, get_or-drop (at + 1) s (n - 1) 0, j)

-- a short name there, by its head
module _ (s : List ℕ) (at : ℕ) (h : at < length s) (l : 96 < get_or s at 0) (m : get_or s at 0 < 120) (o : get_or s at 0 - 96 < length s - at) where
  short_text : text_at s at ≡ take (get_or s at 0 - 96) (drop (at + 1) s)
  short_text =
      let w : at + 1 + get_or s at 0 % 32 - (at + 1) ≡ get_or s at 0 - 96 = omega arith in
      sym (span_one s at h refl (by_range 3 (get_or s at 0) (omega arith) (omega arith) m) (omega arith)) ∙ ap (λ (k : ℕ). take k (drop (at + 1) s)) w

  short_length : length (text_at s at) ≡ get_or s at 0 - 96
  short_length = rw short_text (simp (length-take, length-drop) (omega arith))

  short_last : get_or (text_at s at) (get_or s at 0 - 96 - 1) 0 ≡ get_or s (at + (get_or s at 0 - 96)) 0
  short_last = rw short_text (last_of s at (get_or s at 0 - 96) (omega arith))

  module _ (w : Name) where
    pub differs_length : (get_or s at 0 - 96 ≡ length w → ⊥) → Differs s at w (Some (at + 1 + (get_or s at 0 - 96)))
    unfolding Stops Differs
    differs_length n = (stops_name s at h l m o, eq_name_length _ w λ e. n (sym short_length ∙ e))

    pub differs_last : (get_or s (at + (get_or s at 0 - 96)) 0 ≡ get_or w (get_or s at 0 - 96 - 1) 0 → ⊥) → Differs s at w (Some (at + 1 + (get_or s at 0 - 96)))
    unfolding Stops Differs
    differs_last n = (stops_name s at h l m o, eq_name_byte _ w _ λ e. n (sym short_last ∙ e))

-- a case alone, and one with a short item
module _ (s : List ℕ) (at : ℕ) (l : get_or s (at + 1) 0 < 24) (h : 2 < length s - at) where
  pub stops_case : get_or s at 0 ≡ 129 → Stops s at (Some (at + 2))
  unfolding Stops inside payload pick
  stops_case b =
      let e = ends_number s (at + 1) (omega arith) l in
      let w : at + 1 + 1 ≡ at + 2 = omega arith in
      let o = item_opens s at (omega arith) 0 _ (head_one s at (omega arith) 4 1 (omega arith) (omega arith) (omega arith) (omega arith)) refl e.item in
      subst (Ended s at) w (record { item = o; room = e.room })

  pub stops_second : get_or s at 0 ≡ 130 → (f : Option ℕ) → Stops s (at + 2) f → Stops s at f
  unfolding Stops inside payload pick
  stops_second b (Some end) e =
      let w : at + 2 ≡ at + 1 + 1 = omega arith in
      let i = item_opens s (at + 1) (omega arith) 1 _ (head_one s (at + 1) (omega arith) 0 (get_or s (at + 1) 0) (omega arith) (omega arith) (omega arith) l) refl (subst (λ (z : ℕ). Items s 1 z end) w e.item) in
      record { item = item_opens s at (omega arith) 0 _ (head_one s at (omega arith) 4 2 (omega arith) (omega arith) (omega arith) (omega arith)) refl i; room = e.room }
  stops_second b None e = tt

pub ended_after : {s : List ℕ} {at end : ℕ} → Ended s at end → end ≡ after_item s at
unfolding place_after
ended_after e = sym (ap place_after (items_passed e.item e.room))

pub stops_past : (s : List ℕ) (at : ℕ) → ((i : ℕ) → Fits w8 (get_or s i 0)) → {f : Option ℕ} {end : ℕ} → Stops s at f → f ≡ Some end → Past s at end
unfolding Stops
stops_past s at each {f} {end} g q =
    let e : Ended s at end = rw q at g in
    record { is = ended_after e; each = λ i. omega (arith, each i) }
