-- The fields of a pattern that have no name of one before them, counted by a table of the names passed.
use Rattle.std.specs.Prelude.{Option, Some, None}
use Prim.Native.Nat.{ℕ, zero, suc, ◌+◌, ◌<◌, ◌≤◌}
use mathlib.Core.Path.{◌≡◌, refl, sym, ap, ◌∙◌}
use mathlib.Core.Bool.{Bool, true, false}
use mathlib.Core.List.{List}
use native.Mathlib.Omega.{arith}
use native.Mathlib.Numerals.{add-one}
use lib.ListN.{length, get_or}
use lib.Dec.{eqb, ltb}
use borrow.Author.Tests.{ltb-true, ltb-false, lt-ltb, le-ltb}
use Rattle.reading.specs.Read.{pick}
use Rattle.reading.specs.Text.{Name}
use Rattle.reading.specs.Skip.{text_at}
use Rattle.reading.proofs.Rules.{no, by}
use Rattle.typing.specs.Names.{eq_name}
use Rattle.typing.specs.Env.{given}
use Rattle.typing.specs.Table.{after_item, after_head, find_first, found}
use Rattle.typing.specs.Lanes.{Lanes, Laned}
use Rattle.typing.specs.Fields.{field_named, named_from, stepped, Apart, named_among, PutsName}
use Rattle.typing.proofs.NameLaws.{eq_name_eq}
use Rattle.typing.proofs.TableLaws.{given_at, given_not, given_pick}
use Rattle.typing.proofs.LaneLaws.{put, pair_laned, pair_found}
use Rattle.typing.proofs.FieldLaws.{named_null, named_text}

-- one item more is passed
pub stepped_more : (s : List ℕ) (at i : ℕ) {p p' : ℕ} → p ≡ stepped s at i → p' ≡ after_item s p → p' ≡ stepped s at (i + 1)
unfolding stepped
stepped_more s at i h e = e ∙ ap (after_item s) h ∙ ap (stepped s at) (sym (add-one i))

stepped_from : (s : List ℕ) (at i : ℕ) → stepped s (after_item s at) i ≡ after_item s (stepped s at i)
unfolding stepped
stepped_from s at zero = refl
stepped_from s at (suc i) = ap (after_item s) (stepped_from s at i)

pick_swap : (a b c : Bool) → pick a true (pick b true c) ≡ pick b true (pick a true c)
unfolding pick
pick_swap true true c = refl
pick_swap true false c = refl
pick_swap false b c = refl

-- one field more is passed
named_last : (s : List ℕ) (w : Name) (at i : ℕ) → named_from (suc i) s at w ≡ pick (field_named s (stepped s at i) w) true (named_from i s at w)
unfolding named_from stepped
named_last s w at zero = refl
named_last s w at (suc i) =
    ap (pick (field_named s at w) true) (named_last s w (after_item s at) i)
    ∙ rw (stepped_from s at i) (pick_swap (field_named s at w) (field_named s (after_item s (stepped s at i)) w) (named_from i s (after_item s at) w))

pub named_more : (s : List ℕ) (w : Name) (at i : ℕ) {p : ℕ} → p ≡ stepped s at i → named_from (i + 1) s at w ≡ pick (field_named s p w) true (named_from i s at w)
named_more s w at i h = ap (λ (z : ℕ). named_from z s at w) (add-one i) ∙ named_last s w at i ∙ rw (sym h)

-- a field's name against those of a table
module _ (s : List ℕ) (at : ℕ) (names : List ℕ) (m : ℕ) where
  among_new : (w : Name) → named_among s at names m ≡ false → field_named s at w ≡ true → given (find_first s w names m) ≡ false
  unfolding named_among field_named pick
  among_new w = go (eqb (get_or s (after_head s at) 0) 246)
    where
      go : (b : Bool) → pick b false (given (find_first s (text_at s (after_head s at)) names m)) ≡ false → pick b false (eq_name (text_at s (after_head s at)) w) ≡ true → given (find_first s w names m) ≡ false
      go true x y = no (cc)
      go false x y = rw (eq_name_eq (text_at s (after_head s at)) w y) at x

  module _ {k : ℕ} {b : Bool} (h : k ≡ after_head s at) (e : b ≡ eqb (get_or s k 0) 246) where
    pub among_null : b ≡ true → false ≡ named_among s at names m
    unfolding named_among pick
    among_null q = rw (sym h, sym e ∙ q)

    module _ (q : b ≡ false) {t : Name} {f : Option ℕ} (i : t ≡ text_at s k) (g : f ≡ found (find_first s t names m)) where
      among_text : given (find_first s t names m) ≡ named_among s at names m
      unfolding named_among pick
      among_text = rw (sym h, sym e ∙ q, i)

      pub among_found : {v : ℕ} → f ≡ Some v → true ≡ named_among s at names m
      among_found z = given_at (find_first s t names m) g z ∙ among_text

      pub among_not : f ≡ None → false ≡ named_among s at names m
      among_not z = given_not (find_first s t names m) g z ∙ among_text

-- it is put after them
module _ (s : List ℕ) (at : ℕ) {names : List ℕ} {m : ℕ} {heads links : List ℕ} (r : Laned 255 s names m heads links) {k : ℕ} {b : Bool} (h : k ≡ after_head s at) (e : b ≡ eqb (get_or s k 0) 246) where
  pub put_none : b ≡ true → PutsName s at names m m names heads links
  unfolding pick
  put_none q = record { few = omega arith; room = r; has = λ w. rw (sym (named_null s at w h e q)) }

  pub put_more : {heads' links' : List ℕ} → b ≡ false → m < 255 → Lanes s (put names m k k) (m + 1) heads' links' → length links' ≡ length links → PutsName s at names m (m + 1) (put names m k k) heads' links'
  put_more q low l z = record {
    few = omega arith;
    room = pair_laned r low k k l z;
    has = λ w.
        ap given (pair_found r low k k w)
        ∙ given_pick (eq_name (text_at s k) w) k (find_first s w names m)
        ∙ ap (λ (x : Bool). pick x true (given (find_first s w names m))) (named_text s at w h e q refl refl);
  }

-- the fields before number i: their names are those of the table, and no two are the same
pub record Gathered (s : List ℕ) (at i k : ℕ) (names : List ℕ) (m : ℕ) (heads links : List ℕ) : Type 0 where
  pub few : m ≤ i
  pub place : k ≡ stepped s at i
  pub room : Laned 255 s names m heads links
  pub has : (w : Name) → named_from i s at w ≡ given (find_first s w names m)
  pub apart : Apart s at i

pub apart_none : (s : List ℕ) (at : ℕ) → Apart s at 0
apart_none s at = record { are = λ i w h. absurd (omega arith) }

apart_more : (s : List ℕ) (at i : ℕ) → Apart s at i → ((w : Name) → field_named s (stepped s at i) w ≡ true → named_from i s at w ≡ false) → Apart s at (i + 1)
apart_more s at i a f = record {
  are = λ j w h.
      by (ltb j i)
      (λ q. a.are j w (ltb-true j i q))
      (λ q. let l = ltb-false j i q in let e : j ≡ i = omega arith in rw e (f w));
}

pub gather_start : (s : List ℕ) (at : ℕ) {names heads links : List ℕ} → Laned 255 s names 0 heads links → Gathered s at 0 at names 0 heads links
unfolding stepped named_from find_first given
gather_start s at r = record { few = omega arith; place = refl; room = r; has = λ w. refl; apart = apart_none s at }

pub gather_more : (s : List ℕ) (at : ℕ) {i k : ℕ} {names : List ℕ} {m : ℕ} {heads links : List ℕ} {b : Bool} {r k' : ℕ} {names' heads' links' : List ℕ} → Gathered s at i k names m heads links → b ≡ named_among s k names m → b ≡ false → PutsName s k names m r names' heads' links' → k' ≡ after_item s k → Gathered s at (i + 1) k' names' r heads' links'
gather_more s at {i} {k} {names} {m} g e q p h = record {
  few = omega (arith, g.few, p.few);
  place = stepped_more s at i g.place h;
  room = p.room;
  has = λ w. named_more s w at i g.place ∙ rw (g.has w) (sym (p.has w));
  apart = apart_more s at i g.apart (λ w z. g.has w ∙ among_new s k names m w (sym e ∙ q) (rw g.place z));
}

-- those that are searched
pub search_none : (i apart : ℕ) → i < apart → 0 ≡ pick (ltb i apart) 0 i
unfolding pick
search_none i apart h = rw (lt-ltb i apart h)

pub search_all : (i apart : ℕ) → apart ≤ i → i ≡ pick (ltb i apart) 0 i
unfolding pick
search_all i apart h = rw (le-ltb i apart h)
