-- A loop that notes something of each entry of a list: what is noted, and what is still to be noted, make the whole.
use Prim.Native.Nat.{ℕ, zero, suc, ◌+◌, ◌<◌, ◌≤◌}
use mathlib.Core.Path.{◌≡◌, refl, sym, ap, subst, ◌∙◌}
use mathlib.Core.List.{List, [], ◌∷◌, ◌++◌, append_assoc, append-nil}
use mathlib.Core.Option.{some}
use native.Mathlib.Omega.{arith}
use native.Mathlib.Numerals.{add-one}
use lib.ListN.{length, drop, get_elem?, drop_of_length-le}
use Rattle.reading.specs.Read.{Reader, ok}
use Rattle.reading.specs.Item.{read_count}
use Rattle.reading.specs.Combine.{list_of}
use Rattle.reading.specs.Views.{Rest}
use Rattle.reading.specs.Link.{answer}
use Rattle.reading.specs.declared.cursor.Cursor.{Cursor}
use Rattle.reading.proofs.Rules.{no}
use Rattle.reading.proofs.Answers.{got, out}
use Rattle.reading.proofs.ItemLaws.{count_kind}
use Rattle.reading.proofs.ListViews.{list_at, rest_all, turn}
use Rattle.std.specs.Prelude.{Result, Ok, Err}
use Rattle.reading.specs.declared.fault.Refusal.{Refusal}
pub use Rattle.typing.proofs.GroupLaws.{get_some, drop_get}
use Rattle.findings.specs.Lists.{Placed, placed, each}
use Rattle.findings.specs.Finding.{Note}
use Rattle.findings.specs.Noting.{Noted}
use Rattle.findings.specs.Scene.{Reads}
use Rattle.findings.specs.Promises.{at_place}
use Rattle.findings.proofs.NoteLaws.{note_nothing, note_then, note_as}

-- of all notes, rest is still to be made
pub record Left (owner : ℕ) (o : List ℕ) (skip n : ℕ) (all : List Note) (r : ℕ) (o' : List ℕ) (rest : List Note) : Type 0 where
  pub made : List Note
  pub split : all ≡ made ++ rest
  pub noted : Noted owner o skip n made r o'

module _ (owner : ℕ) (o : List ℕ) (skip n : ℕ) (all : List Note) where
  pub left_all : Left owner o skip n all n o all
  left_all = record { made = []; split = refl; noted = note_nothing owner o skip n }

  module _ {r : ℕ} {o' : List ℕ} {rest : List Note} (l : Left owner o skip n all r o' rest) where
    pub left_more : {r' : ℕ} {o'' : List ℕ} (xs : List Note) {rest' : List Note} → rest ≡ xs ++ rest' → Noted owner o' skip r xs r' o'' → Left owner o skip n all r' o'' rest'
    left_more xs {rest'} e p = record {
      made = l.made ++ xs;
      split = l.split ∙ ap (λ (x : List Note). l.made ++ x) e ∙ sym (append_assoc l.made xs rest');
      noted = note_then owner l.noted p;
    }

    pub left_none : rest ≡ [] → Noted owner o skip n all r o'
    left_none e = note_as owner all (sym (l.split ∙ ap (λ (x : List Note). l.made ++ x) e ∙ append-nil l.made)) l.noted

pub get_below : {A : Type 0} (xs : List A) (i : ℕ) (x : A) → get_elem? xs i ≡ some x → i < length xs
get_below [] i x e = no (cc)
get_below (y ∷ xs) zero x e = omega arith
get_below (y ∷ xs) (suc i) x e = let h = get_below xs i x e in omega arith

-- what is given of the entries from number i on
module _ {A B : Type 0} (f : Placed A → List B) where
  abbrev pub each_from : ℕ → List A → List B
  each_from i xs = each f (placed i (drop i xs))

  pub each_here : (i : ℕ) (x : A) (xs ys : List A) → ys ≡ x ∷ xs → each f (placed i ys) ≡ f (at_place i x) ++ each f (placed (i + 1) xs)
  each_here i x xs ys e = rw (e, add-one)

module _ {A : Type 0} (f : Placed A → List Note) where
  -- the entry by its number
  pub each_turn : (i : ℕ) (xs : List A) (x : A) {owner : ℕ} {o : List ℕ} {skip n : ℕ} {all : List Note} {r r' : ℕ} {o' o'' : List ℕ} → get_elem? xs i ≡ some x → Left owner o skip n all r o' (each_from f i xs) → Noted owner o' skip r (f (at_place i x)) r' o'' → Left owner o skip n all r' o'' (each_from f (i + 1) xs)
  each_turn i xs x {owner} {o} {skip} {n} {all} e l p = left_more owner o skip n all l (f (at_place i x)) (each_here f i x (drop (i + 1) xs) (drop i xs) (drop_get xs i x e)) p

  pub each_done : (i : ℕ) (xs : List A) {owner : ℕ} {o : List ℕ} {skip n : ℕ} {all : List Note} {r : ℕ} {o' : List ℕ} → length xs ≤ i → Left owner o skip n all r o' (each_from f i xs) → Noted owner o skip n all r o'
  each_done i xs {owner} {o} {skip} {n} {all} h l = left_none owner o skip n all l (ap (λ (ys : List A). each f (placed i ys)) (drop_of_length-le xs h))

-- a list has no more entries than are allowed
pub walk_few : (s : List ℕ) (limit at : ℕ) {a : Result (ℕ × Cursor) Refusal} {count : ℕ} {c : Cursor} → a ≡ answer (read_count limit s at) → a ≡ Ok (count, c) → count ≤ limit
walk_few s limit at {count = count} {c = c} e q = (count_kind s at limit count c.at (got _ e q)).1

-- a list that reads at a place, entry by entry: the next entry, number i, stands at k. What is noted of an entry may depend on
-- what else is known, h.
module _ {A H : Type 0} (F : Reader A) (f : H → Placed A → List Note) (s : List ℕ) (limit at owner : ℕ) (o : List ℕ) (skip n : ℕ) where
  pub record Walked (h : H) (xs : List A) (count k i r : ℕ) (o' : List ℕ) : Type 0 where
    pub end : ℕ
    pub as_many : count ≡ length xs
    pub rest : Rest F s k i xs end
    pub left : Left owner o skip n (each (f h) (placed 0 xs)) r o' (each_from (f h) i xs)

  pub record Walking (count k i r : ℕ) (o' : List ℕ) : Type 0 where
    pub of : (h : H) (xs : List A) → Reads (list_of limit F) s at xs → Walked h xs count k i r o'

  module _ {a : Result (ℕ × Cursor) Refusal} (e : a ≡ answer (read_count limit s at)) where
    pub walk_start : {count : ℕ} {c : Cursor} → a ≡ Ok (count, c) → Walking count c.at 0 n o
    walk_start {count} {c} q = record {
      of = λ h xs g.
          let l = list_at F s limit at xs g.end g.is in
          let x = got _ e q in
          let y = l.opens in
          let u : count ≡ length xs = cc in
          let v : l.first ≡ c.at = cc in
          record {
            end = g.end;
            as_many = u;
            rest = subst (λ (k : ℕ). Rest F s k 0 xs g.end) v (rest_all F s l);
            left = left_all owner o skip n (each (f h) (placed 0 xs));
          };
    }

    -- no list reads where its head is refused
    pub walk_refused : {t : Refusal} {P : Type 0} → a ≡ Err t → (xs : List A) → Reads (list_of limit F) s at xs → P
    walk_refused q xs g = let l = list_at F s limit at xs g.end g.is in no (let x = out _ e q in let y = l.opens in cc)

  module _ {count k i r : ℕ} {o' : List ℕ} (w : Walking count k i r o') where
    pub walk_more : {k' r' : ℕ} {o'' : List ℕ} → i < count → ((h : H) (x : A) → Reads F s k x → Noted owner o' skip r (f h (at_place i x)) r' o'') → ((x : A) (e : ℕ) → F s k ≡ ok x e → k' ≡ e) → Walking count k' (i + 1) r' o''
    walk_more {k'} b p t = record {
      of = λ h xs g.
          let v = w.of h xs g in
          let m = v.as_many in
          let u = turn F s (omega arith) v.rest in
          record {
            end = v.end;
            as_many = v.as_many;
            rest = subst (λ (j : ℕ). Rest F s j (i + 1) xs v.end) (sym (t u.entry u.end u.here)) u.next;
            left = left_more owner o skip n (each (f h) (placed 0 xs)) v.left (f h (at_place i u.entry)) (each_here (f h) i u.entry (drop (i + 1) xs) (drop i xs) u.split) (p h u.entry (record { end = u.end; is = u.here }));
          };
    }

    pub walk_done : count ≤ i → (h : H) (xs : List A) → Reads (list_of limit F) s at xs → Noted owner o skip n (each (f h) (placed 0 xs)) r o'
    walk_done b h xs g =
        let v = w.of h xs g in
        let m = v.as_many in
        each_done (f h) i xs (omega arith) v.left

-- a list whose entries are reached by number: of what is known, h, the list is xs h
module _ {A H : Type 0} (xs : H → List A) (f : H → Placed A → List Note) (owner : ℕ) (o : List ℕ) (skip n : ℕ) where
  pub record Counting (i r : ℕ) (o' : List ℕ) : Type 0 where
    pub of : (h : H) → Left owner o skip n (each (f h) (placed 0 (xs h))) r o' (each_from (f h) i (xs h))

  pub count_start : Counting 0 n o
  count_start = record { of = λ h. left_all owner o skip n (each (f h) (placed 0 (xs h))) }

  module _ {i r : ℕ} {o' : List ℕ} (w : Counting i r o') where
    pub count_more : {r' : ℕ} {o'' : List ℕ} → ((h : H) → i < length (xs h)) → ((h : H) (x : A) → get_elem? (xs h) i ≡ some x → Noted owner o' skip r (f h (at_place i x)) r' o'') → Counting (i + 1) r' o''
    count_more b p = record { of = λ h. let g = get_some (xs h) i (b h) in each_turn (f h) i (xs h) g.0 g.1 (w.of h) (p h g.0 g.1) }

    pub count_done : (h : H) → length (xs h) ≤ i → Noted owner o skip n (each (f h) (placed 0 (xs h))) r o'
    count_done h b = each_done (f h) i (xs h) b (w.of h)
