-- Items one after the other, by where they end: each law is a step of the code, which goes on from a cursor or hands a refusal on.
use Prim.Native.Nat.{ℕ, zero, suc, ◌+◌, ◌-◌, ◌<◌, ◌≤◌}
use mathlib.Core.Path.{◌≡◌, refl, sym, ap, ◌∙◌}
use mathlib.Core.List.{List, ◌∷◌}
use mathlib.Core.Bool.{Bool, true, false}
use mathlib.Core.Option.{some, none}
use native.Mathlib.Omega.{arith}
use lib.Dec.{eqb}
use lib.ListN.{get_or-eq_default}
use borrow.Author.Tests.{ne_eqb}
use Rattle.std.specs.Prelude.{Option, Some, None, Result, Ok, Err, length, get_or}
use Rattle.reading.specs.Read.{Read, Reader, ok, refused, pick, bind, map_r}
use Rattle.reading.specs.Item.{read_fields, read_count, read_tag}
use Rattle.reading.specs.Combine.{◌then◌, record_of, entries, list_of, optional, Cases, sized, enum_of}
use Rattle.reading.specs.Link.{answer, stands, and_then, Ends, entries_end, list_from, list_ends, past_null, optional_from, optional_ends, one_ends}
use Rattle.reading.specs.declared.fault.Fault.TheVariants.{Unexpected}
use Rattle.reading.specs.declared.fault.Refusal.{Refusal}
use Rattle.reading.specs.declared.cursor.Cursor.{Cursor}
use Rattle.reading.specs.declared.item.Tag.{Tag}
use Rattle.reading.proofs.Rules.{no, pick_true, pick_false}
use Rattle.reading.proofs.Answers.{got, out, stood, stood_out}

-- what was handed on
pub on_error : {A : Type 0} {r y x : A} → y ≡ x → r ≡ y → r ≡ x
on_error e q = q ∙ e

-- null, by the byte that stands there
module _ (s : List ℕ) (at : ℕ) where
  pub null_here : get_or s at 0 ≡ 246 → Some (record { at = at + 1 }) ≡ past_null s at
  unfolding past_null
  null_here h = rw (h, pick_true)

  pub null_elsewhere : (get_or s at 0 ≡ 246 → ⊥) → None ≡ past_null s at
  unfolding past_null
  null_elsewhere h = rw (ne_eqb (get_or s at 0) 246 h, pick_false)

  pub null_beyond : length s ≤ at → None ≡ past_null s at
  null_beyond h = null_elsewhere (λ q. let z : get_or s at 0 ≡ 0 = get_or-eq_default s 0 h in omega arith)

-- on from a cursor, from a list's count, and after null
module _ {r m : Result Cursor Refusal} (k : Cursor → Result Cursor Refusal) (e : r ≡ m) where
  pub onward_out : {w : Refusal} → r ≡ Err w → Err w ≡ and_then m k
  unfolding and_then
  onward_out q = let h = sym e ∙ q in rw h

  pub onward_on : {c : Cursor} {x : Result Cursor Refusal} → r ≡ Ok c → x ≡ k c → x ≡ and_then m k
  unfolding and_then
  onward_on q h = let g = sym e ∙ q in h ∙ rw g

-- a list: what is due of its entries from here decides what is answered, x
module _ (e : Ends) (s : List ℕ) where
  module _ (n i : ℕ) {c : Cursor} {x : Result Cursor Refusal} (decides : entries_end (n - i) e s c.at ≡ x) where
    module _ (more : i < n) {r : Result Cursor Refusal} (q : r ≡ e s c.at) where
      entry : and_then r (λ d. entries_end (n - (i + 1)) e s d.at) ≡ x
      unfolding entries_end
      entry =
          let k : suc (n - (i + 1)) ≡ n - i = omega arith in
          ap (λ (z : Result Cursor Refusal). and_then z (λ d. entries_end (n - (i + 1)) e s d.at)) q ∙ ap (λ (z : ℕ). entries_end z e s c.at) k ∙ decides

      pub entry_read : {d : Cursor} → r ≡ Ok d → entries_end (n - (i + 1)) e s d.at ≡ x
      unfolding and_then
      entry_read h = sym (rw h) ∙ entry

      pub entry_out : {w : Refusal} → r ≡ Err w → Err w ≡ x
      unfolding and_then
      entry_out h = sym (rw h) ∙ entry

    pub entries_done : n ≤ i → Ok c ≡ x
    unfolding entries_end
    entries_done h = let k : 0 ≡ n - i = omega arith in ap (λ (z : ℕ). entries_end z e s c.at) k ∙ decides

  module _ {r m : Result (ℕ × Cursor) Refusal} (q : r ≡ m) where
    pub list_out : {w : Refusal} → r ≡ Err w → Err w ≡ list_from m e s
    unfolding list_from
    list_out h = let g = sym q ∙ h in rw g

    pub list_on : {n : ℕ} {c : Cursor} {x : Result Cursor Refusal} → r ≡ Ok (n, c) → entries_end n e s c.at ≡ x → x ≡ list_from m e s
    unfolding list_from
    list_on h k = let g = sym q ∙ h in sym k ∙ rw g

module _ {o p : Option Cursor} (e : o ≡ p) where
  pub optional_null : (y : Result Cursor Refusal) {c : Cursor} → o ≡ Some c → Ok c ≡ optional_from p y
  unfolding optional_from
  optional_null y q = let g = sym e ∙ q in rw g

  pub optional_some : {x y : Result Cursor Refusal} → o ≡ None → x ≡ y → x ≡ optional_from p y
  unfolding optional_from
  optional_some q h = let g = sym e ∙ q in h ∙ rw g

-- what is made of the content changes nothing
pub stands_map : {A B : Type 0} (make : A → B) (m : Read A) → stands (map_r make m) ≡ stands m
unfolding stands map_r
stands_map make (ok a n) = refl
stands_map make (refused f p) = refl

-- what follows, where the content read first doesn't decide what
module _ {A B : Type 0} (m : Read A) (k : A → ℕ → Read B) {r : Result Cursor Refusal} (e : r ≡ stands m) where
  bound_out : {w : Refusal} → r ≡ Err w → Err w ≡ stands (bind m k)
  unfolding bind stands
  bound_out q = let h = stood_out m e q in sym (ap (λ (z : Read A). stands (bind z k)) h)

  bound_on : {c : Cursor} {x : Result Cursor Refusal} → r ≡ Ok c → ((a : A) → x ≡ stands (k a c.at)) → x ≡ stands (bind m k)
  unfolding bind
  bound_on q h = let p = stood m e q in h p.0 ∙ sym (ap (λ (z : Read A). stands (bind z k)) p.1)

-- a number or a bool alone
module _ {A : Type 0} (m : Read A) {r : Result (A × Cursor) Refusal} (e : r ≡ answer m) where
  pub past_out : {w : Refusal} → r ≡ Err w → Err w ≡ stands m
  unfolding stands
  past_out q = sym (ap stands (out m e q))

  pub past_on : {a : A} {c : Cursor} → r ≡ Ok (a, c) → Ok c ≡ stands m
  unfolding stands
  past_on q = sym (ap stands (got m e q))

module _ {A B : Type 0} (s : List ℕ) (at : ℕ) {r : Result Cursor Refusal} where
  -- two items
  module _ (F : Reader A) (G : Reader B) (e : r ≡ stands (F s at)) where
    pub then_out : {w : Refusal} → r ≡ Err w → Err w ≡ stands ((F then G) s at)
    unfolding ◌then◌
    then_out q = bound_out (F s at) _ e q

    pub then_on : {c : Cursor} {x : Result Cursor Refusal} → r ≡ Ok c → x ≡ stands (G s c.at) → x ≡ stands ((F then G) s at)
    unfolding ◌then◌
    then_on q h = bound_on (F s at) _ e q λ a. h ∙ sym (stands_map _ (G s _))

  -- a record
  module _ (k : ℕ) (F : Reader A) (make : A → B) (e : r ≡ stands (read_fields k s at)) where
    pub record_out : {w : Refusal} → r ≡ Err w → Err w ≡ stands (record_of k F make s at)
    unfolding record_of
    record_out q = bound_out (read_fields k s at) _ e q

    pub record_on : {c : Cursor} {x : Result Cursor Refusal} → r ≡ Ok c → x ≡ stands (F s c.at) → x ≡ stands (record_of k F make s at)
    unfolding record_of
    record_on q h = bound_on (read_fields k s at) _ e q λ a. h ∙ sym (stands_map _ (F s _))

-- a data enum: its head, then the fields of its case
module _ {A : Type 0} (s : List ℕ) (at : ℕ) (cases : Cases A) {r : Result (Tag × Cursor) Refusal} (e : r ≡ answer (read_tag s at)) where
  pub enum_out : {w : Refusal} → r ≡ Err w → Err w ≡ stands (enum_of cases s at)
  unfolding enum_of bind stands
  enum_out q = sym (ap (λ (z : Read Tag). stands (bind z λ t n. cases s t n)) (out _ e q))

  pub enum_on : {t : Tag} {c : Cursor} {x : Result Cursor Refusal} → r ≡ Ok (t, c) → x ≡ stands (cases s t c.at) → x ≡ stands (enum_of cases s at)
  unfolding enum_of bind
  enum_on q h = h ∙ sym (ap (λ (z : Read Tag). stands (bind z λ t n. cases s t n)) (got _ e q))

-- a case's fields after its number: the array has as many items as are due
module _ {A : Type 0} (s : List ℕ) (t : Tag) (due n : ℕ) (F : Reader A) {r : Result Cursor Refusal} (e : r ≡ stands (sized t due (ok (tt {0}) n))) where
  pub sized_out : {w : Refusal} → r ≡ Err w → Err w ≡ stands (sized t due (F s n))
  unfolding sized pick stands
  sized_out {w} q = by_count (eqb t.count due) (sym q ∙ e)
    where
      by_count : (b : Bool) → Err w ≡ stands (pick b (ok (tt {0}) n) (refused Unexpected t.start)) → Err w ≡ stands (pick b (F s n) (refused Unexpected t.start))
      by_count true h = no (cc)
      by_count false h = h

  pub sized_on : {c : Cursor} {x : Result Cursor Refusal} → r ≡ Ok c → x ≡ stands (F s c.at) → x ≡ stands (sized t due (F s n))
  unfolding sized pick stands
  sized_on {c} {x} q f = by_count (eqb t.count due) (sym q ∙ e)
    where
      by_count : (b : Bool) → Ok c ≡ stands (pick b (ok (tt {0}) n) (refused Unexpected t.start)) → x ≡ stands (pick b (F s n) (refused Unexpected t.start))
      by_count true h = let k : c ≡ record { at = n } = cc in f ∙ ap (λ (z : Cursor). stands (F s z.at)) k
      by_count false h = no (cc)

-- lists, and what may be null, by where their items end
module _ {A : Type 0} (F : Reader A) where
  abbrev ends : Ends
  ends s at = stands (F s at)

  entry_on : (k : ℕ) (s : List ℕ) (m : Read A) → ((n : ℕ) → entries_end k ends s n ≡ stands (entries k F s n)) → and_then (stands m) (λ c. entries_end k ends s c.at) ≡ stands (bind m λ a n. map_r (λ l. a ∷ l) (entries k F s n))
  unfolding stands and_then bind
  entry_on k s (ok a n) h = h n ∙ sym (stands_map _ (entries k F s n))
  entry_on k s (refused f p) h = refl

  entries_stand : (k : ℕ) (s : List ℕ) (at : ℕ) → entries_end k ends s at ≡ stands (entries k F s at)
  unfolding entries_end entries stands
  entries_stand zero s at = refl
  entries_stand (suc k) s at = entry_on k s (F s at) (entries_stand k s)

  pub list_stands : (limit : ℕ) (s : List ℕ) (at : ℕ) {r : Result Cursor Refusal} → r ≡ list_ends limit ends s at → r ≡ stands (list_of limit F s at)
  unfolding list_ends list_of answer list_from bind stands
  list_stands limit s at e = e ∙ by_count (read_count limit s at)
    where
      by_count : (m : Read ℕ) → list_from (answer m) ends s ≡ stands (bind m λ count n. entries count F s n)
      by_count (ok k n) = entries_stand k s n
      by_count (refused f p) = refl

  pub optional_stands : (s : List ℕ) (at : ℕ) {r : Result Cursor Refusal} → r ≡ optional_ends ends s at → r ≡ stands (optional F s at)
  unfolding optional_ends optional past_null optional_from pick stands
  optional_stands s at e = e ∙ by_null (eqb (get_or s at 0) 246)
    where
      by_null : (b : Bool) → optional_from (pick b (Some (record { at = at + 1 })) None) (stands (F s at)) ≡ stands (pick b (ok none (at + 1)) (map_r some (F s at)))
      by_null true = refl
      by_null false = sym (stands_map some (F s at))

  pub one_stands : (t : Tag) (s : List ℕ) (at : ℕ) {r : Result Cursor Refusal} → r ≡ one_ends ends t s at → r ≡ stands (sized t 2 (F s at))
  unfolding one_ends sized pick stands and_then
  one_stands t s at e = e ∙ by_count (eqb t.count 2)
    where
      by_count : (b : Bool) → and_then (stands (pick b (ok (tt {0}) at) (refused Unexpected t.start))) (λ c. stands (F s c.at)) ≡ stands (pick b (F s at) (refused Unexpected t.start))
      by_count true = refl
      by_count false = refl
