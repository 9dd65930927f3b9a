-- Tables of outputs: what a search on the roll of the groups finds, and on those of their variants, is the first of the name in the list.
use Rattle.std.specs.Prelude.{Option as Maybe, Some, None}
use Prim.Native.Nat.{ℕ, zero, suc, ◌+◌, ◌/◌, ◌%◌, ◌^◌, ◌<◌}
use mathlib.Core.Path.{◌≡◌, refl, sym, ap, subst, ◌∙◌}
use mathlib.Core.Bool.{Bool, true, false}
use mathlib.Core.List.{List, [], ◌∷◌}
use mathlib.Core.Option.{Option, none, some}
use native.Mathlib.Omega.{arith}
use lib.ListN.{length, get_or, get_elem?}
use Rattle.reading.specs.Read.{Reader, ok, pick}
use Rattle.reading.specs.Limits.{max_list}
use Rattle.reading.specs.Item.{read_count}
use Rattle.reading.specs.Text.{Name}
use Rattle.reading.specs.Combine.{entries, list_of}
use Rattle.reading.specs.Decl.{ConstructorVariant, ConstructorGroup, read_constructor_variant}
use Rattle.reading.specs.Skip.{text_at}
use Rattle.reading.proofs.Rules.{no}
use Rattle.reading.proofs.DeclLaws.{constructor_variant_laws}
use Rattle.reading.proofs.ListViews.{list_at}
use Rattle.typing.specs.Causes.{first_of}
use Rattle.typing.specs.Names.{eq_name, called, first_called}
use Rattle.typing.specs.Patterns.{declared_name}
use Rattle.typing.specs.Table.{after_item, after_head, Past, found}
use Rattle.typing.specs.Segments.{after_items}
use Rattle.typing.specs.First.{FoundAt, found_here, found_nothing, group_name, FirstVariant}
use Rattle.typing.specs.Rolls.{Bytes, name_at, item_in, Rolled, number_from, FindsOn, WithinTable, variants_in, roll_in, OutputsAt, FindsVariant}
use Rattle.typing.proofs.EnvLaws.{entry, after_is}
use Rattle.typing.proofs.FirstLaws.{variant_text}

-- an entry and its number, where the first has number i; or neither
pub data Numbered {A : Type 0} (xs : List A) (i : ℕ) : Option ℕ → Option A → Type 0 where
  number_none : Numbered xs i none none
  number_at : (k : ℕ) {j : ℕ} {x : A} → j ≡ i + k → get_elem? xs k ≡ some x → Numbered xs i (some j) (some x)

pub numbered_no : {A : Type 0} {xs : List A} {i : ℕ} {o : Option ℕ} {p : Option A} → Numbered xs i o p → found o ≡ None → p ≡ none
unfolding found
numbered_no number_none q = refl
numbered_no (number_at k e g) q = no (cc)

pub numbered_yes : {A : Type 0} {xs : List A} {o : Option ℕ} {p : Option A} {k : ℕ} → Numbered xs 0 o p → found o ≡ Some k → (x : A) × (get_elem? xs k ≡ some x) × (p ≡ some x)
unfolding found
numbered_yes number_none q = no (cc)
numbered_yes {xs = xs} {k = k} (number_at l {j} {x} e g) q =
    let h : j ≡ k = cc in
    let i : k ≡ l = omega arith in
    (x, ap (get_elem? xs) i ∙ g, refl)

numbered_pick : {A : Type 0} (y : A) (ys : List A) (i : ℕ) {o : Option ℕ} {p : Option A} (b : Bool) → Numbered ys (suc i) o p → Numbered (y ∷ ys) i (pick b (some i) o) (first_of (pick b (some y) none) p)
unfolding first_of pick
numbered_pick y ys i true h = number_at 0 {j = i} (omega arith) refl
numbered_pick y ys i false number_none = number_none
numbered_pick y ys i false (number_at k {j = j} e g) = number_at (suc k) {j = j} (omega arith) g

-- the number of the first item of a name is that of the first entry of the name
number_called : {A : Type 0} (name : A → Name) (tagged : Bool) (s : List ℕ) (w : Name) (xs : List A) (at i : ℕ) → ((k : ℕ) (x : A) → get_elem? xs k ≡ some x → text_at s (name_at tagged s (after_items k s at)) ≡ name x) → Numbered xs i (number_from (length xs) tagged s at w i) (first_called name w xs)
unfolding number_from first_called called after_items
number_called name tagged s w [] at i g = number_none
number_called name tagged s w (y ∷ ys) at i g = rw (g 0 y refl) (numbered_pick y ys i (eq_name (name y) w) (number_called name tagged s w ys (after_item s at) (suc i) (λ k x e. g (suc k) x e)))

pub get_less : {A : Type 0} (xs : List A) (i : ℕ) (x : A) → get_elem? xs i ≡ some x → i < length xs
get_less [] i x e = no (cc)
get_less (y ∷ ys) zero x e = omega arith
get_less (y ∷ ys) (suc i) x e = let h = get_less ys i x e in omega arith

-- where an entry reads
module _ {A : Type 0} (F : Reader A) (s : List ℕ) (ends : (k : ℕ) (x : A) (n : ℕ) → F s k ≡ ok x n → after_item s k ≡ n) where
  pub entry_at : (xs : List A) (k n : ℕ) → entries (length xs) F s k ≡ ok xs n → (i : ℕ) (x : A) → get_elem? xs i ≡ some x → (m : ℕ) × (F s (after_items i s k) ≡ ok x m)
  unfolding after_items
  entry_at [] k n e i x q = no (cc)
  entry_at (y ∷ ys) k n e zero x q = let u = entry F s k y ys n e in let z : y ≡ x = cc in (u.end, u.here ∙ ap (λ (a : A). ok a u.end) z)
  entry_at (y ∷ ys) k n e (suc i) x q = let u = entry F s k y ys n e in rw (ends k y u.end u.here) (entry_at ys u.end n u.rest i x q)

-- the number of an item stands for a word of the table
pub within_at : (T : List ℕ) (q : ℕ) {i : ℕ} {f : Maybe ℕ} → f ≡ Some i → WithinTable T q f → q + 1 + i < length T
unfolding WithinTable
within_at T q e h = subst (WithinTable T q) e h

-- the place of a group's variants
pub variants_at : (s T : List ℕ) (k : ℕ) {x name r : ℕ} → x ≡ get_or T (1 + k) 0 → name ≡ after_head s x → Past s name r → r ≡ variants_in s T k
variants_at s T k a b p = p.is ∙ ap (after_item s) (b ∙ ap (after_head s) a)

-- on the roll of the groups
pub group_number : (s T : List ℕ) (w : Name) (gs : List ConstructorGroup) {f : Maybe ℕ} → FindsOn false s w T 0 f → OutputsAt s T gs → (o : Option ℕ) × (f ≡ found o) × Numbered gs 0 o (first_called group_name w gs)
unfolding name_at pick
group_number s T w gs h g =
    let r = g.groups in
    (_, h.of g.first (length gs) r, number_called group_name false s w gs g.first 0 (λ k x e. rw (sym (r.item k (get_less gs k x e))) (g.name_is k x e)))

-- on the roll of a list of variants
module _ (s T : List ℕ) (w : Name) (B : Bytes s) (at : ℕ) (vs : List ConstructorVariant) {q m n from : ℕ} (l : list_of max_list read_constructor_variant s at ≡ ok vs m) (c : read_count max_list s at ≡ ok n from) (r : Rolled true s T q from n) {f : Maybe ℕ} (h : FindsOn true s w T q f) where
  variant_at : (i : ℕ) (x : ConstructorVariant) → get_elem? vs i ≡ some x → (m : ℕ) × (read_constructor_variant s (after_items i s from) ≡ ok x m)
  variant_at i x e =
      let u = list_at read_constructor_variant s max_list at vs m l in
      let o = u.opens in
      let a : u.first ≡ from = cc in
      rw a at (entry_at read_constructor_variant s (after_is constructor_variant_laws s B) vs u.first m u.entries_are i x e)

  many_are : n ≡ length vs
  many_are = let o = (list_at read_constructor_variant s max_list at vs m l).opens in cc

  numbered : Numbered vs 0 (number_from n true s from w 0) (first_called declared_name w vs)
  unfolding name_at pick
  numbered = rw many_are (number_called declared_name true s w vs from 0 (λ i x e. let v = variant_at i x e in variant_text s (after_items i s from) x v.0 v.1))

  on_roll_no : f ≡ None → FoundAt read_constructor_variant s None (first_called declared_name w vs)
  on_roll_no z = subst (FoundAt read_constructor_variant s None) (sym (numbered_no numbered (sym (h.of from n r) ∙ z))) found_nothing

  on_roll_yes : {i : ℕ} → f ≡ Some i → FoundAt read_constructor_variant s (Some (item_in T q i)) (first_called declared_name w vs)
  on_roll_yes {i} z =
      let x = numbered_yes numbered (sym (h.of from n r) ∙ z) in
      let v = variant_at i x.0 x.1 in
      rw (x.2, r.item i (subst (λ (k : ℕ). i < k) (sym many_are) (get_less vs i x.0 x.1))) (found_here v.1)

-- the first variant of a name in group k: in the document, or on the roll that is put aside for the group
module _ (s T : List ℕ) (k variants : ℕ) (w : Name) where
  pub find_listed : {f : Maybe ℕ} → FirstVariant s variants w f → FindsVariant s T k variants w f
  find_listed h = record { of = λ B gs g u e v. let l = u.variants_are k g e in h.of g.variants l.0 (rw v l.1) }

  module _ {o x : ℕ} (a : o ≡ get_or T 0 0) (b : x ≡ get_or T (1 + o % 2 ^ 8 + k) 0) (z : x / 2 ^ 48 ≡ 0 → ⊥) {f : Maybe ℕ} (h : FindsOn true s w T (x / 2 ^ 48) f) where
    aside : x / 2 ^ 48 ≡ roll_in T k
    aside = rw (sym a) (ap (λ (y : ℕ). y / 2 ^ 48) b)

    pub find_not : f ≡ None → FindsVariant s T k variants w None
    find_not i = record {
      of = λ B gs g u e v.
          let l = u.variants_are k g e in
          let r = u.rolls k g e (rw (sym aside) (omega arith)) in
          on_roll_no s T w B (variants_in s T k) g.variants l.1 r.2 r.3 (rw aside at h) i;
    }

    pub find_there : {i y : ℕ} → f ≡ Some i → y ≡ get_or T (x / 2 ^ 48 + 1 + i) 0 → FindsVariant s T k variants w (Some y)
    find_there {i} {y} j p = record {
      of = λ B gs g u e v.
          let l = u.variants_are k g e in
          let r = u.rolls k g e (rw (sym aside) (omega arith)) in
          rw (p, aside) (on_roll_yes s T w B (variants_in s T k) g.variants l.1 r.2 r.3 (rw aside at h) j);
    }
