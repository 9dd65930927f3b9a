-- Tables of groups: what the table of a list of groups holds, and the search for the first of a name.
use Rattle.std.specs.Prelude.{Option as Maybe, Some, None}
use Prim.Native.Nat.{ℕ, zero, suc, ◌+◌, ◌*◌, ◌/◌, ◌<◌, ◌≤◌}
use mathlib.Core.Path.{◌≡◌, refl, sym, ap, subst, ◌∙◌}
use mathlib.Core.Bool.{Bool, true, false}
use mathlib.Core.List.{List, [], ◌∷◌}
use mathlib.Core.Option.{Option, none, some}
use native.Mathlib.Omega.{arith}
use lib.ListN.{length, get_or, get_elem?, drop, drop_of_length-le}
use Rattle.reading.specs.Read.{ok, pick}
use Rattle.reading.specs.Limits.{max_list}
use Rattle.reading.specs.Text.{Name}
use Rattle.reading.specs.Combine.{entries, list_of}
use Rattle.reading.specs.Decl.{ConstructorGroup, read_constructor_variant, read_constructor_group}
use Rattle.reading.specs.Skip.{text_at}
use Rattle.reading.proofs.Rules.{no}
use Rattle.reading.proofs.HeadSound.{Bytes}
use Rattle.reading.proofs.ExprLaws.{name_laws}
use Rattle.reading.proofs.DeclLaws.{constructor_group_laws}
use Rattle.reading.proofs.Views.{constructor_group_at}
use Rattle.reading.proofs.ListViews.{list_at}
use Rattle.reading.proofs.Walks.{name_text}
use Rattle.typing.specs.Causes.{first_of}
use Rattle.typing.specs.Names.{eq_name, called, first_called}
use Rattle.typing.specs.Table.{after_item, after_head, pairs_from, pairs_of, pairs_at}
use Rattle.typing.specs.First.{group_name, GroupsAt, GroupFound, group_here, group_nothing, FirstVariants}
use Rattle.typing.proofs.TableLaws.{pairs_length}
use Rattle.typing.proofs.EnvLaws.{entry, after_is, fields_head}

pub get_some : {A : Type 0} (xs : List A) (i : ℕ) → i < length xs → (x : A) × (get_elem? xs i ≡ some x)
get_some [] i h = absurd (omega arith)
get_some (y ∷ xs) zero h = (y, refl)
get_some (y ∷ xs) (suc i) h = get_some xs i (omega arith)

-- the entries from number i on are the entry at i and those after it
pub drop_get : {A : Type 0} (xs : List A) (i : ℕ) (x : A) → get_elem? xs i ≡ some x → drop i xs ≡ x ∷ drop (i + 1) xs
drop_get [] i x e = no (cc)
drop_get {A} (y ∷ xs) zero x e = let q : y ≡ x = cc in ap (λ (z : A). z ∷ xs) q
drop_get (y ∷ xs) (suc i) x e = let q : suc (i + 1) ≡ suc i + 1 = omega arith in drop_get xs i x e ∙ ap (λ (n : ℕ). x ∷ drop n (y ∷ xs)) q

-- what was found, from what the code learnt of it
module _ {s : List ℕ} where
  pub group_no : {f : Maybe ℕ} {o : Option ConstructorGroup} → GroupFound s f o → f ≡ None → o ≡ none
  group_no group_nothing q = refl
  group_no (group_here e) q = no (cc)

  pub group_yes : {f : Maybe ℕ} {o : Option ConstructorGroup} {k : ℕ} → GroupFound s f o → f ≡ Some k → (g : ConstructorGroup) × (n : ℕ) × (list_of max_list read_constructor_variant s k ≡ ok g.variants n) × (o ≡ some g)
  group_yes group_nothing q = no (cc)
  group_yes {k = k} (group_here {k = j} e) q = let i : j ≡ k = cc in (_, _, ap (list_of max_list read_constructor_variant s) (sym i) ∙ e, refl)

-- the first group of a name, from number k on
module _ (s groups : List ℕ) (w : Name) where
  pub record GroupsLeft (k : ℕ) : Type 0 where
    pub of : (gs : List ConstructorGroup) → GroupsAt s groups gs → first_called group_name w (drop k gs) ≡ first_called group_name w gs

  pub groups_start : GroupsLeft 0
  groups_start = record { of = λ gs g. refl }

  module _ (k : ℕ) (l : GroupsLeft k) {count : ℕ} (c : count ≡ length groups / 2) where
    pub groups_done : count ≤ k → FirstVariants s groups w None
    unfolding first_called
    groups_done h = record {
      of = λ gs g.
          let m = g.room in
          subst (GroupFound s None) (ap (first_called group_name w) (sym (drop_of_length-le gs {i = k} (omega arith))) ∙ l.of gs g) group_nothing;
    }

    module _ {text : Name} {b : Bool} (h : k < count) (t : text ≡ text_at s (get_or groups (2 * k) 0)) (q : b ≡ eq_name text w) where
      here : (gs : List ConstructorGroup) (g : GroupsAt s groups gs) (x : ConstructorGroup) → get_elem? gs k ≡ some x → first_called group_name w gs ≡ first_of (pick b (some x) none) (first_called group_name w (drop (k + 1) gs))
      unfolding first_called called
      here gs g x e =
          sym (l.of gs g)
          ∙ ap (first_called group_name w) (drop_get gs k x e)
          ∙ ap (λ (y : Bool). first_of (pick y (some x) none) (first_called group_name w (drop (k + 1) gs))) (sym (q ∙ ap (λ (y : Name). eq_name y w) (t ∙ g.name_is k x e)))

      pub groups_hit : b ≡ true → FirstVariants s groups w (Some (get_or groups (2 * k + 1) 0))
      unfolding first_of pick
      groups_hit z = record {
        of = λ gs g.
            let m = g.room in
            let x = get_some gs k (omega arith) in
            subst (GroupFound s (Some (get_or groups (2 * k + 1) 0))) (sym (here gs g x.0 x.1 ∙ ap (λ (y : Bool). first_of (pick y (some x.0) none) (first_called group_name w (drop (k + 1) gs))) z)) (group_here (g.variants_are k x.0 x.1).1);
      }

      pub groups_miss : b ≡ false → GroupsLeft (k + 1)
      unfolding first_of pick
      groups_miss z = record {
        of = λ gs g.
            let m = g.room in
            let x = get_some gs k (omega arith) in
            sym (here gs g x.0 x.1 ∙ ap (λ (y : Bool). first_of (pick y (some x.0) none) (first_called group_name w (drop (k + 1) gs))) z);
      }

-- the parts of a group: its name stands after its head, and its variants after that
module _ (s : List ℕ) (B : Bytes s) where
  pub group_parts : (k : ℕ) (x : ConstructorGroup) (n : ℕ) → read_constructor_group s k ≡ ok x n → (text_at s (after_head s k) ≡ x.name) × (list_of max_list read_constructor_variant s (after_item s (after_head s k)) ≡ ok x.variants n)
  group_parts k x n e =
      let v = constructor_group_at s k x n e in
      let h : after_head s k ≡ v.name = fields_head 2 s k tt v.name v.opens in
      let j : after_item s (after_head s k) ≡ v.variants = ap (after_item s) h ∙ after_is name_laws s B v.name x.name v.variants v.name_is in
      (ap (text_at s) h ∙ name_text s v.name x.name v.variants v.name_is, ap (list_of max_list read_constructor_variant s) j ∙ v.variants_is)

  -- the table of a list of groups
  group_pair : (gs : List ConstructorGroup) (k n : ℕ) → entries (length gs) read_constructor_group s k ≡ ok gs n → (i : ℕ) (x : ConstructorGroup) → get_elem? gs i ≡ some x → (text_at s (get_or (pairs_from (length gs) s k) (2 * i) 0) ≡ x.name) × (m : ℕ) × (list_of max_list read_constructor_variant s (get_or (pairs_from (length gs) s k) (2 * i + 1) 0) ≡ ok x.variants m)
  unfolding pairs_from
  group_pair [] k n e i x q = no (cc)
  group_pair (y ∷ gs) k n e zero x q =
      let u = entry read_constructor_group s k y gs n e in
      let v = group_parts k y u.end u.here in
      let z : y ≡ x = cc in (v.0 ∙ ap group_name z, u.end, v.1 ∙ ap (λ (w : ConstructorGroup). ok w.variants u.end) z)
  group_pair (y ∷ gs) k n e (suc i) x q =
      let u = entry read_constructor_group s k y gs n e in
      let a : 2 * suc i ≡ suc (suc (2 * i)) = omega arith in
      let b : 2 * suc i + 1 ≡ suc (suc (2 * i + 1)) = omega arith in
      let p = after_is constructor_group_laws s B k y u.end u.here in
      let r = group_pair gs u.end n u.rest i x q in
      (rw (a, p) r.0, r.1, rw (b, p) r.2)

  pub groups_at : (at : ℕ) (gs : List ConstructorGroup) (n : ℕ) → list_of max_list read_constructor_group s at ≡ ok gs n → GroupsAt s (pairs_at s at) gs
  unfolding pairs_at pairs_of
  groups_at at gs n g =
      let l = list_at read_constructor_group s max_list at gs n g in
      let p = group_pair gs l.first n l.entries_are in
      rw l.opens (record { room = pairs_length (length gs) s l.first; name_is = λ k x e. (p k x e).0; variants_are = λ k x e. ((p k x e).1, (p k x e).2) })
