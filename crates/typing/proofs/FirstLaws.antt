-- A search for the first entry of a name: what is left of the list decides.
use Rattle.std.specs.Prelude.{Option as Maybe, Some, None, Result, Ok, Err}
use Prim.Native.Nat.{ℕ, ◌+◌, ◌-◌, ◌%◌, ◌<◌, ◌≤◌}
use mathlib.Core.Path.{◌≡◌, refl, sym, ap, subst, ◌∙◌}
use mathlib.Core.Bool.{Bool, true, false}
use mathlib.Core.List.{List, [], ◌∷◌}
use mathlib.Core.Option.{Option, none, some}
use native.Mathlib.Omega.{arith}
use lib.ListN.{length, get_or}
use mir.Syntax.{w8}
use mir.Val.{Fits}
use Rattle.reading.proofs.Answers.{got, out}
use Rattle.reading.specs.Read.{Reader, ok, pick}
use Rattle.reading.specs.Limits.{max_list}
use Rattle.reading.specs.Item.{read_count, read_tag}
use Rattle.reading.specs.Text.{Name}
use Rattle.reading.specs.Decl.{EnumDecl, ConstructorVariant, read_enum_decl, read_constructor_variant}
use Rattle.reading.specs.Skip.{text_at}
use Rattle.reading.specs.Link.{answer}
use Rattle.reading.specs.Short.{tag_head}
use Rattle.reading.specs.Views.{ConstructorVariantAt, unit_variant, struct_variant}
use Rattle.reading.specs.declared.cursor.Cursor.{Cursor}
use Rattle.reading.specs.declared.item.Tag.{Tag}
use Rattle.reading.proofs.Rules.{no}
use Rattle.reading.proofs.Short.{tag_short}
use Rattle.reading.proofs.ListLaws.{list_laws}
use Rattle.reading.proofs.ExprLaws.{name_laws}
use Rattle.reading.proofs.DeclLaws.{field_decl_laws}
use Rattle.reading.proofs.CaseViews.{constructor_variant_at, by_tag}
use Rattle.reading.proofs.Walks.{name_text}
use Rattle.typing.specs.Causes.{first_of}
use Rattle.typing.specs.Names.{eq_name, called, first_called}
use Rattle.typing.specs.Patterns.{declared_name}
use Rattle.typing.specs.Table.{place_after, after_item, after_head, after_tag, Past, Differs}
use Rattle.typing.specs.First.{FoundAt, found_here, found_nothing, enum_name, First, FirstEnum, FirstVariant, PastVariant, PastOther, OtherVariant, NextVariant}
use Rattle.typing.specs.Entries.{opened}
use Rattle.typing.specs.declared.entries.Entries.{Entries}
use Rattle.typing.proofs.NameLaws.{eq_name_eq}
use Rattle.typing.proofs.ShortLaws.{ended_after}
use Rattle.typing.proofs.EnvLaws.{after_is}
use Rattle.typing.proofs.EntryLaws.{entered, Scanning, scan_done, scan_turn, scan_next}
use Rattle.typing.proofs.PartLaws.{past_at, enum_text, enum_ends}
-- what was found, from what the code learnt of it
use Rattle.reading.specs.declared.fault.Refusal.{Refusal}

module _ {A : Type 0} {F : Reader A} {s : List ℕ} where
  pub found_no : {f : Maybe ℕ} {o : Option A} → FoundAt F s f o → f ≡ None → o ≡ none
  found_no found_nothing q = refl
  found_no (found_here e) q = no (cc)

  pub found_yes : {f : Maybe ℕ} {o : Option A} {k : ℕ} → FoundAt F s f o → f ≡ Some k → (x : A) × (n : ℕ) × (F s k ≡ ok x n) × (o ≡ some x)
  found_yes found_nothing q = no (cc)
  found_yes {k = k} (found_here {k = j} e) q = let i : j ≡ k = cc in (_, _, ap (F s) (sym i) ∙ e, refl)

-- the first of a name has the name
called_first : {A : Type 0} (name : A → Name) (w : Name) (x y : A) (o : Option A) (t : Bool) → eq_name (name y) w ≡ t → (o ≡ some x → name x ≡ w) → first_of (pick t (some y) none) o ≡ some x → name x ≡ w
unfolding first_of pick
called_first name w x y o true q h e = let i : y ≡ x = cc in ap name (sym i) ∙ eq_name_eq (name y) w q
called_first name w x y o false q h e = h e

pub called_is : {A : Type 0} (name : A → Name) (w : Name) (xs : List A) (x : A) → first_called name w xs ≡ some x → name x ≡ w
unfolding first_called called
called_is name w [] x e = no (cc)
called_is name w (y ∷ ys) x e = called_first name w x y (first_called name w ys) (eq_name (name y) w) refl (called_is name w ys x) e

-- a search through a list that was opened
abbrev pub Seeking : {A : Type 0} → Reader A → (A → Name) → List ℕ → Name → ℕ → ℕ → ℕ → ℕ → Type 0
Seeking F name s w many first left k = Scanning F (first_called name w) s many first left k

module _ {A : Type 0} (F : Reader A) (name : A → Name) (s : List ℕ) (at : ℕ) (w : Name) {e : Entries} (h : e ≡ opened (read_count max_list s at)) (left k : ℕ) (g : Seeking F name s w e.many e.first left k) where
  pub first_done : left ≤ 0 → First F name s at w None
  unfolding first_called
  first_done z = record { of = λ xs n q. subst (FoundAt F s None) (scan_done g z xs (entered F s at h xs n q)) found_nothing }

  module _ (z : 0 < left) {b : Bool} (t : (x : A) (n : ℕ) → F s k ≡ ok x n → b ≡ eq_name (name x) w) where
    hit : b ≡ true → First F name s at w (Some k)
    unfolding first_called called pick first_of
    hit q = record {
      of = λ xs n i.
          let u = scan_turn g z xs (entered F s at h xs n i) in
          subst (FoundAt F s (Some k)) (rw (sym (t u.head u.end u.here) ∙ q) at u.same) (found_here u.here);
    }

    miss : {k' : ℕ} → b ≡ false → ((x : A) (n : ℕ) → F s k ≡ ok x n → k' ≡ n) → Seeking F name s w e.many e.first (left - 1) k'
    unfolding first_called called pick first_of
    miss q p = scan_next g z p λ x n i rest. rw (sym (t x n i) ∙ q)

-- a declared variant: the name stands after the case number
pub variant_text : (s : List ℕ) (k : ℕ) (x : ConstructorVariant) (n : ℕ) → read_constructor_variant s k ≡ ok x n → text_at s (after_tag s k) ≡ declared_name x
unfolding place_after declared_name
variant_text s k x n e = let u = constructor_variant_at s k x n e in rw u.tagged (go u.fields)
  where
    go : {m c : ℕ} {x : ConstructorVariant} {n : ℕ} → ConstructorVariantAt s m c x n → text_at s m ≡ declared_name x
    go {m} (unit_variant q) = name_text s m _ _ q
    go {m} (struct_variant q r) = name_text s m _ _ q

-- enums: the name stands after the head, and one more field after the name
module _ (s : List ℕ) (at : ℕ) (w : Name) {e : Entries} (o : e ≡ opened (read_count max_list s at)) (left k : ℕ) (z : 0 < left) {key : ℕ} {text : Name} {b : Bool} (t : text ≡ text_at s key) (f : b ≡ eq_name text w) (i : key ≡ after_head s k) (g : Seeking read_enum_decl enum_name s w e.many e.first left k) where
  enum_called : (x : EnumDecl) (n : ℕ) → read_enum_decl s k ≡ ok x n → b ≡ eq_name (enum_name x) w
  enum_called x n q = f ∙ ap (λ (y : Name). eq_name y w) (t ∙ ap (text_at s) i ∙ enum_text s k x n q)

  pub enum_hit : b ≡ true → FirstEnum s at w (Some k)
  enum_hit = hit read_enum_decl enum_name s at w o left k g z enum_called

  pub enum_miss : {under k' : ℕ} → b ≡ false → Past s key under → Past s under k' → Seeking read_enum_decl enum_name s w e.many e.first (left - 1) k'
  enum_miss y u p = miss read_enum_decl enum_name s at w o left k g z enum_called y λ x n q. enum_ends s k x n q (past_at i u) p

-- after a declared variant: past its name, or past its fields
module _ (s : List ℕ) (name case : ℕ) {fields : ℕ} (o : Past s name fields) where
  pub unit_ends : case ≡ 0 → PastVariant s name case fields
  unit_ends z = record { of = λ x n v. go v z }
    where
      go : {c : ℕ} {x : ConstructorVariant} {n : ℕ} → ConstructorVariantAt s name c x n → c ≡ 0 → fields ≡ n
      go (unit_variant q) i = o.is ∙ after_is name_laws s o.each name _ _ q
      go (struct_variant q r) i = absurd (omega arith)

  pub struct_ends : {next : ℕ} → (case ≡ 0 → ⊥) → Past s fields next → PastVariant s name case next
  struct_ends {next} z p = record { of = λ x n v. go v z }
    where
      go : {c : ℕ} {x : ConstructorVariant} {n : ℕ} → ConstructorVariantAt s name c x n → (c ≡ 0 → ⊥) → next ≡ n
      go (unit_variant q) i = absurd (i refl)
      go (struct_variant q r) i =
          p.is
          ∙ ap (after_item s) (o.is ∙ after_is name_laws s o.each name _ _ q)
          ∙ after_is (list_laws field_decl_laws max_list (omega arith)) s o.each _ _ _ r

-- a unit by its first two bytes, and a short name after them
module _ (s : List ℕ) (at : ℕ) (w : Name) (b : get_or s at 0 ≡ 130) (z : get_or s (at + 1) 0 ≡ 0) (h : 2 < length s - at) where
  unit_tag : read_tag s at ≡ ok (record { start = at; count = get_or s at 0 % 32; case = get_or s (at + 1) 0; place = at + 1 }) (at + 2)
  unfolding tag_head pick
  unit_tag =
      let q : tag_head (get_or s at 0) (get_or s (at + 1) 0) ≡ true = rw (b, z) in
      got _ (tag_short s at q (omega arith) refl) refl

  pub unit_other : ((i : ℕ) → Fits w8 (get_or s i 0)) → (f : Maybe ℕ) → Differs s (at + 2) w f → OtherVariant s at w f
  unfolding Differs OtherVariant place_after
  unit_other each (Some end) d =
      let p : Past s (at + 2) end = record { is = ended_after d.0; each = λ i. omega (arith, each i) } in
      record {
        of = λ x n r.
            let t : text_at s (at + 2) ≡ declared_name x = ap (text_at s) (sym (ap place_after unit_tag)) ∙ variant_text s at x n r in
            (ap (λ (y : Name). eq_name y w) (sym t) ∙ d.1, (unit_ends s (at + 2) (get_or s (at + 1) 0) p z).of x n (by_tag (constructor_variant_at s at x n r) unit_tag));
      }
  unit_other each None d = tt

-- any variant: the head says where the name stands, and the case whether there is more
module _ (s : List ℕ) (at : ℕ) (w : Name) {a : Result (Tag × Cursor) Refusal} (h : a ≡ answer (read_tag s at)) where
  pub next_none : {f : Refusal} → a ≡ Err f → NextVariant s at w None
  unfolding NextVariant
  next_none q = λ x n r.
      let v = (constructor_variant_at s at x n r).tagged in
      let u = out _ h q in
      no (cc)

  module _ {t : Tag} {c : Cursor} (q : a ≡ Ok (t, c)) {text : Name} {b : Bool} (i : text ≡ text_at s c.at) (f : b ≡ eq_name text w) where
    next_called : (x : ConstructorVariant) (n : ℕ) → read_constructor_variant s at ≡ ok x n → eq_name (declared_name x) w ≡ b
    unfolding place_after
    next_called x n r = sym (f ∙ ap (λ (y : Name). eq_name y w) (i ∙ ap (text_at s) (sym (ap place_after (got _ h q))) ∙ variant_text s at x n r))

    pub next_hit : b ≡ true → NextVariant s at w None
    unfolding NextVariant
    next_hit y = λ x n r. next_called x n r ∙ y

    pub next_miss : {end : ℕ} → b ≡ false → PastVariant s c.at t.case end → NextVariant s at w (Some end)
    unfolding NextVariant
    next_miss y p = record { of = λ x n r. (next_called x n r ∙ y, p.of x n (by_tag (constructor_variant_at s at x n r) (got _ h q))) }

-- a search among variants
module _ (s : List ℕ) (at : ℕ) (w : Name) {e : Entries} (o : e ≡ opened (read_count max_list s at)) (left k : ℕ) (z : 0 < left) (g : Seeking read_constructor_variant declared_name s w e.many e.first left k) where
  variant_other : {k' : ℕ} → PastOther s k w k' → Seeking read_constructor_variant declared_name s w e.many e.first (left - 1) k'
  variant_other u = miss read_constructor_variant declared_name s at w o left k g z (λ x n r. sym (u.of x n r).0) refl λ x n r. (u.of x n r).1

  pub variant_passed : {f : Maybe ℕ} {k' : ℕ} → OtherVariant s k w f → f ≡ Some k' → Seeking read_constructor_variant declared_name s w e.many e.first (left - 1) k'
  unfolding OtherVariant
  variant_passed v q = variant_other (rw q at v)

  module _ {f : Maybe ℕ} (v : NextVariant s k w f) where
    pub variant_miss : {k' : ℕ} → f ≡ Some k' → Seeking read_constructor_variant declared_name s w e.many e.first (left - 1) k'
    unfolding NextVariant
    variant_miss q = variant_other (rw q at v)

    pub variant_hit : f ≡ None → FirstVariant s at w (Some k)
    unfolding NextVariant
    variant_hit q =
        let u : (x : ConstructorVariant) (n : ℕ) → read_constructor_variant s k ≡ ok x n → eq_name (declared_name x) w ≡ true = rw q at v in
        hit read_constructor_variant declared_name s at w o left k g z (λ x n r. sym (u x n r)) refl
