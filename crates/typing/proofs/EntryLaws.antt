-- Lists that are opened, and walks over their entries: what is left of a list decides.
use Prim.Native.Nat.{ℕ, ◌-◌, ◌<◌, ◌≤◌}
use mathlib.Core.Path.{◌≡◌, refl, sym, ap, subst, ◌∙◌}
use mathlib.Core.List.{List, [], ◌∷◌}
use mathlib.Core.Bool.{Bool, true, false}
use native.Mathlib.Omega.{arith}
use lib.ListN.{length}
use lib.Dec.{eqb}
use borrow.Author.Tests.{eq-eqb, ne_eqb}
use Rattle.reading.specs.Read.{Reader, ok}
use Rattle.reading.specs.Limits.{max_list}
use Rattle.reading.specs.Item.{read_count, read_tag}
use Rattle.reading.specs.Combine.{entries, list_of}
use Rattle.reading.specs.Decl.{ConstructorVariant, read_field_decl, read_constructor_variant}
use Rattle.reading.specs.Decl as decl
use Rattle.reading.specs.Pattern.{PatternVariant, read_pattern_field, read_pattern_variant}
use Rattle.reading.specs.Pattern as pattern
use Rattle.reading.specs.Link.{answer}
use Rattle.reading.specs.Views.{ConstructorVariantAt, unit_variant, struct_variant, PatternVariantAt, unit_pattern, struct_pattern}
use Rattle.reading.specs.declared.cursor.Cursor.{Cursor}
use Rattle.reading.specs.declared.item.Tag.{Tag}
use Rattle.reading.proofs.Rules.{no}
use Rattle.reading.proofs.Answers.{got, out}
use Rattle.reading.proofs.ItemLaws.{count_kind}
use Rattle.reading.proofs.ExprLaws.{name_laws}
use Rattle.reading.proofs.CaseViews.{constructor_variant_at, pattern_variant_at}
use Rattle.reading.proofs.ListViews.{list_at}
use Rattle.typing.specs.Outputs.{fields_of}
use Rattle.typing.specs.Table.{place_after, after_item, after_tag, Past}
use Rattle.typing.specs.Entries.{opened, Entered, case_is, case_at, given_fields, FieldsAt}
use Rattle.typing.specs.declared.entries.Entries.{Entries}
use Rattle.typing.proofs.TableLaws.{tag_to}
use Rattle.typing.proofs.EnvLaws.{entry, after_is}
use Rattle.std.specs.Prelude.{Result, Ok, Err}
use Rattle.reading.specs.declared.fault.Refusal.{Refusal}

module _ (s : List ℕ) (at : ℕ) {a : Result (ℕ × Cursor) Refusal} (e : a ≡ answer (read_count max_list s at)) where
  pub opened_got : {c : ℕ} {k : Cursor} → a ≡ Ok (c, k) → record { many = c; first = k.at } ≡ opened (read_count max_list s at)
  unfolding opened
  opened_got q = rw (got _ e q)

  pub opened_none : {f : Refusal} → a ≡ Err f → record { many = 0; first = f.place } ≡ opened (read_count max_list s at)
  unfolding opened
  opened_none q = rw (out _ e q)

  pub opened_few : {c : ℕ} {k : Cursor} → a ≡ Ok (c, k) → c ≤ 255
  opened_few {c} {k} q = (count_kind s at max_list c k.at (got _ e q)).1

-- the entries of a list that was opened
pub entered : {A : Type 0} (F : Reader A) (s : List ℕ) (at : ℕ) {r : Entries} → r ≡ opened (read_count max_list s at) → (xs : List A) (n : ℕ) → list_of max_list F s at ≡ ok xs n → Entered F s r.many r.first xs
unfolding opened
entered F s at {r} e xs n g =
    let l = list_at F s max_list at xs n g in
    let q : r ≡ record { many = length xs; first = l.first } = e ∙ ap opened l.opens in
    record {
      count = ap (λ (z : Entries). z.many) q;
      end = n;
      reads = ap (λ (z : Entries). entries (length xs) F s z.first) q ∙ l.entries_are;
    }

-- the first entry, and those after it
pub record Next {A : Type 0} (F : Reader A) (s : List ℕ) (many k : ℕ) (l : List A) : Type 0 where
  pub head : A
  pub tail : List A
  pub end : ℕ
  pub here : F s k ≡ ok head end
  pub rest : Entered F s (many - 1) end tail
  pub split : l ≡ head ∷ tail

module _ {A : Type 0} {F : Reader A} {s : List ℕ} {many k : ℕ} where
  pub none_left : (l : List A) → many ≤ 0 → Entered F s many k l → l ≡ []
  none_left [] h e = refl
  none_left (x ∷ xs) h e = absurd (omega (arith, e.count))

  pub next : (l : List A) → 0 < many → Entered F s many k l → Next F s many k l
  next [] h e = absurd (omega (arith, e.count))
  next (x ∷ xs) h e =
      let u = entry F s k x xs e.end e.reads in
      record { head = x; tail = xs; end = u.end; here = u.here; rest = record { count = omega (arith, e.count); end = e.end; reads = u.rest }; split = refl }

  pub entered_at : {l : List A} {k' : ℕ} → k' ≡ k → Entered F s many k l → Entered F s many k' l
  entered_at {l} q e = subst (λ (z : ℕ). Entered F s many z l) (sym q) e

-- a walk whose end is what f says of the whole list
pub record Left {A : Type 0} {B : Type 0} (F : Reader A) (f : List A → B) (s : List ℕ) (left k : ℕ) (xs : List A) : Type 0 where
  pub rest : List A
  pub reads : Entered F s left k rest
  pub same : f rest ≡ f xs

pub record Scanning {A : Type 0} {B : Type 0} (F : Reader A) (f : List A → B) (s : List ℕ) (many first left k : ℕ) : Type 0 where
  pub of : (xs : List A) → Entered F s many first xs → Left F f s left k xs

pub scan_start : {A : Type 0} {B : Type 0} (F : Reader A) (f : List A → B) (s : List ℕ) (many first : ℕ) → Scanning F f s many first many first
scan_start F f s many first = record { of = λ xs e. record { rest = xs; reads = e; same = refl } }

pub record Turn {A : Type 0} {B : Type 0} (F : Reader A) (f : List A → B) (s : List ℕ) (k : ℕ) (xs : List A) : Type 0 where
  pub head : A
  pub tail : List A
  pub end : ℕ
  pub here : F s k ≡ ok head end
  pub same : f (head ∷ tail) ≡ f xs

module _ {A : Type 0} {B : Type 0} {F : Reader A} {f : List A → B} {s : List ℕ} {many first left k : ℕ} (g : Scanning F f s many first left k) where
  pub scan_done : left ≤ 0 → (xs : List A) → Entered F s many first xs → f [] ≡ f xs
  scan_done h xs e = let l = g.of xs e in ap f (sym (none_left l.rest h l.reads)) ∙ l.same

  module _ (h : 0 < left) where
    pub scan_turn : (xs : List A) → Entered F s many first xs → Turn F f s k xs
    scan_turn xs e =
        let l = g.of xs e in
        let n = next l.rest h l.reads in
        record { head = n.head; tail = n.tail; end = n.end; here = n.here; same = ap f (sym n.split) ∙ l.same }

    pub scan_next : {k' : ℕ} → ((x : A) (n : ℕ) → F s k ≡ ok x n → k' ≡ n) → ((x : A) (n : ℕ) → F s k ≡ ok x n → (rest : List A) → f (x ∷ rest) ≡ f rest) → Scanning F f s many first (left - 1) k'
    scan_next p q = record {
      of = λ xs e.
          let l = g.of xs e in
          let n = next l.rest h l.reads in
          record {
            rest = n.tail;
            reads = entered_at (p n.head n.end n.here) n.rest;
            same = sym (q n.head n.end n.here n.tail) ∙ ap f (sym n.split) ∙ l.same;
          };
    }

-- the case of a data enum
module _ (s : List ℕ) (at k : ℕ) {a : Result (Tag × Cursor) Refusal} (e : a ≡ answer (read_tag s at)) where
  pub case_was : {t : Tag} {c : Cursor} → a ≡ Ok (t, c) → eqb t.case k ≡ case_at s at k
  unfolding case_is
  case_was q = rw (got _ e q)

  pub case_none : {f : Refusal} → a ≡ Err f → false ≡ case_at s at k
  unfolding case_is
  case_none q = rw (out _ e q)

-- a variant has fields where its case is 1
abbrev pub has_fields : PatternVariant → Bool
has_fields (pattern.unit v) = false
has_fields (pattern.struct v xs) = true

abbrev pub declares_fields : ConstructorVariant → Bool
declares_fields (decl.unit w) = false
declares_fields (decl.struct w fs) = true

pub pattern_fields : (s : List ℕ) (at : ℕ) (v : PatternVariant) (n : ℕ) → read_pattern_variant s at ≡ ok v n → case_at s at 1 ≡ has_fields v
unfolding case_is
pattern_fields s at v n e = let u = pattern_variant_at s at v n e in rw u.tagged (go u.fields)
  where
    go : {m c : ℕ} {v : PatternVariant} {n : ℕ} → PatternVariantAt s m c v n → eqb c 1 ≡ has_fields v
    go (unit_pattern q) = refl
    go (struct_pattern q r) = refl

pub declared_fields : (s : List ℕ) (at : ℕ) (d : ConstructorVariant) (n : ℕ) → read_constructor_variant s at ≡ ok d n → case_at s at 1 ≡ declares_fields d
unfolding case_is
declared_fields s at d n e = let u = constructor_variant_at s at d n e in rw u.tagged (go u.fields)
  where
    go : {m c : ℕ} {d : ConstructorVariant} {n : ℕ} → ConstructorVariantAt s m c d n → eqb c 1 ≡ declares_fields d
    go (unit_variant q) = refl
    go (struct_variant q r) = refl

-- the fields of a variant
module _ (s : List ℕ) (at : ℕ) {b : Bool} (e : b ≡ case_at s at 1) where
  fields_unit : b ≡ false → FieldsAt s at (record { many = 0; first = at })
  unfolding given_fields fields_of entries
  fields_unit q = record {
    given = λ v n g. given v (sym q ∙ e ∙ pattern_fields s at v n g);
    declared = λ d n g. declared d (sym q ∙ e ∙ declared_fields s at d n g);
  }
    where
      given : (v : PatternVariant) → false ≡ has_fields v → Entered read_pattern_field s 0 at (given_fields v)
      given (pattern.unit v) i = record { count = refl; end = at; reads = refl }
      given (pattern.struct v xs) i = no (cc)

      declared : (d : ConstructorVariant) → false ≡ declares_fields d → Entered read_field_decl s 0 at (fields_of d)
      declared (decl.unit w) i = record { count = refl; end = at; reads = refl }
      declared (decl.struct w fs) i = no (cc)

  fields_struct : {name l : ℕ} {r : Entries} → b ≡ true → name ≡ after_tag s at → Past s name l → r ≡ opened (read_count max_list s l) → FieldsAt s at r
  unfolding given_fields fields_of place_after
  fields_struct {name} {l} {r} q j o h = record {
    given = λ v n g. let u = pattern_variant_at s at v n g in given u.fields (j ∙ ap place_after u.tagged) (sym q ∙ e ∙ pattern_fields s at v n g);
    declared = λ d n g. let u = constructor_variant_at s at d n g in declared u.fields (j ∙ ap place_after u.tagged) (sym q ∙ e ∙ declared_fields s at d n g);
  }
    where
      given : {m c : ℕ} {v : PatternVariant} {n : ℕ} → PatternVariantAt s m c v n → name ≡ m → true ≡ has_fields v → Entered read_pattern_field s r.many r.first (given_fields v)
      given (unit_pattern u) y i = no (cc)
      given {m} (struct_pattern u w) y i = entered read_pattern_field s l h _ _ (ap (list_of max_list read_pattern_field s) (o.is ∙ ap (after_item s) y ∙ after_is name_laws s o.each m _ _ u) ∙ w)

      declared : {m c : ℕ} {d : ConstructorVariant} {n : ℕ} → ConstructorVariantAt s m c d n → name ≡ m → true ≡ declares_fields d → Entered read_field_decl s r.many r.first (fields_of d)
      declared (unit_variant u) y i = no (cc)
      declared {m} (struct_variant u w) y i = entered read_field_decl s l h _ _ (ap (list_of max_list read_field_decl s) (o.is ∙ ap (after_item s) y ∙ after_is name_laws s o.each m _ _ u) ∙ w)

-- by the head that was read
module _ (s : List ℕ) (at : ℕ) {a : Result (Tag × Cursor) Refusal} (e : a ≡ answer (read_tag s at)) where
  pub fields_none : {f : Refusal} → a ≡ Err f → FieldsAt s at (record { many = 0; first = at })
  fields_none q = fields_unit s at (case_none s at 1 e q) refl

  module _ {t : Tag} {c : Cursor} (q : a ≡ Ok (t, c)) where
    pub fields_other : (t.case ≡ 1 → ⊥) → FieldsAt s at (record { many = 0; first = at })
    fields_other z = fields_unit s at (case_was s at 1 e q) (ne_eqb t.case 1 z)

    pub fields_one : {l : ℕ} {r : Entries} → t.case ≡ 1 → Past s c.at l → r ≡ opened (read_count max_list s l) → FieldsAt s at r
    fields_one z o h = fields_struct s at (case_was s at 1 e q) (eq-eqb t.case 1 z) (tag_to _ e q) o h
