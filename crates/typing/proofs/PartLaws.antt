-- Where the parts of an option, a record and a variant stand, and how they read.
use Prim.Native.Nat.{ℕ}
use mathlib.Core.Path.{◌≡◌, refl, sym, ap, subst, ◌∙◌}
use mathlib.Core.Bool.{Bool, true, false}
use mathlib.Core.List.{List}
use mathlib.Core.Option.{Option, none, some}
use lib.ListN.{get_or}
use lib.Dec.{eqb}
use borrow.Author.Tests.{eq-eqb, ne_eqb}
use Rattle.reading.specs.Read.{Reader, ok}
use Rattle.reading.specs.Combine.{optional}
use Rattle.reading.specs.Text.{read_name}
use Rattle.reading.specs.Decl.{FieldDecl, EnumDecl, read_names, read_ty, read_field_decl, read_enum_decl}
use Rattle.reading.specs.Pattern.{PatternField, PatternVariant, Pattern, read_pattern_expr, read_pattern_field, read_pattern_variant, read_pattern}
use Rattle.reading.specs.Skip.{text_at}
use Rattle.reading.specs.Views.{OptionAt, absent, present, PatternVariantAt, unit_pattern, struct_pattern}
use Rattle.reading.proofs.Rules.{no}
use Rattle.reading.proofs.OptionLaws.{option_laws}
use Rattle.reading.proofs.ExprLaws.{name_laws, name_solid}
use Rattle.reading.proofs.DeclLaws.{names_laws, ty_laws}
use Rattle.reading.proofs.PatternLaws.{pattern_expr_laws}
use Rattle.reading.proofs.Views.{field_decl_at, enum_decl_at, pattern_field_at, pattern_at}
use Rattle.reading.proofs.CaseViews.{pattern_variant_at}
use Rattle.reading.proofs.ListViews.{option_at}
use Rattle.reading.proofs.Walks.{name_text}
use Rattle.typing.specs.Patterns.{pattern_variant_name}
use Rattle.typing.specs.Table.{place_after, after_item, after_head, after_tag, Past}
use Rattle.typing.specs.First.{enum_name}
use Rattle.typing.proofs.EnvLaws.{after_is, fields_head}

-- the place after the item at a place that is known
pub past_at : {s : List ℕ} {k k' r : ℕ} → k ≡ k' → Past s k r → Past s k' r
past_at {s} {k} {k'} {r} h p = subst (λ (z : ℕ). Past s z r) h p

-- an option, by the byte that stands there
module _ {A : Type 0} {F : Reader A} {s : List ℕ} {at : ℕ} {b : Bool} (e : b ≡ eqb (get_or s at 0) 246) where
  pub option_null : {o : Option A} {n : ℕ} → b ≡ true → OptionAt F s at o n → o ≡ none
  option_null q (absent u v) = refl
  option_null q (present u v) = no (let i = e ∙ ne_eqb _ _ u in cc)

  pub option_there : {o : Option A} {n : ℕ} → b ≡ false → OptionAt F s at o n → (x : A) × (o ≡ some x) × (F s at ≡ ok x n)
  option_there q (absent u v) = no (let i = e ∙ eq-eqb _ _ u in cc)
  option_there q (present u v) = (_, refl, v)

-- records: the first field stands after the head, and the second after the first
module _ (s : List ℕ) (at : ℕ) where
  module _ (x : FieldDecl) (n : ℕ) (g : read_field_decl s at ≡ ok x n) where
    pub field_text : {k : ℕ} → k ≡ after_head s at → text_at s k ≡ x.name
    field_text h =
        let v = field_decl_at s at x n g in
        ap (text_at s) (h ∙ fields_head 2 s at tt v.name v.opens) ∙ name_text s v.name x.name v.ty v.name_is

    pub field_type : {p : ℕ} → Past s (after_head s at) p → read_ty s p ≡ ok x.ty n
    field_type {p} o =
        let v = field_decl_at s at x n g in
        let i : p ≡ v.ty = o.is ∙ ap (after_item s) (fields_head 2 s at tt v.name v.opens) ∙ after_is name_laws s o.each v.name x.name v.ty v.name_is in
        ap (read_ty s) i ∙ v.ty_is

    pub field_ends : {p q : ℕ} → Past s (after_head s at) p → Past s p q → q ≡ n
    field_ends {p} o w = w.is ∙ after_is ty_laws s w.each p x.ty n (field_type o)

  module _ (x : EnumDecl) (n : ℕ) (g : read_enum_decl s at ≡ ok x n) where
    pub enum_text : text_at s (after_head s at) ≡ enum_name x
    enum_text =
        let v = enum_decl_at s at x n g in
        ap (text_at s) (fields_head 2 s at tt v.name v.opens) ∙ name_text s v.name x.name v.variants v.name_is

    pub enum_ends : {p q : ℕ} → Past s (after_head s at) p → Past s p q → q ≡ n
    enum_ends {p} o w =
        let v = enum_decl_at s at x n g in
        let i : p ≡ v.variants = o.is ∙ ap (after_item s) (fields_head 2 s at tt v.name v.opens) ∙ after_is name_laws s o.each v.name x.name v.variants v.name_is in
        w.is ∙ after_is names_laws s w.each p x.variants n (ap (read_names s) i ∙ v.variants_is)

  module _ (x : PatternField) (n : ℕ) (g : read_pattern_field s at ≡ ok x n) where
    pub name_stands : {k : ℕ} → k ≡ after_head s at → (m : ℕ) × OptionAt read_name s k x.name m
    name_stands {k} h =
        let v = pattern_field_at s at x n g in
        let i : v.name ≡ k = sym (h ∙ fields_head 2 s at tt v.name v.opens) in
        (v.pattern, subst (λ (z : ℕ). OptionAt read_name s z x.name v.pattern) i (option_at read_name s v.name x.name v.pattern v.name_is))

    pub pattern_stands : {p : ℕ} → Past s (after_head s at) p → read_pattern_expr s p ≡ ok x.pattern n
    pattern_stands {p} o =
        let v = pattern_field_at s at x n g in
        let i : p ≡ v.pattern = o.is ∙ ap (after_item s) (fields_head 2 s at tt v.name v.opens) ∙ after_is (option_laws name_laws name_solid) s o.each v.name x.name v.pattern v.name_is in
        ap (read_pattern_expr s) i ∙ v.pattern_is

    pub pattern_ends : {p q : ℕ} → Past s (after_head s at) p → Past s p q → q ≡ n
    pattern_ends {p} o w = w.is ∙ after_is pattern_expr_laws s w.each p x.pattern n (pattern_stands o)

  module _ (x : Pattern) (n : ℕ) (g : read_pattern s at ≡ ok x n) {k : ℕ} (h : k ≡ after_head s at) where
    pub pattern_group : text_at s k ≡ x.group
    pattern_group =
        let v = pattern_at s at x n g in
        ap (text_at s) (h ∙ fields_head 2 s at tt v.group v.opens) ∙ name_text s v.group x.group v.variant v.group_is

    pub pattern_variant : {p : ℕ} → Past s k p → optional read_pattern_variant s p ≡ ok x.variant n
    pattern_variant {p} o =
        let v = pattern_at s at x n g in
        let i : p ≡ v.variant = o.is ∙ ap (after_item s) (h ∙ fields_head 2 s at tt v.group v.opens) ∙ after_is name_laws s o.each v.group x.group v.variant v.group_is in
        ap (optional read_pattern_variant s) i ∙ v.variant_is

-- a pattern's variant: the name stands after the case number
pub pattern_text : (s : List ℕ) (at : ℕ) (x : PatternVariant) (n : ℕ) {k : ℕ} → k ≡ after_tag s at → read_pattern_variant s at ≡ ok x n → text_at s k ≡ pattern_variant_name x
unfolding place_after pattern_variant_name
pattern_text s at x n h e = let u = pattern_variant_at s at x n e in rw (h, u.tagged) (go u.fields)
  where
    go : {m c : ℕ} {x : PatternVariant} {n : ℕ} → PatternVariantAt s m c x n → text_at s m ≡ pattern_variant_name x
    go {m} (unit_pattern q) = name_text s m _ _ q
    go {m} (struct_pattern q r) = name_text s m _ _ q
