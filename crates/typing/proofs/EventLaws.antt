-- What each step of the judging of an event pattern gives, for whatever reads there.
use Rattle.std.specs.Prelude.{Option as Maybe, Some, None, Ok}
use Prim.Native.Nat.{ℕ}
use mathlib.Core.Path.{◌≡◌, refl, sym, subst, ◌∙◌}
use mathlib.Core.Bool.{Bool, true, false}
use mathlib.Core.List.{List, []}
use mathlib.Core.Option.{Option, none, some}
use native.Mathlib.Omega.{arith}
use lib.ListN.{length, get_or}
use lib.Dec.{eqb}
use borrow.Author.Tests.{eq-eqb, ne_eqb}
use Rattle.reading.specs.Read.{ok, pick}
use Rattle.reading.specs.Limits.{max_list}
use Rattle.reading.specs.Text.{Name}
use Rattle.reading.specs.Combine.{list_of}
use Rattle.reading.specs.Decl.{ConstructorVariant, ConstructorGroup, read_field_decl, read_constructor_variant}
use Rattle.reading.specs.Decl as decl
use Rattle.reading.specs.Pattern.{PatternVariant, Pattern, read_pattern_variant, read_pattern}
use Rattle.reading.specs.Pattern as pattern
use Rattle.reading.specs.Skip.{text_at}
use Rattle.reading.specs.Views.{OptionAt}
use Rattle.reading.proofs.Rules.{no}
use Rattle.reading.proofs.ListViews.{option_at}
use Rattle.typing.specs.Causes as causes
use Rattle.typing.specs.Causes.{alone, blame}
use Rattle.typing.specs.Names.{first_called}
use Rattle.typing.specs.Patterns.{judged, declared_name, pattern_variant_name, judge_variant, judge_declared, judge_group, judge_named, validate_event_pattern}
use Rattle.typing.specs.Outputs.{fields_of}
use Rattle.typing.specs.Means.{cause_of, within_of, blame_of}
use Rattle.typing.specs.Table.{after_head, after_tag, Past}
use Rattle.typing.specs.First.{FoundAt, group_name, GroupsAt, GroupFound, FirstVariants, FirstVariant}
use Rattle.typing.specs.Blames.{none_bound, Binds, Spares, JudgesPattern}
use Rattle.typing.specs.Entries.{Entered, case_at, given_fields, FieldsAt}
use Rattle.typing.specs.Fields.{JudgesFields}
use Rattle.typing.specs.Event.{blamed, JudgesStruct, JudgesVariant, JudgesGroup}
use Rattle.typing.specs.declared.cause.Cause.{Cause}
use Rattle.typing.specs.declared.cause.Cause.TheVariants.{UnknownEventGroup, UnknownEventVariant, FieldCount, UnitWithFields, FieldsWithout}
use Rattle.typing.specs.declared.cause.Bindings.{Bindings}
use Rattle.typing.specs.declared.entries.Entries.{Entries}
use Rattle.typing.proofs.EntryLaws.{has_fields, declares_fields, pattern_fields, declared_fields}
use Rattle.typing.proofs.PartLaws.{option_null, option_there, pattern_group, pattern_variant, pattern_text}
use Rattle.typing.proofs.FirstLaws.{found_no, found_yes, called_is}
use Rattle.typing.proofs.GroupLaws.{group_no, group_yes}

-- nothing is bound
binds_alone : (s table : List ℕ) (k : ℕ) {c : Cause} {r : Bindings} {e : causes.Cause} → r ≡ blamed c → cause_of s c ≡ e → Binds s table k (judged (blame alone (some e))) r table
unfolding blame blame_of within_of
binds_alone s table k q e = rw q (record { fault = rw e; pairs = []; are = none_bound; many = refl; words = refl })

pub alone_spares : (table : List ℕ) (k : ℕ) {c : Cause} {r : Bindings} → r ≡ blamed c → Spares table k r table
alone_spares table k q = rw q (record { few = omega arith; kept = refl })

pub nothing_spares : (table : List ℕ) (k : ℕ) → Spares table k (record { blame = Ok tt; words = 0 }) table
nothing_spares table k = record { few = omega arith; kept = refl }

binds_nothing : (s table : List ℕ) (k : ℕ) → Binds s table k (judged none) (record { blame = Ok tt; words = 0 }) table
unfolding blame_of
binds_nothing s table k = record { fault = refl; pairs = []; are = none_bound; many = refl; words = refl }

-- two variants with fields
module _ (s : List ℕ) (at declared : ℕ) (table : List ℕ) (k : ℕ) {a b : Entries} (o : FieldsAt s at a) (u : FieldsAt s declared b) where
  pub struct_count : {name : ℕ} {r : Bindings} → (b.many ≡ a.many → ⊥) → name ≡ after_tag s at → r ≡ blamed (FieldCount name b.many a.many) → JudgesStruct s at declared table k r table
  unfolding judge_variant given_fields fields_of pick cause_of pattern_variant_name
  struct_count q h e = record {
    of = λ v xs i w fs j f g.
        let x = (o.given (pattern.struct v xs) i f).count in
        let y = (u.declared (decl.struct w fs) j g).count in
        let z : length fs ≡ length xs → ⊥ = λ d. q (y ∙ d ∙ sym x) in
        rw (ne_eqb (length fs) (length xs) z) (binds_alone s table k e (rw (pattern_text s at (pattern.struct v xs) i h f, x, y)));
  }

  pub struct_fields : {r : Bindings} {table' : List ℕ} → b.many ≡ a.many → JudgesFields s a.first b.first a.many table k r table' → JudgesStruct s at declared table k r table'
  unfolding judge_variant given_fields fields_of pick
  struct_fields q e = record {
    of = λ v xs i w fs j f g.
        let x = o.given (pattern.struct v xs) i f in
        let y : Entered read_field_decl s a.many b.first fs = rw q at (u.declared (decl.struct w fs) j g) in
        rw (eq-eqb (length fs) (length xs) (sym y.count ∙ x.count)) (e.of xs fs x y);
  }

-- any two variants, by whether each has fields
abbrev Each : (s : List ℕ) (at declared : ℕ) (table : List ℕ) (k : ℕ) (a b : Bool) (r : Bindings) (table' : List ℕ) → Type 0
Each s at declared table k a b r table' = (v : PatternVariant) (n : ℕ) (d : ConstructorVariant) (m : ℕ) → read_pattern_variant s at ≡ ok v n → read_constructor_variant s declared ≡ ok d m → b ≡ has_fields v → a ≡ declares_fields d → Binds s table k (judge_variant d v) r table'

module _ (s : List ℕ) (at declared : ℕ) (table : List ℕ) (k : ℕ) {a b : Bool} (h : a ≡ case_at s declared 1) (i : b ≡ case_at s at 1) where
  by_fields : {r : Bindings} {table' : List ℕ} → Each s at declared table k a b r table' → JudgesVariant s at declared table k r table'
  by_fields f = record { of = λ v n d m g e. f v n d m g e (i ∙ pattern_fields s at v n g) (h ∙ declared_fields s declared d m e) }

  pub variant_structs : {r : Bindings} {table' : List ℕ} → b ≡ true → a ≡ true → JudgesStruct s at declared table k r table' → JudgesVariant s at declared table k r table'
  variant_structs {r} {table'} p q e = by_fields go
    where
      go : Each s at declared table k a b r table'
      go (pattern.unit v) n d m f g x y = no (cc)
      go (pattern.struct v xs) n (decl.unit w) m f g x y = no (cc)
      go (pattern.struct v xs) n (decl.struct w fs) m f g x y = e.of v xs n w fs m f g

  pub variant_units : b ≡ false → a ≡ false → JudgesVariant s at declared table k (record { blame = Ok tt; words = 0 }) table
  unfolding judge_variant
  variant_units p q = by_fields go
    where
      go : Each s at declared table k a b (record { blame = Ok tt; words = 0 }) table
      go (pattern.unit v) n (decl.unit w) m f g x y = binds_nothing s table k
      go (pattern.unit v) n (decl.struct w fs) m f g x y = no (cc)
      go (pattern.struct v xs) n d m f g x y = no (cc)

  module _ {name : ℕ} {r : Bindings} (u : name ≡ after_tag s at) where
    pub variant_with : b ≡ true → a ≡ false → r ≡ blamed (UnitWithFields name) → JudgesVariant s at declared table k r table
    unfolding judge_variant cause_of pattern_variant_name
    variant_with p q e = by_fields go
      where
        go : Each s at declared table k a b r table
        go (pattern.unit v) n d m f g x y = no (cc)
        go (pattern.struct v xs) n (decl.unit w) m f g x y = binds_alone s table k e (rw (pattern_text s at (pattern.struct v xs) n u f))
        go (pattern.struct v xs) n (decl.struct w fs) m f g x y = no (cc)

    pub variant_without : b ≡ false → a ≡ true → r ≡ blamed (FieldsWithout name) → JudgesVariant s at declared table k r table
    unfolding judge_variant cause_of pattern_variant_name
    variant_without p q e = by_fields go
      where
        go : Each s at declared table k a b r table
        go (pattern.unit v) n (decl.unit w) m f g x y = no (cc)
        go (pattern.unit v) n (decl.struct w fs) m f g x y = binds_alone s table k e (rw (pattern_text s at (pattern.unit v) n u f))
        go (pattern.struct v xs) n d m f g x y = no (cc)

-- the variant in its group
module _ (s : List ℕ) (at variants name : ℕ) (table : List ℕ) (k : ℕ) {variant : ℕ} {text : Name} {f : Maybe ℕ} (h : variant ≡ after_tag s at) (t : text ≡ text_at s variant) (i : FirstVariant s variants text f) where
  variant_found_lem : (v : PatternVariant) (n : ℕ) (g : ConstructorGroup) (m : ℕ) → read_pattern_variant s at ≡ ok v n → list_of max_list read_constructor_variant s variants ≡ ok g.variants m → FoundAt read_constructor_variant s f (first_called declared_name (pattern_variant_name v) g.variants)
  variant_found_lem v n g m p q = rw (t ∙ pattern_text s at v n h p) at (i.of g.variants m q)

  pub group_none : {r : Bindings} → f ≡ None → r ≡ blamed (UnknownEventVariant variant name) → JudgesGroup s at variants name table k r table
  unfolding judge_group judge_declared cause_of
  group_none e q = record {
    of = λ v n g m p u z.
        rw (found_no (variant_found_lem v n g m p u) e) (binds_alone s table k q (rw (pattern_text s at v n h p, z)));
  }

  pub group_variant : {declared : ℕ} {r : Bindings} {table' : List ℕ} → f ≡ Some declared → JudgesVariant s at declared table k r table' → JudgesGroup s at variants name table k r table'
  unfolding judge_group judge_declared
  group_variant e q = record {
    of = λ v n g m p u z.
        let x = found_yes (variant_found_lem v n g m p u) e in
        rw x.3 (q.of v n x.0 x.1 p x.2);
  }

-- the pattern
module _ (s : List ℕ) (at : ℕ) (events table : List ℕ) (k : ℕ) {name : ℕ} {text : Name} {f : Maybe ℕ} (h : name ≡ after_head s at) (t : text ≡ text_at s name) (i : FirstVariants s events text f) where
  group_found : (gs : List ConstructorGroup) (p : Pattern) (n : ℕ) → GroupsAt s events gs → read_pattern s at ≡ ok p n → GroupFound s f (first_called group_name p.group gs)
  group_found gs p n e g = rw (t ∙ pattern_group s at p n g h) at (i.of gs e)

  pub pattern_none : {r : Bindings} → f ≡ None → r ≡ blamed (UnknownEventGroup name) → JudgesPattern s at events table k r table
  unfolding validate_event_pattern judge_named cause_of
  pattern_none e q = record {
    of = λ gs p n a g.
        rw (group_no (group_found gs p n a g) e) (binds_alone s table k q (rw (pattern_group s at p n g h)));
  }

  module _ {variants variant : ℕ} {b : Bool} (e : f ≡ Some variants) (o : Past s name variant) (j : b ≡ eqb (get_or s variant 0) 246) where
    variant_stands : (p : Pattern) (n : ℕ) → read_pattern s at ≡ ok p n → OptionAt read_pattern_variant s variant p.variant n
    variant_stands p n g = option_at read_pattern_variant s variant p.variant n (pattern_variant s at p n g h o)

    pub pattern_bare_lem : b ≡ true → JudgesPattern s at events table k (record { blame = Ok tt; words = 0 }) table
    unfolding validate_event_pattern judge_named judge_group
    pattern_bare_lem z = record {
      of = λ gs p n a g.
          let x = group_yes (group_found gs p n a g) e in
          rw x.3 (subst (λ (v : Option PatternVariant). Binds s table k (judge_group x.0 v) (record { blame = Ok tt; words = 0 }) table) (sym (option_null j z (variant_stands p n g))) (binds_nothing s table k));
    }

    pub variant_goes : {r : Bindings} {table' : List ℕ} → b ≡ false → JudgesGroup s variant variants name table k r table' → JudgesPattern s at events table k r table'
    unfolding validate_event_pattern judge_named
    variant_goes {r} {table'} z q = record {
      of = λ gs p n a g.
          let x = group_yes (group_found gs p n a g) e in
          let v = option_there j z (variant_stands p n g) in
          let y : text_at s name ≡ x.0.name = pattern_group s at p n g h ∙ sym (called_is group_name p.group gs x.0 x.3) in
          rw x.3 (subst (λ (o : Option PatternVariant). Binds s table k (judge_group x.0 o) r table') (sym v.1) (q.of v.0 n x.0 x.1 v.2 x.2 y));
    }
