-- What is said of State variants, and of the variants of event groups.
use Rattle.std.specs.Prelude.{Option as Maybe, None, Some, Ok}
use Prim.Native.Nat.{ℕ, zero, suc, ◌+◌, ◌*◌, ◌/◌, ◌<◌, ◌≤◌}
use mathlib.Core.Path.{◌≡◌, refl, sym, ap, ◌∙◌}
use mathlib.Core.List.{List, [], ◌∷◌, map}
use mathlib.Core.Option.{Option, none, some}
use native.Mathlib.Omega.{arith}
use lib.ListN.{length, get_or, get_elem?}
use Rattle.reading.specs.Limits.{max_list}
use Rattle.reading.specs.Text.{Name, read_name}
use Rattle.reading.specs.Combine.{list_of}
use Rattle.reading.specs.Decl.{ConstructorVariant, ConstructorGroup, read_names, read_constructor_variant}
use Rattle.reading.specs.Module.{Module}
use Rattle.reading.specs.Skip.{text_at}
use Rattle.reading.specs.Views.{ConstructorVariantAt, unit_variant, struct_variant}
use Rattle.reading.proofs.Rules.{no}
use Rattle.reading.proofs.ExprLaws.{name_laws}
use Rattle.reading.proofs.DeclLaws.{constructor_variant_laws}
use Rattle.reading.proofs.CaseViews.{constructor_variant_at}
use Rattle.reading.proofs.Walks.{name_text}
use Rattle.typing.specs.Patterns.{declared_name}
use Rattle.typing.specs.Table.{place_after, after_tag}
use Rattle.typing.proofs.GroupLaws.{get_some}
use Rattle.findings.specs.Scene.{Reads, events_in, Scene, StatesAt, states_here, states_none}
use Rattle.findings.specs.Mentions.{group_variants}
use Rattle.findings.proofs.RowLaws.{moved}
use Rattle.findings.proofs.PlaceLaws.{entry_past}
use Rattle.text.specs.Message.{Saying, of_given, of_entry, of_name, variant_said, event_said}
use Rattle.text.specs.Said.{saying_of, line}
use Rattle.text.specs.Says.{Entry, entry_here, entry_none, Picked, WithStates, variants_in, VariantsOf, Says}
use Rattle.text.specs.declared.said.Arg.TheVariants.{Blank, Name as NameAt}
use Rattle.text.specs.declared.said.Said.{Said}
use Rattle.text.proofs.EntryReads.{entry_picked}
use Rattle.text.proofs.NamedLaws.{name_said, missing_said, entry_said}

-- a State variant
no_state : {s : List ℕ} {f : Maybe ℕ} {vs : List Name} (i : ℕ) → StatesAt s f vs → f ≡ None → get_elem? vs i ≡ none
no_state i (states_here g) q = no (cc)
no_state i states_none q = refl

states_read : {s : List ℕ} {f : Maybe ℕ} {vs : List Name} {k : ℕ} → StatesAt s f vs → f ≡ Some k → Reads (list_of max_list read_name) s k vs
unfolding read_names
states_read {k = k} (states_here {k = j} g) q = let e : k ≡ j = cc in moved e (record { end = g.end; is = g.is })
states_read states_none q = no (cc)

module _ (s places : List ℕ) {known : Maybe ℕ} where
  pub no_states_said : (i : ℕ) → known ≡ None → Says (WithStates s places known) s (variant_said i) None
  unfolding saying_of of_given
  no_states_said i q = record { of = λ m g. rw (no_state i g.1 q) }

  module _ {at i : ℕ} {f : Maybe ℕ} (e : known ≡ Some at) (h : Picked max_list s at i f) where
    variant_entry : {vs : List Name} → StatesAt s known vs → Entry read_name s f (get_elem? vs i)
    variant_entry g = entry_picked name_laws s h (states_read g e)

    pub variant_absent : f ≡ None → Says (WithStates s places known) s (variant_said i) None
    variant_absent q = record { of = λ m g. missing_said (variant_entry g.1) (of_name m) q }

    pub variant_said_lem : {a k : ℕ} {r : Maybe Said} → f ≡ Some k → a ≡ get_or places 0 0 → r ≡ line (NameAt a) (NameAt k) Blank Blank Blank (Ok tt) → Says (WithStates s places known) s (variant_said i) r
    variant_said_lem {k = k} q l z = record { of = λ m g. entry_said (variant_entry g.1) (of_name m) q λ n u. name_said s places m g.0 l z (name_text s k n u.end u.is) }

-- the variants of an event group stand where the table says
module _ (places : List ℕ) {i : ℕ} {groups : List ℕ} (e : groups ≡ events_in places) where
  pub no_group : length groups / 2 ≤ i → VariantsOf places i None
  unfolding variants_in
  no_group h = record { of = λ s m g. let c = rw (sym e) at g.event_groups in rw (entry_past m.events i (omega (arith, c.room))) entry_none }

  pub group_found : i < length groups / 2 → VariantsOf places i (Some (get_or groups (2 * i + 1) 0))
  unfolding variants_in
  group_found h = record {
    of = λ s m g.
        let c = rw (sym e) at g.event_groups in
        let x = get_some m.events i (omega (arith, c.room)) in
        let y = c.variants_are i x.0 x.1 in
        rw x.1 (entry_here (record { end = y.0; is = y.1 }));
  }

-- the name of a variant stands after its head
declared_text : (s : List ℕ) {k at : ℕ} {v : ConstructorVariant} → at ≡ after_tag s k → Reads read_constructor_variant s k v → text_at s at ≡ declared_name v
unfolding place_after declared_name
declared_text s {k} {at} {v} i g =
    let u = constructor_variant_at s k v g.end g.is in
    ap (text_at s) (i ∙ ap place_after u.tagged) ∙ go u.fields
  where
    go : {m c : ℕ} {x : ConstructorVariant} {n : ℕ} → ConstructorVariantAt s m c x n → text_at s m ≡ declared_name x
    go {m} (unit_variant {w = w} {n = n} q) = name_text s m w n q
    go {m} (struct_variant {w = w} {k = n} q t) = name_text s m w n q

-- an entry of names is that of what has the names
module _ (f : Name → Option Saying) where
  names_entry : (vs : List ConstructorVariant) (j : ℕ) → of_entry vs j (λ v. f (declared_name v)) ≡ of_entry (map declared_name vs) j f
  unfolding of_given
  names_entry [] j = refl
  names_entry (v ∷ vs) zero = refl
  names_entry (v ∷ vs) (suc j) = names_entry vs j

  group_names : (j : ℕ) (o : Option ConstructorGroup) → of_given (λ vs. of_entry vs j (λ v. f (declared_name v))) (variants_in o) ≡ of_given (λ g. of_entry (group_variants (some g)) j f) o
  unfolding of_given variants_in group_variants
  group_names j none = refl
  group_names j (some g) = names_entry g.variants j

-- variant j of a list of them
abbrev variant_of : ℕ → Module → List ConstructorVariant → Option Saying
variant_of j m vs = of_entry vs j (λ v. of_name m (declared_name v))

module _ (s places : List ℕ) {i : ℕ} {group : Maybe ℕ} (c : VariantsOf places i group) where
  pub no_group_said : (j : ℕ) → group ≡ None → Says (Scene s places) s (event_said i j) None
  no_group_said j q = record { of = λ m g. missing_said (c.of s m g) (variant_of j m) q ∙ group_names (of_name m) j (get_elem? m.events i) }

  module _ {at j : ℕ} {f : Maybe ℕ} (e : group ≡ Some at) (h : Picked max_list s at j f) where
    pub event_absent : f ≡ None → Says (Scene s places) s (event_said i j) None
    event_absent q = record {
      of = λ m g. entry_said (c.of s m g) (variant_of j m) e (λ vs u. missing_said (entry_picked constructor_variant_laws s h u) (λ v. of_name m (declared_name v)) q) ∙ group_names (of_name m) j (get_elem? m.events i);
    }

    pub event_said_lem : {a k at' : ℕ} {r : Maybe Said} → f ≡ Some k → a ≡ get_or places 0 0 → at' ≡ after_tag s k → r ≡ line (NameAt a) (NameAt at') Blank Blank Blank (Ok tt) → Says (Scene s places) s (event_said i j) r
    event_said_lem q l b z = record {
      of = λ m g. entry_said (c.of s m g) (variant_of j m) e (λ vs u. entry_said (entry_picked constructor_variant_laws s h u) (λ v. of_name m (declared_name v)) q λ v w. name_said s places m g l z (declared_text s b w)) ∙ group_names (of_name m) j (get_elem? m.events i);
    }
