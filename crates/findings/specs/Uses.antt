-- Which variants of a group of events patterns use, and what the search for them promises: for whatever reads there, its answer is
-- the definition's.
use Rattle.std.specs.Prelude.{ℕ, ◌+◌, ◌*◌, ◌≤◌, ◌≡◌, List, [], ◌∷◌, ◌++◌, map, Bool, true, false, cond, not, ◌&&◌, ◌||◌, length, Option as Maybe, Some, None}
use Rattle.std.proofs.Math.Option.{Option, none, some}
use Rattle.std.proofs.Math.ListN.{get_elem?}
use Rattle.reading.specs.Limits.{max_list}
use Rattle.reading.specs.Text.{Name}
use Rattle.reading.specs.Combine.{list_of, optional}
use Rattle.reading.specs.Decl.{ConstructorVariant, ConstructorGroup, read_constructor_variant}
use Rattle.reading.specs.Pattern.{Pattern, PatternVariant, read_pattern_variant, read_pattern}
use Rattle.reading.specs.Transition.{Transition}
use Rattle.reading.specs.Skip.{text_at}
use Rattle.typing.specs.Names.{eq_name, member}
use Rattle.typing.specs.Patterns.{declared_name, pattern_variant_name}
use Rattle.typing.specs.Table.{after_head}
use Rattle.findings.specs.Lists.{Placed, placed, any, each}
use Rattle.findings.specs.Finding.{Note, note, noted}
use Rattle.typing.specs.First.{GroupsAt}
use Rattle.typing.specs.Lanes.{print}
use Rattle.findings.specs.Warnings.{dead_in, dead}
use Rattle.findings.specs.Noting.{Noted}
use Rattle.findings.specs.Scene.{Reads, field, Rows}
use Rattle.findings.specs.Variants.{VariantAt, Variants}
use Rattle.findings.specs.Promises.{at_place}
use Rattle.findings.specs.declared.uses.Uses.{Uses}

-- the variant that a pattern names, or that it names none
unfoldable pub variant_names : Option PatternVariant → List Name
variant_names none = []
variant_names (some v) = pattern_variant_name v ∷ []

unfoldable pub is_bare : Option PatternVariant → Bool
is_bare none = true
is_bare (some v) = false

-- of a pattern of group g, and of those of transitions
unfoldable pub pattern_names : Name → Pattern → List Name
pattern_names g p = cond (eq_name p.group g) (variant_names p.variant) []

unfoldable pub pattern_bare : Name → Pattern → Bool
pattern_bare g p = eq_name p.group g && is_bare p.variant

abbrev pub named_by : Name → List Transition → List Name
named_by g ts = each (λ t. pattern_names g t.pattern) ts

abbrev pub bare_by : Name → List Transition → Bool
bare_by g ts = any (λ t. pattern_bare g t.pattern) ts

-- a variant v is used by its name, or where one names none and the first group has it, with variants vs
abbrev pub used_by : Bool → List Name → List Name → Name → Bool
used_by bare vs ns v = member v ns || (bare && member v vs)

-- the first words of a table are those of so many names
pub record NamesAt (s table : List ℕ) (count : ℕ) (ns : List Name) : Type 0 where
  pub many : count ≡ length ns
  pub room : 2 * count ≤ length table
  pub at : (k : ℕ) (w : Name) → get_elem? ns k ≡ some w → VariantAt s table k w

-- the names of the variants of a list that was found
pub data VariantsAt (s : List ℕ) : Maybe ℕ → List Name → Type 0 where
  variants_here : {k : ℕ} {xs : List ConstructorVariant} → Reads (list_of max_list read_constructor_variant) s k xs → VariantsAt s (Some k) (map declared_name xs)
  variants_none : VariantsAt s None []

-- what is added by a pattern's variant, and by a pattern; and what all transitions give
pub record AddsVariant (s : List ℕ) (at : ℕ) (table : List ℕ) (u : Uses) (table' : List ℕ) (u' : Uses) : Type 0 where
  pub few : u'.named ≤ u.named + 1
  pub names : (w : Option PatternVariant) → Reads (optional read_pattern_variant) s at w → (ns : List Name) → NamesAt s table u.named ns → NamesAt s table' u'.named (ns ++ variant_names w)
  pub bare : (w : Option PatternVariant) → Reads (optional read_pattern_variant) s at w → u'.bare ≡ (u.bare || is_bare w)

pub record AddsUse (s : List ℕ) (at : ℕ) (g : Name) (table : List ℕ) (u : Uses) (table' : List ℕ) (u' : Uses) : Type 0 where
  pub few : u'.named ≤ u.named + 1
  pub names : (p : Pattern) → Reads read_pattern s at p → (ns : List Name) → NamesAt s table u.named ns → NamesAt s table' u'.named (ns ++ pattern_names g p)
  pub bare : (p : Pattern) → Reads read_pattern s at p → u'.bare ≡ (u.bare || pattern_bare g p)

-- the print of the group's name in the pattern of transition i
abbrev pub GroupPrint : List ℕ → List ℕ → ℕ → ℕ → Type 0
GroupPrint s rows i r = r ≡ print 0 (text_at s (after_head s (field rows i 2)))

pub record UsesOf (s rows : List ℕ) (count : ℕ) (g : Name) (table : List ℕ) (u : Uses) : Type 0 where
  pub names : (ts : List Transition) → Rows s rows ts → count ≡ length ts → NamesAt s table u.named (named_by g ts)
  pub bare : (ts : List Transition) → Rows s rows ts → count ≡ length ts → u.bare ≡ bare_by g ts

-- questions
pub record HasVariant (s : List ℕ) (found : Maybe ℕ) (w : Name) (r : Bool) : Type 0 where
  pub of : (vs : List Name) → VariantsAt s found vs → r ≡ member w vs

pub record IsUsed (s : List ℕ) (found : Maybe ℕ) (table : List ℕ) (bare : Bool) (at : ℕ) (r : Bool) : Type 0 where
  pub of : (vs ns : List Name) → VariantsAt s found vs → Variants s table ns → r ≡ used_by bare vs ns (text_at s at)

-- what is known of a group's uses: the variants of the first group of its name, and the names that patterns give
pub record GroupKnown (s : List ℕ) (found : Maybe ℕ) (table : List ℕ) : Type 0 where
  pub variants : List Name
  pub names : List Name
  pub variants_at : VariantsAt s found variants
  pub named : Variants s table names

-- a variant of group g, by what is known
abbrev pub unused_variant : {s : List ℕ} {found : Maybe ℕ} {table : List ℕ} → Bool → ℕ → GroupKnown s found table → Placed ConstructorVariant → List Note
unused_variant bare g h v = noted (not (used_by bare h.variants h.names (declared_name v.item))) (note 22 g v.place 0)

module _ (s : List ℕ) (owner : ℕ) (o : List ℕ) (skip n r : ℕ) (o' : List ℕ) where
  pub record NotesVariant (found : Maybe ℕ) (table : List ℕ) (bare : Bool) (g at j : ℕ) : Type 0 where
    pub of : (h : GroupKnown s found table) (x : ConstructorVariant) → Reads read_constructor_variant s at x → Noted owner o skip n (unused_variant bare g h (at_place j x)) r o'

  pub record NotesVariants (found : Maybe ℕ) (table : List ℕ) (bare : Bool) (g at : ℕ) : Type 0 where
    pub of : (h : GroupKnown s found table) (xs : List ConstructorVariant) → Reads (list_of max_list read_constructor_variant) s at xs → Noted owner o skip n (each (unused_variant bare g h) (placed 0 xs)) r o'

  -- group g of a table of groups, and all of them
  module _ (rows : List ℕ) (count : ℕ) (groups : List ℕ) where
    pub record NotesGroup (g : ℕ) : Type 0 where
      pub of : (gs : List ConstructorGroup) (x : ConstructorGroup) (ts : List Transition) → GroupsAt s groups gs → get_elem? gs g ≡ some x → Rows s rows ts → count ≡ length ts → Noted owner o skip n (dead_in gs ts (at_place g x)) r o'

    pub record NotesGroups (many : ℕ) : Type 0 where
      pub of : (gs : List ConstructorGroup) (ts : List Transition) → GroupsAt s groups gs → many ≡ length gs → Rows s rows ts → count ≡ length ts → Noted owner o skip n (dead gs ts) r o'
