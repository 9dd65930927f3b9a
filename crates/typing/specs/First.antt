-- The first of a name in a list of the document, and its place.
use Rattle.std.specs.Prelude.{ℕ, ◌+◌, ◌*◌, ◌≡◌, List, true, false, length, get_or, Option as Maybe, Some, None}
use Rattle.std.proofs.Math.Option.{Option, none, some}
use Rattle.std.proofs.Math.ListN.{get_elem?}
use Rattle.reading.specs.Read.{Reader, ok}
use Rattle.reading.specs.Limits.{max_list}
use Rattle.reading.specs.Text.{Name}
use Rattle.reading.specs.Combine.{list_of}
use Rattle.reading.specs.Decl.{EnumDecl, ConstructorVariant, ConstructorGroup, read_enum_decl, read_constructor_variant}
use Rattle.reading.specs.Skip.{text_at}
use Rattle.reading.specs.Views.{ConstructorVariantAt}
use Rattle.typing.specs.Names.{eq_name, first_called}
use Rattle.typing.specs.Patterns.{declared_name}

-- what was found reads at its place
pub data FoundAt {A : Type 0} (F : Reader A) (s : List ℕ) : Maybe ℕ → Option A → Type 0 where
  found_here : {k n : ℕ} {x : A} → F s k ≡ ok x n → FoundAt F s (Some k) (some x)
  found_nothing : FoundAt F s None none

abbrev pub group_name : ConstructorGroup → Name
group_name g = g.name

abbrev pub enum_name : EnumDecl → Name
enum_name e = e.name

-- for whatever list reads at a place
pub record First {A : Type 0} (F : Reader A) (name : A → Name) (s : List ℕ) (at : ℕ) (w : Name) (r : Maybe ℕ) : Type 0 where
  pub of : (xs : List A) (n : ℕ) → list_of max_list F s at ≡ ok xs n → FoundAt F s r (first_called name w xs)

abbrev pub FirstEnum : List ℕ → ℕ → Name → Maybe ℕ → Type 0
FirstEnum = First read_enum_decl enum_name

abbrev pub FirstVariant : List ℕ → ℕ → Name → Maybe ℕ → Type 0
FirstVariant = First read_constructor_variant declared_name

-- a table of groups: pairs of the places of a name and of its variants
pub record GroupsAt (s groups : List ℕ) (gs : List ConstructorGroup) : Type 0 where
  pub room : length groups ≡ 2 * length gs
  pub name_is : (k : ℕ) (x : ConstructorGroup) → get_elem? gs k ≡ some x → text_at s (get_or groups (2 * k) 0) ≡ x.name
  pub variants_are : (k : ℕ) (x : ConstructorGroup) → get_elem? gs k ≡ some x → (n : ℕ) × (list_of max_list read_constructor_variant s (get_or groups (2 * k + 1) 0) ≡ ok x.variants n)

-- the variants of a group that was found read at a place
pub data GroupFound (s : List ℕ) : Maybe ℕ → Option ConstructorGroup → Type 0 where
  group_here : {k n : ℕ} {g : ConstructorGroup} → list_of max_list read_constructor_variant s k ≡ ok g.variants n → GroupFound s (Some k) (some g)
  group_nothing : GroupFound s None none

pub record FirstVariants (s groups : List ℕ) (w : Name) (r : Maybe ℕ) : Type 0 where
  pub of : (gs : List ConstructorGroup) → GroupsAt s groups gs → GroupFound s r (first_called group_name w gs)

-- r is the place after the declared variant of a case whose name stands at a place
pub record PastVariant (s : List ℕ) (name case r : ℕ) : Type 0 where
  pub of : (x : ConstructorVariant) (n : ℕ) → ConstructorVariantAt s name case x n → r ≡ n

-- end is the place after the declared variant at a place, which is not of the name
pub record PastOther (s : List ℕ) (at : ℕ) (w : Name) (end : ℕ) : Type 0 where
  pub of : (x : ConstructorVariant) (n : ℕ) → read_constructor_variant s at ≡ ok x n → (eq_name (declared_name x) w ≡ false) × (end ≡ n)

-- the same, if the place is told
unfoldable pub OtherVariant : List ℕ → ℕ → Name → Maybe ℕ → Type 0
OtherVariant s at w (Some end) = PastOther s at w end
OtherVariant s at w None = Unit {0}

-- the same, if it is not of the name; else it is
unfoldable pub NextVariant : List ℕ → ℕ → Name → Maybe ℕ → Type 0
NextVariant s at w (Some end) = PastOther s at w end
NextVariant s at w None = (x : ConstructorVariant) (n : ℕ) → read_constructor_variant s at ≡ ok x n → eq_name (declared_name x) w ≡ true
