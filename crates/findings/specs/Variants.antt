-- A table of names, two words each: the print of a name and its place. It is that of the State variants, or of those that patterns use.
use Rattle.std.specs.Prelude.{ℕ, ◌+◌, ◌*◌, ◌≡◌, List, [], ◌∷◌, Bool, true, length, get_or, take, Option}
use Rattle.std.proofs.Math.Option.{some}
use Rattle.std.proofs.Math.ListN.{get_elem?}
use Rattle.std.proofs.lemmas.List.Edits.{sets}
use Rattle.reading.specs.Limits.{max_list}
use Rattle.reading.specs.Text.{Name, read_name}
use Rattle.reading.specs.Combine.{list_of}
use Rattle.reading.specs.Skip.{text_at}
use Rattle.typing.specs.Names.{eq_name, member}
use Rattle.typing.specs.Lanes.{print}
use Rattle.findings.specs.Scene.{Reads, StatesAt}

-- the words of the name number j, and those of each name
pub record VariantAt (s table : List ℕ) (j : ℕ) (v : Name) : Type 0 where
  pub print_is : get_or table (2 * j) 0 ≡ print 0 v
  pub name_is : text_at s (get_or table (2 * j + 1) 0) ≡ v

pub record Variants (s table : List ℕ) (vs : List Name) : Type 0 where
  pub room : length table ≡ 2 * length vs
  pub at : (j : ℕ) (v : Name) → get_elem? vs j ≡ some v → VariantAt s table j v

-- the table with the name at a place as number j
abbrev pub put_variant : List ℕ → ℕ → ℕ → List ℕ → List ℕ
put_variant s at j table = sets table (2 * j) (print 0 (text_at s at) ∷ at ∷ [])

-- the first words of a table are those of the names of a list, and of the State variants
pub record NamesFilled (s : List ℕ) (at words : ℕ) (table : List ℕ) : Type 0 where
  pub of : (vs : List Name) → Reads (list_of max_list read_name) s at vs → Variants s (take words table) vs

pub record StatesFilled (s : List ℕ) (found : Option ℕ) (words : ℕ) (table : List ℕ) : Type 0 where
  pub of : (vs : List Name) → StatesAt s found vs → Variants s (take words table) vs

-- whether the name at a place, which has the print, is name number j, and whether it is one of them
pub record StandsAt (s table : List ℕ) (at p j : ℕ) (r : Bool) : Type 0 where
  pub of : (v w : Name) → VariantAt s table j v → text_at s at ≡ w → p ≡ print 0 w → r ≡ eq_name v w

pub record IsVariant (s table : List ℕ) (at p : ℕ) (r : Bool) : Type 0 where
  pub of : (vs : List Name) (w : Name) → Variants s table vs → text_at s at ≡ w → p ≡ print 0 w → r ≡ member w vs

-- where the answer is yes, it is one of them
pub record Hinted (s table : List ℕ) (at p : ℕ) (r : Bool) : Type 0 where
  pub of : r ≡ true → IsVariant s table at p true
