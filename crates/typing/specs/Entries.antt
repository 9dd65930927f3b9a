-- What the opening of a list and of a variant promises: for whatever reads there, its entries.
use Rattle.std.specs.Prelude.{ℕ, ◌≡◌, Bool, false, List, [], length, eqb}
use Rattle.reading.specs.Read.{Read, Reader, ok, refused}
use Rattle.reading.specs.Item.{read_tag}
use Rattle.reading.specs.Combine.{entries}
use Rattle.reading.specs.Decl.{ConstructorVariant, read_field_decl, read_constructor_variant}
use Rattle.reading.specs.Pattern.{PatternField, PatternVariant, read_pattern_field, read_pattern_variant}
use Rattle.reading.specs.Pattern as pattern
use Rattle.reading.specs.declared.item.Tag.{Tag}
use Rattle.typing.specs.Outputs.{fields_of}
use Rattle.typing.specs.declared.entries.Entries.{Entries}

unfoldable pub opened : Read ℕ → Entries
opened (ok c k) = record { many = c; first = k }
opened (refused f p) = record { many = 0; first = p }

-- so many entries read from a place on
pub record Entered {A : Type 0} (F : Reader A) (s : List ℕ) (many first : ℕ) (xs : List A) : Type 0 where
  pub count : many ≡ length xs
  pub end : ℕ
  pub reads : entries (length xs) F s first ≡ ok xs end

-- whether a data enum has the case
unfoldable pub case_is : ℕ → Read Tag → Bool
case_is c (ok t n) = eqb t.case c
case_is c (refused f p) = false

abbrev pub case_at : List ℕ → ℕ → ℕ → Bool
case_at s at c = case_is c (read_tag s at)

-- the fields of a pattern's variant, and of a declared one
unfoldable pub given_fields : PatternVariant → List PatternField
given_fields (pattern.unit n) = []
given_fields (pattern.struct n ps) = ps

pub record FieldsAt (s : List ℕ) (at : ℕ) (r : Entries) : Type 0 where
  pub given : (v : PatternVariant) (n : ℕ) → read_pattern_variant s at ≡ ok v n → Entered read_pattern_field s r.many r.first (given_fields v)
  pub declared : (d : ConstructorVariant) (n : ℕ) → read_constructor_variant s at ≡ ok d n → Entered read_field_decl s r.many r.first (fields_of d)
