-- How readers of records, lists, options and data enums are made from those of their parts.
use Rattle.std.specs.Prelude.{ℕ, zero, suc, ◌+◌, List, [], ◌∷◌, get_or, eqb}
use Rattle.std.proofs.Math.Option.{Option, none, some}
use Rattle.reading.specs.Read.{Read, Reader, ok, refused, pick, bind, map_r}
use Rattle.reading.specs.Item.{read_fields, read_count, read_tag}
use Rattle.reading.specs.declared.fault.Fault.TheVariants.{Unexpected}
use Rattle.reading.specs.declared.item.Tag.{Tag}

infixr 50 ◌then◌
-- no item
unfoldable pub nothing : Reader (Unit {0})
nothing s at = ok tt at

module _ {A B : Type 0} where
  -- one after the other
  unfoldable pub ◌then◌ : Reader A → Reader B → Reader (A × B)
  ◌then◌ F G s at = bind (F s at) λ a n. map_r (λ b. (a, b)) (G s n)

  -- an array of as many fields
  unfoldable pub record_of : ℕ → Reader A → (A → B) → Reader B
  record_of fields F make s at = bind (read_fields fields s at) λ _ n. map_r make (F s n)

module _ {A : Type 0} where
  -- as many items
  unfoldable pub entries : ℕ → Reader A → Reader (List A)
  entries zero F s at = ok [] at
  entries (suc n) F s at = bind (F s at) λ a m. map_r (λ l. a ∷ l) (entries n F s m)

  -- an array of at most limit entries
  unfoldable pub list_of : ℕ → Reader A → Reader (List A)
  list_of limit F s at = bind (read_count limit s at) λ count n. entries count F s n

  -- null, or an item
  unfoldable pub optional : Reader A → Reader (Option A)
  optional F s at = pick (eqb (get_or s at 0) 246) (ok none (at + 1)) (map_r some (F s at))

-- how the fields of a data enum are read, its head given: the case number picks the rule
abbrev pub Cases : Type 0 → Type 0
Cases A = List ℕ → Tag → ℕ → Read A

-- an array of as many items as are due, or 4 at the array
unfoldable pub sized : {A : Type 0} → Tag → ℕ → Read A → Read A
sized t due m = pick (eqb t.count due) m (refused Unexpected t.start)

-- the case k, an array of as many items, its own number among them; else the cases that follow
unfoldable pub row : {X A : Type 0} → ℕ → ℕ → Reader X → (X → A) → Cases A → Cases A
row k items F make rest s t n = pick (eqb t.case k) (map_r make (sized t items (F s n))) (rest s t n)

-- no such case: 4 at the case number
unfoldable pub unknown : {A : Type 0} → Cases A
unknown s t n = refused Unexpected t.place

unfoldable pub enum_of : {A : Type 0} → Cases A → Reader A
enum_of cases s at = bind (read_tag s at) λ t n. cases s t n

-- a constructor of two and of three fields, of their tuple
abbrev pub pair : {A B C : Type 0} → (A → B → C) → A × B → C
pair f p = f p.0 p.1

abbrev pub triple : {A B C D : Type 0} → (A → B → C → D) → A × (B × C) → D
triple f p = f p.0 p.1.0 p.1.1
