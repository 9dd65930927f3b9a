-- An entry that was looked up: it stands where its list has it, so that a later one is found from there on.
use Rattle.std.specs.Prelude.{ℕ, ◌≡◌, List, Option, Some, None}
use Rattle.reading.specs.Read.{ok}
use Rattle.reading.specs.Limits.{max_modules}
use Rattle.reading.specs.Item.{read_count}
use Rattle.reading.specs.Module.{Ir}
use Rattle.reading.specs.Document.{read_document}
use Rattle.typing.specs.Table.{after_item, after_head}
use Rattle.text.specs.Says.{passed, Picked}
use Rattle.text.specs.declared.entry.Near.{Near}
use Rattle.text.specs.declared.entry.Numbered.{Numbered}

-- the place of an entry, if there is such a list
pub record Stands (most : ℕ) (s : List ℕ) (list number place : ℕ) : Type 0 where
  pub of : (many first : ℕ) → read_count most s list ≡ ok many first → place ≡ passed number s first

unfoldable pub Kept : ℕ → List ℕ → Option Near → Type 0
Kept most s (Some x) = Stands most s x.list x.number x.place
Kept most s None = Unit {0}

-- an entry of the list at a place, whose first entry is known
pub record Starts (near : Option Near) (at first : ℕ) (r : Numbered) : Type 0 where
  pub of : (most : ℕ) (s : List ℕ) (many : ℕ) → Kept most s near → read_count most s at ≡ ok many first → r.place ≡ passed r.number s first

-- entry k of a list, if what is near stands where it is said to
pub record PickedFrom (near : Option Near) (most : ℕ) (s : List ℕ) (at k : ℕ) (r : Option ℕ) : Type 0 where
  pub of : Kept most s near → Picked most s at k r

-- of an accepted document: what is near stands there among its modules; module k
pub record KeptModule (s : List ℕ) (near : Option Near) : Type 0 where
  pub of : (x : Ir) (n : ℕ) → read_document s ≡ ok x n → Kept max_modules s near

pub record PickedModule (s : List ℕ) (k : ℕ) (r : Option ℕ) : Type 0 where
  pub of : (x : Ir) (n : ℕ) → read_document s ≡ ok x n → Picked max_modules s (after_item s (after_head s 0)) k r
