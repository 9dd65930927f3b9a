-- What the judging of a pattern's fields promises: for whatever reads there, its answer is the definition's.
use Rattle.std.specs.Prelude.{ℕ, zero, suc, ◌+◌, ◌<◌, ◌≤◌, ◌≡◌, List, [], Bool, true, false, get_or, take, eqb, Result, ⊤}
use Rattle.std.proofs.Math.Option.{Option, none, some}
use Rattle.reading.specs.Read.{ok, pick}
use Rattle.reading.specs.Text.{Name, read_name}
use Rattle.reading.specs.Decl.{Ty, FieldDecl, read_ty, read_field_decl}
use Rattle.reading.specs.Pattern.{PatternExpr, PatternField, read_pattern_expr, read_pattern_field}
use Rattle.reading.specs.Skip.{text_at}
use Rattle.reading.specs.Views.{OptionAt}
use Rattle.typing.specs.Causes.{blame, field}
use Rattle.typing.specs.Names.{eq_name, member}
use Rattle.typing.specs.Patterns.{pattern_expr_compatible, Judged, judged, judge_field, judge_fields}
use Rattle.typing.specs.Means.{blame_of}
use Rattle.typing.specs.Env.{given}
use Rattle.typing.specs.Table.{after_item, after_head, Past, find_first}
use Rattle.typing.specs.Lanes.{Laned}
use Rattle.typing.specs.Entries.{Entered}
use Rattle.typing.specs.Blames.{Binds}
use Rattle.typing.specs.declared.cause.Blame.{Blame}
use Rattle.typing.specs.declared.cause.Bindings.{Bindings}
use Rattle.typing.specs.declared.field.Parts.{Parts}
use Rattle.typing.specs.declared.field.Naming.{Naming}
use Rattle.typing.specs.declared.field.Naming.TheVariants.{Unnamed, Again, Fresh}

-- where the fields of the record at a place stand
pub record PartsAt (s : List ℕ) (at : ℕ) (r : Parts) : Type 0 where
  pub name : r.name ≡ after_head s at
  pub under : Past s (after_head s at) r.under

-- whether the pattern's field at a place has the name, and whether one of so many from a place on has
unfoldable pub field_named : List ℕ → ℕ → Name → Bool
field_named s at w = pick (eqb (get_or s (after_head s at) 0) 246) false (eq_name (text_at s (after_head s at)) w)

unfoldable pub named_from : ℕ → List ℕ → ℕ → Name → Bool
named_from zero s at w = false
named_from (suc k) s at w = pick (field_named s at w) true (named_from k s (after_item s at) w)

-- the place after so many items
unfoldable pub stepped : List ℕ → ℕ → ℕ → ℕ
stepped s at zero = at
stepped s at (suc i) = after_item s (stepped s at i)

-- of so many fields from the first on, none has the name of one before it
pub record Apart (s : List ℕ) (first many : ℕ) : Type 0 where
  pub are : (i : ℕ) (w : Name) → i < many → field_named s (stepped s first i) w ≡ true → named_from i s first w ≡ false

-- whether the field at a place has one of the first m names of a table
unfoldable pub named_among : List ℕ → ℕ → List ℕ → ℕ → Bool
named_among s at names m = pick (eqb (get_or s (after_head s at) 0) 246) false (given (find_first s (text_at s (after_head s at)) names m))

-- its name, where it has one, is put after the first m; r is how many there are then
pub record PutsName (s : List ℕ) (at : ℕ) (names : List ℕ) (m r : ℕ) (names' heads links : List ℕ) : Type 0 where
  pub few : r ≤ m + 1
  pub room : Laned 255 s names' r heads links
  pub has : (w : Name) → given (find_first s w names' r) ≡ pick (field_named s at w) true (given (find_first s w names m))

-- so many fields from the first on tell whether a field's name is one of those bound so far
pub record Known (s : List ℕ) (first i : ℕ) (o : Option Name) (seen : List Name) : Type 0 where
  pub is : (w : Name) → o ≡ some w → named_from i s first w ≡ member w seen

-- a field's name: none, one of the names bound so far, or a new one
pub data Named : Type 0 where
  unnamed : Named
  again : Name → Named
  fresh : Name → Named

unfoldable pub name_in : List Name → Option Name → Named
name_in seen none = unnamed
name_in seen (some n) = pick (member n seen) (again n) (fresh n)

unfoldable pub named_of : List ℕ → Naming → Named
named_of s Unnamed = unnamed
named_of s (Again at) = again (text_at s at)
named_of s (Fresh at) = fresh (text_at s at)

pub record NamesField (s : List ℕ) (at first i : ℕ) (r : Naming) : Type 0 where
  pub of : (o : Option Name) (n : ℕ) (seen : List Name) → OptionAt read_name s at o n → Known s first i o seen → named_of s r ≡ name_in seen o

-- the pattern at a place, of the declared field by its parts
pub record FitsField (s : List ℕ) (at : ℕ) (decl : Parts) (r : Result ⊤ Blame) : Type 0 where
  pub of : (p : PatternExpr) (n : ℕ) (t : Ty) (m : ℕ) → read_pattern_expr s at ≡ ok p n → read_ty s decl.under ≡ ok t m → blame_of s r ≡ blame (field (text_at s decl.name)) (pattern_expr_compatible p t)

-- no field follows
abbrev pub no_more : List Name → Judged
no_more names = judged none

-- the field alone, by so many fields from the first on; its bindings from word w on
pub record JudgesField (s : List ℕ) (own decl : Parts) (first i : ℕ) (table : List ℕ) (w : ℕ) (r : Bindings) (table' : List ℕ) : Type 0 where
  pub few : r.words ≤ 2
  pub kept : take w table' ≡ take w table
  pub of : (x : PatternField) (k n : ℕ) (f : FieldDecl) (m : ℕ) (seen : List Name) → OptionAt read_name s own.name x.name k → read_pattern_expr s own.under ≡ ok x.pattern n → text_at s decl.name ≡ f.name → read_ty s decl.under ≡ ok f.ty m → Known s first i x.name seen → Binds s table w (judge_field no_more seen f x x.name) r table'

-- so many fields from a place on, and as many declared ones from another
pub record JudgesFields (s : List ℕ) (at decls count : ℕ) (table : List ℕ) (k : ℕ) (r : Bindings) (table' : List ℕ) : Type 0 where
  pub of : (xs : List PatternField) (fs : List FieldDecl) → Entered read_pattern_field s count at xs → Entered read_field_decl s count decls fs → Binds s table k (judge_fields [] fs xs) r table'
