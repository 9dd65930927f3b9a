-- What the judging of a pattern's variant promises: for whatever reads there, its answer is the definition's.
use Rattle.std.specs.Prelude.{ℕ, ◌≡◌, List, Err}
use Rattle.std.proofs.Math.Option.{some}
use Rattle.reading.specs.Read.{ok}
use Rattle.reading.specs.Text.{Name}
use Rattle.reading.specs.Limits.{max_list}
use Rattle.reading.specs.Combine.{list_of}
use Rattle.reading.specs.Decl.{FieldDecl, ConstructorVariant, ConstructorGroup, read_constructor_variant}
use Rattle.reading.specs.Decl as decl
use Rattle.reading.specs.Pattern.{PatternField, PatternVariant, read_pattern_variant}
use Rattle.reading.specs.Pattern as pattern
use Rattle.reading.specs.Skip.{text_at}
use Rattle.typing.specs.Patterns.{judge_variant, judge_group}
use Rattle.typing.specs.Blames.{Binds}
use Rattle.typing.specs.declared.cause.Cause.{Cause}
use Rattle.typing.specs.declared.cause.Within.TheVariants.{Alone}
use Rattle.typing.specs.declared.cause.Bindings.{Bindings}

-- nothing is bound, for that cause
abbrev pub blamed : Cause → Bindings
blamed c = record { blame = Err (record { within = Alone; cause = c }); words = 0 }

-- the pattern's variant at a place, of the declared variant at another: where both have fields, and any two
pub record JudgesStruct (s : List ℕ) (at declared : ℕ) (table : List ℕ) (k : ℕ) (r : Bindings) (table' : List ℕ) : Type 0 where
  pub of : (v : Name) (xs : List PatternField) (n : ℕ) (w : Name) (fs : List FieldDecl) (m : ℕ) → read_pattern_variant s at ≡ ok (pattern.struct v xs) n → read_constructor_variant s declared ≡ ok (decl.struct w fs) m → Binds s table k (judge_variant (decl.struct w fs) (pattern.struct v xs)) r table'

pub record JudgesVariant (s : List ℕ) (at declared : ℕ) (table : List ℕ) (k : ℕ) (r : Bindings) (table' : List ℕ) : Type 0 where
  pub of : (v : PatternVariant) (n : ℕ) (d : ConstructorVariant) (m : ℕ) → read_pattern_variant s at ≡ ok v n → read_constructor_variant s declared ≡ ok d m → Binds s table k (judge_variant d v) r table'

-- of the group whose variants stand at another, and whose name stands at a third
pub record JudgesGroup (s : List ℕ) (at variants name : ℕ) (table : List ℕ) (k : ℕ) (r : Bindings) (table' : List ℕ) : Type 0 where
  pub of : (v : PatternVariant) (n : ℕ) (g : ConstructorGroup) (m : ℕ) → read_pattern_variant s at ≡ ok v n → list_of max_list read_constructor_variant s variants ≡ ok g.variants m → text_at s name ≡ g.name → Binds s table k (judge_group g (some v)) r table'
