-- What the judging of patterns and formulas promises: for whatever reads there, its answer is the definition's.
use Rattle.std.specs.Prelude.{ℕ, ◌≡◌, List, Bool}
use Rattle.std.proofs.Math.Option.{Option}
use Rattle.reading.specs.Read.{ok}
use Rattle.reading.specs.Limits.{max_u64}
use Rattle.reading.specs.Item.{read_number}
use Rattle.reading.specs.Expr.{Expr, read_expr}
use Rattle.reading.specs.Combine.{optional}
use Rattle.reading.specs.Pattern.{PatternField, PatternVariant, Pattern, read_pattern_field, read_pattern_variant, read_pattern}
use Rattle.reading.specs.Formula.{Formula, expr, read_formula}
use Rattle.typing.specs.Causes.{first_of}
use Rattle.typing.specs.Env.{Env, given}
use Rattle.typing.specs.Formulas.{fields_bind, variant_binds, check_pattern_group, type_formula}
use Rattle.typing.specs.Means.{unfit_of, Fit}
use Rattle.typing.specs.Entries.{Entered}

-- whether a field of a pattern has a name, whether one of so many from a place on has, and whether one of a variant has
pub record FieldBinds (s : List ℕ) (at : ℕ) (r : Bool) : Type 0 where
  pub of : (p : PatternField) (n : ℕ) → read_pattern_field s at ≡ ok p n → r ≡ given p.name

pub record FieldsBind (s : List ℕ) (at count : ℕ) (r : Bool) : Type 0 where
  pub of : (ps : List PatternField) → Entered read_pattern_field s count at ps → r ≡ fields_bind ps

pub record VariantBinds (s : List ℕ) (at : ℕ) (r : Bool) : Type 0 where
  pub of : (v : Option PatternVariant) (n : ℕ) → optional read_pattern_variant s at ≡ ok v n → r ≡ variant_binds v

-- a pattern in a formula
pub record ChecksGroup (s : List ℕ) (at : ℕ) (r : Fit) : Type 0 where
  pub of : (p : Pattern) (n : ℕ) → read_pattern s at ≡ ok p n → unfit_of s r ≡ check_pattern_group p

-- a formula, with as many levels left
pub record TypesFormula (env : Env) (d : ℕ) (s : List ℕ) (at : ℕ) (r : Fit) : Type 0 where
  pub of : (f : Formula) (n : ℕ) → read_formula d s at ≡ ok f n → unfit_of s r ≡ type_formula env f

-- its expression, a bound and a formula, two formulas
pub record TypesBool (env : Env) (d : ℕ) (s : List ℕ) (at : ℕ) (r : Fit) : Type 0 where
  pub of : (e : Expr) (n : ℕ) → read_expr d s at ≡ ok e n → unfit_of s r ≡ type_formula env (expr e)

pub record TypesBounded (env : Env) (d : ℕ) (s : List ℕ) (at : ℕ) (r : Fit) : Type 0 where
  pub of : (b k : ℕ) (f : Formula) (n : ℕ) → read_number max_u64 s at ≡ ok b k → read_formula d s k ≡ ok f n → unfit_of s r ≡ type_formula env f

pub record TypesTwo (env : Env) (d : ℕ) (s : List ℕ) (at : ℕ) (r : Fit) : Type 0 where
  pub of : (f : Formula) (k : ℕ) (g : Formula) (n : ℕ) → read_formula d s at ≡ ok f k → read_formula d s k ≡ ok g n → unfit_of s r ≡ first_of (type_formula env f) (type_formula env g)
