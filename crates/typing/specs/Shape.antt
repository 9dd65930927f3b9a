-- What a formula is made of, and what the judging of one promises: for whatever reads there, its answer is the definition's.
use Rattle.std.specs.Prelude.{ℕ, ◌≡◌, List, [], ◌∷◌, Bool, true, get_or}
use Rattle.reading.specs.Read.{ok, pick}
use Rattle.reading.specs.Limits.{max_u64}
use Rattle.reading.specs.Item.{read_number}
use Rattle.reading.specs.Formula.{Formula, bounded_always, read_formula}
use Rattle.typing.specs.Formulas.{bounded_always_error}
use Rattle.typing.specs.declared.formula.Kind.{Kind}
use Rattle.typing.specs.declared.formula.Kind.TheVariants.{Input, Output, Expression, One, Always, Sometime, Two, Unknown}

-- the cases of Formula in ir.rs
unfoldable pub kind_of : ℕ → Kind
kind_of k = get_or (Input ∷ Output ∷ Expression ∷ One ∷ Two ∷ Two ∷ Two ∷ One ∷ One ∷ Always ∷ Sometime ∷ One ∷ Two ∷ []) k Unknown

-- the bounds of a formula at a place, with as many levels left
pub record Bounds (d : ℕ) (s : List ℕ) (at : ℕ) (r : Bool) : Type 0 where
  pub of : (f : Formula) (n : ℕ) → read_formula d s at ≡ ok f n → r ≡ bounded_always_error f

-- of the fields of always[N], of eventually[N] and of a case with two formulas
pub record BoundsAlways (d : ℕ) (s : List ℕ) (at : ℕ) (r : Bool) : Type 0 where
  pub of : (b k : ℕ) (f : Formula) (n : ℕ) → read_number max_u64 s at ≡ ok b k → read_formula d s k ≡ ok f n → r ≡ bounded_always_error (bounded_always b f)

pub record BoundsSometime (d : ℕ) (s : List ℕ) (at : ℕ) (r : Bool) : Type 0 where
  pub of : (b k : ℕ) (f : Formula) (n : ℕ) → read_number max_u64 s at ≡ ok b k → read_formula d s k ≡ ok f n → r ≡ bounded_always_error f

pub record BoundsTwo (d : ℕ) (s : List ℕ) (at : ℕ) (r : Bool) : Type 0 where
  pub of : (f : Formula) (k : ℕ) (g : Formula) (n : ℕ) → read_formula d s at ≡ ok f k → read_formula d s k ≡ ok g n → r ≡ pick (bounded_always_error f) true (bounded_always_error g)
