-- What the judging of a pattern's field promises; and a field's pattern against its type, by the type alone.
use Rattle.std.specs.Prelude.{ℕ, ◌≡◌, List, Bool, Option as Maybe, Some, None}
use Rattle.std.proofs.Math.Option.{Option, none, some}
use Rattle.reading.specs.Read.{ok, pick}
use Rattle.reading.specs.Limits.{max_u64}
use Rattle.reading.specs.Item.{read_number}
use Rattle.reading.specs.Text.{Name}
use Rattle.reading.specs.Expr.{read_path}
use Rattle.reading.specs.Decl.{Ty, read_ty}
use Rattle.reading.specs.Decl as decl
use Rattle.reading.specs.Pattern.{PatternExpr, enum_variant, read_pattern_expr}
use Rattle.reading.specs.Skip.{text_at}
use Rattle.typing.specs.Types.{ExprType, bool, bit, int_lit, enum}
use Rattle.typing.specs.Causes.{Cause, does_not_fit, integer_on_bool, integer_on_enum, boolean_literal}
use Rattle.typing.specs.Patterns.{fits, variant_of, pattern_expr_compatible}
use Rattle.typing.specs.Means.{unfit_of, Fit}

-- an integer literal and a boolean literal on a type; no field is declared with IntLit
unfoldable pub int_on : ℕ → ExprType → Option Cause
int_on v bool = some integer_on_bool
int_on v (bit w) = pick (fits v w) none (some (does_not_fit v w))
int_on v int_lit = some integer_on_bool
int_on v (enum n) = some integer_on_enum

unfoldable pub bool_on : ExprType → Option Cause
bool_on bool = none
bool_on (bit w) = some boolean_literal
bool_on int_lit = some boolean_literal
bool_on (enum n) = some boolean_literal

-- the place of the name of a declared enum
unfoldable pub enum_name : Ty → Option Name
enum_name decl.bool = none
enum_name (decl.bit w) = none
enum_name (decl.enum n) = some n

unfoldable pub name_found : List ℕ → Maybe ℕ → Option Name
name_found s (Some at) = some (text_at s at)
name_found s None = none

pub record EnumOf (s : List ℕ) (at : ℕ) (r : Maybe ℕ) : Type 0 where
  pub of : (t : Ty) (n : ℕ) → read_ty s at ≡ ok t n → name_found s r ≡ enum_name t

-- a path against an enum's name
pub record VariantOf (s : List ℕ) (at : ℕ) (e : Name) (r : Bool) : Type 0 where
  pub of : (p : List Name) (n : ℕ) → read_path s at ≡ ok p n → r ≡ variant_of p e

pub record AcceptsInt (s : List ℕ) (at : ℕ) (t : ExprType) (r : Fit) : Type 0 where
  pub of : (v n : ℕ) → read_number max_u64 s at ≡ ok v n → unfit_of s r ≡ int_on v t

pub record AcceptsPath (s : List ℕ) (at ty : ℕ) (r : Fit) : Type 0 where
  pub of : (p : List Name) (n : ℕ) (t : Ty) (m : ℕ) → read_path s at ≡ ok p n → read_ty s ty ≡ ok t m → unfit_of s r ≡ pattern_expr_compatible (enum_variant p) t

-- the pattern at a place, of a field whose type stands at another
pub record Accepts (s : List ℕ) (at ty : ℕ) (r : Fit) : Type 0 where
  pub of : (p : PatternExpr) (n : ℕ) (t : Ty) (m : ℕ) → read_pattern_expr s at ≡ ok p n → read_ty s ty ≡ ok t m → unfit_of s r ≡ pattern_expr_compatible p t
