-- What names mean in a place: the environment, as lookup functions.
use Rattle.std.specs.Prelude.{◌≡◌, List, Bool, true, false}
use Rattle.std.proofs.Math.Option.{Option, none, some}
use Rattle.reading.specs.Text.{Name}
use Rattle.reading.specs.Decl.{EnumDecl, VarDecl}
use Rattle.reading.specs.Module.{Module}
use Rattle.typing.specs.Types.{ExprType, type_to_expr_type}
use Rattle.typing.specs.Causes.{first_of}
use Rattle.typing.specs.Names.{member, last_called, state_enum}

pub record Env : Type 0 where
  pub bindings : Name → Option ExprType
  pub vars : Name → Option ExprType
  -- whether an enum is declared, and whether the last enum of a name has a variant
  pub enums : Name → Bool
  pub variants : Name → Name → Bool

-- "variants of the last enum called State"
abbrev pub state_variants : Env → Name → Bool
state_variants env = env.variants state_enum

-- "then bindings, variables"
abbrev pub named : Env → Name → Option ExprType
named env n = first_of (env.bindings n) (env.vars n)

-- names mean the same in both
pub record Agree (a b : Env) : Type 0 where
  pub names : (n : Name) → named a n ≡ named b n
  pub enums : (n : Name) → a.enums n ≡ b.enums n
  pub variants : (e n : Name) → a.variants e n ≡ b.variants e n

-- what a pattern's field binds
pub record Binding : Type 0 where
  pub name : Name
  pub type : ExprType

unfoldable pub binding_type : Option Binding → Option ExprType
binding_type none = none
binding_type (some b) = some b.type

unfoldable pub var_type : Option VarDecl → Option ExprType
var_type none = none
var_type (some v) = some (type_to_expr_type v.ty)

unfoldable pub given : {A : Type 0} → Option A → Bool
given none = false
given (some x) = true

unfoldable pub enum_has : Option EnumDecl → Name → Bool
enum_has none n = false
enum_has (some e) n = member n e.variants

-- Env::for_module
unfoldable pub for_module : Module → Env
for_module m = record {
  bindings = λ n. none;
  vars = λ n. var_type (last_called (λ (v : VarDecl). v.name) n m.vars);
  enums = λ n. given (last_called (λ (e : EnumDecl). e.name) n m.enums);
  variants = λ e n. enum_has (last_called (λ (e : EnumDecl). e.name) e m.enums) n;
}

-- the same with the bindings of the own pattern
unfoldable pub with_bindings : List Binding → Env → Env
with_bindings bs env = record {
  bindings = λ n. binding_type (last_called (λ (b : Binding). b.name) n bs);
  vars = env.vars;
  enums = env.enums;
  variants = env.variants;
}
