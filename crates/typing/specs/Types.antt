-- The types of expressions: Bool, Bit(w), IntLit, Enum(name).
use Rattle.std.specs.Prelude.{ℕ}
use Rattle.reading.specs.Text.{Name}
use Rattle.reading.specs.Decl.{Ty}
use Rattle.reading.specs.Decl as decl

pub data ExprType : Type 0 where
  bool : ExprType
  bit : ℕ → ExprType
  int_lit : ExprType
  enum : Name → ExprType

-- the type that is declared
unfoldable pub type_to_expr_type : Ty → ExprType
type_to_expr_type decl.bool = bool
type_to_expr_type (decl.bit w) = bit w
type_to_expr_type (decl.enum n) = enum n
