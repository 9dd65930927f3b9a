-- Expressions.
use Rattle.std.specs.Prelude.{ℕ, zero, suc, ◌<◌, ◌≤◌, List, ◌++◌, Bool}
use Rattle.reading.specs.Read.{Reader, refused}
use Rattle.reading.specs.Limits.{max_u64, max_path}
use Rattle.reading.specs.Item.{read_number, read_bool, read_case}
use Rattle.reading.specs.Text.{Name, read_name}
use Rattle.reading.specs.Combine.{◌then◌, list_of, Cases, row, unknown, enum_of, pair, triple}
use Rattle.reading.specs.Encode.{enc_head, enc_bool, enc_text, enc_list, enc_case, WithinName, WithinList, ◌&◌}
use Rattle.reading.specs.declared.fault.Fault.TheVariants.{TooDeep}

-- operators are the case numbers of UnaryOp and BinOp
pub data Expr : Type 0 where
  int : ℕ → Expr
  bool : Bool → Expr
  path : List Name → Expr
  unary : ℕ → Expr → Expr
  binary : ℕ → Expr → Expr → Expr

abbrev pub unary_ops : ℕ
unary_ops = 3

abbrev pub bin_ops : ℕ
bin_ops = 16

unfoldable pub read_path : Reader (List Name)
read_path = list_of max_path read_name

-- operands are read by rec
unfoldable pub expr_cases : Reader Expr → Cases Expr
expr_cases rec =
    row 0 2 (read_number max_u64) int
    (row 1 2 read_bool bool
    (row 2 2 read_path path
    (row 3 3 (read_case unary_ops then rec) (pair unary)
    (row 4 4 (read_case bin_ops then rec then rec) (triple binary)
    unknown))))

-- an expression at whose start as many levels are left
unfoldable pub read_expr : ℕ → Reader Expr
read_expr zero s at = refused TooDeep at
read_expr (suc d) s at = enum_of (expr_cases (read_expr d)) s at

abbrev pub enc_path : List Name → List ℕ
enc_path = enc_list enc_text

abbrev pub WithinPath : List Name → Type 0
WithinPath = WithinList max_path WithinName

unfoldable pub enc_expr : Expr → List ℕ
enc_expr (int v) = enc_case 2 0 (enc_head 0 v)
enc_expr (bool b) = enc_case 2 1 (enc_bool b)
enc_expr (path p) = enc_case 2 2 (enc_path p)
enc_expr (unary op e) = enc_case 3 3 (enc_head 0 op ++ enc_expr e)
enc_expr (binary op l r) = enc_case 4 4 (enc_head 0 op ++ enc_expr l ++ enc_expr r)

-- with as many levels left
unfoldable pub WithinExpr : ℕ → Expr → Type 0
WithinExpr zero e = ⊥
WithinExpr (suc d) (int v) = v ≤ max_u64
WithinExpr (suc d) (bool b) = Unit {0}
WithinExpr (suc d) (path p) = WithinPath p
WithinExpr (suc d) (unary op e) = (op < unary_ops) & WithinExpr d e
WithinExpr (suc d) (binary op l r) = (op < bin_ops) & WithinExpr d l & WithinExpr d r
