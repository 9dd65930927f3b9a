-- Numbers, types and lists of names as texts: Rust's `{}` and `{:?}` of them.
use Rattle.std.specs.Prelude.{ℕ, zero, suc, ◌+◌, ◌/◌, ◌%◌, cond, List, [], ◌∷◌, ◌++◌, ltb}
use Rattle.reading.specs.Text.{Name}
use Rattle.typing.specs.Types.{ExprType, bool, bit, int_lit, enum}
use Rattle.typing.specs.declared.cause.What.{What}
use Rattle.typing.specs.declared.cause.What.TheVariants.{Operand, Left, Right, Formula, Guard}
use Rattle.text.specs.Form.{text}

-- the decimal digits of n, the most significant first, and no more than k of them
unfoldable pub digits : ℕ → ℕ → List ℕ
digits zero n = []
digits (suc k) n = cond (ltb n 10) ((48 + n) ∷ []) (digits k (n / 10) ++ ((48 + n % 10) ∷ []))

-- a number of 64 bits has at most 20
abbrev pub decimal : ℕ → List ℕ
decimal n = digits 20 n

-- `{:?}` of a type
unfoldable pub debug_type : ExprType → List ℕ
debug_type bool = text "Bool"
debug_type (bit w) = text "Bit(" ++ decimal w ++ text ")"
debug_type int_lit = text "IntLit"
debug_type (enum n) = text "Enum(\"" ++ n ++ text "\")"

-- `{:?}` of a list of names
abbrev pub quoted : Name → List ℕ
quoted n = text "\"" ++ n ++ text "\""

unfoldable pub more_names : List Name → List ℕ
more_names [] = []
more_names (n ∷ ns) = text ", " ++ quoted n ++ more_names ns

unfoldable pub debug_names : List Name → List ℕ
debug_names [] = text "[]"
debug_names (n ∷ ns) = text "[" ++ quoted n ++ more_names ns ++ text "]"

-- what has to be a bool, in the words of type_expr, binary_type, type_formula and validate_module
unfoldable pub what_text : What → List ℕ
what_text Operand = text "operand of !"
what_text Left = text "left operand"
what_text Right = text "right operand"
what_text Formula = text "formula expression"
what_text Guard = text "guard"
