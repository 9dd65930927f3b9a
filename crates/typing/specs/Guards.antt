-- Guards that can't hold: the literal false, and contradictory equalities.
use Rattle.std.specs.Prelude.{ℕ, List, [], ◌∷◌, ◌++◌, Bool, true, false, eqb}
use Rattle.std.proofs.Math.Option.{Option, none, some}
use Rattle.reading.specs.Read.{pick}
use Rattle.reading.specs.Text.{Name}
use Rattle.reading.specs.Expr.{Expr}
use Rattle.reading.specs.Expr as expr
use Rattle.typing.specs.Names.{first_called}

unfoldable pub is_literal_false : Expr → Bool
is_literal_false (expr.int v) = false
is_literal_false (expr.bool true) = false
is_literal_false (expr.bool false) = true
is_literal_false (expr.path p) = false
is_literal_false (expr.unary op e) = false
is_literal_false (expr.binary op l r) = false

-- the numbers of Eq and LogicAnd in ir.rs
abbrev pub eq_op : ℕ
eq_op = 5

abbrev pub logic_and_op : ℕ
logic_and_op = 15

-- "the guard's conjuncts from right to left"
unfoldable pub conjuncts : Expr → List Expr
conjuncts (expr.int v) = expr.int v ∷ []
conjuncts (expr.bool b) = expr.bool b ∷ []
conjuncts (expr.path p) = expr.path p ∷ []
conjuncts (expr.unary op e) = expr.unary op e ∷ []
conjuncts (expr.binary op l r) = pick (eqb op logic_and_op) (conjuncts r ++ conjuncts l) (expr.binary op l r ∷ [])

-- a name and the value that it is said to equal
pub record Equality : Type 0 where
  pub name : Name
  pub value : ℕ

-- "one-name path == literal either way round"
unfoldable pub one_name : List Name → ℕ → Option Equality
one_name [] v = none
one_name (n ∷ []) v = some (record { name = n; value = v })
one_name (n ∷ (m ∷ ms)) v = none

unfoldable pub literal_is : ℕ → Expr → Option Equality
literal_is v (expr.int w) = none
literal_is v (expr.bool b) = none
literal_is v (expr.path p) = one_name p v
literal_is v (expr.unary op e) = none
literal_is v (expr.binary op l r) = none

unfoldable pub path_is : List Name → Expr → Option Equality
path_is p (expr.int v) = one_name p v
path_is p (expr.bool b) = none
path_is p (expr.path q) = none
path_is p (expr.unary op e) = none
path_is p (expr.binary op l r) = none

unfoldable pub equated : Expr → Expr → Option Equality
equated (expr.int v) r = literal_is v r
equated (expr.bool b) r = none
equated (expr.path p) r = path_is p r
equated (expr.unary op e) r = none
equated (expr.binary op a b) r = none

unfoldable pub equality : Expr → Option Equality
equality (expr.int v) = none
equality (expr.bool b) = none
equality (expr.path p) = none
equality (expr.unary op e) = none
equality (expr.binary op l r) = pick (eqb op eq_op) (equated l r) none

-- a name with an earlier value and one that differs from it
pub record Clash : Type 0 where
  pub name : Name
  pub earlier : ℕ
  pub later : ℕ

-- seen holds one equality of each name so far; rest goes on with those to be seen
unfoldable pub against : (List Equality → Option Clash) → List Equality → Equality → Option Equality → Option Clash
against rest seen e none = rest (e ∷ seen)
against rest seen e (some p) = pick (eqb p.value e.value) (rest seen) (some (record { name = e.name; earlier = p.value; later = e.value }))

unfoldable pub judge_equality : (List Equality → Option Clash) → List Equality → Option Equality → Option Clash
judge_equality rest seen none = rest seen
judge_equality rest seen (some e) = against rest seen e (first_called (λ (x : Equality). x.name) e.name seen)

-- "stops at the first value that differs from an earlier one of its name"
unfoldable pub clashes : List Equality → List Expr → Option Clash
clashes seen [] = none
clashes seen (e ∷ es) = judge_equality (λ now. clashes now es) seen (equality e)

-- contradictory_equalities
unfoldable pub contradictory_equalities : Expr → Option Clash
contradictory_equalities e = clashes [] (conjuncts e)
