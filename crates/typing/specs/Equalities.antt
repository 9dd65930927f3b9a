-- The equalities of a guard, and what the search for them and for a clash promises: for whatever reads there, its answer
-- is the definition's.
use Rattle.std.specs.Prelude.{ℕ, ◌-◌, ◌≡◌, List, [], ◌∷◌, ◌++◌, Bool, eqb, Option as Maybe, Some, None}
use Rattle.std.proofs.Math.Option.{Option, none, some}
use Rattle.reading.specs.Read.{ok, pick}
use Rattle.reading.specs.Limits.{max_u64}
use Rattle.reading.specs.Item.{read_number, read_bool, read_case}
use Rattle.reading.specs.Text.{Name}
use Rattle.reading.specs.Expr.{Expr, bin_ops, read_path, read_expr}
use Rattle.reading.specs.Expr as expr
use Rattle.reading.specs.Skip.{text_at}
use Rattle.typing.specs.Causes.{first_of}
use Rattle.typing.specs.Names.{first_called}
use Rattle.typing.specs.Guards as guards
use Rattle.typing.specs.Guards.{is_literal_false, conjuncts, equated, equality}
use Rattle.typing.specs.Holds.{clash_of}
use Rattle.typing.specs.declared.guard.Clash.{Clash}
use Rattle.typing.specs.declared.equality.Equality.{Equality}
use Rattle.typing.specs.declared.equality.Conjunct.{Conjunct}
use Rattle.typing.specs.declared.equality.Conjunct.TheVariants.{And, One}
use Rattle.typing.specs.declared.side.Side.{Side}
use Rattle.typing.specs.declared.side.Side.TheVariants as side

-- a side of ==: a literal, a path of one name, or anything else
pub data Operand : Type 0 where
  value : ℕ → Operand
  name : Name → Operand
  other : Operand

unfoldable pub name_of : List Name → Operand
name_of [] = other
name_of (n ∷ []) = name n
name_of (n ∷ (m ∷ ms)) = other

unfoldable pub operand_of : Expr → Operand
operand_of (expr.int v) = value v
operand_of (expr.bool b) = other
operand_of (expr.path p) = name_of p
operand_of (expr.unary op e) = other
operand_of (expr.binary op l r) = other

unfoldable pub paired : Operand → Operand → Option guards.Equality
paired (value v) (value w) = none
paired (value v) (name n) = some (record { name = n; value = v })
paired (value v) other = none
paired (name n) (value v) = some (record { name = n; value = v })
paired (name n) (name m) = none
paired (name n) other = none
paired other b = none

-- the equalities among conjuncts, and those of an expression
unfoldable pub listed : Option guards.Equality → List guards.Equality
listed none = []
listed (some e) = e ∷ []

unfoldable pub equalities : List Expr → List guards.Equality
equalities [] = []
equalities (e ∷ es) = listed (equality e) ++ equalities es

abbrev pub equalities_of : Expr → List guards.Equality
equalities_of e = equalities (conjuncts e)

abbrev pub name_in : guards.Equality → Name
name_in e = e.name

-- the first of some equalities whose value differs from that of the first of its name among all
unfoldable pub differs : guards.Equality → Option guards.Equality → Option guards.Clash
differs e none = none
differs e (some p) = pick (eqb p.value e.value) none (some (record { name = e.name; earlier = p.value; later = e.value }))

unfoldable pub first_clash : List guards.Equality → List guards.Equality → Option guards.Clash
first_clash all [] = none
first_clash all (e ∷ es) = first_of (differs e (first_called name_in e.name all)) (first_clash all es)

-- what the code's answers stand for
unfoldable pub side_of : List ℕ → Side → Operand
side_of s (side.Value v) = value v
side_of s (side.Name at) = name (text_at s at)
side_of s side.Other = other

unfoldable pub equality_of : List ℕ → Maybe Equality → Option guards.Equality
equality_of s None = none
equality_of s (Some q) = some (record { name = text_at s q.name; value = q.value })

-- two operands that stand one after the other, or an equality at most
pub data ConjunctIs (d : ℕ) (s : List ℕ) : Conjunct → List guards.Equality → Type 0 where
  and_is : {k j n : ℕ} {l r : Expr} → read_expr d s k ≡ ok l j → read_expr d s j ≡ ok r n → ConjunctIs d s (And k) (equalities_of r ++ equalities_of l)
  one_is : {q : Maybe Equality} {e : List guards.Equality} → e ≡ listed (equality_of s q) → ConjunctIs d s (One q) e

-- the fields of an int, of a path and of a bool
pub record ValueAt (s : List ℕ) (at : ℕ) (r : Side) : Type 0 where
  pub of : (v n : ℕ) → read_number max_u64 s at ≡ ok v n → side_of s r ≡ value v

pub record NameAt (s : List ℕ) (at : ℕ) (r : Side) : Type 0 where
  pub of : (p : List Name) (n : ℕ) → read_path s at ≡ ok p n → side_of s r ≡ name_of p

pub record FalseAt (s : List ℕ) (at : ℕ) (r : Bool) : Type 0 where
  pub of : (b : Bool) (n : ℕ) → read_bool s at ≡ ok b n → r ≡ is_literal_false (expr.bool b)

-- an operand, two of them, a binary expression's fields, and an expression
pub record SideAt (d : ℕ) (s : List ℕ) (at : ℕ) (r : Side) : Type 0 where
  pub of : (e : Expr) (n : ℕ) → read_expr d s at ≡ ok e n → side_of s r ≡ operand_of e

pub record EqualityAt (d : ℕ) (s : List ℕ) (at : ℕ) (r : Maybe Equality) : Type 0 where
  pub of : (a : Expr) (j : ℕ) (b : Expr) (n : ℕ) → read_expr d s at ≡ ok a j → read_expr d s j ≡ ok b n → equality_of s r ≡ equated a b

pub record OperatorAt (d : ℕ) (s : List ℕ) (at : ℕ) (r : Conjunct) : Type 0 where
  pub of : (op k : ℕ) (a : Expr) (j : ℕ) (b : Expr) (n : ℕ) → read_case bin_ops s at ≡ ok op k → read_expr d s k ≡ ok a j → read_expr d s j ≡ ok b n → ConjunctIs d s r (equalities_of (expr.binary op a b))

pub record ConjunctAt (d : ℕ) (s : List ℕ) (at : ℕ) (r : Conjunct) : Type 0 where
  pub of : (e : Expr) (n : ℕ) → read_expr d s at ≡ ok e n → ConjunctIs (d - 1) s r (equalities_of e)

-- the first equality of a name, in an expression and in two of them: right before left
pub record FirstEquality (d : ℕ) (s : List ℕ) (at : ℕ) (w : Name) (r : Maybe Equality) : Type 0 where
  pub of : (e : Expr) (n : ℕ) → read_expr d s at ≡ ok e n → equality_of s r ≡ first_called name_in w (equalities_of e)

pub record FirstOfTwo (d : ℕ) (s : List ℕ) (at : ℕ) (w : Name) (r : Maybe Equality) : Type 0 where
  pub of : (a : Expr) (j : ℕ) (b : Expr) (n : ℕ) → read_expr d s at ≡ ok a j → read_expr d s j ≡ ok b n → equality_of s r ≡ first_called name_in w (equalities_of b ++ equalities_of a)

-- the first clash with a guard's equalities: of an equality at most, of an expression and of two of them
pub record ClashOf (s : List ℕ) (root depth : ℕ) (q : Maybe Equality) (r : Maybe Clash) : Type 0 where
  pub of : (g : Expr) (m : ℕ) → read_expr depth s root ≡ ok g m → clash_of s r ≡ first_clash (equalities_of g) (listed (equality_of s q))

pub record FirstClash (d : ℕ) (s : List ℕ) (at root depth : ℕ) (r : Maybe Clash) : Type 0 where
  pub of : (e : Expr) (n : ℕ) (g : Expr) (m : ℕ) → read_expr d s at ≡ ok e n → read_expr depth s root ≡ ok g m → clash_of s r ≡ first_clash (equalities_of g) (equalities_of e)

pub record ClashOfTwo (d : ℕ) (s : List ℕ) (at root depth : ℕ) (r : Maybe Clash) : Type 0 where
  pub of : (a : Expr) (j : ℕ) (b : Expr) (n : ℕ) (g : Expr) (m : ℕ) → read_expr d s at ≡ ok a j → read_expr d s j ≡ ok b n → read_expr depth s root ≡ ok g m → clash_of s r ≡ first_clash (equalities_of g) (equalities_of b ++ equalities_of a)
