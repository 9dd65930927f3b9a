-- The settled examples of document 01, (1) to (14).
use Rattle.std.specs.Prelude.{ℕ, ◌≡◌, [], ◌∷◌, true, false}
use Rattle.std.proofs.Math.Option.{some}
use Rattle.reading.specs.Text.{Name}
use Rattle.reading.specs.Limits.{max_u64}
use Rattle.reading.specs.Expr.{Expr, int, path, binary}
use Rattle.reading.specs.Decl as decl
use Rattle.reading.specs.Pattern as pattern
use Rattle.reading.specs.Formula.{Formula, bounded_always}
use Rattle.typing.specs.Types.{bool, bit}
use Rattle.typing.specs.Causes.{cause_word, type_mismatch, is, fails}
use Rattle.typing.specs.Env.{Env}
use Rattle.typing.specs.Typing.{type_expr}
use Rattle.typing.specs.Patterns.{pattern_expr_compatible}
use Rattle.typing.specs.Formulas.{bounded_always_error}
use Rattle.typing.specs.Version.{is_valid_version_format}
use Rattle.typing.specs.Guards.{contradictory_equalities}

-- the cause word of a literal in a pattern on bit<w>
abbrev pub literal_word : ℕ → ℕ → ℕ
literal_word v w = cause_word (pattern_expr_compatible (pattern.int v) (decl.bit w))

-- l == r, l + r and l && r
abbrev pub equal : Expr → Expr → Expr
equal l r = binary 5 l r

abbrev pub plus : Expr → Expr → Expr
plus l r = binary 0 l r

abbrev pub both : Expr → Expr → Expr
both l r = binary 15 l r

pub record Settled : Type 0 where
  -- the characters of "1", "1.", "1.0", "1.2.3" and "1.2.3.4"
  pub settled_1 : is_valid_version_format (49 ∷ []) ≡ false
  pub settled_2 : is_valid_version_format (49 ∷ 46 ∷ []) ≡ false
  pub settled_3 : is_valid_version_format (49 ∷ 46 ∷ 48 ∷ []) ≡ true
  pub settled_4 : is_valid_version_format (49 ∷ 46 ∷ 50 ∷ 46 ∷ 51 ∷ []) ≡ true
  pub settled_5 : is_valid_version_format (49 ∷ 46 ∷ 50 ∷ 46 ∷ 51 ∷ 46 ∷ 52 ∷ []) ≡ false
  pub settled_6 : literal_word 1 0 ≡ 7
  pub settled_7 : literal_word 0 0 ≡ 0
  pub settled_8 : literal_word 255 8 ≡ 0
  pub settled_9 : literal_word 256 8 ≡ 7
  pub settled_10 : literal_word max_u64 64 ≡ 0
  -- whatever has the type bit<16>
  pub settled_11 : (env : Env) (e : Expr) → type_expr env e ≡ is (bit 16) → type_expr env (equal (plus (int 1) (int 1)) e) ≡ fails (type_mismatch (bit 8) (bit 16))
  pub settled_12 : (env : Env) (e : Expr) → type_expr env e ≡ is (bit 16) → type_expr env (equal (int 1) e) ≡ is bool
  -- whatever the name
  pub settled_13 : (a : Name) → contradictory_equalities (both (equal (path (a ∷ [])) (int 1)) (equal (path (a ∷ [])) (int 2))) ≡ some (record { name = a; earlier = 2; later = 1 })
  pub settled_14 : (f : Formula) → bounded_always_error (bounded_always 0 f) ≡ true
  pub settled_14_none : (f : Formula) → bounded_always_error (bounded_always 1 f) ≡ bounded_always_error f
