-- An expression's type depends on its content and on what its names mean, and on nothing else: not on where it stands.
use Prim.Native.Nat.{ℕ}
use mathlib.Core.Path.{◌≡◌, refl, sym, ap, ◌∙◌}
use mathlib.Core.List.{List, [], ◌∷◌}
use mathlib.Core.Option.{Option, none, some}
use Rattle.reading.specs.Read.{ok}
use Rattle.reading.specs.Text.{Name}
use Rattle.reading.specs.Expr.{Expr, read_expr}
use Rattle.reading.specs.Expr as expr
use Rattle.reading.specs.Views.{span}
use Rattle.reading.proofs.HeadSound.{Bytes}
use Rattle.reading.proofs.Formats.{item_sound}
use Rattle.reading.proofs.ExprLaws.{expr_laws}
use Rattle.reading.proofs.ListViews.{spanned}
use Rattle.reading.proofs.Theorems.{one_encoding}
use Rattle.typing.specs.Types.{ExprType}
use Rattle.typing.specs.Names.{state_enum}
use Rattle.typing.specs.Env.{Env, Agree}
use Rattle.typing.specs.Typing.{resolve_state, or_state, resolve_name, resolve_variant, resolve_path, type_expr}

module _ {a b : Env} (g : Agree a b) where
  state_agree : (n : Name) (o : Option ExprType) → or_state a n o ≡ or_state b n o
  unfolding or_state resolve_state
  state_agree n (some t) = refl
  state_agree n none = rw (g.variants state_enum n)

  name_agree : (n : Name) → resolve_name a n ≡ resolve_name b n
  unfolding resolve_name
  name_agree n = rw (g.names n, state_agree n)

  path_agree : (p : List Name) → resolve_path a p ≡ resolve_path b p
  unfolding resolve_path resolve_variant
  path_agree [] = refl
  path_agree (n ∷ []) = name_agree n
  path_agree (e ∷ (v ∷ ws)) = rw (g.enums e, g.variants e v)

  -- an environment is what its names mean
  pub type_agree : (e : Expr) → type_expr a e ≡ type_expr b e
  unfolding type_expr
  type_agree (expr.int v) = refl
  type_agree (expr.bool v) = refl
  type_agree (expr.path p) = path_agree p
  type_agree (expr.unary op e) = rw (type_agree e)
  type_agree (expr.binary op l r) = rw (type_agree l, type_agree r)

-- equal bytes, equal types, in whatever documents and places they stand
pub same_bytes_same_type : (env : Env) (d : ℕ) (s t : List ℕ) → Bytes s → Bytes t → (i j : ℕ) (x y : Expr) (n m : ℕ) → read_expr d s i ≡ ok x n → read_expr d t j ≡ ok y m → span s i n ≡ span t j m → type_expr env x ≡ type_expr env y
same_bytes_same_type env d s t B C i j x y n m e f q =
    let L = expr_laws d in
    ap (type_expr env) (one_encoding L x y (item_sound L s B i x n e).within (item_sound L t C j y m f).within (sym (spanned L s B i x n e).0 ∙ q ∙ (spanned L t C j y m f).0))
