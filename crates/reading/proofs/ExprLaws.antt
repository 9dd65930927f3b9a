-- The laws of names, version strings, paths and expressions, from those of their parts.
use Prim.Native.Nat.{ℕ, zero, suc}
use mathlib.Core.Path.{refl}
use mathlib.Core.List.{List, append_assoc}
use native.Mathlib.Omega.{arith}
use Rattle.reading.specs.Limits.{max_u64, max_path}
use Rattle.reading.specs.Text.{name_byte, version_byte, read_name, read_version}
use Rattle.reading.specs.Combine.{pair, triple}
use Rattle.reading.specs.Encode.{enc_text, WithinName, WithinVersion}
use Rattle.reading.specs.Expr.{Expr, int, bool, path, unary, binary, unary_ops, bin_ops, read_path, expr_cases, read_expr, enc_path, enc_expr, WithinPath, WithinExpr}
use Rattle.reading.proofs.Formats.{Laws, Never, From, Format, of, own, flat, refusing}
use Rattle.reading.proofs.ItemLaws.{number_laws, case_laws, bool_laws}
use Rattle.reading.proofs.TextLaws.{text_laws}
use Rattle.reading.proofs.RecordLaws.{◌also◌}
use Rattle.reading.proofs.ListLaws.{list_laws}
use Rattle.reading.proofs.OptionLaws.{Solid, text_solid, enum_solid}
use Rattle.reading.proofs.EnumLaws.{either, Rows, none, case, enum_laws}

pub name_laws : Laws read_name enc_text WithinName 1 Never
unfolding read_name
name_laws = text_laws 1 name_byte

pub version_laws : Laws read_version enc_text WithinVersion 1 Never
unfolding read_version
version_laws = text_laws 0 version_byte

pub name_solid : Solid read_name
unfolding read_name
name_solid = text_solid 1 name_byte

pub version_solid : Solid read_version
unfolding read_version
version_solid = text_solid 0 version_byte

pub path_laws : Laws read_path enc_path WithinPath 1 Never
unfolding read_path
path_laws = list_laws name_laws max_path (omega arith)

abbrev pub u64 : {D : List ℕ → ℕ → Type 0} → Format D ℕ
u64 = flat (number_laws max_u64 (omega arith))

abbrev exprs : (d : ℕ) → Laws (read_expr d) enc_expr (WithinExpr d) 1 (From (read_expr d)) → Rows enc_expr (WithinExpr (suc d)) (From (read_expr d))
unfolding enc_expr WithinExpr
exprs d p =
    case 0 u64 int (λ _. refl) tt
    (case 1 (flat bool_laws) bool (λ _. refl) tt
    (case 2 (flat path_laws) path (λ _. refl) tt
    (case 3 (flat (case_laws unary_ops (omega arith)) also of p) (pair unary) (λ _. refl) tt
    (case 4 (flat (case_laws bin_ops (omega arith)) also of p also of p) (triple binary) (λ _. simp append_assoc) tt
    none))))

expr_is : (d : ℕ) (p : Laws (read_expr d) enc_expr (WithinExpr d) 1 (From (read_expr d))) (x : Expr) → (k : ℕ) × (exprs d p).Has k x
unfolding either exprs
expr_is d p (int v) = (0, (v, refl))
expr_is d p (bool b) = (1, (b, refl))
expr_is d p (path x) = (2, (x, refl))
expr_is d p (unary op e) = (3, ((op, e), refl))
expr_is d p (binary op l r) = (4, ((op, (l, r)), refl))

pub expr_laws : (d : ℕ) → Laws (read_expr d) enc_expr (WithinExpr d) 1 (From (read_expr d))
unfolding read_expr expr_cases WithinExpr exprs
expr_laws zero = refusing enc_expr
expr_laws (suc d) = own (enum_laws (exprs d (expr_laws d)) (expr_is d (expr_laws d)))

pub expr_solid : (d : ℕ) → Solid (read_expr (suc d))
unfolding read_expr
expr_solid d = enum_solid (expr_cases (read_expr d))
