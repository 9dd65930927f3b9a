-- The laws of declarations, from those of their fields.
use Prim.Native.Nat.{ℕ}
use mathlib.Core.Path.{refl}
use mathlib.Core.List.{append_assoc}
use native.Mathlib.Omega.{arith}
use Rattle.reading.specs.Limits.{max_u32, max_list, max_depth}
use Rattle.reading.specs.Combine.{pair}
use Rattle.reading.specs.Encode.{enc_text, enc_list, WithinName, WithinList}
use Rattle.reading.specs.Expr.{read_expr}
use Rattle.reading.specs.Decl.{Ty, bool, bit, enum, ConstructorVariant, unit, struct, read_names, read_enum_decl, ty_cases, read_ty, read_field_decl, constructor_variant_cases, read_constructor_variant, read_constructor_group, read_var_decl, enc_enum_decl, enc_ty, enc_field_decl, enc_constructor_variant, enc_constructor_group, enc_var_decl, WithinEnumDecl, WithinTy, WithinFieldDecl, WithinConstructorVariant, WithinConstructorGroup, WithinVarDecl}
use Rattle.reading.proofs.Formats.{Laws, Never, From, of, flat, by_bytes}
use Rattle.reading.proofs.ExprLaws.{name_laws, expr_laws}
use Rattle.reading.proofs.ItemLaws.{number_laws}
use Rattle.reading.proofs.RecordLaws.{nothing_laws, ◌also◌, record_laws}
use Rattle.reading.proofs.ListLaws.{list_laws}
use Rattle.reading.proofs.EnumLaws.{either, Rows, none, case, enum_laws}

pub names_laws : Laws read_names (enc_list enc_text) (WithinList max_list WithinName) 1 Never
unfolding read_names
names_laws = list_laws name_laws max_list (omega arith)

pub enum_decl_laws : Laws read_enum_decl enc_enum_decl WithinEnumDecl 1 Never
unfolding read_enum_decl enc_enum_decl WithinEnumDecl
enum_decl_laws = record_laws (of name_laws also of names_laws) _ (λ x. (x.name, x.variants)) (λ _. refl) (λ _. refl) (omega arith)

abbrev tys : Rows enc_ty WithinTy Never
unfolding enc_ty WithinTy
tys =
    case 0 (of nothing_laws) (λ _. bool) (λ _. refl) tt
    (case 1 (of (number_laws max_u32 (omega arith))) bit (λ _. refl) tt
    (case 2 (of name_laws) enum (λ _. refl) tt
    none))

ty_is : (x : Ty) → (k : ℕ) × tys.Has k x
unfolding either tys
ty_is bool = (0, (tt, refl))
ty_is (bit w) = (1, (w, refl))
ty_is (enum n) = (2, (n, refl))

pub ty_laws : Laws read_ty enc_ty WithinTy 1 Never
unfolding read_ty ty_cases tys
ty_laws = enum_laws tys ty_is

pub field_decl_laws : Laws read_field_decl enc_field_decl WithinFieldDecl 1 Never
unfolding read_field_decl enc_field_decl WithinFieldDecl
field_decl_laws = record_laws (of name_laws also of ty_laws) _ (λ x. (x.name, x.ty)) (λ _. refl) (λ _. refl) (omega arith)

abbrev constructor_variants : Rows enc_constructor_variant WithinConstructorVariant Never
unfolding enc_constructor_variant WithinConstructorVariant
constructor_variants =
    case 0 (of name_laws) unit (λ _. refl) tt
    (case 1 (of name_laws also of (list_laws field_decl_laws max_list (omega arith))) (pair struct) (λ _. refl) tt
    none)

constructor_variant_is : (x : ConstructorVariant) → (k : ℕ) × constructor_variants.Has k x
unfolding either constructor_variants
constructor_variant_is (unit n) = (0, (n, refl))
constructor_variant_is (struct n fs) = (1, ((n, fs), refl))

pub constructor_variant_laws : Laws read_constructor_variant enc_constructor_variant WithinConstructorVariant 1 Never
unfolding read_constructor_variant constructor_variant_cases constructor_variants
constructor_variant_laws = enum_laws constructor_variants constructor_variant_is

pub constructor_group_laws : Laws read_constructor_group enc_constructor_group WithinConstructorGroup 1 Never
unfolding read_constructor_group enc_constructor_group WithinConstructorGroup
constructor_group_laws =
    record_laws (of name_laws also of (list_laws constructor_variant_laws max_list (omega arith))) _ (λ x. (x.name, x.variants)) (λ _. refl) (λ _. refl) (omega arith)

pub var_decl_laws : Laws read_var_decl enc_var_decl WithinVarDecl 1 (From (read_expr max_depth))
unfolding read_var_decl enc_var_decl WithinVarDecl
var_decl_laws =
    by_bytes (λ _. simp append_assoc) (record_laws (flat name_laws also flat ty_laws also of (expr_laws max_depth)) _ (λ x. (x.name, (x.ty, x.init))) (λ _. refl) (λ _. refl) (omega arith))
