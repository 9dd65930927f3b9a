-- Declarations: types, enums, groups of events and outputs, variables.
use Rattle.std.specs.Prelude.{ℕ, ◌≤◌, List, [], ◌++◌}
use Rattle.reading.specs.Read.{Reader}
use Rattle.reading.specs.Limits.{max_u32, max_list, max_depth}
use Rattle.reading.specs.Item.{read_number}
use Rattle.reading.specs.Text.{Name, read_name}
use Rattle.reading.specs.Combine.{◌then◌, nothing, record_of, list_of, Cases, row, unknown, enum_of, pair}
use Rattle.reading.specs.Encode.{enc_head, enc_text, enc_list, enc_record, enc_case, WithinName, WithinList, ◌&◌}
use Rattle.reading.specs.Expr.{Expr, read_expr, enc_expr, WithinExpr}

pub record EnumDecl : Type 0 where
  pub name : Name
  pub variants : List Name

-- Type of ir.rs
pub data Ty : Type 0 where
  bool : Ty
  bit : ℕ → Ty
  enum : Name → Ty

pub record FieldDecl : Type 0 where
  pub name : Name
  pub ty : Ty

pub data ConstructorVariant : Type 0 where
  unit : Name → ConstructorVariant
  struct : Name → List FieldDecl → ConstructorVariant

pub record ConstructorGroup : Type 0 where
  pub name : Name
  pub variants : List ConstructorVariant

pub record VarDecl : Type 0 where
  pub name : Name
  pub ty : Ty
  pub init : Expr

unfoldable pub read_names : Reader (List Name)
read_names = list_of max_list read_name

unfoldable pub read_enum_decl : Reader EnumDecl
read_enum_decl = record_of 2 (read_name then read_names) λ p. record { name = p.0; variants = p.1 }

unfoldable pub ty_cases : Cases Ty
ty_cases =
    row 0 1 nothing (λ _. bool)
    (row 1 2 (read_number max_u32) bit
    (row 2 2 read_name enum
    unknown))

unfoldable pub read_ty : Reader Ty
read_ty = enum_of ty_cases

unfoldable pub read_field_decl : Reader FieldDecl
read_field_decl = record_of 2 (read_name then read_ty) λ p. record { name = p.0; ty = p.1 }

unfoldable pub constructor_variant_cases : Cases ConstructorVariant
constructor_variant_cases =
    row 0 2 read_name unit
    (row 1 3 (read_name then list_of max_list read_field_decl) (pair struct)
    unknown)

unfoldable pub read_constructor_variant : Reader ConstructorVariant
read_constructor_variant = enum_of constructor_variant_cases

unfoldable pub read_constructor_group : Reader ConstructorGroup
read_constructor_group =
    record_of 2 (read_name then list_of max_list read_constructor_variant) λ p. record { name = p.0; variants = p.1 }

unfoldable pub read_var_decl : Reader VarDecl
read_var_decl =
    record_of 3 (read_name then read_ty then read_expr max_depth) λ p. record { name = p.0; ty = p.1.0; init = p.1.1 }

unfoldable pub enc_enum_decl : EnumDecl → List ℕ
enc_enum_decl x = enc_record 2 (enc_text x.name ++ enc_list enc_text x.variants)

unfoldable pub enc_ty : Ty → List ℕ
enc_ty bool = enc_case 1 0 []
enc_ty (bit w) = enc_case 2 1 (enc_head 0 w)
enc_ty (enum n) = enc_case 2 2 (enc_text n)

unfoldable pub enc_field_decl : FieldDecl → List ℕ
enc_field_decl x = enc_record 2 (enc_text x.name ++ enc_ty x.ty)

unfoldable pub enc_constructor_variant : ConstructorVariant → List ℕ
enc_constructor_variant (unit n) = enc_case 2 0 (enc_text n)
enc_constructor_variant (struct n fs) = enc_case 3 1 (enc_text n ++ enc_list enc_field_decl fs)

unfoldable pub enc_constructor_group : ConstructorGroup → List ℕ
enc_constructor_group x = enc_record 2 (enc_text x.name ++ enc_list enc_constructor_variant x.variants)

unfoldable pub enc_var_decl : VarDecl → List ℕ
enc_var_decl x = enc_record 3 (enc_text x.name ++ enc_ty x.ty ++ enc_expr x.init)

unfoldable pub WithinEnumDecl : EnumDecl → Type 0
WithinEnumDecl x = WithinName x.name & WithinList max_list WithinName x.variants

unfoldable pub WithinTy : Ty → Type 0
WithinTy bool = Unit {0}
WithinTy (bit w) = w ≤ max_u32
WithinTy (enum n) = WithinName n

unfoldable pub WithinFieldDecl : FieldDecl → Type 0
WithinFieldDecl x = WithinName x.name & WithinTy x.ty

unfoldable pub WithinConstructorVariant : ConstructorVariant → Type 0
WithinConstructorVariant (unit n) = WithinName n
WithinConstructorVariant (struct n fs) = WithinName n & WithinList max_list WithinFieldDecl fs

unfoldable pub WithinConstructorGroup : ConstructorGroup → Type 0
WithinConstructorGroup x = WithinName x.name & WithinList max_list WithinConstructorVariant x.variants

unfoldable pub WithinVarDecl : VarDecl → Type 0
WithinVarDecl x = WithinName x.name & WithinTy x.ty & WithinExpr max_depth x.init
