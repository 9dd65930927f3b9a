-- The laws of patterns, from those of their fields.
use Prim.Native.Nat.{ℕ}
use mathlib.Core.Path.{refl}
use native.Mathlib.Omega.{arith}
use Rattle.reading.specs.Limits.{max_list}
use Rattle.reading.specs.Combine.{pair}
use Rattle.reading.specs.Pattern.{PatternExpr, wildcard, bind, int, bool, enum_variant, PatternVariant, unit, struct, pattern_expr_cases, read_pattern_expr, read_pattern_field, pattern_variant_cases, read_pattern_variant, read_pattern, enc_pattern_expr, enc_pattern_field, enc_pattern_variant, enc_pattern, WithinPatternExpr, WithinPatternField, WithinPatternVariant, WithinPattern}
use Rattle.reading.proofs.Formats.{Laws, Never, of}
use Rattle.reading.proofs.ExprLaws.{u64, name_laws, name_solid, path_laws}
use Rattle.reading.proofs.ItemLaws.{bool_laws}
use Rattle.reading.proofs.RecordLaws.{nothing_laws, ◌also◌, record_laws}
use Rattle.reading.proofs.ListLaws.{list_laws}
use Rattle.reading.proofs.OptionLaws.{option_laws, Solid, enum_solid}
use Rattle.reading.proofs.EnumLaws.{either, Rows, none, case, enum_laws}

abbrev pattern_exprs : Rows enc_pattern_expr WithinPatternExpr Never
unfolding enc_pattern_expr WithinPatternExpr
pattern_exprs =
    case 0 (of nothing_laws) (λ _. wildcard) (λ _. refl) tt
    (case 1 (of name_laws) bind (λ _. refl) tt
    (case 2 u64 int (λ _. refl) tt
    (case 3 (of bool_laws) bool (λ _. refl) tt
    (case 4 (of path_laws) enum_variant (λ _. refl) tt
    none))))

pattern_expr_is : (x : PatternExpr) → (k : ℕ) × pattern_exprs.Has k x
unfolding either pattern_exprs
pattern_expr_is wildcard = (0, (tt, refl))
pattern_expr_is (bind w) = (1, (w, refl))
pattern_expr_is (int v) = (2, (v, refl))
pattern_expr_is (bool b) = (3, (b, refl))
pattern_expr_is (enum_variant p) = (4, (p, refl))

pub pattern_expr_laws : Laws read_pattern_expr enc_pattern_expr WithinPatternExpr 1 Never
unfolding read_pattern_expr pattern_expr_cases pattern_exprs
pattern_expr_laws = enum_laws pattern_exprs pattern_expr_is

pub pattern_field_laws : Laws read_pattern_field enc_pattern_field WithinPatternField 1 Never
unfolding read_pattern_field enc_pattern_field WithinPatternField
pattern_field_laws =
    record_laws (of (option_laws name_laws name_solid) also of pattern_expr_laws) _ (λ x. (x.name, x.pattern)) (λ _. refl) (λ _. refl) (omega arith)

abbrev pattern_variants : Rows enc_pattern_variant WithinPatternVariant Never
unfolding enc_pattern_variant WithinPatternVariant
pattern_variants =
    case 0 (of name_laws) unit (λ _. refl) tt
    (case 1 (of name_laws also of (list_laws pattern_field_laws max_list (omega arith))) (pair struct) (λ _. refl) tt
    none)

pattern_variant_is : (x : PatternVariant) → (k : ℕ) × pattern_variants.Has k x
unfolding either pattern_variants
pattern_variant_is (unit w) = (0, (w, refl))
pattern_variant_is (struct w fs) = (1, ((w, fs), refl))

pub pattern_variant_laws : Laws read_pattern_variant enc_pattern_variant WithinPatternVariant 1 Never
unfolding read_pattern_variant pattern_variant_cases pattern_variants
pattern_variant_laws = enum_laws pattern_variants pattern_variant_is

pub pattern_variant_solid : Solid read_pattern_variant
unfolding read_pattern_variant
pattern_variant_solid = enum_solid pattern_variant_cases

pub pattern_laws : Laws read_pattern enc_pattern WithinPattern 1 Never
unfolding read_pattern enc_pattern WithinPattern
pattern_laws =
    record_laws (of name_laws also of (option_laws pattern_variant_laws pattern_variant_solid)) _ (λ x. (x.group, x.variant)) (λ _. refl) (λ _. refl) (omega arith)
