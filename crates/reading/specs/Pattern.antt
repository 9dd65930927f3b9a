-- Patterns of events and outputs: EventPattern and OutputPattern of ir.rs have the same fields.
use Rattle.std.specs.Prelude.{ℕ, ◌≤◌, List, [], ◌++◌, Bool}
use Rattle.std.proofs.Math.Option.{Option}
use Rattle.reading.specs.Read.{Reader}
use Rattle.reading.specs.Limits.{max_u64, max_list}
use Rattle.reading.specs.Item.{read_number, read_bool}
use Rattle.reading.specs.Text.{Name, read_name}
use Rattle.reading.specs.Combine.{◌then◌, nothing, record_of, list_of, optional, Cases, row, unknown, enum_of, pair}
use Rattle.reading.specs.Encode.{enc_head, enc_bool, enc_text, enc_list, enc_option, enc_record, enc_case, WithinName, WithinList, WithinOption, ◌&◌}
use Rattle.reading.specs.Expr.{read_path, enc_path, WithinPath}

pub data PatternExpr : Type 0 where
  wildcard : PatternExpr
  bind : Name → PatternExpr
  int : ℕ → PatternExpr
  bool : Bool → PatternExpr
  enum_variant : List Name → PatternExpr

pub record PatternField : Type 0 where
  pub name : Option Name
  pub pattern : PatternExpr

pub data PatternVariant : Type 0 where
  unit : Name → PatternVariant
  struct : Name → List PatternField → PatternVariant

pub record Pattern : Type 0 where
  pub group : Name
  pub variant : Option PatternVariant

unfoldable pub pattern_expr_cases : Cases PatternExpr
pattern_expr_cases =
    row 0 1 nothing (λ _. wildcard)
    (row 1 2 read_name bind
    (row 2 2 (read_number max_u64) int
    (row 3 2 read_bool bool
    (row 4 2 read_path enum_variant
    unknown))))

unfoldable pub read_pattern_expr : Reader PatternExpr
read_pattern_expr = enum_of pattern_expr_cases

unfoldable pub read_pattern_field : Reader PatternField
read_pattern_field = record_of 2 (optional read_name then read_pattern_expr) λ p. record { name = p.0; pattern = p.1 }

unfoldable pub pattern_variant_cases : Cases PatternVariant
pattern_variant_cases =
    row 0 2 read_name unit
    (row 1 3 (read_name then list_of max_list read_pattern_field) (pair struct)
    unknown)

unfoldable pub read_pattern_variant : Reader PatternVariant
read_pattern_variant = enum_of pattern_variant_cases

unfoldable pub read_pattern : Reader Pattern
read_pattern = record_of 2 (read_name then optional read_pattern_variant) λ p. record { group = p.0; variant = p.1 }

unfoldable pub enc_pattern_expr : PatternExpr → List ℕ
enc_pattern_expr wildcard = enc_case 1 0 []
enc_pattern_expr (bind w) = enc_case 2 1 (enc_text w)
enc_pattern_expr (int v) = enc_case 2 2 (enc_head 0 v)
enc_pattern_expr (bool b) = enc_case 2 3 (enc_bool b)
enc_pattern_expr (enum_variant p) = enc_case 2 4 (enc_path p)

unfoldable pub enc_pattern_field : PatternField → List ℕ
enc_pattern_field x = enc_record 2 (enc_option enc_text x.name ++ enc_pattern_expr x.pattern)

unfoldable pub enc_pattern_variant : PatternVariant → List ℕ
enc_pattern_variant (unit w) = enc_case 2 0 (enc_text w)
enc_pattern_variant (struct w fs) = enc_case 3 1 (enc_text w ++ enc_list enc_pattern_field fs)

unfoldable pub enc_pattern : Pattern → List ℕ
enc_pattern x = enc_record 2 (enc_text x.group ++ enc_option enc_pattern_variant x.variant)

unfoldable pub WithinPatternExpr : PatternExpr → Type 0
WithinPatternExpr wildcard = Unit {0}
WithinPatternExpr (bind w) = WithinName w
WithinPatternExpr (int v) = v ≤ max_u64
WithinPatternExpr (bool b) = Unit {0}
WithinPatternExpr (enum_variant p) = WithinPath p

unfoldable pub WithinPatternField : PatternField → Type 0
WithinPatternField x = WithinOption WithinName x.name & WithinPatternExpr x.pattern

unfoldable pub WithinPatternVariant : PatternVariant → Type 0
WithinPatternVariant (unit w) = WithinName w
WithinPatternVariant (struct w fs) = WithinName w & WithinList max_list WithinPatternField fs

unfoldable pub WithinPattern : Pattern → Type 0
WithinPattern x = WithinName x.group & WithinOption WithinPatternVariant x.variant
