-- Event patterns: what is wrong with one, and the bindings it makes, also those before a fault.
use Rattle.std.specs.Prelude.{ℕ, ◌^◌, List, [], ◌∷◌, Bool, false, length, eqb, ltb}
use Rattle.std.proofs.Math.Option.{Option, none, some}
use Rattle.reading.specs.Read.{pick}
use Rattle.reading.specs.Text.{Name}
use Rattle.reading.specs.Decl.{Ty, FieldDecl, ConstructorVariant, ConstructorGroup}
use Rattle.reading.specs.Decl as decl
use Rattle.reading.specs.Pattern.{PatternExpr, PatternField, PatternVariant, Pattern}
use Rattle.reading.specs.Pattern as pattern
use Rattle.typing.specs.Types.{type_to_expr_type}
use Rattle.typing.specs.Causes.{Cause, unknown_event_group, unknown_event_variant, field_count, duplicate_binding, unit_with_fields, fields_without, does_not_fit, integer_on_bool, integer_on_enum, boolean_literal, variant_path, variant_on_non_enum, alone, field, Blame, blame}
use Rattle.typing.specs.Names.{eq_name, member, first_called}
use Rattle.typing.specs.Env.{Binding}

-- a literal fits a width
unfoldable pub fits : ℕ → ℕ → Bool
fits v w = ltb v (2 ^ w)

-- a path of two segments at least, of which the first is the enum
unfoldable pub variant_of : List Name → Name → Bool
variant_of [] n = false
variant_of (e ∷ []) n = false
variant_of (e ∷ (v ∷ vs)) n = eq_name e n

-- pattern_expr_compatible
unfoldable pub pattern_expr_compatible : PatternExpr → Ty → Option Cause
pattern_expr_compatible pattern.wildcard t = none
pattern_expr_compatible (pattern.bind n) t = none
pattern_expr_compatible (pattern.int v) decl.bool = some integer_on_bool
pattern_expr_compatible (pattern.int v) (decl.bit w) = pick (fits v w) none (some (does_not_fit v w))
pattern_expr_compatible (pattern.int v) (decl.enum n) = some integer_on_enum
pattern_expr_compatible (pattern.bool b) decl.bool = none
pattern_expr_compatible (pattern.bool b) (decl.bit w) = some boolean_literal
pattern_expr_compatible (pattern.bool b) (decl.enum n) = some boolean_literal
pattern_expr_compatible (pattern.enum_variant p) decl.bool = some variant_on_non_enum
pattern_expr_compatible (pattern.enum_variant p) (decl.bit w) = some variant_on_non_enum
pattern_expr_compatible (pattern.enum_variant p) (decl.enum n) = pick (variant_of p n) none (some (variant_path p n))

pub record Judged : Type 0 where
  pub bound : List Binding
  pub fault : Option Blame

-- nothing is bound
abbrev pub judged : Option Blame → Judged
judged f = record { bound = []; fault = f }

unfoldable pub bound : Binding → Judged → Judged
bound b j = record { bound = b ∷ j.bound; fault = j.fault }

unfoldable pub or_else : Option Blame → Judged → Judged
or_else none j = j
or_else (some f) j = judged (some f)

-- "a field binds before its literal is judged"; `PatternField.name` binds, `PatternExpr::Bind` doesn't.
-- rest judges the fields that follow, with the names bound so far
unfoldable pub judge_field : (List Name → Judged) → List Name → FieldDecl → PatternField → Option Name → Judged
judge_field rest seen f p none = or_else (blame (field f.name) (pattern_expr_compatible p.pattern f.ty)) (rest seen)
judge_field rest seen f p (some n) =
    pick (member n seen) (judged (blame alone (some (duplicate_binding n))))
    (bound (record { name = n; type = type_to_expr_type f.ty })
    (or_else (blame (field f.name) (pattern_expr_compatible p.pattern f.ty)) (rest (n ∷ seen))))

unfoldable pub judge_fields : List Name → List FieldDecl → List PatternField → Judged
judge_fields seen [] ps = judged none
judge_fields seen (f ∷ fs) [] = judged none
judge_fields seen (f ∷ fs) (p ∷ ps) = judge_field (λ names. judge_fields names fs ps) seen f p p.name

unfoldable pub declared_name : ConstructorVariant → Name
declared_name (decl.unit n) = n
declared_name (decl.struct n fs) = n

unfoldable pub pattern_variant_name : PatternVariant → Name
pattern_variant_name (pattern.unit n) = n
pattern_variant_name (pattern.struct n fs) = n

unfoldable pub judge_variant : ConstructorVariant → PatternVariant → Judged
judge_variant (decl.unit n) (pattern.unit v) = judged none
judge_variant (decl.unit n) (pattern.struct v ps) = judged (blame alone (some (unit_with_fields v)))
judge_variant (decl.struct n fs) (pattern.unit v) = judged (blame alone (some (fields_without v)))
judge_variant (decl.struct n fs) (pattern.struct v ps) =
    pick (eqb (length fs) (length ps)) (judge_fields [] fs ps)
    (judged (blame alone (some (field_count v (length fs) (length ps)))))

unfoldable pub judge_declared : Name → PatternVariant → Option ConstructorVariant → Judged
judge_declared group v none = judged (blame alone (some (unknown_event_variant (pattern_variant_name v) group)))
judge_declared group v (some d) = judge_variant d v

unfoldable pub judge_group : ConstructorGroup → Option PatternVariant → Judged
judge_group g none = judged none
judge_group g (some v) = judge_declared g.name v (first_called declared_name (pattern_variant_name v) g.variants)

unfoldable pub judge_named : Pattern → Option ConstructorGroup → Judged
judge_named p none = judged (blame alone (some (unknown_event_group p.group)))
judge_named p (some g) = judge_group g p.variant

-- validate_event_pattern, by the groups of events: the first of the name
unfoldable pub validate_event_pattern : List ConstructorGroup → Pattern → Judged
validate_event_pattern events p = judge_named p (first_called (λ (g : ConstructorGroup). g.name) p.group events)
