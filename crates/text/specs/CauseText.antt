-- What is said of a cause, in the words of validator.rs.
use Rattle.std.specs.Prelude.{List, [], ◌∷◌, ◌++◌, ℕ}
use Rattle.std.proofs.Math.Option.{Option, none, some}
use Rattle.typing.specs.Causes as causes
use Rattle.typing.specs.Causes.{Cause, is, Within, alone, field, arg, Blame}
use Rattle.text.specs.Form.{say}
use Rattle.text.specs.Shown.{decimal, debug_type, debug_names, what_text}

unfoldable pub cause_text : Cause → List ℕ
cause_text (causes.unknown_event_group g) = say "unknown event group '{}'" (g ∷ [])
cause_text (causes.unknown_event_variant v g) = say "unknown event variant '{}' in group '{}'" (v ∷ g ∷ [])
cause_text (causes.field_count v m n) = say "event variant '{}' has {} fields, pattern has {}" (v ∷ decimal m ∷ decimal n ∷ [])
cause_text (causes.duplicate_binding n) = say "duplicate pattern binding '{}'" (n ∷ [])
cause_text (causes.unit_with_fields v) = say "event variant '{}' is unit but pattern has fields" (v ∷ [])
cause_text (causes.fields_without v) = say "event variant '{}' has fields but pattern is unit" (v ∷ [])
cause_text (causes.does_not_fit v w) = say "literal {} does not fit bit<{}>" (decimal v ∷ decimal w ∷ [])
cause_text causes.integer_on_bool = say "integer literal cannot match bool" []
cause_text causes.integer_on_enum = say "integer literal cannot match enum" []
cause_text causes.boolean_literal = say "boolean literal cannot match non-bool" []
cause_text (causes.variant_path p e) = say "enum variant path {} does not match enum {}" (debug_names p ∷ e ∷ [])
cause_text causes.variant_on_non_enum = say "enum variant pattern cannot match non-enum" []
cause_text (causes.unknown_output_group g) = say "unknown output group '{}'" (g ∷ [])
cause_text (causes.bare_output g) = say "bare output '{}' is ambiguous; name a variant" (g ∷ [])
cause_text (causes.unknown_output_variant v g) = say "unknown output variant '{}' in group '{}'" (v ∷ g ∷ [])
cause_text (causes.argument_count v m n) = say "output '{}' has {} args, variant expects {}" (v ∷ decimal m ∷ decimal n ∷ [])
cause_text (causes.must_be_bool w t) = say "{} must be bool, found {}" (what_text w ∷ debug_type t ∷ [])
cause_text causes.bit_not = say "bit_not requires bitvector" []
cause_text causes.negation = say "negation requires bitvector" []
cause_text causes.empty_path = say "empty path" []
cause_text (causes.unknown_identifier n) = say "unknown identifier '{}'" (n ∷ [])
cause_text (causes.unknown_enum e) = say "unknown enum type '{}'" (e ∷ [])
cause_text (causes.unknown_variant v e) = say "unknown variant '{}' in enum '{}'" (v ∷ e ∷ [])
cause_text (causes.path_length n) = say "unsupported path length {}" (decimal n ∷ [])
cause_text causes.shift_left = say "shift left operand must be bitvector" []
cause_text causes.shift_right = say "shift right operand must be bitvector or integer literal" []
cause_text (causes.width_mismatch a b) = say "bitwidth mismatch: bit<{}> vs bit<{}>" (decimal a ∷ decimal b ∷ [])
cause_text causes.needs_bitvectors = say "bitwise/arithmetic operator requires bitvector operands" []
cause_text causes.integer_as_bool = say "integer literal cannot be used as bool" []
cause_text (causes.type_mismatch a b) = say "type mismatch: {} vs {}" (debug_type a ∷ debug_type b ∷ [])
cause_text causes.binding_in_formula = say "formula input patterns do not bind variables in Phase 1" []

-- what a cause in a field or an argument begins with
unfoldable pub within_text : Within → List ℕ
within_text alone = []
within_text (field n) = say "field '{}': " (n ∷ [])
within_text (arg n) = say "arg for '{}': " (n ∷ [])

unfoldable pub blame_text : Option Blame → List ℕ
blame_text none = []
blame_text (some b) = within_text b.within ++ cause_text b.cause

-- a cause that stands alone
unfoldable pub alone_blame : Option Cause → Option Blame
alone_blame none = none
alone_blame (some c) = some (record { within = alone; cause = c })
