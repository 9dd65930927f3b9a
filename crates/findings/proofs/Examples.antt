-- Worked examples of the findings, by computing: document 01's, one with pairs in two orders of the transitions, and one of two modules with
-- errors.
use Prim.Native.Nat.{ℕ}
use mathlib.Core.Path.{◌≡◌, refl}
use mathlib.Core.List.{List, [], ◌∷◌, map}
use mathlib.Core.Bool.{true, false}
use mathlib.Core.Option.{Option, none, some}
use Rattle.reading.specs.Text.{Name}
use Rattle.reading.specs.Expr as expr
use Rattle.reading.specs.Decl as decl
use Rattle.reading.specs.Pattern as pattern
use Rattle.reading.specs.Formula as formula
use Rattle.reading.specs.Transition.{Transition}
use Rattle.reading.specs.Module.{Module}
use Rattle.reading.specs.Read.{pick}
use Rattle.reading.specs.Encode.{put1, enc_head, enc_bool, enc_text, enc_option}
use Rattle.reading.specs.Expr.{Expr, enc_expr}
use Rattle.reading.specs.Pattern.{enc_pattern_variant, enc_pattern}
use Rattle.typing.specs.Types.{type_to_expr_type}
use Rattle.typing.specs.Causes.{number, and_then, unless, first_of, blame}
use Rattle.typing.specs.Names.{state_enum, eq_name, member, called, first_called, last_called}
use Rattle.typing.specs.Rules.{is_bool, must_bool, bits_of, literal_with_bits, compatible_with, compare_type, logic_type, and_or_type, bin_op, binary_type}
use Rattle.typing.specs.Env.{binding_type, var_type, given, enum_has, for_module, with_bindings}
use Rattle.typing.specs.Typing.{resolve_state, or_state, resolve_name, resolve_path, type_expr}
use Rattle.typing.specs.Patterns.{declared_name, pattern_variant_name, judge_variant, judge_declared, judge_group, judge_named, validate_event_pattern}
use Rattle.typing.specs.Outputs.{judge_output, validate_output_expr}
use Rattle.typing.specs.Guards.{eq_op, logic_and_op, is_literal_false, conjuncts, one_name, path_is, equated, equality, against, judge_equality, clashes, contradictory_equalities}
use Rattle.typing.specs.Formulas.{bool_cause, type_formula, bounded_always_error}
use Rattle.typing.specs.Version.{onto, split, two_or_three, is_valid_version_format}
use Rattle.findings.specs.Finding.{words, caused, blamed, type_cause}
use Rattle.findings.specs.Order.{earlier}
use Rattle.findings.specs.Reach.{reached}
use Rattle.findings.specs.Mentions.{enum_variants, states, group_variants, sole_name, collect_names, guard_names, emit_names, touched, error_touched, all_touched, variant_used}
use Rattle.findings.specs.Pairs.{equal_priority, no_priority, same_pattern, same_guard, alike, clash, ambiguous, state_names, by_state}
use Rattle.findings.specs.Errors.{unknown_state, is_empty, initial_notes, version_notes, init_notes, opening, guard_typed, guard_notes, set_notes, emit_notes, body_notes, judged_notes, own, error_emit_notes, on_error_notes, stands_earlier, repeat_notes, formula_notes, claims, closing, errors}
use Rattle.findings.specs.Warnings.{unreachable, uses_event, dead_in, dead, unused, impossible_guard, impossible, warnings}
use Rattle.findings.specs.Findings.{by_module, all_errors, all_warnings, findings}

-- at event go of group E, from one state to another
unfoldable step : Name → Option Expr → Name → Transition
step s g n = record {
  id = 0;
  state = s;
  pattern = record { group = 69 ∷ []; variant = some (pattern.unit (103 ∷ 111 ∷ [])) };
  guard = g;
  next_state = n;
  emits = [];
  assignments = [];
  priority = none;
}

-- module M with states A, B and C and events go and stop
unfoldable offer : Name → List Transition → Module
offer s ts = record {
  name = 77 ∷ [];
  version = none;
  on_error = none;
  enums = record { name = state_enum; variants = (65 ∷ []) ∷ (66 ∷ []) ∷ (67 ∷ []) ∷ [] } ∷ [];
  initial_state = some s;
  events = record { name = 69 ∷ []; variants = decl.unit (103 ∷ 111 ∷ []) ∷ decl.unit (115 ∷ 116 ∷ 111 ∷ 112 ∷ []) ∷ [] } ∷ [];
  outputs = [];
  vars = [];
  transitions = ts;
  properties = [];
  assumptions = [];
}

-- version "1"; no enum, no event and no output; a variable v, and w, whose initial value is q, which is not declared
unfoldable faulty : List Transition → Module
faulty ts = record {
  name = 77 ∷ [];
  version = some (49 ∷ []);
  on_error = some (record { next_state = 65 ∷ []; emits = record { group = 79 ∷ []; variant = none; args = [] } ∷ [] });
  enums = [];
  initial_state = none;
  events = [];
  outputs = [];
  vars =
      record { name = 118 ∷ []; ty = decl.bit 8; init = expr.int 0 }
      ∷ record { name = 119 ∷ []; ty = decl.bit 8; init = expr.path ((113 ∷ []) ∷ []) } ∷ [];
  transitions = ts;
  properties = record { name = 112 ∷ []; formula = formula.expr (expr.int 1) } ∷ [];
  assumptions = record { name = 112 ∷ []; formula = formula.bounded_always 0 (formula.expr (expr.bool true)) } ∷ [];
}

-- from A to B, where v == 1 && v == 2, with priority 1
unfoldable never : Transition
never = record {
  id = 0;
  state = 65 ∷ [];
  pattern = record { group = 69 ∷ []; variant = none };
  guard =
      some
      (expr.binary logic_and_op
      (expr.binary eq_op (expr.path ((118 ∷ []) ∷ [])) (expr.int 1))
      (expr.binary eq_op (expr.path ((118 ∷ []) ∷ [])) (expr.int 2)));
  next_state = 66 ∷ [];
  emits = [];
  assignments = [];
  priority = some 1;
}

-- from B to A, where q, which emits O and sets q and v
unfoldable unknown : Transition
unknown = record {
  id = 0;
  state = 66 ∷ [];
  pattern = record { group = 69 ∷ []; variant = none };
  guard = some (expr.path ((113 ∷ []) ∷ []));
  next_state = 65 ∷ [];
  emits = record { group = 79 ∷ []; variant = none; args = [] } ∷ [];
  assignments =
      record { var = 113 ∷ []; value = expr.path ((113 ∷ []) ∷ []) }
      ∷ record { var = 118 ∷ []; value = expr.path ((113 ∷ []) ∷ []) } ∷ [];
  priority = none;
}

-- the words of a document's findings
abbrev Finds : List Module → List (List ℕ) → Type 0
Finds ms ws = map words (findings (record { ir_version = 1; modules = ms })) ≡ ws

examples :
    -- document 01's: C is unreachable, and stop is a dead event
    Finds (offer (65 ∷ []) (step (65 ∷ []) none (66 ∷ []) ∷ []) ∷ []) ((0 ∷ 21 ∷ 2 ∷ 0 ∷ 0 ∷ []) ∷ (0 ∷ 22 ∷ 0 ∷ 1 ∷ 0 ∷ []) ∷ [])
    -- duplicates by state name, then pairs of which the guards differ
    × Finds
    (offer (65 ∷ [])
    (step (66 ∷ []) (some (expr.bool true)) (66 ∷ [])
    ∷ step (65 ∷ []) none (66 ∷ [])
    ∷ step (66 ∷ []) (some (expr.bool true)) (67 ∷ [])
    ∷ step (65 ∷ []) none (66 ∷ [])
    ∷ step (65 ∷ []) (some (expr.bool false)) (66 ∷ []) ∷ []) ∷ [])
    ((0 ∷ 15 ∷ 1 ∷ 3 ∷ 0 ∷ []) ∷ (0 ∷ 15 ∷ 0 ∷ 2 ∷ 0 ∷ []) ∷ (0 ∷ 22 ∷ 0 ∷ 1 ∷ 0 ∷ [])
    ∷ (0 ∷ 24 ∷ 1 ∷ 4 ∷ 0 ∷ []) ∷ (0 ∷ 24 ∷ 3 ∷ 4 ∷ 0 ∷ []) ∷ (0 ∷ 25 ∷ 4 ∷ 0 ∷ 0 ∷ []) ∷ [])
    -- the same transitions from the last to the first
    × Finds
    (offer (65 ∷ [])
    (step (65 ∷ []) (some (expr.bool false)) (66 ∷ [])
    ∷ step (65 ∷ []) none (66 ∷ [])
    ∷ step (66 ∷ []) (some (expr.bool true)) (67 ∷ [])
    ∷ step (65 ∷ []) none (66 ∷ [])
    ∷ step (66 ∷ []) (some (expr.bool true)) (66 ∷ []) ∷ []) ∷ [])
    ((0 ∷ 15 ∷ 1 ∷ 3 ∷ 0 ∷ []) ∷ (0 ∷ 15 ∷ 2 ∷ 4 ∷ 0 ∷ []) ∷ (0 ∷ 22 ∷ 0 ∷ 1 ∷ 0 ∷ [])
    ∷ (0 ∷ 24 ∷ 0 ∷ 1 ∷ 0 ∷ []) ∷ (0 ∷ 24 ∷ 0 ∷ 3 ∷ 0 ∷ []) ∷ (0 ∷ 25 ∷ 0 ∷ 0 ∷ 0 ∷ []) ∷ [])
    -- errors by module, then warnings by module; an initial state that is no variant has only the empty chain
    × Finds
    (faulty (never ∷ unknown ∷ never ∷ []) ∷ offer (68 ∷ []) (step (65 ∷ []) (some (expr.int 1)) (66 ∷ []) ∷ []) ∷ [])
    ((0 ∷ 1 ∷ 0 ∷ 0 ∷ 0 ∷ []) ∷ (0 ∷ 3 ∷ 0 ∷ 0 ∷ 0 ∷ []) ∷ (0 ∷ 4 ∷ 0 ∷ 0 ∷ 0 ∷ []) ∷ (0 ∷ 5 ∷ 1 ∷ 0 ∷ 21 ∷ [])
    ∷ (0 ∷ 6 ∷ 0 ∷ 0 ∷ 0 ∷ []) ∷ (0 ∷ 7 ∷ 0 ∷ 0 ∷ 0 ∷ []) ∷ (0 ∷ 8 ∷ 0 ∷ 0 ∷ 1 ∷ [])
    ∷ (0 ∷ 6 ∷ 1 ∷ 0 ∷ 0 ∷ []) ∷ (0 ∷ 7 ∷ 1 ∷ 0 ∷ 0 ∷ []) ∷ (0 ∷ 8 ∷ 1 ∷ 0 ∷ 1 ∷ []) ∷ (0 ∷ 9 ∷ 1 ∷ 0 ∷ 21 ∷ [])
    ∷ (0 ∷ 11 ∷ 1 ∷ 0 ∷ 0 ∷ []) ∷ (0 ∷ 12 ∷ 1 ∷ 1 ∷ 21 ∷ []) ∷ (0 ∷ 13 ∷ 1 ∷ 0 ∷ 13 ∷ [])
    ∷ (0 ∷ 6 ∷ 2 ∷ 0 ∷ 0 ∷ []) ∷ (0 ∷ 7 ∷ 2 ∷ 0 ∷ 0 ∷ []) ∷ (0 ∷ 8 ∷ 2 ∷ 0 ∷ 1 ∷ [])
    ∷ (0 ∷ 14 ∷ 0 ∷ 2 ∷ 0 ∷ []) ∷ (0 ∷ 16 ∷ 0 ∷ 0 ∷ 0 ∷ []) ∷ (0 ∷ 17 ∷ 0 ∷ 0 ∷ 13 ∷ []) ∷ (0 ∷ 18 ∷ 1 ∷ 0 ∷ 0 ∷ [])
    ∷ (0 ∷ 19 ∷ 0 ∷ 0 ∷ 17 ∷ []) ∷ (0 ∷ 20 ∷ 1 ∷ 0 ∷ 0 ∷ []) ∷ (1 ∷ 2 ∷ 0 ∷ 0 ∷ 0 ∷ []) ∷ (1 ∷ 10 ∷ 0 ∷ 0 ∷ 0 ∷ [])
    ∷ (0 ∷ 23 ∷ 1 ∷ 0 ∷ 0 ∷ []) ∷ (0 ∷ 26 ∷ 0 ∷ 0 ∷ 0 ∷ []) ∷ (0 ∷ 26 ∷ 2 ∷ 0 ∷ 0 ∷ [])
    ∷ (1 ∷ 21 ∷ 0 ∷ 0 ∷ 0 ∷ []) ∷ (1 ∷ 21 ∷ 1 ∷ 0 ∷ 0 ∷ []) ∷ (1 ∷ 21 ∷ 2 ∷ 0 ∷ 0 ∷ []) ∷ (1 ∷ 22 ∷ 0 ∷ 1 ∷ 0 ∷ []) ∷ [])
unfolding step offer faulty never unknown pick put1 enc_head enc_bool enc_text enc_option enc_expr enc_pattern_variant enc_pattern type_to_expr_type number and_then unless first_of blame eq_name member called first_called last_called is_bool must_bool bits_of literal_with_bits compatible_with compare_type logic_type and_or_type bin_op binary_type binding_type var_type given enum_has for_module with_bindings resolve_state or_state resolve_name resolve_path type_expr declared_name pattern_variant_name judge_variant judge_declared judge_group judge_named validate_event_pattern judge_output validate_output_expr is_literal_false conjuncts one_name path_is equated equality against judge_equality clashes contradictory_equalities bool_cause type_formula bounded_always_error onto split two_or_three is_valid_version_format caused blamed type_cause earlier reached enum_variants states group_variants sole_name collect_names guard_names emit_names touched error_touched all_touched variant_used equal_priority no_priority same_pattern same_guard alike clash ambiguous state_names by_state unknown_state is_empty initial_notes version_notes init_notes opening guard_typed guard_notes set_notes emit_notes body_notes judged_notes own error_emit_notes on_error_notes stands_earlier repeat_notes formula_notes claims closing errors unreachable uses_event dead_in dead unused impossible_guard impossible warnings by_module all_errors all_warnings findings
examples = (refl, refl, refl, refl)
