-- Worked examples of document 01's rules, by computing: content, and where a refusal stands.
use Prim.Native.Nat.{ℕ}
use mathlib.Core.Path.{◌≡◌, refl}
use mathlib.Core.List.{List, [], ◌∷◌}
use mathlib.Core.Bool.{true}
use mathlib.Core.Option.{none, some}
use Rattle.reading.specs.Read.{Read, ok, refused, pick, bind, map_r}
use Rattle.reading.specs.Head.{read_head, head_with, simple, wide_head, long_head, settled, be1}
use Rattle.reading.specs.Item.{read_kind, read_number, read_ir_version, read_bool, read_fields, read_count, read_tag}
use Rattle.reading.specs.Text.{all, name_byte, text_bytes, read_text, read_name}
use Rattle.reading.specs.Combine.{◌then◌, record_of, entries, list_of, optional, sized, row, unknown, enum_of}
use Rattle.reading.specs.Expr.{bool, read_path, expr_cases, read_expr}
use Rattle.reading.specs.Decl.{read_names, read_enum_decl, constructor_variant_cases, read_constructor_variant, read_constructor_group}
use Rattle.reading.specs.Decl as decl
use Rattle.reading.specs.Pattern as pattern
use Rattle.reading.specs.Pattern.{pattern_variant_cases, read_pattern_variant, read_pattern}
use Rattle.reading.specs.Transition.{read_transition}
use Rattle.reading.specs.Formula.{Formula, not, expr, input_is, formula_cases, read_formula}
use Rattle.reading.specs.Module.{Ir, read_module, read_ir}
use Rattle.reading.specs.Document.{read_document}
use Rattle.reading.specs.declared.fault.Fault.TheVariants.{Truncated, NonCanonical, Unexpected, OutOfRange, OutsideAlphabet, TooDeep, Trailing, UnknownVersion}

unfoldable top : List ℕ → Read Formula
top s = read_formula 32 s 0

-- not true
example_not : top (130 ∷ 3 ∷ 130 ∷ 2 ∷ 130 ∷ 1 ∷ 245 ∷ []) ≡ ok (not (expr (bool true))) 7
unfolding top read_formula formula_cases read_expr expr_cases enum_of row sized read_tag read_kind read_head head_with simple bind pick map_r read_bool
example_not = refl

-- the event group E, any variant
example_input : top (130 ∷ 0 ∷ 130 ∷ 97 ∷ 69 ∷ 246 ∷ []) ≡ ok (input_is (record { group = 69 ∷ []; variant = none })) 6
unfolding top read_formula formula_cases enum_of row sized read_tag read_kind read_head head_with bind pick map_r read_pattern record_of ◌then◌ read_fields read_name read_text text_bytes all name_byte optional
example_input = refl

-- a data enum of count 0: 4 at the array
example_empty : top (128 ∷ []) ≡ refused Unexpected 0
unfolding top read_formula enum_of read_tag read_kind read_head head_with bind pick
example_empty = refl

-- an unknown case: 4 at the case item, before the count is judged
example_case : top (129 ∷ 13 ∷ []) ≡ refused Unexpected 1
unfolding top read_formula formula_cases enum_of row unknown read_tag read_kind read_head head_with bind pick
example_case = refl

-- a wrong count: 4 at the array, after the case item
example_count : top (129 ∷ 3 ∷ []) ≡ refused Unexpected 0
unfolding top read_formula formula_cases enum_of row sized read_tag read_kind read_head head_with bind pick map_r
example_count = refl

-- the case item is missing: 2 at it
example_truncated : top (129 ∷ []) ≡ refused Truncated 1
unfolding top read_formula enum_of read_tag read_kind read_head head_with bind pick
example_truncated = refl

-- a formula inside where no level is left: 7 at it, before its missing bytes; and so for an expression
example_deep : read_formula 1 (130 ∷ 3 ∷ []) 0 ≡ refused TooDeep 2
unfolding read_formula formula_cases enum_of row sized read_tag read_kind read_head head_with bind pick map_r
example_deep = refl

example_deep_expr : read_formula 1 (130 ∷ 2 ∷ []) 0 ≡ refused TooDeep 2
unfolding read_formula formula_cases read_expr enum_of row sized read_tag read_kind read_head head_with bind pick map_r
example_deep_expr = refl

-- a longer head than needed: 3
example_non_canonical : read_kind 4 (152 ∷ 3 ∷ []) 0 ≡ refused NonCanonical 0
unfolding read_kind read_head head_with wide_head long_head settled be1 bind pick
example_non_canonical = refl

-- a path of nine segments: 5 at its head, before any of them
example_path : read_path (137 ∷ []) 0 ≡ refused OutOfRange 0
unfolding read_path list_of read_count read_kind read_head head_with bind pick
example_path = refl

-- an empty name: 5; a byte outside the alphabet: 6; both at the string's head
example_name : read_name (96 ∷ []) 0 ≡ refused OutOfRange 0
unfolding read_name read_text read_kind read_head head_with bind pick
example_name = refl

example_alphabet : read_name (97 ∷ 45 ∷ []) 0 ≡ refused OutsideAlphabet 0
unfolding read_name read_text text_bytes all name_byte read_kind read_head head_with bind pick
example_alphabet = refl

-- no byte: 2 at 0; ir_version 2: 9 at it; no module, and a byte after: 8 at that byte
example_nothing : read_document [] ≡ refused Truncated 0
unfolding read_document read_ir record_of read_fields read_kind read_head bind pick
example_nothing = refl

example_version : read_document (130 ∷ 2 ∷ 128 ∷ []) ≡ refused UnknownVersion 1
unfolding read_document read_ir record_of ◌then◌ read_fields read_ir_version read_kind read_head head_with bind pick map_r
example_version = refl

example_trailing : read_document (130 ∷ 1 ∷ 128 ∷ 0 ∷ []) ≡ refused Trailing 3
unfolding read_document read_ir record_of ◌then◌ read_fields read_ir_version list_of read_count entries read_kind read_head head_with bind pick map_r
example_trailing = refl

-- document 01's worked example
offer : List ℕ
offer =
    130 ∷ 1 ∷ 129 ∷ 139 ∷ 97 ∷ 77 ∷ 246 ∷ 246 ∷ 129 ∷ 130 ∷ 101 ∷ 83 ∷ 116 ∷ 97 ∷ 116 ∷ 101 ∷ 131 ∷ 97 ∷ 65 ∷ 97 ∷ 66 ∷ 97 ∷
    67 ∷ 97 ∷ 65 ∷ 129 ∷ 130 ∷ 97 ∷ 69 ∷ 130 ∷ 130 ∷ 0 ∷ 98 ∷ 103 ∷ 111 ∷ 130 ∷ 0 ∷ 100 ∷ 115 ∷ 116 ∷ 111 ∷ 112 ∷ 128 ∷ 128 ∷
    129 ∷ 136 ∷ 0 ∷ 97 ∷ 65 ∷ 130 ∷ 97 ∷ 69 ∷ 130 ∷ 0 ∷ 98 ∷ 103 ∷ 111 ∷ 246 ∷ 97 ∷ 66 ∷ 128 ∷ 128 ∷ 246 ∷ 128 ∷ 128 ∷ []

offer_content : Ir
offer_content = record {
  ir_version = 1;
  modules =
      record {
        name = 77 ∷ [];
        version = none;
        on_error = none;
        enums = record { name = 83 ∷ 116 ∷ 97 ∷ 116 ∷ 101 ∷ []; variants = (65 ∷ []) ∷ (66 ∷ []) ∷ (67 ∷ []) ∷ [] } ∷ [];
        initial_state = some (65 ∷ []);
        events = record { name = 69 ∷ []; variants = decl.unit (103 ∷ 111 ∷ []) ∷ decl.unit (115 ∷ 116 ∷ 111 ∷ 112 ∷ []) ∷ [] } ∷ [];
        outputs = [];
        vars = [];
        transitions =
            record {
              id = 0;
              state = 65 ∷ [];
              pattern = record { group = 69 ∷ []; variant = some (pattern.unit (103 ∷ 111 ∷ [])) };
              guard = none;
              next_state = 66 ∷ [];
              emits = [];
              assignments = [];
              priority = none;
            } ∷ [];
        properties = [];
        assumptions = [];
      } ∷ [];
}

example_offer : read_document offer ≡ ok offer_content 65
unfolding offer offer_content read_document read_ir read_module record_of ◌then◌ read_fields read_ir_version list_of read_count entries optional read_tag enum_of row sized read_enum_decl read_names read_constructor_group read_constructor_variant constructor_variant_cases read_transition read_number read_pattern read_pattern_variant pattern_variant_cases read_name read_text text_bytes all name_byte read_kind read_head head_with bind pick map_r
example_offer = refl
