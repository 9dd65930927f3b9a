-- Why something has no type: each cause with the values that its message says, and its number in document 01.
use Rattle.std.specs.Prelude.{ℕ, List}
use Rattle.std.proofs.Math.Option.{Option, none, some}
use Rattle.reading.specs.Text.{Name}
use Rattle.typing.specs.Types.{ExprType}
use Rattle.typing.specs.declared.cause.What.{What}

pub data Cause : Type 0 where
  unknown_event_group : (group : Name) → Cause
  unknown_event_variant : (variant group : Name) → Cause
  field_count : (variant : Name) (declared given : ℕ) → Cause
  duplicate_binding : (name : Name) → Cause
  unit_with_fields : (variant : Name) → Cause
  fields_without : (variant : Name) → Cause
  does_not_fit : (value width : ℕ) → Cause
  integer_on_bool : Cause
  integer_on_enum : Cause
  boolean_literal : Cause
  variant_path : (path : List Name) (enum : Name) → Cause
  variant_on_non_enum : Cause
  unknown_output_group : (group : Name) → Cause
  bare_output : (group : Name) → Cause
  unknown_output_variant : (variant group : Name) → Cause
  argument_count : (variant : Name) (given declared : ℕ) → Cause
  must_be_bool : (what : What) (type : ExprType) → Cause
  bit_not : Cause
  negation : Cause
  empty_path : Cause
  unknown_identifier : (name : Name) → Cause
  unknown_enum : (enum : Name) → Cause
  unknown_variant : (variant enum : Name) → Cause
  path_length : (segments : ℕ) → Cause
  shift_left : Cause
  shift_right : Cause
  width_mismatch : (left right : ℕ) → Cause
  needs_bitvectors : Cause
  integer_as_bool : Cause
  type_mismatch : (left right : ExprType) → Cause
  binding_in_formula : Cause

-- "Causes, numbered by their messages in validator.rs"
unfoldable pub number : Cause → ℕ
number (unknown_event_group g) = 1
number (unknown_event_variant v g) = 2
number (field_count v m n) = 3
number (duplicate_binding n) = 4
number (unit_with_fields v) = 5
number (fields_without v) = 6
number (does_not_fit v w) = 7
number integer_on_bool = 8
number integer_on_enum = 9
number boolean_literal = 10
number (variant_path p e) = 11
number variant_on_non_enum = 12
number (unknown_output_group g) = 13
number (bare_output g) = 14
number (unknown_output_variant v g) = 15
number (argument_count v m n) = 16
number (must_be_bool w t) = 17
number bit_not = 18
number negation = 19
number empty_path = 20
number (unknown_identifier n) = 21
number (unknown_enum e) = 22
number (unknown_variant v e) = 23
number (path_length n) = 24
number shift_left = 25
number shift_right = 26
number (width_mismatch a b) = 27
number needs_bitvectors = 28
number integer_as_bool = 29
number (type_mismatch a b) = 30
number binding_in_formula = 31

-- a type, or the cause
pub data Answer : Type 0 where
  is : ExprType → Answer
  fails : Cause → Answer

-- "left goes first, the first cause wins"
unfoldable pub and_then : Answer → (ExprType → Answer) → Answer
and_then (is t) f = f t
and_then (fails c) f = fails c

-- what is judged without a type has a cause or none
unfoldable pub unless : Option Cause → Answer → Answer
unless none a = a
unless (some c) a = fails c

-- the first of two that is given
unfoldable pub first_of : {A : Type 0} → Option A → Option A → Option A
first_of none b = b
first_of (some a) b = some a

-- the field or argument that a pattern's or an output's cause is about; its message begins with it
pub data Within : Type 0 where
  alone : Within
  field : Name → Within
  arg : Name → Within

pub record Blame : Type 0 where
  pub within : Within
  pub cause : Cause

unfoldable pub blame : Within → Option Cause → Option Blame
blame w none = none
blame w (some c) = some (record { within = w; cause = c })

-- the cause word of a finding: 0 where there is none
unfoldable pub cause_word : Option Cause → ℕ
cause_word none = 0
cause_word (some c) = number c

unfoldable pub blame_word : Option Blame → ℕ
blame_word none = 0
blame_word (some b) = number b.cause
