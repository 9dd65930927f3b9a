-- What the code's types, causes and answers stand for, in a document.
use Rattle.std.specs.Prelude.{ℕ, List, [], Result, Ok, Err, ⊤}
use Rattle.std.proofs.Math.Option.{Option, none, some}
use Rattle.reading.specs.Read.{Read, ok, refused}
use Rattle.reading.specs.Text.{Name}
use Rattle.reading.specs.Expr.{read_path}
use Rattle.reading.specs.Skip.{text_at}
use Rattle.typing.specs.Types.{ExprType, bool, bit, int_lit, enum}
use Rattle.typing.specs.Causes as causes
use Rattle.typing.specs.Causes.{Answer, is, fails}
use Rattle.typing.specs.Names.{state_enum}
use Rattle.typing.specs.declared.ty.Ty.{Ty}
use Rattle.typing.specs.declared.ty.Ty.TheVariants.{Bool, Bit, IntLit, State, Enum}
use Rattle.typing.specs.declared.cause.Cause.{Cause}
use Rattle.typing.specs.declared.cause.Cause.TheVariants as cause
use Rattle.typing.specs.declared.cause.Within.{Within}
use Rattle.typing.specs.declared.cause.Within.TheVariants.{Alone, Field, Arg}
use Rattle.typing.specs.declared.cause.Blame.{Blame}

unfoldable pub ty_of : List ℕ → Ty → ExprType
ty_of s Bool = bool
ty_of s (Bit w) = bit w
ty_of s IntLit = int_lit
ty_of s State = enum state_enum
ty_of s (Enum at) = enum (text_at s at)

-- the names of the path at a place; none where no path stands there
unfoldable pub names_of : Read (List Name) → List Name
names_of (ok p n) = p
names_of (refused f p) = []

abbrev pub path_at : List ℕ → ℕ → List Name
path_at s at = names_of (read_path s at)

unfoldable pub cause_of : List ℕ → Cause → causes.Cause
cause_of s (cause.UnknownEventGroup g) = causes.unknown_event_group (text_at s g)
cause_of s (cause.UnknownEventVariant v g) = causes.unknown_event_variant (text_at s v) (text_at s g)
cause_of s (cause.FieldCount v m n) = causes.field_count (text_at s v) m n
cause_of s (cause.DuplicateBinding n) = causes.duplicate_binding (text_at s n)
cause_of s (cause.UnitWithFields v) = causes.unit_with_fields (text_at s v)
cause_of s (cause.FieldsWithout v) = causes.fields_without (text_at s v)
cause_of s (cause.DoesNotFit v w) = causes.does_not_fit v w
cause_of s cause.IntegerOnBool = causes.integer_on_bool
cause_of s cause.IntegerOnEnum = causes.integer_on_enum
cause_of s cause.BooleanLiteral = causes.boolean_literal
cause_of s (cause.VariantPath p e) = causes.variant_path (path_at s p) (text_at s e)
cause_of s cause.VariantOnNonEnum = causes.variant_on_non_enum
cause_of s (cause.UnknownOutputGroup g) = causes.unknown_output_group (text_at s g)
cause_of s (cause.BareOutput g) = causes.bare_output (text_at s g)
cause_of s (cause.UnknownOutputVariant v g) = causes.unknown_output_variant (text_at s v) (text_at s g)
cause_of s (cause.ArgumentCount v m n) = causes.argument_count (text_at s v) m n
cause_of s (cause.MustBeBool w t) = causes.must_be_bool w (ty_of s t)
cause_of s cause.BitNot = causes.bit_not
cause_of s cause.Negation = causes.negation
cause_of s cause.EmptyPath = causes.empty_path
cause_of s (cause.UnknownIdentifier n) = causes.unknown_identifier (text_at s n)
cause_of s (cause.UnknownEnum e) = causes.unknown_enum (text_at s e)
cause_of s (cause.UnknownVariant v e) = causes.unknown_variant (text_at s v) (text_at s e)
cause_of s (cause.PathLength n) = causes.path_length n
cause_of s cause.ShiftLeft = causes.shift_left
cause_of s cause.ShiftRight = causes.shift_right
cause_of s (cause.WidthMismatch a b) = causes.width_mismatch a b
cause_of s cause.NeedsBitvectors = causes.needs_bitvectors
cause_of s cause.IntegerAsBool = causes.integer_as_bool
cause_of s (cause.TypeMismatch a b) = causes.type_mismatch (ty_of s a) (ty_of s b)
cause_of s cause.BindingInFormula = causes.binding_in_formula

-- an answer; and where there is a type, the place after the expression
pub data Outcome : Type 0 where
  good : ExprType → ℕ → Outcome
  bad : causes.Cause → Outcome

-- the code's: the type and the place after the expression, or the cause; and a cause, if anything is wrong
abbrev pub Typed : Type 0
Typed = Result (Ty × ℕ) Cause

abbrev pub Fit : Type 0
Fit = Result ⊤ Cause

unfoldable pub typed_of : List ℕ → Typed → Outcome
typed_of s (Ok (t, n)) = good (ty_of s t) n
typed_of s (Err c) = bad (cause_of s c)

unfoldable pub outcome : ℕ → Answer → Outcome
outcome next (is t) = good t next
outcome next (fails c) = bad c

-- what is wrong, if anything
unfoldable pub unfit_of : List ℕ → Fit → Option causes.Cause
unfit_of s (Ok u) = none
unfit_of s (Err c) = some (cause_of s c)

unfoldable pub within_of : List ℕ → Within → causes.Within
within_of s Alone = causes.alone
within_of s (Field n) = causes.field (text_at s n)
within_of s (Arg n) = causes.arg (text_at s n)

unfoldable pub blame_of : List ℕ → Result ⊤ Blame → Option causes.Blame
blame_of s (Ok u) = none
blame_of s (Err b) = some (record { within = within_of s b.within; cause = cause_of s b.cause })
