-- The rules of unary and binary operators.
use Rattle.std.specs.Prelude.{ℕ, zero, suc, [], ◌∷◌, Bool, true, false, get_or, eqb}
use Rattle.std.proofs.Math.Option.{Option, none, some}
use Rattle.reading.specs.Read.{pick}
use Rattle.typing.specs.Types.{ExprType, bool, bit, int_lit, enum}
use Rattle.typing.specs.Causes.{Cause, must_be_bool, bit_not, negation, shift_left, shift_right, width_mismatch, needs_bitvectors, integer_as_bool, type_mismatch, Answer, is, fails, unless}
use Rattle.typing.specs.Names.{eq_name}
use Rattle.typing.specs.declared.cause.What.{What}
use Rattle.typing.specs.declared.cause.What.TheVariants.{Operand, Left, Right}
use Rattle.typing.specs.declared.ty.Bits.{Bits}
use Rattle.typing.specs.declared.ty.Bits.TheVariants.{Width, Literal, Other}

unfoldable pub is_bool : ExprType → Bool
is_bool bool = true
is_bool (bit w) = false
is_bool int_lit = false
is_bool (enum n) = false

-- must_bool
unfoldable pub must_bool : What → ExprType → Option Cause
must_bool what t = pick (is_bool t) none (some (must_be_bool what t))

-- a type as an operand of arithmetic
unfoldable pub bits_of : ExprType → Bits
bits_of bool = Other
bits_of (bit w) = Width w
bits_of int_lit = Literal
bits_of (enum n) = Other

-- "BitNot or Neg of IntLit: Bit(8)"
unfoldable pub negated : Cause → Bits → Answer
negated c (Width w) = is (bit w)
negated c Literal = is (bit 8)
negated c Other = fails c

-- the unary operators of ir.rs by number: Not, BitNot, Neg
unfoldable pub unary_type : ℕ → ExprType → Answer
unary_type zero t = unless (must_bool Operand t) (is bool)
unary_type (suc zero) t = negated bit_not (bits_of t)
unary_type (suc (suc k)) t = negated negation (bits_of t)

-- "Arithmetic or bit operation on two IntLit: Bit(8); IntLit with Bit(w): Bit(w)"
unfoldable pub bit_pair : Bits → Bits → Answer
bit_pair (Width a) (Width b) = pick (eqb a b) (is (bit a)) (fails (width_mismatch a b))
bit_pair (Width a) Literal = is (bit a)
bit_pair (Width a) Other = fails needs_bitvectors
bit_pair Literal (Width b) = is (bit b)
bit_pair Literal Literal = is (bit 8)
bit_pair Literal Other = fails needs_bitvectors
bit_pair Other b = fails needs_bitvectors

-- bit_op_type
unfoldable pub bit_op_type : ExprType → ExprType → Answer
bit_op_type l r = bit_pair (bits_of l) (bits_of r)

-- "A shift has the left type (IntLit: 8), right is Bit or IntLit"
unfoldable pub shift_by : ℕ → Bits → Answer
shift_by w (Width v) = is (bit w)
shift_by w Literal = is (bit w)
shift_by w Other = fails shift_right

unfoldable pub shift_pair : Bits → Bits → Answer
shift_pair (Width w) r = shift_by w r
shift_pair Literal r = shift_by 8 r
shift_pair Other r = fails shift_left

unfoldable pub shift_type : ExprType → ExprType → Answer
shift_type l r = shift_pair (bits_of l) (bits_of r)

unfoldable pub same_type : ExprType → ExprType → Bool
same_type bool bool = true
same_type bool (bit b) = false
same_type bool int_lit = false
same_type bool (enum n) = false
same_type (bit a) bool = false
same_type (bit a) (bit b) = eqb a b
same_type (bit a) int_lit = false
same_type (bit a) (enum n) = false
same_type int_lit bool = false
same_type int_lit (bit b) = false
same_type int_lit int_lit = true
same_type int_lit (enum n) = false
same_type (enum m) bool = false
same_type (enum m) (bit b) = false
same_type (enum m) int_lit = false
same_type (enum m) (enum n) = eq_name m n

-- IntLit with Bit
unfoldable pub literal_with_bits : Bits → Bits → Bool
literal_with_bits (Width a) (Width b) = false
literal_with_bits (Width a) Literal = true
literal_with_bits (Width a) Other = false
literal_with_bits Literal (Width b) = true
literal_with_bits Literal Literal = false
literal_with_bits Literal Other = false
literal_with_bits Other b = false

-- a literal beside a type that is a bool, as the test says
unfoldable pub literal_with_bool : Bits → Bool → Bool
literal_with_bool (Width a) b = false
literal_with_bool Literal b = b
literal_with_bool Other b = false

-- IntLit where a bool is
abbrev pub literal_as_bool : ExprType → ExprType → Bool
literal_as_bool l r = literal_with_bool (bits_of l) (is_bool r)

-- why types that are neither can't be compared
unfoldable pub mismatch : ExprType → ExprType → Cause
mismatch l r = pick (literal_as_bool l r) integer_as_bool (pick (literal_as_bool r l) integer_as_bool (type_mismatch l r))

-- compatible_with: "Comparison: equal types, or IntLit with Bit"
unfoldable pub compatible_with : ExprType → ExprType → Option Cause
compatible_with l r =
    pick (literal_with_bits (bits_of l) (bits_of r)) none
    (pick (same_type l r) none
    (some (mismatch l r)))

unfoldable pub compare_type : ExprType → ExprType → Answer
compare_type l r = unless (compatible_with l r) (is bool)

unfoldable pub logic_type : ExprType → ExprType → Answer
logic_type l r = unless (must_bool Left l) (unless (must_bool Right r) (is bool))

-- "BitAnd and BitOr accept two Bools, BitXor doesn't"
unfoldable pub and_or_type : ExprType → ExprType → Answer
and_or_type l r = pick (is_bool l) (pick (is_bool r) (is bool) (bit_op_type l r)) (bit_op_type l r)

-- the binary operators in the order of ir.rs
pub data BinOp : Type 0 where
  plus minus star shl shr eq not_eq lt le gt ge bit_or bit_xor bit_and logic_or logic_and : BinOp

unfoldable pub bin_op : ℕ → BinOp
bin_op k = get_or (plus ∷ minus ∷ star ∷ shl ∷ shr ∷ eq ∷ not_eq ∷ lt ∷ le ∷ gt ∷ ge ∷ bit_or ∷ bit_xor ∷ bit_and ∷ logic_or ∷ logic_and ∷ []) k logic_and

-- binary_type
unfoldable pub binary_type : BinOp → ExprType → ExprType → Answer
binary_type plus = bit_op_type
binary_type minus = bit_op_type
binary_type star = bit_op_type
binary_type shl = shift_type
binary_type shr = shift_type
binary_type eq = compare_type
binary_type not_eq = compare_type
binary_type lt = compare_type
binary_type le = compare_type
binary_type gt = compare_type
binary_type ge = compare_type
binary_type bit_or = and_or_type
binary_type bit_xor = bit_op_type
binary_type bit_and = and_or_type
binary_type logic_or = logic_type
binary_type logic_and = logic_type
