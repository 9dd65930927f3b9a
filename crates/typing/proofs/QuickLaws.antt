-- What the numbers of types tell of the rules.
use Rattle.std.specs.Prelude.{Ok}
use Prim.Native.Nat.{ℕ, ◌+◌, ◌-◌, ◌<◌, ◌≤◌}
use mathlib.Core.Path.{◌≡◌, refl, sym, ap, ◌∙◌}
use mathlib.Core.Bool.{Bool, true}
use mathlib.Core.List.{List}
use mathlib.Core.Logic.{◌⊎◌, inl, inr}
use mathlib.Core.Option.{none}
use native.Mathlib.Omega.{arith}
use lib.Dec.{eqb}
use borrow.Author.Tests.{eq-eqb, eqb-true}
use Rattle.reading.specs.Read.{pick}
use Rattle.typing.specs.Types.{ExprType, bool, bit, int_lit, enum}
use Rattle.typing.specs.Causes.{is, unless}
use Rattle.typing.specs.Rules.{is_bool, must_bool, bits_of, bit_pair, bit_op_type, same_type, literal_with_bits, compatible_with, compare_type, logic_type, bin_op, binary_type}
use Rattle.typing.specs.Means.{ty_of, typed_of, outcome, unfit_of, Typed}
use Rattle.typing.specs.Quick.{code_of, Alike, Makes, Surely}
use Rattle.typing.specs.declared.ty.Ty.TheVariants as ty
use Rattle.typing.proofs.RuleLaws.{op_bits, op_compare, op_logic}

-- a type by its number
code_bool : (x : ExprType) → code_of x ≡ 0 → x ≡ bool
unfolding code_of
code_bool bool e = refl
code_bool (bit w) e = absurd (omega arith)
code_bool int_lit e = absurd (omega arith)
code_bool (enum n) e = absurd (omega arith)

code_literal : (x : ExprType) → code_of x ≡ 1 → x ≡ int_lit
unfolding code_of
code_literal bool e = absurd (omega arith)
code_literal (bit w) e = absurd (omega arith)
code_literal int_lit e = refl
code_literal (enum n) e = absurd (omega arith)

code_bits : (x : ExprType) (w : ℕ) → code_of x ≡ w + 3 → x ≡ bit w
unfolding code_of
code_bits bool w e = absurd (omega arith)
code_bits (bit v) w e = let q : v ≡ w = omega arith in ap bit q
code_bits int_lit w e = absurd (omega arith)
code_bits (enum n) w e = absurd (omega arith)

-- a bitvector's type with the same or with a literal
bits_compare : (v : ℕ) (y : ExprType) → (code_of y ≡ 1) ⊎ (code_of y ≡ v + 3) → compare_type (bit v) y ≡ is bool
unfolding compare_type compatible_with literal_with_bits bits_of same_type pick unless
bits_compare v y (inl e) = rw (code_literal y e)
bits_compare v y (inr e) = rw (code_bits y v e, eq-eqb v v refl)

bits_sum : (v : ℕ) (y : ExprType) → (code_of y ≡ 1) ⊎ (code_of y ≡ v + 3) → bit_op_type (bit v) y ≡ is (bit v)
unfolding bit_op_type bit_pair bits_of pick
bits_sum v y (inl e) = rw (code_literal y e)
bits_sum v y (inr e) = rw (code_bits y v e, eq-eqb v v refl)

module _ (op a b : ℕ) where
  pub makes_logic : 13 < op → a ≡ 0 → b ≡ 0 → Makes op a b 0
  unfolding logic_type must_bool is_bool pick unless
  makes_logic h i j = record {
    of = λ x y t p q c d. op_logic op h x y ∙ rw (code_bool x (p ∙ i), code_bool y (q ∙ j), code_bool t c);
    few = λ k. absurd (omega arith);
  }

  module _ {r : Bool} (g : Alike a b r) (e : r ≡ true) where
    second : (y : ExprType) → code_of y ≡ b → (code_of y ≡ 1) ⊎ (code_of y ≡ (a - 3) + 3)
    second y q = go (g.same e)
      where
        go : (b ≡ 1) ⊎ (a ≡ b) → (code_of y ≡ 1) ⊎ (code_of y ≡ (a - 3) + 3)
        go (inl i) = inl (q ∙ i)
        go (inr i) = let w = g.wide e in inr (omega arith)

    first : (x : ExprType) → code_of x ≡ a → x ≡ bit (a - 3)
    first x p = let w = g.wide e in code_bits x (a - 3) (omega arith)

    pub makes_bool : 4 < op → op ≤ 10 → Makes op a b 0
    makes_bool h k = record {
      of = λ x y t p q c d. op_compare op h k x y ∙ rw (first x p, code_bool t c) (bits_compare (a - 3) y (second y q));
      few = λ k. absurd (omega arith);
    }

    pub makes_bits : op < 3 → Makes op a b a
    makes_bits h = record {
      of = λ x y t p q c d. op_bits op (omega arith) x y ∙ rw (first x p, first t c) (bits_sum (a - 3) y (second y q));
      few = λ k. refl;
    }

-- of types by their numbers
module _ (s : List ℕ) (next op : ℕ) (x y : ExprType) {a b k : ℕ} (i : a ≡ code_of x) (j : b ≡ code_of y) (g : Makes op a b k) where
  abbrev Made : Typed → Type 0
  Made r = typed_of s r ≡ outcome next (binary_type (bin_op op) x y)

  pub quick_bool : k ≡ 0 → Made (Ok (ty.Bool, next))
  unfolding typed_of outcome ty_of code_of
  quick_bool h = rw (g.of x y bool (sym i) (sym j) (sym h) (omega arith))

  pub quick_bits : 2 < k → Made (Ok ((ty.Bit (k - 3)), next))
  unfolding typed_of outcome ty_of code_of
  quick_bits h = rw (g.of x y (bit (k - 3)) (sym i) (sym j) (omega arith) (omega arith))

-- equal numbers
same_code : (x y : ExprType) → code_of x ≡ code_of y → (code_of x ≡ 2 → ⊥) → compatible_with x y ≡ none
unfolding code_of compatible_with literal_with_bits bits_of same_type pick
same_code bool y e d = rw (code_bool y (sym e))
same_code (bit w) y e d = rw (code_bits y w (sym e), eq-eqb w w refl)
same_code int_lit y e d = rw (code_literal y (sym e))
same_code (enum n) y e d = absurd (d refl)

module _ (x y : ExprType) where
  pub surely_same : {a b : ℕ} → a ≡ code_of x → (a ≡ 2 → ⊥) → b ≡ code_of y → Surely x y (eqb a b)
  surely_same {a} {b} i d j = record { of = λ e. same_code x y (sym i ∙ eqb-true a b e ∙ j) (λ q. d (i ∙ q)) }

pub surely_fine : (s : List ℕ) (x y : ExprType) {r : Bool} → Surely x y r → r ≡ true → unfit_of s (Ok tt) ≡ compatible_with x y
unfolding unfit_of
surely_fine s x y g e = sym (g.of e)
