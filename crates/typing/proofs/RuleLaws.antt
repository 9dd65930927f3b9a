-- What the code's views of types and the arms of its rules mean, over whatever they are given.
use Rattle.std.specs.Prelude.{Ok, Err}
use Prim.Native.Nat.{ℕ, zero, suc, ◌+◌, ◌<◌, ◌≤◌}
use mathlib.Core.Path.{◌≡◌, refl, sym, subst, ◌∙◌}
use mathlib.Core.Bool.{Bool, true, false}
use mathlib.Core.List.{List, [], ◌∷◌}
use mathlib.Core.Logic.{◌⊎◌, inl, inr}
use native.Mathlib.Omega.{arith}
use lib.Dec.{eqb, ltb}
use lib.ListN.{get_or-eq_default}
use borrow.Author.Tests.{eqb-true, eqb-false, ltb-true, ltb-false}
use Rattle.reading.specs.Read.{pick}
use Rattle.reading.proofs.Rules.{by}
use Rattle.reading.specs.Skip.{text_at}
use Rattle.typing.specs.Types.{ExprType}
use Rattle.typing.specs.Causes.{Answer, unless}
use Rattle.typing.specs.Names.{eq_name, state_enum}
use Rattle.typing.specs.Rules.{is_bool, must_bool, bits_of, negated, unary_type, bit_op_type, shift_type, same_type, literal_with_bool, literal_as_bool, compare_type, logic_type, and_or_type, bin_op, binary_type, plus, minus, star, shl, shr, eq, not_eq, lt, le, gt, ge, bit_or, bit_xor, bit_and, logic_or, logic_and}
use Rattle.typing.specs.Means.{ty_of, cause_of, typed_of, outcome, Typed}
use Rattle.typing.proofs.NameLaws.{eq_name_refl, eq_name_sym}
use Rattle.typing.specs.declared.ty.Ty.{Ty}
use Rattle.typing.specs.declared.ty.Ty.TheVariants as ty
use Rattle.typing.specs.declared.ty.Bits.{Bits}
use Rattle.typing.specs.declared.cause.What.TheVariants.{Operand}
use Rattle.typing.specs.declared.cause.Cause.TheVariants.{MustBeBool, BitNot, Negation}

-- why types can't be compared
pub literal_bool : (s : List ℕ) (l r : Ty) {a : Bits} {z w : Bool} → a ≡ bits_of (ty_of s l) → z ≡ is_bool (ty_of s r) → w ≡ literal_with_bool a z → w ≡ literal_as_bool (ty_of s l) (ty_of s r)
literal_bool s l r p g h = rw (p, g) at h

-- the unary operators by number
module _ (s : List ℕ) (op : ℕ) (t : Ty) (next : ℕ) where
  abbrev Unary : Typed → Type 0
  Unary r = typed_of s r ≡ outcome next (unary_type op (ty_of s t))

  module _ {a : Bool} (p : a ≡ is_bool (ty_of s t)) (k : op ≡ 0) where
    pub not_bool : a ≡ true → Unary (Ok (ty.Bool, next))
    unfolding unary_type must_bool pick unless typed_of outcome ty_of
    not_bool e = rw (k, sym p ∙ e)

    pub not_other : a ≡ false → Unary (Err (MustBeBool Operand t))
    unfolding unary_type must_bool pick unless typed_of outcome cause_of
    not_other e = rw (k, sym p ∙ e)

-- what holds at each of n numbers from lo on holds at a number in that range
abbrev pub Each : (ℕ → Type 0) → ℕ → ℕ → Type 0
Each P lo zero = Unit
Each P lo (suc n) = P lo × Each P (lo + 1) n

pub in_range : (P : ℕ → Type 0) (lo n : ℕ) → Each P lo n → (k : ℕ) → lo ≤ k → k < lo + n → P k
in_range P lo zero a k h l = absurd (omega arith)
in_range P lo (suc n) a k h l = go (eqb lo k) refl (in_range P (lo + 1) n a.1 k)
  where
    go : (t : Bool) → eqb lo k ≡ t → (lo + 1 ≤ k → k < lo + 1 + n → P k) → P k
    go true e f = subst P (eqb-true lo k e) a.0
    go false e f = let d : (lo ≡ k → ⊥) = eqb-false lo k e in f (omega arith) (omega arith)

-- the binary operators by number
abbrev Rule : ℕ → (ExprType → ExprType → Answer) → Type 0
Rule op f = (l r : ExprType) → binary_type (bin_op op) l r ≡ f l r

pub op_bits : (op : ℕ) → op ≤ 2 → Rule op bit_op_type
unfolding bin_op binary_type
op_bits op h = in_range (λ k. Rule k bit_op_type) 0 3 (λ l r. refl, (λ l r. refl, (λ l r. refl, tt))) op (omega arith) (omega arith)

pub op_shift : (op : ℕ) → 3 ≤ op → op ≤ 4 → Rule op shift_type
unfolding bin_op binary_type
op_shift op h k = in_range (λ k. Rule k shift_type) 3 2 (λ l r. refl, (λ l r. refl, tt)) op h (omega arith)

pub op_compare : (op : ℕ) → 5 ≤ op → op ≤ 10 → Rule op compare_type
unfolding bin_op binary_type
op_compare op h k = in_range (λ k. Rule k compare_type) 5 6 (λ l r. refl, (λ l r. refl, (λ l r. refl, (λ l r. refl, (λ l r. refl, (λ l r. refl, tt)))))) op h (omega arith)

pub op_and_or : (op : ℕ) → op ≡ 11 ⊎ op ≡ 13 → Rule op and_or_type
unfolding bin_op binary_type
op_and_or op (inl e) = rw e (λ l r. refl)
op_and_or op (inr e) = rw e (λ l r. refl)

pub op_xor : (op : ℕ) → op ≡ 12 → Rule op bit_op_type
unfolding bin_op binary_type
op_xor op e = rw e (λ l r. refl)

beyond : (op : ℕ) → 16 ≤ op → Rule op logic_type
unfolding bin_op binary_type
beyond op h = rw (get_or-eq_default (plus ∷ minus ∷ star ∷ shl ∷ shr ∷ eq ∷ not_eq ∷ lt ∷ le ∷ gt ∷ ge ∷ bit_or ∷ bit_xor ∷ bit_and ∷ logic_or ∷ logic_and ∷ []) logic_and {n = op} h) (λ l r. refl)

-- the last, and whatever lies beyond
pub op_logic : (op : ℕ) → 14 ≤ op → Rule op logic_type
unfolding bin_op binary_type
op_logic op h =
    by (ltb op 16)
    (λ e. in_range (λ k. Rule k logic_type) 14 2 (λ l r. refl, (λ l r. refl, tt)) op h (omega (arith, ltb-true op 16 e)))
    (λ e. beyond op (ltb-false op 16 e))

pub op_last : (op : ℕ) → 10 < op → (op ≡ 11 ⊎ op ≡ 13 → ⊥) → (op ≡ 12 → ⊥) → Rule op logic_type
op_last op h d e =
    let a : op ≡ 11 → ⊥ = λ q. d (inl q) in
    let b : op ≡ 13 → ⊥ = λ q. d (inr q) in
    op_logic op (omega arith)

module _ (s : List ℕ) (op : ℕ) (t : Ty) (next : ℕ) (r : Typed) where
  abbrev Unary-is : Type 0
  Unary-is = typed_of s r ≡ outcome next (unary_type op (ty_of s t))

  pub unary_bit_not : op ≡ 1 → typed_of s r ≡ outcome next (negated (cause_of s BitNot) (bits_of (ty_of s t))) → Unary-is
  unfolding unary_type cause_of
  unary_bit_not e g = rw e g

  pub unary_negation : (op ≡ 0 → ⊥) → (op ≡ 1 → ⊥) → typed_of s r ≡ outcome next (negated (cause_of s Negation) (bits_of (ty_of s t))) → Unary-is
  unfolding unary_type cause_of
  unary_negation = go op
    where
      go : (k : ℕ) → (k ≡ 0 → ⊥) → (k ≡ 1 → ⊥) → typed_of s r ≡ outcome next (negated (cause_of s Negation) (bits_of (ty_of s t))) → typed_of s r ≡ outcome next (unary_type k (ty_of s t))
      go zero h k g = absurd (h refl)
      go (suc zero) h k g = absurd (k refl)
      go (suc (suc n)) h k g = g

-- types that are equal
module _ (s : List ℕ) (a b : Ty) (x : Bool) where
  abbrev Same : Type 0
  Same = x ≡ same_type (ty_of s a) (ty_of s b)

  pub same_state : {q : ℕ} → a ≡ ty.State → b ≡ ty.Enum q → x ≡ eq_name (text_at s q) state_enum → Same
  unfolding ty_of same_type
  same_state e f g = rw (e, f, eq_name_sym) g

  pub same_declared : {p : ℕ} → a ≡ ty.Enum p → b ≡ ty.State → x ≡ eq_name (text_at s p) state_enum → Same
  unfolding ty_of same_type
  same_declared e f g = rw (e, f) g

pub same_states : (s : List ℕ) (a b : Ty) → a ≡ ty.State → b ≡ ty.State → true ≡ same_type (ty_of s a) (ty_of s b)
unfolding ty_of same_type
same_states s a b e f = rw (e, f) (sym (eq_name_refl state_enum))
