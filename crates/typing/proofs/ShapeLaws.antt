-- A formula by what it is made of: the fields of its case, and what each step of its judging gives.
use Prim.Native.Nat.{ℕ, suc, ◌-◌, ◌<◌, ◌≤◌}
use mathlib.Core.Path.{◌≡◌, refl, sym, ap, subst, ◌∙◌}
use mathlib.Core.Bool.{Bool, true, false}
use mathlib.Core.List.{List}
use native.Mathlib.Omega.{arith}
use borrow.Author.Tests.{lt-ltb, le-ltb}
use Rattle.reading.specs.Read.{ok, pick}
use Rattle.reading.specs.Limits.{max_u64}
use Rattle.reading.specs.Item.{read_number, read_tag}
use Rattle.reading.specs.Expr.{Expr, read_expr}
use Rattle.reading.specs.Pattern.{Pattern, read_pattern}
use Rattle.reading.specs.Formula.{Formula, read_formula}
use Rattle.reading.specs.Formula as formula
use Rattle.reading.specs.Link.{answer}
use Rattle.reading.specs.Views.{FormulaAt, input_formula, output_formula, expr_formula, not_formula, and_formula, or_formula, implies_formula, next_formula, always_formula, bounded_always_formula, bounded_eventually_formula, eventually_formula, until_formula}
use Rattle.reading.specs.declared.cursor.Cursor.{Cursor}
use Rattle.reading.specs.declared.item.Tag.{Tag}
use Rattle.reading.proofs.Rules.{no}
use Rattle.reading.proofs.Answers.{got, out}
use Rattle.reading.proofs.FormulaLaws.{formula_laws}
use Rattle.reading.proofs.CaseViews.{formula_at, by_tag}
use Rattle.reading.proofs.Walks.{passed}
use Rattle.typing.specs.Formulas.{bounded_always_error}
use Rattle.typing.specs.Tells.{Ends}
use Rattle.typing.specs.Table.{place_after, Past}
use Rattle.typing.specs.Shape.{kind_of, Bounds, BoundsAlways, BoundsSometime, BoundsTwo}
use Rattle.typing.specs.declared.formula.Kind.{Kind}
use Rattle.typing.specs.declared.formula.Kind.TheVariants.{Input, Output, Expression, One, Always, Sometime, Two, Unknown}
-- a formula ends where the item does
use Rattle.std.specs.Prelude.{Result, Ok, Err}
use Rattle.reading.specs.declared.fault.Refusal.{Refusal}

pub formula_ends : (d : ℕ) (s : List ℕ) (at : ℕ) {r : ℕ} → Past s at r → Ends (read_formula d s at) r
unfolding place_after
formula_ends d s at e = record { of = λ x n q. e.is ∙ ap place_after (passed (formula_laws d) s e.each at x n q) }

-- what a formula is made of
pub data Shape : Type 0 where
  input : Pattern → Shape
  output : Shape
  expression : Expr → Shape
  one : Formula → Shape
  always : ℕ → Formula → Shape
  sometime : ℕ → Formula → Shape
  two : Formula → Formula → Shape

unfoldable pub shape : Formula → Shape
shape (formula.input_is p) = input p
shape (formula.output_has p) = output
shape (formula.expr e) = expression e
shape (formula.not f) = one f
shape (formula.and f g) = two f g
shape (formula.or f g) = two f g
shape (formula.implies f g) = two f g
shape (formula.next f) = one f
shape (formula.always f) = one f
shape (formula.bounded_always b f) = always b f
shape (formula.bounded_eventually b f) = sometime b f
shape (formula.eventually f) = one f
shape (formula.until f g) = two f g

-- the fields of each kind, from m on
module _ (d : ℕ) (s : List ℕ) (m : ℕ) where
  abbrev pub Fields : Kind → Shape → ℕ → Type 0
  Fields Input h n = (p : Pattern) × (h ≡ input p) × (read_pattern s m ≡ ok p n)
  Fields Output h n = h ≡ output
  Fields Expression h n = (e : Expr) × (h ≡ expression e) × (read_expr d s m ≡ ok e n)
  Fields One h n = (f : Formula) × (h ≡ one f) × (read_formula d s m ≡ ok f n)
  Fields Always h n = (b : ℕ) × (k : ℕ) × (f : Formula) × (h ≡ always b f) × (read_number max_u64 s m ≡ ok b k) × (read_formula d s k ≡ ok f n)
  Fields Sometime h n = (b : ℕ) × (k : ℕ) × (f : Formula) × (h ≡ sometime b f) × (read_number max_u64 s m ≡ ok b k) × (read_formula d s k ≡ ok f n)
  Fields Two h n = (f : Formula) × (k : ℕ) × (g : Formula) × (h ≡ two f g) × (read_formula d s m ≡ ok f k) × (read_formula d s k ≡ ok g n)
  Fields Unknown h n = ⊥

  fields_of_lem : {k : ℕ} {f : Formula} {n : ℕ} → FormulaAt d s m k f n → Fields (kind_of k) (shape f) n
  unfolding kind_of shape
  fields_of_lem (input_formula q) = (_, refl, q)
  fields_of_lem (output_formula q) = refl
  fields_of_lem (expr_formula q) = (_, refl, q)
  fields_of_lem (not_formula q) = (_, refl, q)
  fields_of_lem (and_formula q r) = (_, _, _, refl, q, r)
  fields_of_lem (or_formula q r) = (_, _, _, refl, q, r)
  fields_of_lem (implies_formula q r) = (_, _, _, refl, q, r)
  fields_of_lem (next_formula q) = (_, refl, q)
  fields_of_lem (always_formula q) = (_, refl, q)
  fields_of_lem (bounded_always_formula q r) = (_, _, _, refl, q, r)
  fields_of_lem (bounded_eventually_formula q r) = (_, _, _, refl, q, r)
  fields_of_lem (eventually_formula q) = (_, refl, q)
  fields_of_lem (until_formula q r) = (_, _, _, refl, q, r)

-- the fields of the case that stands there
pub formula_fields : (d : ℕ) (s : List ℕ) (at : ℕ) {a : Result (Tag × Cursor) Refusal} {t : Tag} {c : Cursor} {q : Kind} (q' : Kind) → (d ≡ 0 → ⊥) → a ≡ answer (read_tag s at) → a ≡ Ok (t, c) → q ≡ kind_of t.case → q ≡ q' → (f : Formula) (n : ℕ) → read_formula d s at ≡ ok f n → Fields (d - 1) s c.at q' (shape f) n
formula_fields d s at {t = t} {c = c} q' z e w u v f n g =
    let k : d ≡ suc (d - 1) = omega arith in
    subst (λ (x : Kind). Fields (d - 1) s c.at x (shape f) n) (sym u ∙ v) (fields_of_lem (d - 1) s c.at (by_tag (formula_at (d - 1) s at f n (ap (λ (i : ℕ). read_formula i s at) (sym k) ∙ g)) (got _ e w)))

-- the bounds of each shape
abbrev bound_shape : Shape → Bool
bound_shape (input p) = false
bound_shape output = false
bound_shape (expression e) = false
bound_shape (one f) = bounded_always_error f
bound_shape (always b f) = bounded_always_error (formula.bounded_always b f)
bound_shape (sometime b f) = bounded_always_error f
bound_shape (two f g) = pick (bounded_always_error f) true (bounded_always_error g)

bound_shape_lem : (f : Formula) → bounded_always_error f ≡ bound_shape (shape f)
unfolding bounded_always_error shape
bound_shape_lem (formula.input_is p) = refl
bound_shape_lem (formula.output_has p) = refl
bound_shape_lem (formula.expr e) = refl
bound_shape_lem (formula.not f) = refl
bound_shape_lem (formula.and f g) = refl
bound_shape_lem (formula.or f g) = refl
bound_shape_lem (formula.implies f g) = refl
bound_shape_lem (formula.next f) = refl
bound_shape_lem (formula.always f) = refl
bound_shape_lem (formula.bounded_always b f) = refl
bound_shape_lem (formula.bounded_eventually b f) = refl
bound_shape_lem (formula.eventually f) = refl
bound_shape_lem (formula.until f g) = refl

module _ (d : ℕ) (s : List ℕ) (at : ℕ) (r : Bool) where
  pub bounds_deep : d ≡ 0 → Bounds d s at r
  unfolding read_formula
  bounds_deep z = record { of = λ e n q. let w = rw z at q in no (cc) }

  pub bounds_no_tag : {a : Result (Tag × Cursor) Refusal} {f : Refusal} → (d ≡ 0 → ⊥) → a ≡ answer (read_tag s at) → a ≡ Err f → Bounds d s at r
  bounds_no_tag z e q = record {
    of = λ x n g.
        let k : d ≡ suc (d - 1) = omega arith in
        let v = formula_at (d - 1) s at x n (ap (λ (i : ℕ). read_formula i s at) (sym k) ∙ g) in
        let u = v.tagged in
        let w = out _ e q in
        no (cc);
  }

module _ (d : ℕ) (s : List ℕ) (at : ℕ) {a : Result (Tag × Cursor) Refusal} {t : Tag} {c : Cursor} {q : Kind} (z : d ≡ 0 → ⊥) (e : a ≡ answer (read_tag s at)) (w : a ≡ Ok (t, c)) (u : q ≡ kind_of t.case) where
  pub bounds_input : q ≡ Input → Bounds d s at false
  bounds_input v = record { of = λ f n g. let x = formula_fields d s at Input z e w u v f n g in sym (bound_shape_lem f ∙ ap bound_shape x.1) }

  pub bounds_output : q ≡ Output → Bounds d s at false
  bounds_output v = record { of = λ f n g. let x = formula_fields d s at Output z e w u v f n g in sym (bound_shape_lem f ∙ ap bound_shape x) }

  pub bounds_expression : q ≡ Expression → Bounds d s at false
  bounds_expression v = record { of = λ f n g. let x = formula_fields d s at Expression z e w u v f n g in sym (bound_shape_lem f ∙ ap bound_shape x.1) }

  pub bounds_unknown : (r : Bool) → q ≡ Unknown → Bounds d s at r
  bounds_unknown r v = record { of = λ f n g. absurd (formula_fields d s at Unknown z e w u v f n g) }

  module _ (r : Bool) where
    pub bounds_one : q ≡ One → Bounds (d - 1) s c.at r → Bounds d s at r
    bounds_one v h = record { of = λ f n g. let x = formula_fields d s at One z e w u v f n g in h.of _ _ x.2 ∙ sym (bound_shape_lem f ∙ ap bound_shape x.1) }

    pub bounds_always : q ≡ Always → BoundsAlways (d - 1) s c.at r → Bounds d s at r
    bounds_always v h = record { of = λ f n g. let x = formula_fields d s at Always z e w u v f n g in h.of _ _ _ _ x.4 x.5 ∙ sym (bound_shape_lem f ∙ ap bound_shape x.3) }

    pub bounds_sometime : q ≡ Sometime → BoundsSometime (d - 1) s c.at r → Bounds d s at r
    bounds_sometime v h = record { of = λ f n g. let x = formula_fields d s at Sometime z e w u v f n g in h.of _ _ _ _ x.4 x.5 ∙ sym (bound_shape_lem f ∙ ap bound_shape x.3) }

    pub bounds_two : q ≡ Two → BoundsTwo (d - 1) s c.at r → Bounds d s at r
    bounds_two v h = record { of = λ f n g. let x = formula_fields d s at Two z e w u v f n g in h.of _ _ _ _ x.4 x.5 ∙ sym (bound_shape_lem f ∙ ap bound_shape x.3) }

-- always[N], eventually[N] and two formulas, by their fields
module _ (d : ℕ) (s : List ℕ) (at : ℕ) {a : Result (ℕ × Cursor) Refusal} (e : a ≡ answer (read_number max_u64 s at)) where
  pub always_none : (r : Bool) {f : Refusal} → a ≡ Err f → BoundsAlways d s at r
  always_none r q = record { of = λ b k f n u v. no (let w = out _ e q in cc) }

  pub sometime_none : (r : Bool) {f : Refusal} → a ≡ Err f → BoundsSometime d s at r
  sometime_none r q = record { of = λ b k f n u v. no (let w = out _ e q in cc) }

  module _ {b : ℕ} {c : Cursor} (q : a ≡ Ok (b, c)) where
    pub always_zero : b < 1 → BoundsAlways d s at true
    unfolding bounded_always_error pick
    always_zero h = record { of = λ x k f n u v. let w = got _ e q in let y : b ≡ x = cc in rw (sym y, lt-ltb b 1 h) }

    pub always_more : (r : Bool) → 1 ≤ b → Bounds d s c.at r → BoundsAlways d s at r
    unfolding bounded_always_error pick
    always_more r h g = record {
      of = λ x k f n u v.
          let w = got _ e q in
          let y : b ≡ x = cc in
          let i : c.at ≡ k = cc in
          rw (sym y, le-ltb b 1 h) (g.of f n (ap (read_formula d s) i ∙ v));
    }

    pub sometime_goes : (r : Bool) → Bounds d s c.at r → BoundsSometime d s at r
    sometime_goes r g = record {
      of = λ x k f n u v.
          let w = got _ e q in
          let i : c.at ≡ k = cc in
          g.of f n (ap (read_formula d s) i ∙ v);
    }

module _ (d : ℕ) (s : List ℕ) (at : ℕ) {x : Bool} (h : Bounds d s at x) where
  pub two_left : x ≡ true → BoundsTwo d s at true
  unfolding pick
  two_left q = record { of = λ f k g n u v. rw (sym (h.of f k u) ∙ q) }

  pub two_right : {y : Bool} {k : ℕ} → x ≡ false → Ends (read_formula d s at) k → Bounds d s k y → BoundsTwo d s at y
  unfolding pick
  two_right q w g = record { of = λ f k' g' n u v. rw (sym (h.of f k' u) ∙ q) (g.of g' n (ap (read_formula d s) (w.of f k' u) ∙ v)) }
