-- From a data enum that is read to its head and the fields of its case.
use Prim.Native.Nat.{ℕ, suc}
use mathlib.Core.Path.{◌≡◌, sym, subst}
use mathlib.Core.List.{List}
use Rattle.reading.specs.Read.{Reader, ok}
use Rattle.reading.specs.Item.{read_tag}
use Rattle.reading.specs.Combine.{nothing, Cases, row, enum_of}
use Rattle.reading.specs.Expr.{expr_cases, read_expr}
use Rattle.reading.specs.Decl.{ty_cases, read_ty, constructor_variant_cases, read_constructor_variant}
use Rattle.reading.specs.Pattern.{pattern_expr_cases, read_pattern_expr, pattern_variant_cases, read_pattern_variant}
use Rattle.reading.specs.Formula.{formula_cases, read_formula}
use Rattle.reading.specs.Views.{EnumAt, ExprAt, int_expr, bool_expr, path_expr, unary_expr, binary_expr, TyAt, bool_ty, bit_ty, enum_ty, ConstructorVariantAt, unit_variant, struct_variant, PatternExprAt, wildcard_pattern, bind_pattern, int_pattern, bool_pattern, path_pattern, PatternVariantAt, unit_pattern, struct_pattern, FormulaAt, input_formula, output_formula, expr_formula, not_formula, and_formula, or_formula, implies_formula, next_formula, always_formula, bounded_always_formula, bounded_eventually_formula, eventually_formula, until_formula}
use Rattle.reading.specs.declared.item.Tag.{Tag}
use Rattle.reading.proofs.Gives.{Gives, gives_bind}
use Rattle.reading.proofs.Views.{both}
use Rattle.reading.proofs.EnumLaws.{row_gives, none_gives}

-- a data enum: its head, then the fields of its case
enum_gives : {A : Type 0} (cases : Cases A) (Fields : ℕ → ℕ → A → ℕ → Type 0) (s : List ℕ) (at : ℕ) → ((t : Tag) (m : ℕ) → Gives (Fields m t.case) (cases s t m)) → Gives (EnumAt Fields s at) (enum_of cases s at)
unfolding enum_of
enum_gives cases Fields s at h = gives_bind _ _ _ λ t m e x n q. record { tag = t; next = m; tagged = e; fields = h t m x n q }

module _ {A : Type 0} (P : ℕ → A → ℕ → Type 0) (s : List ℕ) (t : Tag) (n : ℕ) where
  row_at_lem : {X : Type 0} (k items : ℕ) (F : Reader X) (make : X → A) (rest : Cases A) → ((x : X) (m : ℕ) → F s n ≡ ok x m → P k (make x) m) → Gives (P t.case) (rest s t n) → Gives (P t.case) (row k items F make rest s t n)
  row_at_lem k items F make rest h r = row_gives k items F make rest (P t.case) s t n (λ q _ x m e. subst (λ (z : ℕ). P z (make x) m) (sym q) (h x m e)) r

-- no field
at_once : {A : Type 0} (P : A → ℕ → Type 0) (s : List ℕ) (m : ℕ) (x : A) → P x m → (u : Unit {0}) (n : ℕ) → nothing s m ≡ ok u n → P x n
unfolding nothing
at_once P s m x h u n e = subst (λ (z : ℕ). P x z) (cc) h

pub expr_at : (d : ℕ) (s : List ℕ) (at : ℕ) → Gives (EnumAt (ExprAt d s) s at) (read_expr (suc d) s at)
unfolding read_expr expr_cases
expr_at d s at = enum_gives _ (ExprAt d s) s at λ t m.
    let P = ExprAt d s m in
    row_at_lem P s t m _ _ _ _ _ (λ v n e. int_expr e)
    (row_at_lem P s t m _ _ _ _ _ (λ b n e. bool_expr e)
    (row_at_lem P s t m _ _ _ _ _ (λ p n e. path_expr e)
    (row_at_lem P s t m _ _ _ _ _ (λ p n e. let b = both _ _ e in unary_expr b.first b.second)
    (row_at_lem P s t m _ _ _ _ _ (λ p n e. let b = both _ _ e in let c = both _ _ b.second in binary_expr b.first c.first c.second)
    (none_gives s t m (P t.case))))))

pub ty_at : (s : List ℕ) (at : ℕ) → Gives (EnumAt (TyAt s) s at) (read_ty s at)
unfolding read_ty ty_cases
ty_at s at = enum_gives _ (TyAt s) s at λ t m.
    let P = TyAt s m in
    row_at_lem P s t m _ _ _ _ _ (at_once (P 0) s m _ bool_ty)
    (row_at_lem P s t m _ _ _ _ _ (λ v n e. bit_ty e)
    (row_at_lem P s t m _ _ _ _ _ (λ w n e. enum_ty e)
    (none_gives s t m (P t.case))))

pub constructor_variant_at : (s : List ℕ) (at : ℕ) → Gives (EnumAt (ConstructorVariantAt s) s at) (read_constructor_variant s at)
unfolding read_constructor_variant constructor_variant_cases
constructor_variant_at s at = enum_gives _ (ConstructorVariantAt s) s at λ t m.
    let P = ConstructorVariantAt s m in
    row_at_lem P s t m _ _ _ _ _ (λ w n e. unit_variant e)
    (row_at_lem P s t m _ _ _ _ _ (λ p n e. let b = both _ _ e in struct_variant b.first b.second)
    (none_gives s t m (P t.case)))

pub pattern_expr_at : (s : List ℕ) (at : ℕ) → Gives (EnumAt (PatternExprAt s) s at) (read_pattern_expr s at)
unfolding read_pattern_expr pattern_expr_cases
pattern_expr_at s at = enum_gives _ (PatternExprAt s) s at λ t m.
    let P = PatternExprAt s m in
    row_at_lem P s t m _ _ _ _ _ (at_once (P 0) s m _ wildcard_pattern)
    (row_at_lem P s t m _ _ _ _ _ (λ w n e. bind_pattern e)
    (row_at_lem P s t m _ _ _ _ _ (λ v n e. int_pattern e)
    (row_at_lem P s t m _ _ _ _ _ (λ b n e. bool_pattern e)
    (row_at_lem P s t m _ _ _ _ _ (λ p n e. path_pattern e)
    (none_gives s t m (P t.case))))))

pub pattern_variant_at : (s : List ℕ) (at : ℕ) → Gives (EnumAt (PatternVariantAt s) s at) (read_pattern_variant s at)
unfolding read_pattern_variant pattern_variant_cases
pattern_variant_at s at = enum_gives _ (PatternVariantAt s) s at λ t m.
    let P = PatternVariantAt s m in
    row_at_lem P s t m _ _ _ _ _ (λ w n e. unit_pattern e)
    (row_at_lem P s t m _ _ _ _ _ (λ p n e. let b = both _ _ e in struct_pattern b.first b.second)
    (none_gives s t m (P t.case)))

pub formula_at : (d : ℕ) (s : List ℕ) (at : ℕ) → Gives (EnumAt (FormulaAt d s) s at) (read_formula (suc d) s at)
unfolding read_formula formula_cases
formula_at d s at = enum_gives _ (FormulaAt d s) s at λ t m.
    let P = FormulaAt d s m in
    row_at_lem P s t m _ _ _ _ _ (λ p n e. input_formula e)
    (row_at_lem P s t m _ _ _ _ _ (λ p n e. output_formula e)
    (row_at_lem P s t m _ _ _ _ _ (λ x n e. expr_formula e)
    (row_at_lem P s t m _ _ _ _ _ (λ f n e. not_formula e)
    (row_at_lem P s t m _ _ _ _ _ (λ p n e. let b = both _ _ e in and_formula b.first b.second)
    (row_at_lem P s t m _ _ _ _ _ (λ p n e. let b = both _ _ e in or_formula b.first b.second)
    (row_at_lem P s t m _ _ _ _ _ (λ p n e. let b = both _ _ e in implies_formula b.first b.second)
    (row_at_lem P s t m _ _ _ _ _ (λ f n e. next_formula e)
    (row_at_lem P s t m _ _ _ _ _ (λ f n e. always_formula e)
    (row_at_lem P s t m _ _ _ _ _ (λ p n e. let b = both _ _ e in bounded_always_formula b.first b.second)
    (row_at_lem P s t m _ _ _ _ _ (λ p n e. let b = both _ _ e in bounded_eventually_formula b.first b.second)
    (row_at_lem P s t m _ _ _ _ _ (λ f n e. eventually_formula e)
    (row_at_lem P s t m _ _ _ _ _ (λ p n e. let b = both _ _ e in until_formula b.first b.second)
    (none_gives s t m (P t.case))))))))))))))

-- the fields by a head that is known
pub by_tag : {A : Type 0} {Fields : ℕ → ℕ → A → ℕ → Type 0} {s : List ℕ} {at : ℕ} {x : A} {n : ℕ} {t : Tag} {m : ℕ} → EnumAt Fields s at x n → read_tag s at ≡ ok t m → Fields m t.case x n
by_tag {Fields = F} {x = x} {n = n} {t = t} {m = m} v e =
    let w = v.tagged in
    let q : v.tag ≡ t = cc in
    let r : v.next ≡ m = cc in
    subst (λ (z : Tag). F m z.case x n) q (subst (λ (z : ℕ). F z v.tag.case x n) r v.fields)
