-- The laws of formulas, from those of their fields.
use Prim.Native.Nat.{ℕ, zero, suc}
use mathlib.Core.Path.{refl}
use mathlib.Core.List.{List}
use mathlib.Core.Logic.{◌⊎◌, inl, inr}
use Rattle.reading.specs.Combine.{pair}
use Rattle.reading.specs.Expr.{read_expr}
use Rattle.reading.specs.Formula.{Formula, input_is, output_has, expr, not, and, or, implies, next, always, bounded_always, bounded_eventually, eventually, until, formula_cases, read_formula, enc_formula, WithinFormula}
use Rattle.reading.proofs.Formats.{Laws, From, of, deeper, own, flat, refusing}
use Rattle.reading.proofs.ExprLaws.{u64, expr_laws}
use Rattle.reading.proofs.PatternLaws.{pattern_laws}
use Rattle.reading.proofs.RecordLaws.{◌also◌}
use Rattle.reading.proofs.EnumLaws.{either, Rows, none, case, enum_laws}

-- where an expression or a formula one level deeper starts
abbrev Beneath : ℕ → List ℕ → ℕ → Type 0
Beneath d s p = From (read_expr d) s p ⊎ From (read_formula d) s p

abbrev formulas : (d : ℕ) → Laws (read_formula d) enc_formula (WithinFormula d) 1 (Beneath d) → Rows enc_formula (WithinFormula (suc d)) (Beneath d)
unfolding enc_formula WithinFormula
formulas d p =
    case 0 (flat pattern_laws) input_is (λ _. refl) tt
    (case 1 (flat pattern_laws) output_has (λ _. refl) tt
    (case 2 (of (deeper (λ s p. inl) (expr_laws d))) expr (λ _. refl) tt
    (case 3 (of p) not (λ _. refl) tt
    (case 4 (of p also of p) (pair and) (λ _. refl) tt
    (case 5 (of p also of p) (pair or) (λ _. refl) tt
    (case 6 (of p also of p) (pair implies) (λ _. refl) tt
    (case 7 (of p) next (λ _. refl) tt
    (case 8 (of p) always (λ _. refl) tt
    (case 9 (u64 also of p) (pair bounded_always) (λ _. refl) tt
    (case 10 (u64 also of p) (pair bounded_eventually) (λ _. refl) tt
    (case 11 (of p) eventually (λ _. refl) tt
    (case 12 (of p also of p) (pair until) (λ _. refl) tt
    none))))))))))))

formula_is : (d : ℕ) (p : Laws (read_formula d) enc_formula (WithinFormula d) 1 (Beneath d)) (x : Formula) → (k : ℕ) × (formulas d p).Has k x
unfolding either formulas
formula_is d p (input_is x) = (0, (x, refl))
formula_is d p (output_has x) = (1, (x, refl))
formula_is d p (expr e) = (2, (e, refl))
formula_is d p (not f) = (3, (f, refl))
formula_is d p (and f g) = (4, ((f, g), refl))
formula_is d p (or f g) = (5, ((f, g), refl))
formula_is d p (implies f g) = (6, ((f, g), refl))
formula_is d p (next f) = (7, (f, refl))
formula_is d p (always f) = (8, (f, refl))
formula_is d p (bounded_always b f) = (9, ((b, f), refl))
formula_is d p (bounded_eventually b f) = (10, ((b, f), refl))
formula_is d p (eventually f) = (11, (f, refl))
formula_is d p (until f g) = (12, ((f, g), refl))

pub formula_laws : (d : ℕ) → Laws (read_formula d) enc_formula (WithinFormula d) 1 (From (read_formula d))
unfolding read_formula formula_cases WithinFormula formulas
formula_laws zero = refusing enc_formula
formula_laws (suc d) = let p = deeper (λ s p. inr) (formula_laws d) in own (enum_laws (formulas d p) (formula_is d p))
