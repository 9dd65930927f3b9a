-- Two transitions by their places: equal bytes have equal prints, so that unequal prints tell them apart.
use Prim.Native.Nat.{ℕ, suc, ◌+◌, ◌*◌}
use mathlib.Core.Path.{◌≡◌, refl, sym, ap, ap₂, ◌∙◌}
use mathlib.Core.List.{List}
use mathlib.Core.Bool.{Bool, true, false}
use native.Mathlib.Omega.{arith}
use lib.ListN.{get_or}
use Rattle.reading.specs.Read.{Reader, ok}
use Rattle.reading.specs.Skip.{text_at}
use Rattle.reading.specs.Views.{span}
use Rattle.reading.specs.Transition.{Transition}
use Rattle.reading.proofs.Formats.{Laws}
use Rattle.reading.proofs.ListViews.{spanned}
use Rattle.reading.proofs.Walks.{name_text}
use Rattle.reading.proofs.OptionLaws.{option_laws}
use Rattle.reading.proofs.PatternLaws.{pattern_laws}
use Rattle.reading.proofs.TransitionLaws.{top_expr_laws, top_expr_solid}
use Rattle.typing.specs.Names.{eq_name}
use Rattle.typing.specs.Lanes.{print}
use Rattle.typing.proofs.NameLaws.{eq_name_eq}
use Rattle.findings.specs.Pairs.{same_pattern, same_guard, alike}
use Rattle.findings.specs.Scene.{field, RowAt}
use Rattle.findings.specs.Prints.{print_at, PrintOf}
use Rattle.findings.specs.Parts.{SameSpan}
use Rattle.findings.specs.PairPromises.{SameState, LeadsTo, SameGuard}
use Rattle.findings.specs.PairSteps.{SamePattern, Alike}

pub isn't : (b : Bool) → (b ≡ true → ⊥) → false ≡ b
isn't true h = absurd (h refl)
isn't false h = refl

-- names that are handed out by their places
pub fields_are : (s : List ℕ) (a b c d : ℕ) {r : Bool} → r ≡ eq_name (text_at s a) (text_at s b) → a ≡ c → b ≡ d → r ≡ eq_name (text_at s c) (text_at s d)
fields_are s a b c d e p q = rw (p, q) at e

pub spans_are : (s x y : List ℕ) (a b c d : ℕ) {r : Bool} → r ≡ eq_name x y → x ≡ span s a b → y ≡ span s c d → r ≡ eq_name (span s a b) (span s c d)
spans_are s x y a b c d e p q = rw (p, q) at e

-- the bytes of two items
same_items : {A : Type 0} {read : Reader A} {enc : A → List ℕ} {Within : A → Type 0} {k : ℕ} {D : List ℕ → ℕ → Type 0} (L : Laws read enc Within (suc k) D) {s : List ℕ} {a b c d : ℕ} {r : Bool} (x y : A) → SameSpan s a b c d r → read s a ≡ ok x b → read s c ≡ ok y d → r ≡ eq_name (enc x) (enc y)
same_items L {s} {a} {b} {c} {d} x y p e f = p.is ∙ ap₂ eq_name (spanned L s p.each a x b e).0 (spanned L s p.each c y d f).0

-- the state of a row, as its place tells it
pub state_text : (s rows : List ℕ) (k : ℕ) (t : Transition) → RowAt s rows k t → text_at s (field rows k 1) ≡ t.state
state_text s rows k t a = name_text s (field rows k 1) t.state (field rows k 2) a.state_is

-- the first words of two rows of prints
pub states_differ : (i b : ℕ) (prints : List ℕ) (t u : Transition) → PrintOf prints i u → PrintOf prints b t → (get_or prints (3 * i) 0 ≡ get_or prints (3 * b) 0 → ⊥) → false ≡ eq_name t.state u.state
states_differ i b prints t u p q d = isn't (eq_name t.state u.state) (λ e.
    let x : 3 * i ≡ 3 * i + 0 = omega arith in
    let y : 3 * b ≡ 3 * b + 0 = omega arith in
    d (ap (λ (k : ℕ). get_or prints k 0) x ∙ p.state_is ∙ ap (print 0) (sym (eq_name_eq t.state u.state e)) ∙ sym q.state_is ∙ ap (λ (k : ℕ). get_or prints k 0) (sym y)))

module _ (s rows : List ℕ) (i j : ℕ) where
  module _ {r : Bool} (e : r ≡ eq_name (text_at s (field rows i 1)) (text_at s (field rows j 1))) where
    pub states_bytes : (t u : Transition) → RowAt s rows i t → RowAt s rows j u → r ≡ eq_name t.state u.state
    states_bytes t u a b = e ∙ ap₂ eq_name (state_text s rows i t a) (state_text s rows j u b)

    pub states_same : (prints : List ℕ) → SameState s rows prints i j r
    states_same prints = record { of = λ t u a b p q. states_bytes t u a b }

  pub leads_same : {r : Bool} (prints : List ℕ) → r ≡ eq_name (text_at s (field rows i 4)) (text_at s (field rows j 1)) → LeadsTo s rows prints i j r
  leads_same prints e = record {
    of = λ t u a b p q. e ∙ ap₂ eq_name (name_text s (field rows i 4) t.next_state (field rows i 5) a.next_state_is) (state_text s rows j u b);
  }

  -- unequal prints
  module _ (prints : List ℕ) {x y : ℕ} where
    pub states_apart : (x ≡ y → ⊥) → x ≡ print_at prints i 0 → y ≡ print_at prints j 0 → SameState s rows prints i j false
    states_apart h a b = record {
      of = λ t u c d p q. isn't _ (λ e. h (a ∙ p.state_is ∙ ap (print 0) (eq_name_eq t.state u.state e) ∙ sym q.state_is ∙ sym b));
    }

    pub leads_apart : (x ≡ y → ⊥) → x ≡ print_at prints i 1 → y ≡ print_at prints j 0 → LeadsTo s rows prints i j false
    leads_apart h a b = record {
      of = λ t u c d p q. isn't _ (λ e. h (a ∙ p.next_is ∙ ap (print 0) (eq_name_eq t.next_state u.state e) ∙ sym q.state_is ∙ sym b));
    }

  -- equal bytes
  module _ {a b c d : ℕ} {r : Bool} (p : SameSpan s a b c d r) where
    pub patterns_same : a ≡ field rows i 2 → b ≡ field rows i 3 → c ≡ field rows j 2 → d ≡ field rows j 3 → SamePattern s rows i j r
    unfolding same_pattern
    patterns_same e f g h =
        let q = rw (e, f, g, h) at p in
        record { of = λ t u k l. same_items pattern_laws t.pattern u.pattern q k.pattern_is l.pattern_is }

    pub guards_same : a ≡ field rows i 3 → b ≡ field rows i 4 → c ≡ field rows j 3 → d ≡ field rows j 4 → SameGuard s rows i j r
    unfolding same_guard
    guards_same e f g h =
        let q = rw (e, f, g, h) at p in
        record { of = λ t u k l. same_items (option_laws top_expr_laws top_expr_solid) t.guard u.guard q k.guard_is l.guard_is }

  module _ {b : Bool} (e : b ≡ eq_name (text_at s (field rows i 1)) (text_at s (field rows j 1))) where
    pub alike_same : {r : Bool} → b ≡ true → SamePattern s rows i j r → Alike s rows i j r
    unfolding alike
    alike_same q p = record { of = λ t u k l. p.of t u k l ∙ rw (← states_bytes e t u k l, q) refl }

    pub alike_other : b ≡ false → Alike s rows i j false
    unfolding alike
    alike_other q = record { of = λ t u k l. rw (← states_bytes e t u k l, q) refl }
