-- What is said of two transitions, of a transition's id and of its guard's equalities, for whatever reads there.
use Rattle.std.specs.Prelude.{Option, None, Some, Ok}
use Prim.Native.Nat.{ℕ}
use mathlib.Core.Path.{◌≡◌, refl, sym, ap, ◌∙◌}
use mathlib.Core.List.{List}
use mathlib.Core.Bool.{Bool, true, false}
use native.Mathlib.Omega.{arith}
use lib.ListN.{get_or}
use lib.Dec.{eqb}
use Rattle.reading.specs.Item.{read_number}
use Rattle.reading.specs.Limits.{max_u32}
use Rattle.reading.specs.Transition.{read_top_expr}
use Rattle.typing.specs.Means.{blame_of}
use Rattle.typing.specs.Holds.{clash_of, Contradicts}
use Rattle.typing.specs.declared.guard.Clash.{Clash}
use Rattle.findings.specs.Scene.{field}
use Rattle.findings.proofs.OptionLaws.{not_given, is_given}
use Rattle.text.specs.Message.{of_given, of_clash}
use Rattle.text.specs.Said.{shown, saying_of, line}
use Rattle.text.specs.Says.{NumberAt, SaysPriority, SaysPair, SaysId, SaysClash}
use Rattle.text.specs.declared.said.Arg.TheVariants.{Blank, Name, Number}
use Rattle.text.specs.declared.said.Said.{Said}
use Rattle.text.proofs.LineLaws.{reads_there, line_says, name_shown, module_shown, number_shown, guard_none, guard_some}

module _ (s places rows : List ℕ) (i : ℕ) where
  pub id_said_lem : {k a n : ℕ} {r : Option Said} → k ≡ field rows i 0 → NumberAt s k n → a ≡ get_or places 0 0 → r ≡ line (Name a) (Number n) Blank Blank Blank (Ok tt) → SaysId s places rows i r
  unfolding shown blame_of
  id_said_lem h g j q = record {
    of = λ m t y w. line_says s q (module_shown s j y) (number_shown s h g (omega arith) w.id_is) refl refl refl refl;
  }

  module _ (j : ℕ) where
    pub pair_said_lem : {k l a b x y : ℕ} → k ≡ field rows i 0 → NumberAt s k x → l ≡ field rows j 0 → NumberAt s l y → a ≡ get_or places 0 0 → b ≡ field rows i 1 → SaysPair s places rows i j (line (Name a) (Name b) (Number x) (Number y) Blank (Ok tt))
    unfolding shown blame_of
    pair_said_lem h g h₁ g₁ f f₁ = record {
      of = λ u v m t c w. line_says s refl (module_shown s f c) (name_shown s f₁ w.state_is) (number_shown s h g (omega arith) w.id_is) (number_shown s h₁ g₁ (omega arith) v.id_is) refl refl;
    }

    module _ {at : ℕ} (z : at ≡ field rows i 7) {e : Bool} (o : e ≡ eqb (get_or s at 0) 246) where
      pub priority_absent : e ≡ true → SaysPriority s places rows i j None
      unfolding of_given saying_of
      priority_absent q = record { of = λ u v m t c w. rw (not_given (read_number max_u32) s at (reads_there z w.priority_is.is) o q) }

      pub priority_said_lem : {k l a b p x y : ℕ} → e ≡ false → NumberAt s at p → k ≡ field rows i 0 → NumberAt s k x → l ≡ field rows j 0 → NumberAt s l y → a ≡ get_or places 0 0 → b ≡ field rows i 1 → SaysPriority s places rows i j (line (Name a) (Name b) (Number p) (Number x) (Number y) (Ok tt))
      unfolding of_given shown blame_of
      priority_said_lem q d h g h₁ g₁ f f₁ = record {
        of = λ u v m t c w.
            let x = is_given (read_number max_u32) s at (reads_there z w.priority_is.is) o q in
            line_says s refl (module_shown s f c) (name_shown s f₁ w.state_is) (number_shown s refl d (omega arith) x.reads.is) (number_shown s h g (omega arith) w.id_is) (number_shown s h₁ g₁ (omega arith) v.id_is) refl
            ∙ ap (of_given _) (sym x.is);
      }

  -- the guard's equalities
  module _ {at : ℕ} (h : at ≡ field rows i 3) {b : Bool} (e : b ≡ eqb (get_or s at 0) 246) where
    pub clash_absent : b ≡ true → SaysClash s places rows i None
    unfolding of_given saying_of
    clash_absent q = record { of = λ m t y w. rw (guard_none s rows i h e q w) }

    module _ (q : b ≡ false) {c : Option Clash} (g : Contradicts 32 s at c) where
      pub clash_none : c ≡ None → SaysClash s places rows i None
      unfolding of_given saying_of clash_of read_top_expr
      clash_none z = record {
        of = λ m t y w.
            let v = guard_some s rows i h e q w in
            rw (v.is, sym (g.of v.item v.reads.end v.reads.is), z);
      }

      pub clash_said_lem : {x : Clash} {k id a : ℕ} → c ≡ Some x → k ≡ field rows i 0 → NumberAt s k id → a ≡ get_or places 0 0 → SaysClash s places rows i (line (Name a) (Number id) (Name x.name) (Number x.earlier) (Number x.later) (Ok tt))
      unfolding of_given clash_of read_top_expr shown blame_of
      clash_said_lem z h₁ g₁ f = record {
        of = λ m t d w.
            let v = guard_some s rows i h e q w in
            let u = ap (clash_of s) (sym z) ∙ g.of v.item v.reads.end v.reads.is in
            line_says s refl (module_shown s f d) (number_shown s h₁ g₁ (omega arith) w.id_is) refl refl refl refl
            ∙ ap (of_given (of_clash m t)) u
            ∙ ap (of_given _) (sym v.is);
      }
