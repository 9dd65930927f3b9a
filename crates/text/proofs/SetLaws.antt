-- What is said of an assignment and of an output, by their numbers, for whatever reads there.
use Rattle.std.specs.Prelude.{Option, None, Some, Result, Ok, ⊤}
use Prim.Native.Nat.{ℕ}
use mathlib.Core.Path.{◌≡◌, refl, sym, ap, ◌∙◌}
use mathlib.Core.List.{List}
use lib.ListN.{get_or, get_elem?}
use Rattle.reading.specs.Limits.{max_depth, max_list}
use Rattle.reading.specs.Text.{read_name}
use Rattle.reading.specs.Transition.{Assignment, Transition, read_top_expr, read_assignment, read_output_expr}
use Rattle.reading.proofs.ExprLaws.{name_laws}
use Rattle.reading.proofs.TransitionLaws.{assignment_laws, output_expr_laws}
use Rattle.reading.proofs.Views.{assignment_at}
use Rattle.typing.specs.Means.{blame_of, Typed}
use Rattle.typing.specs.Table.{after_item, after_head, Past}
use Rattle.typing.specs.Blocks.{env_at}
use Rattle.typing.specs.Typed.{Types}
use Rattle.typing.specs.Blames.{JudgesOutput}
use Rattle.typing.specs.declared.cause.Blame.{Blame}
use Rattle.typing.proofs.Agreement.{output_agree}
use Rattle.typing.proofs.EnvLaws.{after_is, fields_head}
use Rattle.findings.specs.Scene.{Reads, RowAt, outputs_in, field}
use Rattle.text.specs.Message.{of_given}
use Rattle.text.specs.Said.{shown, saying_of, line}
use Rattle.text.specs.Says.{Entry, Picked, Untyped, SaysSet, SaysValue, SaysEmit}
use Rattle.text.specs.declared.said.Arg.TheVariants.{Blank, Name, Number}
use Rattle.text.specs.declared.said.Said.{Said}
use Rattle.text.proofs.EntryReads.{entry_picked, entry_nothing, entry_given}
use Rattle.text.proofs.LineLaws.{reads_there, line_says, name_shown, module_shown}
use Rattle.text.proofs.GuardLaws.{expr_blame}

-- where the name and the value of an assignment stand
var_there : {s : List ℕ} {k key : ℕ} {a : Assignment} → Reads read_assignment s k a → key ≡ after_head s k → Reads read_name s key a.var
var_there {s} {k} {a} r h =
    let v = assignment_at s k a r.end r.is in
    reads_there (h ∙ fields_head 2 s k tt v.var v.opens) v.var_is

value_there : {s : List ℕ} {k key at : ℕ} {a : Assignment} → Reads read_assignment s k a → key ≡ after_head s k → Past s key at → Reads read_top_expr s at a.value
value_there {s} {k} {a} r h p =
    let v = assignment_at s k a r.end r.is in
    reads_there (p.is ∙ ap (after_item s) (h ∙ fields_head 2 s k tt v.var v.opens) ∙ after_is name_laws s p.each v.var a.var v.value v.var_is) v.value_is

module _ (s places rows : List ℕ) (i : ℕ) where
  -- assignment j
  module _ (j : ℕ) {at : ℕ} (h : at ≡ field rows i 6) {f : Option ℕ} (p : Picked max_list s at j f) where
    set_entry : {t : Transition} → RowAt s rows i t → Entry read_assignment s f (get_elem? t.assignments j)
    set_entry w = entry_picked assignment_laws s p (reads_there h w.assignments_are)

    pub set_none : f ≡ None → SaysSet s places rows i j None
    unfolding of_given saying_of
    set_none q = record { of = λ m t y w. rw (entry_nothing (set_entry w) q) }

    pub set_said_lem : {k var a : ℕ} {r : Option Said} → f ≡ Some k → var ≡ after_head s k → a ≡ get_or places 0 0 → r ≡ line (Name a) (Number i) (Name var) Blank Blank (Ok tt) → SaysSet s places rows i j r
    unfolding of_given shown blame_of
    set_said_lem q x g l = record {
      of = λ m t y w.
          let v = entry_given (set_entry w) q in
          line_says s l (module_shown s g y) refl (name_shown s refl (var_there v.reads x).is) refl refl refl ∙ ap (of_given _) (sym v.is);
    }

    module _ (names enums : List ℕ) where
      pub value_none : f ≡ None → SaysValue s places rows i names enums j None
      unfolding of_given saying_of
      value_none q = record { of = λ m t y w n. rw (entry_nothing (set_entry w) q) }

      pub value_said_lem : {k var value a : ℕ} {d : Typed} {b : Result ⊤ Blame} {r : Option Said} → f ≡ Some k → var ≡ after_head s k → Past s var value → Types (env_at s names enums) max_depth s value d → Untyped s d b → a ≡ get_or places 0 0 → r ≡ line (Name a) (Number i) (Name var) Blank Blank b → SaysValue s places rows i names enums j r
      unfolding of_given shown
      value_said_lem q x z e u g l = record {
        of = λ m t y w n.
            let v = entry_given (set_entry w) q in
            line_says s l (module_shown s g y) refl (name_shown s refl (var_there v.reads x).is) refl refl (expr_blame s names enums e u n v.item.value (value_there v.reads x z)) ∙ ap (of_given _) (sym v.is);
      }

  -- output j
  module _ (j : ℕ) {at : ℕ} (h : at ≡ field rows i 5) {f : Option ℕ} (p : Picked max_list s at j f) (names enums : List ℕ) where
    emit_entry : {t : Transition} → RowAt s rows i t → Entry read_output_expr s f (get_elem? t.emits j)
    emit_entry w = entry_picked output_expr_laws s p (reads_there h w.emits_are)

    pub emit_none : f ≡ None → SaysEmit s places rows i names enums j None
    unfolding of_given saying_of
    emit_none q = record { of = λ m t y w n. rw (entry_nothing (emit_entry w) q) }

    pub emit_said_lem : {k a : ℕ} {outputs : List ℕ} {b : Result ⊤ Blame} {r : Option Said} → f ≡ Some k → outputs ≡ outputs_in places → JudgesOutput (env_at s names enums) s k outputs b → a ≡ get_or places 0 0 → r ≡ line (Name a) (Number i) Blank Blank Blank b → SaysEmit s places rows i names enums j r
    unfolding of_given shown
    emit_said_lem q x e g l = record {
      of = λ m t y w n.
          let v = entry_given (emit_entry w) q in
          line_says s l (module_shown s g y) refl refl refl refl (e.of m.outputs v.item v.reads.end (rw x y.output_groups) v.reads.is ∙ output_agree n m.outputs v.item) ∙ ap (of_given _) (sym v.is);
    }
