-- What is done on an error: its state, then its outputs one by one.
use Prim.Native.Nat.{ℕ, ◌+◌, ◌<◌, ◌≤◌}
use mathlib.Core.Path.{◌≡◌, sym, ap, ◌∙◌}
use mathlib.Core.List.{List}
use mathlib.Core.Bool.{Bool, true, false}
use lib.ListN.{get_or}
use lib.Dec.{eqb}
use Rattle.reading.specs.Limits.{max_list}
use Rattle.reading.specs.Item.{read_count}
use Rattle.reading.specs.Transition.{OutputExpr, read_output_expr, read_on_error}
use Rattle.reading.specs.Module.{Module}
use Rattle.reading.specs.Skip.{text_at}
use Rattle.reading.specs.Link.{answer}
use Rattle.reading.proofs.ExprLaws.{name_laws}
use Rattle.reading.proofs.TransitionLaws.{output_expr_laws}
use Rattle.reading.proofs.Views.{on_error_at}
use Rattle.reading.proofs.Walks.{name_text}
use Rattle.typing.specs.Env.{Agree, for_module}
use Rattle.typing.specs.Table.{after_item, after_head, Past}
use Rattle.typing.specs.Blocks.{env_at}
use Rattle.typing.proofs.EnvLaws.{after_is, fields_head}
use Rattle.typing.specs.Rolls.{OutputsAt}
use Rattle.findings.specs.Lists.{Placed}
use Rattle.findings.specs.Finding.{Note}
use Rattle.findings.specs.Mentions.{states}
use Rattle.findings.specs.Errors.{error_emit_notes, on_error_notes}
use Rattle.findings.specs.Promises.{NotesState, NotesOutput, NotesErrorEmits, NotesOnError}
use Rattle.findings.proofs.NoteLaws.{note_nothing, note_then, note_as}
use Rattle.findings.proofs.RowLaws.{moved}
use Rattle.findings.proofs.OptionLaws.{not_given, is_given}
use Rattle.findings.proofs.EachLaws.{Walking, walk_refused, walk_more, walk_done}
-- what the outputs are judged by
use Rattle.std.specs.Prelude.{Result, Option, Err}
use Rattle.reading.specs.declared.fault.Refusal.{Refusal}
use Rattle.reading.specs.declared.cursor.Cursor.{Cursor}

module _ (s outputs names enums : List ℕ) where
  abbrev pub Judged : Type 0
  Judged = (m : Module) × OutputsAt s outputs m.outputs × Agree (env_at s names enums) (for_module m)

  abbrev pub judged_emits : Judged → Placed OutputExpr → List Note
  judged_emits h x = error_emit_notes h.0 x

  abbrev pub ErrorEmits : (at owner : ℕ) (o : List ℕ) (skip n count k i r : ℕ) (o' : List ℕ) → Type 0
  ErrorEmits at owner o skip n = Walking read_output_expr judged_emits s max_list at owner o skip n

module _ (s outputs names enums : List ℕ) (at owner : ℕ) {o : List ℕ} {skip n : ℕ} where
  pub error_emits_refused : {a : Result (ℕ × Cursor) Refusal} {t : Refusal} → a ≡ answer (read_count max_list s at) → a ≡ Err t → NotesErrorEmits s owner o skip n n o at outputs names enums
  error_emits_refused e q = record {
    of = λ xs m g h f. walk_refused read_output_expr (judged_emits s outputs names enums) s max_list at owner o skip n e q xs g;
  }

  module _ {count k i r : ℕ} {o' : List ℕ} (w : ErrorEmits s outputs names enums at owner o skip n count k i r o') where
    pub error_emits_more : {k' r' : ℕ} {o'' : List ℕ} → i < count → NotesOutput s owner o' skip r r' o'' k outputs names enums 17 i 0 → Past s k k' → ErrorEmits s outputs names enums at owner o skip n count k' (i + 1) r' o''
    unfolding error_emit_notes
    error_emits_more b p t =
        walk_more read_output_expr (judged_emits s outputs names enums) s max_list at owner o skip n w b
        (λ h x g. p.of x h.0.outputs (for_module h.0) g h.1 h.2)
        (λ x e g. t.is ∙ after_is output_expr_laws s t.each k x e g)

    pub error_emits_done : count ≤ i → NotesErrorEmits s owner o skip n r o' at outputs names enums
    error_emits_done b = record { of = λ xs m g h f. walk_done read_output_expr (judged_emits s outputs names enums) s max_list at owner o skip n w b (m, h, f) xs g }

module _ (s : List ℕ) (owner : ℕ) {o : List ℕ} {skip n : ℕ} (at : ℕ) {found : Option ℕ} {outputs names enums : List ℕ} {t : Bool} (e : t ≡ eqb (get_or s at 0) 246) where
  pub on_error_absent : t ≡ true → NotesOnError s owner o skip n n o at found outputs names enums
  unfolding on_error_notes
  on_error_absent q = record {
    of = λ w m g h j a. note_as owner _ (ap (on_error_notes m) (sym (not_given read_on_error s at g e q))) (note_nothing owner o skip n);
  }

  pub on_error_given : {o₁ o' : List ℕ} {state emits b r : ℕ} → t ≡ false → state ≡ after_head s at → Past s state emits → NotesState s owner o skip n b o₁ found state 16 0 → NotesErrorEmits s owner o₁ skip b r o' emits outputs names enums → NotesOnError s owner o skip n r o' at found outputs names enums
  unfolding on_error_notes
  on_error_given {state = state} {emits = emits} q i p u v = record {
    of = λ w m g h j a.
        let x = is_given read_on_error s at g e q in
        let d = on_error_at s at x.item x.reads.end x.reads.is in
        let y : state ≡ d.next_state = i ∙ fields_head 2 s at tt d.next_state d.opens in
        let z : emits ≡ d.emits = p.is ∙ ap (after_item s) y ∙ after_is name_laws s p.each d.next_state x.item.next_state d.emits d.next_state_is in
        let f = u.of (states m) x.item.next_state h (ap (text_at s) y ∙ name_text s d.next_state x.item.next_state d.emits d.next_state_is) in
        let l = v.of x.item.emits m (moved z (record { end = x.reads.end; is = d.emits_is })) j a in
        note_as owner _ (ap (on_error_notes m) (sym x.is)) (note_then owner f l);
  }
