-- What is noted of an assignment and of a list of them, for whatever reads there.
use Prim.Native.Nat.{ℕ, ◌+◌, ◌<◌, ◌≤◌}
use mathlib.Core.Path.{◌≡◌, refl, sym, ap, ◌∙◌}
use mathlib.Core.List.{List, [], ◌∷◌}
use mathlib.Core.Bool.{true, false}
use mathlib.Core.Option.{Option, none, some}
use Rattle.reading.specs.Limits.{max_list}
use Rattle.reading.specs.Item.{read_count}
use Rattle.reading.specs.Text.{Name}
use Rattle.reading.specs.Transition.{Assignment, read_top_expr, read_assignment}
use Rattle.reading.specs.Skip.{text_at}
use Rattle.reading.specs.Link.{answer}
use Rattle.reading.proofs.Rules.{no}
use Rattle.reading.proofs.ExprLaws.{name_laws}
use Rattle.reading.proofs.TransitionLaws.{assignment_laws}
use Rattle.reading.proofs.Views.{assignment_at}
use Rattle.reading.proofs.Walks.{name_text}
use Rattle.typing.specs.Env.{Env, given, Agree}
use Rattle.typing.specs.Table.{after_item, after_head, found, Past}
use Rattle.typing.specs.Blocks.{find_in, env_at}
use Rattle.typing.proofs.EnvLaws.{after_is, fields_head}
use Rattle.findings.specs.Lists.{Placed}
use Rattle.findings.specs.Finding.{Note, note}
use Rattle.findings.specs.Errors.{set_notes}
use Rattle.findings.specs.Noting.{Noted}
use Rattle.findings.specs.Promises.{Known, NotesTyped, NotesSet, NotesSets}
use Rattle.findings.specs.Sets.{NotesFound}
use Rattle.findings.proofs.EachLaws.{Walking, walk_refused, walk_more, walk_done}
use Rattle.std.specs.Prelude.{Result, Option as Maybe, Some, None, Err}
use Rattle.reading.specs.declared.fault.Refusal.{Refusal}
use Rattle.reading.specs.declared.cursor.Cursor.{Cursor}

given_nothing : (x : Option ℕ) → found x ≡ None → given x ≡ false
unfolding found given
given_nothing none e = refl
given_nothing (some k) e = no (cc)

given_at : (x : Option ℕ) {k : ℕ} → found x ≡ Some k → given x ≡ true
unfolding found given
given_at none e = no (cc)
given_at (some k) e = refl

-- by what was found under the name of the variable, which stands after the head
module _ (s : List ℕ) (i j : ℕ) (names enums : List ℕ) (owner : ℕ) (o : List ℕ) (skip n : ℕ) {key : ℕ} {f : Maybe ℕ} where
  pub set_unknown : {r : ℕ} {o' : List ℕ} → f ≡ None → Noted owner o skip n (note 11 i j 0 ∷ []) r o' → NotesFound s owner o skip n r o' key f i j names enums
  unfolding set_notes
  set_unknown q p = record { of = λ at a env x h g k e z. rw (z ∙ given_nothing x (sym e ∙ q)) p }

  pub set_known : {x k r : ℕ} {o' : List ℕ} → f ≡ Some x → Past s key k → NotesTyped s owner o skip n r o' k names enums 12 i j → NotesFound s owner o skip n r o' key f i j names enums
  unfolding set_notes
  set_known {k} q l p = record {
    of = λ at a env x h g y e z.
        let v = assignment_at s at a g.end g.is in
        let w : k ≡ v.value = l.is ∙ ap (after_item s) (h ∙ fields_head 2 s at tt v.var v.opens) ∙ after_is name_laws s l.each v.var a.var v.value v.var_is in
        rw (z ∙ given_at x (sym e ∙ q)) (p.of a.value env (record { end = g.end; is = ap (read_top_expr s) w ∙ v.value_is }) y);
  }

  pub set_found : (at : ℕ) (vars : List ℕ) {w : Name} {r : ℕ} {o' : List ℕ} → key ≡ after_head s at → w ≡ text_at s key → f ≡ found (find_in s w vars) → NotesFound s owner o skip n r o' key f i j names enums → NotesSet s owner o skip n r o' at i j vars names enums
  set_found at vars {w} h u e p = record {
    of = λ a env g k z.
        let v = assignment_at s at a g.end g.is in
        let x : w ≡ a.var = u ∙ ap (text_at s) (h ∙ fields_head 2 s at tt v.var v.opens) ∙ name_text s v.var a.var v.value v.var_is in
        p.of at a env (find_in s w vars) h g k e (z.of a.var ∙ ap (λ (y : Name). given (find_in s y vars)) (sym x));
  }

-- what is known where the assignments are judged
pub record Setting (s vars names enums : List ℕ) : Type 0 where
  pub env : Env
  pub agree : Agree (env_at s names enums) env
  pub known : Known s vars env

module _ (s : List ℕ) (at i : ℕ) (vars names enums : List ℕ) (owner : ℕ) (o : List ℕ) (skip n : ℕ) where
  abbrev setting : Setting s vars names enums → Placed Assignment → List Note
  setting h = set_notes h.env i

  abbrev pub Sets : (count k j r : ℕ) → List ℕ → Type 0
  Sets count k j r o' = Walking read_assignment setting s max_list at owner o skip n count k j r o'

  module _ {a : Result (ℕ × Cursor) Refusal} (e : a ≡ answer (read_count max_list s at)) where
    pub sets_refused : {t : Refusal} → a ≡ Err t → NotesSets s owner o skip n n o at i vars names enums
    sets_refused q = record { of = λ xs env g k z. walk_refused read_assignment setting s max_list at owner o skip n e q xs g }

  module _ {count k j r : ℕ} {o' : List ℕ} (w : Sets count k j r o') where
    pub sets_more : {k' r' : ℕ} {o'' : List ℕ} → j < count → NotesSet s owner o' skip r r' o'' k i j vars names enums → Past s k k' → Sets count k' (j + 1) r' o''
    sets_more b p t = walk_more read_assignment setting s max_list at owner o skip n w b (λ h x g. p.of x h.env g h.agree h.known) λ x e q. t.is ∙ after_is assignment_laws s t.each k x e q

    pub sets_done : count ≤ j → NotesSets s owner o skip n r o' at i vars names enums
    sets_done b = record { of = λ xs env g y z. walk_done read_assignment setting s max_list at owner o skip n w b (record { env = env; agree = y; known = z }) xs g }
