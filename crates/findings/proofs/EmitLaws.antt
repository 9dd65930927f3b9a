-- What is noted of a list of outputs, for whatever reads there.
use Prim.Native.Nat.{ℕ, ◌+◌, ◌<◌, ◌≤◌}
use mathlib.Core.Path.{◌≡◌, ◌∙◌}
use mathlib.Core.List.{List}
use Rattle.reading.specs.Limits.{max_list}
use Rattle.reading.specs.Item.{read_count}
use Rattle.reading.specs.Decl.{ConstructorGroup}
use Rattle.reading.specs.Transition.{OutputExpr, read_output_expr}
use Rattle.reading.specs.Link.{answer}
use Rattle.reading.proofs.TransitionLaws.{output_expr_laws}
use Rattle.typing.specs.Env.{Env, Agree}
use Rattle.typing.specs.Table.{Past}
use Rattle.typing.specs.Blocks.{env_at}
use Rattle.typing.proofs.EnvLaws.{after_is}
use Rattle.typing.specs.Rolls.{OutputsAt}
use Rattle.findings.specs.Lists.{Placed}
use Rattle.findings.specs.Finding.{Note}
use Rattle.findings.specs.Errors.{emit_notes}
use Rattle.findings.specs.Promises.{NotesOutput, NotesEmits}
use Rattle.findings.proofs.EachLaws.{Walking, walk_refused, walk_more, walk_done}
-- what is known where the outputs are judged
use Rattle.std.specs.Prelude.{Result, Err}
use Rattle.reading.specs.declared.fault.Refusal.{Refusal}
use Rattle.reading.specs.declared.cursor.Cursor.{Cursor}

pub record Emitting (s : List ℕ) (outputs names enums : List ℕ) : Type 0 where
  pub env : Env
  pub groups : List ConstructorGroup
  pub declared : OutputsAt s outputs groups
  pub agree : Agree (env_at s names enums) env

module _ (s : List ℕ) (at i : ℕ) (outputs names enums : List ℕ) (owner : ℕ) (o : List ℕ) (skip n : ℕ) where
  abbrev emitting : Emitting s outputs names enums → Placed OutputExpr → List Note
  emitting h = emit_notes h.env h.groups i

  abbrev pub Emits : (count k j r : ℕ) → List ℕ → Type 0
  Emits count k j r o' = Walking read_output_expr emitting s max_list at owner o skip n count k j r o'

  module _ {a : Result (ℕ × Cursor) Refusal} (e : a ≡ answer (read_count max_list s at)) where
    pub emits_refused : {t : Refusal} → a ≡ Err t → NotesEmits s owner o skip n n o at i outputs names enums
    emits_refused q = record { of = λ xs gs env g d y. walk_refused read_output_expr emitting s max_list at owner o skip n e q xs g }

  module _ {count k j r : ℕ} {o' : List ℕ} (w : Emits count k j r o') where
    pub emits_more : {k' r' : ℕ} {o'' : List ℕ} → j < count → NotesOutput s owner o' skip r r' o'' k outputs names enums 13 i j → Past s k k' → Emits count k' (j + 1) r' o''
    unfolding emit_notes
    emits_more b p t = walk_more read_output_expr emitting s max_list at owner o skip n w b (λ h x g. p.of x h.groups h.env g h.declared h.agree) λ x e q. t.is ∙ after_is output_expr_laws s t.each k x e q

    pub emits_done : count ≤ j → NotesEmits s owner o skip n r o' at i outputs names enums
    emits_done b = record { of = λ xs gs env g d y. walk_done read_output_expr emitting s max_list at owner o skip n w b (record { env = env; groups = gs; declared = d; agree = y }) xs g }
