-- What the judging of a whole pattern and of an output promises: for whatever reads there, its answer is the definition's.
use Rattle.std.specs.Prelude.{ℕ, ◌≤◌, ◌≡◌, List, [], ◌∷◌, length, take, Result, ⊤}
use Rattle.std.proofs.lemmas.List.Edits.{sets}
use Rattle.reading.specs.Read.{ok}
use Rattle.reading.specs.Decl.{ConstructorGroup}
use Rattle.reading.specs.Pattern.{Pattern, read_pattern}
use Rattle.reading.specs.Transition.{OutputExpr, read_output_expr}
use Rattle.reading.specs.Skip.{text_at}
use Rattle.typing.specs.Env.{Env, Binding}
use Rattle.typing.specs.Patterns.{Judged, validate_event_pattern}
use Rattle.typing.specs.Outputs.{validate_output_expr}
use Rattle.typing.specs.Means.{blame_of}
use Rattle.typing.specs.Table.{expr_type_at}
use Rattle.typing.specs.First.{GroupsAt}
use Rattle.typing.specs.Rolls.{OutputsAt}
use Rattle.typing.specs.declared.cause.Blame.{Blame}
use Rattle.typing.specs.declared.cause.Bindings.{Bindings}

-- a table of bindings: the place of each name, and of the type that is declared for its field
pub data Bound (s : List ℕ) : List ℕ → List Binding → Type 0 where
  none_bound : Bound s [] []
  more_bound : {a b : ℕ} {T : List ℕ} {x : Binding} {bs : List Binding} → text_at s a ≡ x.name → expr_type_at s b ≡ x.type → Bound s T bs → Bound s (a ∷ (b ∷ T)) (x ∷ bs)

-- the bindings stand in the table from word k on, as many words as the answer says; the other words keep their contents, and
-- what does not fit is left out
pub record Binds (s table : List ℕ) (k : ℕ) (j : Judged) (r : Bindings) (table' : List ℕ) : Type 0 where
  pub fault : blame_of s r.blame ≡ j.fault
  pub pairs : List ℕ
  pub are : Bound s pairs j.bound
  pub many : r.words ≡ length pairs
  pub words : table' ≡ sets table k pairs

-- whatever stands there, few words are taken, and those before word k keep their contents
pub record Spares (table : List ℕ) (k : ℕ) (r : Bindings) (table' : List ℕ) : Type 0 where
  pub few : r.words ≤ 510
  pub kept : take k table' ≡ take k table

-- the pattern at a place, by a table of the groups of events
pub record JudgesPattern (s : List ℕ) (at : ℕ) (events table : List ℕ) (k : ℕ) (r : Bindings) (table' : List ℕ) : Type 0 where
  pub of : (gs : List ConstructorGroup) (p : Pattern) (j : ℕ) → GroupsAt s events gs → read_pattern s at ≡ ok p j → Binds s table k (validate_event_pattern gs p) r table'

-- the output at a place, by a table of outputs
pub record JudgesOutput (env : Env) (s : List ℕ) (at : ℕ) (outputs : List ℕ) (r : Result ⊤ Blame) : Type 0 where
  pub of : (gs : List ConstructorGroup) (o : OutputExpr) (j : ℕ) → OutputsAt s outputs gs → read_output_expr s at ≡ ok o j → blame_of s r ≡ validate_output_expr gs env o
