-- What is promised of an assignment by what was found under the name of its variable.
use Rattle.std.specs.Prelude.{ℕ, ◌≡◌, List, Option as Maybe}
use Rattle.std.proofs.Math.Option.{Option}
use Rattle.reading.specs.Transition.{Assignment, read_assignment}
use Rattle.typing.specs.Env.{Env, given, Agree}
use Rattle.typing.specs.Table.{after_head, found}
use Rattle.typing.specs.Blocks.{env_at}
use Rattle.findings.specs.Errors.{set_notes}
use Rattle.findings.specs.Noting.{Noted}
use Rattle.findings.specs.Scene.{Reads}
use Rattle.findings.specs.Promises.{at_place}

-- assignment j of transition i, whose variable's name stands at var: the variable is known exactly where something was found
pub record NotesFound (s : List ℕ) (owner : ℕ) (o : List ℕ) (skip n r : ℕ) (o' : List ℕ) (var : ℕ) (f : Maybe ℕ) (i j : ℕ) (names enums : List ℕ) : Type 0 where
  pub of : (at : ℕ) (a : Assignment) (env : Env) (x : Option ℕ) → var ≡ after_head s at → Reads read_assignment s at a → Agree (env_at s names enums) env → f ≡ found x → given (env.vars a.var) ≡ given x → Noted owner o skip n (set_notes env i (at_place j a)) r o'
