-- What the code of each part of a module's warnings promises: for whatever reads there, it notes what the definition says.
use Rattle.std.specs.Prelude.{ℕ, ◌≡◌, List, length, Option as Maybe}
use Rattle.std.proofs.Math.Option.{Option}
use Rattle.reading.specs.Text.{Name, read_name}
use Rattle.reading.specs.Expr.{Expr}
use Rattle.reading.specs.Combine.{optional}
use Rattle.reading.specs.Decl.{ConstructorGroup}
use Rattle.reading.specs.Transition.{Transition, read_top_expr}
use Rattle.reading.specs.Module.{Module}
use Rattle.typing.specs.First.{GroupsAt}
use Rattle.findings.specs.Lists.{placed, each}
use Rattle.findings.specs.Mentions.{all_touched}
use Rattle.findings.specs.Warnings.{unreachable, dead, unused, impossible_guard, impossible}
use Rattle.findings.specs.Noting.{Noted}
use Rattle.findings.specs.Scene.{Reads, Rows, Scene, StatesAt}
use Rattle.findings.specs.Prints.{Prints}

-- of transition i: its guard
pub record NotesGuardImpossible (s : List ℕ) (owner : ℕ) (o : List ℕ) (skip n r : ℕ) (o' : List ℕ) (at i : ℕ) : Type 0 where
  pub of : (g : Option Expr) → Reads (optional read_top_expr) s at g → Noted owner o skip n (impossible_guard i g) r o'

module _ (s : List ℕ) (owner : ℕ) (o : List ℕ) (skip n r : ℕ) (o' : List ℕ) (rows : List ℕ) (count : ℕ) where
  -- site 21
  pub record NotesUnreachable (prints : List ℕ) (found : Maybe ℕ) (at : ℕ) : Type 0 where
    pub of : (vs : List Name) (w : Option Name) (ts : List Transition) → StatesAt s found vs → Reads (optional read_name) s at w → Rows s rows ts → Prints prints ts → count ≡ length ts → Noted owner o skip n (unreachable vs w ts) r o'

  -- site 22
  pub record NotesDead (events : List ℕ) : Type 0 where
    pub of : (gs : List ConstructorGroup) (ts : List Transition) → GroupsAt s events gs → Rows s rows ts → count ≡ length ts → Noted owner o skip n (dead gs ts) r o'

  -- site 23
  pub record NotesUnused (places : List ℕ) : Type 0 where
    pub of : (m : Module) → Scene s places m → Rows s rows m.transitions → count ≡ length m.transitions → Noted owner o skip n (unused (all_touched m) m.vars) r o'

  -- sites 25 and 26
  pub record NotesImpossible : Type 0 where
    pub of : (ts : List Transition) → Rows s rows ts → count ≡ length ts → Noted owner o skip n (each impossible (placed 0 ts)) r o'
