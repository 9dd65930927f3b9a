-- What the code of a whole module promises: the tables that it works on, and its errors and warnings.
use Rattle.std.specs.Prelude.{ℕ, ◌≤◌, ◌≡◌, List, ◌++◌, not, length, take, Option}
use Rattle.reading.specs.Module.{Module}
use Rattle.typing.specs.Env.{for_module, Agree}
use Rattle.typing.specs.Blocks.{env_at}
use Rattle.findings.specs.Lists.{placed, each}
use Rattle.findings.specs.Mentions.{states, all_touched}
use Rattle.findings.specs.Pairs.{clash, by_state}
use Rattle.findings.specs.Errors.{is_empty, opening, own, claims, closing, errors}
use Rattle.findings.specs.Warnings.{unreachable, dead, unused, warnings}
use Rattle.findings.specs.Noting.{Noted}
use Rattle.findings.specs.Scene.{Bytes, Rows, Scene, StatesAt}
use Rattle.findings.specs.Prints.{Prints}
use Rattle.findings.specs.Promises.{Claims}

-- three tables: a module's variables in the first block, its enums, its properties and assumptions in the first words
pub record NamedAs (s : List ℕ) (r : ℕ) (table enums properties : List ℕ) (m : Module) : Type 0 where
  pub agree : Agree (env_at s (take 829 table) enums) (for_module m)
  pub claims_are : Claims s (take r properties) (claims m)

pub record Names (s places : List ℕ) (r : ℕ) (table enums properties : List ℕ) : Type 0 where
  pub few_claims : r ≤ 1020
  pub of : (m : Module) → Bytes s → Scene s places m → NamedAs s r table enums properties m

module _ (s : List ℕ) (owner : ℕ) (o : List ℕ) (skip n r : ℕ) (o' : List ℕ) (places : List ℕ) (found : Option ℕ) where
  -- sites 16 to 20
  pub record NotesClosing (names enums properties : List ℕ) : Type 0 where
    pub of : (m : Module) → Scene s places m → StatesAt s found (states m) → Agree (env_at s names enums) (for_module m) → Claims s properties (claims m) → Noted owner o skip n (closing m) r o'

  -- sites 1 to 13
  pub record NotesFore (rows prints : List ℕ) (count : ℕ) (names enums : List ℕ) : Type 0 where
    pub of : (m : Module) → Scene s places m → Rows s rows m.transitions → Prints prints m.transitions → count ≡ length m.transitions → StatesAt s found (states m) → Agree (env_at s names enums) (for_module m) → Noted owner o skip n (opening m (not (is_empty m.transitions)) ++ each (own m) (placed 0 m.transitions)) r o'

  -- sites 1 to 15
  pub record NotesMost (rows prints : List ℕ) (count : ℕ) (names enums : List ℕ) : Type 0 where
    pub of : (m : Module) → Scene s places m → Rows s rows m.transitions → Prints prints m.transitions → count ≡ length m.transitions → StatesAt s found (states m) → Agree (env_at s names enums) (for_module m) → Noted owner o skip n (opening m (not (is_empty m.transitions)) ++ each (own m) (placed 0 m.transitions) ++ by_state clash m.transitions) r o'

  -- all errors; the first words of the table are the module's variables
  pub record NotesErrors (rows prints : List ℕ) (count : ℕ) (names enums properties : List ℕ) : Type 0 where
    pub of : (m : Module) → Scene s places m → Rows s rows m.transitions → Prints prints m.transitions → count ≡ length m.transitions → StatesAt s found (states m) → Agree (env_at s names enums) (for_module m) → Claims s properties (claims m) → Noted owner o skip n (errors m) r o'

  -- sites 21 to 23
  pub record NotesDoubts (rows prints : List ℕ) (count : ℕ) : Type 0 where
    pub of : (m : Module) → Scene s places m → Rows s rows m.transitions → Prints prints m.transitions → count ≡ length m.transitions → StatesAt s found (states m) → Noted owner o skip n (unreachable (states m) m.initial_state m.transitions ++ dead m.events m.transitions ++ unused (all_touched m) m.vars) r o'

  -- all warnings
  pub record NotesWarnings (rows prints : List ℕ) (count : ℕ) : Type 0 where
    pub of : (m : Module) → Scene s places m → Rows s rows m.transitions → Prints prints m.transitions → count ≡ length m.transitions → StatesAt s found (states m) → Noted owner o skip n (warnings m) r o'
