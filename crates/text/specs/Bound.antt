-- The names that a transition sees, in a table whose first block has the module's variables: those, and what its pattern binds. A table keeps them
-- from one message of the transition to the next.
use Rattle.std.specs.Prelude.{ℕ, ◌≤◌, ◌≡◌, List, take, Option, Some, None}
use Rattle.reading.specs.Transition.{Transition}
use Rattle.reading.specs.Module.{Module}
use Rattle.typing.specs.Env.{for_module, with_bindings, Agree}
use Rattle.typing.specs.Patterns.{validate_event_pattern}
use Rattle.typing.specs.Blocks.{env_at}
use Rattle.findings.specs.Scene.{Scene, RowAt}
use Rattle.text.specs.declared.judged.Bound.{Bound}

-- the first n words of a table have the names that transition i sees, where these are the module's variables
pub record SeesNames (s places rows : List ℕ) (i : ℕ) (vars table : List ℕ) (n : ℕ) : Type 0 where
  pub low : 829 ≤ n
  pub high : n ≤ 1658
  pub of : (m : Module) (t : Transition) (enums : List ℕ) → Scene s places m → RowAt s rows i t → Agree (env_at s vars enums) (for_module m) → Agree (env_at s (take n table) enums) (with_bindings (validate_event_pattern m.events t.pattern).bound (for_module m))

-- a table has those of the transition judged last, if one was
unfoldable pub BoundTo : List ℕ → List ℕ → List ℕ → List ℕ → Option Bound → Type 0
BoundTo s places rows table (Some b) = SeesNames s places rows b.row (take 829 table) table b.names
BoundTo s places rows table None = Unit {0}

-- a site whose message is put piece by piece, and needs no pattern to be judged: 5, 11, 14, 15, 17 to 19, and those of warnings
abbrev pub Straight : ℕ → Type 0
Straight site = (site ≡ 5 → ⊥) → (site ≡ 11 → ⊥) → (site ≡ 14 → ⊥) → (site ≡ 15 → ⊥) → (site ≡ 17 → ⊥) → (site ≡ 18 → ⊥) → (site ≡ 19 → ⊥) → 21 ≤ site
