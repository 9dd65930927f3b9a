-- Steps from name to name: the chains, and the names reached. A step starts at some names and ends at one; the steps of a module
-- are its transitions.
use Rattle.std.specs.Prelude.{ℕ, zero, suc, ◌≡◌, Bool, cond, length}
use mathlib.Core.List.{List, [], ◌∷◌, Memᴰ}
use Rattle.reading.specs.Text.{Name}
use Rattle.findings.specs.Lists.{any}

module _ {S : Type 0} (ends : S → Name) where
  -- where a chain from s ends: "the empty chain ends at the initial state"
  abbrev pub end_of : Name → List S → Name
  end_of s [] = s
  end_of s (a ∷ c) = end_of (ends a) c

module _ {S : Type 0} (Starts : S → Name → Type 0) (ends : S → Name) where
  -- "A chain is a list of transitions, the first starting at the initial state, each other at the name the one before leads to"
  abbrev pub IsChain : List S → Name → List S → Type 0
  IsChain all s [] = Unit {0}
  IsChain all s (a ∷ c) = Memᴰ a all × Starts a s × IsChain all (ends a) c

  -- a chain leads from s to the name n
  abbrev pub Leads : List S → Name → Name → Type 0
  Leads all s n = (c : List S) × IsChain all s c × (end_of ends s c ≡ n)

-- a step to take, and the others; or none
pub data Choice (S : Type 0) : Type 0 where
  stuck : Choice S
  took : S → List S → Choice S

module _ {S : Type 0} where
  abbrev pub keep : S → Choice S → Choice S
  keep a stuck = stuck
  keep a (took b rest) = took b (a ∷ rest)

module _ {S : Type 0} (starts : S → Name → Bool) where
  -- the first step that starts at one of the names
  abbrev pub choose : List Name → List S → Choice S
  choose ns [] = stuck
  choose ns (a ∷ l) = cond (any (starts a) ns) (took a l) (keep a (choose ns l))

module _ {S : Type 0} (ends : S → Name) where
  abbrev pub further : (List Name → List S → List Name) → List Name → Choice S → List Name
  further f ns stuck = ns
  further f ns (took a rest) = f (ends a ∷ ns) rest

module _ {S : Type 0} (starts : S → Name → Bool) (ends : S → Name) where
  -- a step that starts at a name reached and was not taken yet is taken, at most k times
  abbrev pub grown : ℕ → List Name → List S → List Name
  grown zero ns l = ns
  grown (suc k) ns l = further ends (λ ms m. grown k ms m) ns (choose starts ns l)

  unfoldable pub reached : Name → List S → List Name
  reached s l = grown (length l) (s ∷ []) l
