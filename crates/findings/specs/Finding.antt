-- A finding is five words: module, site, first, second, cause; 0 where a word is unused.
use Rattle.std.specs.Prelude.{ℕ, List, [], ◌∷◌, Bool, cond}
use Rattle.std.proofs.Math.Option.{Option, none, some}
use Rattle.typing.specs.Causes.{Cause, number, Answer, is, fails, Blame}

-- what is noted in a module: the words after the module's
pub record Note : Type 0 where
  pub site : ℕ
  pub first : ℕ
  pub second : ℕ
  pub cause : ℕ

abbrev pub note : ℕ → ℕ → ℕ → ℕ → Note
note s a b c = record { site = s; first = a; second = b; cause = c }

-- the module is named by its place
pub record Finding : Type 0 where
  pub owner : ℕ
  pub note : Note

abbrev pub in_module : ℕ → Note → Finding
in_module m x = record { owner = m; note = x }

abbrev pub words : Finding → List ℕ
words f = f.owner ∷ f.note.site ∷ f.note.first ∷ f.note.second ∷ f.note.cause ∷ []

-- a note where the test holds
abbrev pub noted : Bool → Note → List Note
noted b x = cond b (x ∷ []) []

-- a note where there is a cause: its number is the last word
unfoldable pub caused : (ℕ → Note) → Option Cause → List Note
caused f none = []
caused f (some c) = f (number c) ∷ []

unfoldable pub blamed : (ℕ → Note) → Option Blame → List Note
blamed f none = []
blamed f (some b) = f (number b.cause) ∷ []

-- why an expression has no type
unfoldable pub type_cause : Answer → Option Cause
type_cause (is t) = none
type_cause (fails c) = some c
