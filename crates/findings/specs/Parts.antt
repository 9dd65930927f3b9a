-- Parts of a document, which is made of bytes: printed, and compared.
use Rattle.std.specs.Prelude.{ℕ, ◌*◌, ◌<◌, ◌≡◌, List, [], ◌∷◌, Bool, get_or}
use Rattle.std.proofs.Math.Option.{Option}
use Rattle.std.proofs.lemmas.List.Edits.{sets}
use Rattle.reading.specs.Limits.{max_u32}
use Rattle.reading.specs.Item.{read_number}
use Rattle.reading.specs.Combine.{optional}
use Rattle.reading.specs.Skip.{text_at}
use Rattle.reading.specs.Views.{span}
use Rattle.typing.specs.Names.{eq_name}
use Rattle.typing.specs.Lanes.{print}
use Rattle.findings.specs.Scene.{field, Reads}
use Rattle.findings.specs.Prints.{ranked}

abbrev pub Bytes : List ℕ → Type 0
Bytes s = (i : ℕ) → get_or s i 0 < 256

pub record PrintPart (s : List ℕ) (from to h r : ℕ) : Type 0 where
  pub is : r ≡ print h (span s from to)
  pub each : Bytes s

pub record SameSpan (s : List ℕ) (a b c d : ℕ) (r : Bool) : Type 0 where
  pub is : r ≡ eq_name (span s a b) (span s c d)
  pub each : Bytes s

-- a print with the priority at a place
pub record Ranked (s : List ℕ) (at h r : ℕ) : Type 0 where
  pub of : (a : Option ℕ) → Reads (optional (read_number max_u32)) s at a → r ≡ ranked a h

-- the key of row i, by the print of its state
pub record KeyPrint (s rows : List ℕ) (i state r : ℕ) : Type 0 where
  pub ranks : Ranked s (field rows i 7) (print state (span s (field rows i 2) (field rows i 3))) r
  pub each : Bytes s

-- the prints of row i: of the state, of the next state, and the key
abbrev pub prints_of : List ℕ → List ℕ → ℕ → ℕ → List ℕ
prints_of s rows i key = print 0 (text_at s (field rows i 1)) ∷ print 0 (text_at s (field rows i 4)) ∷ key ∷ []

pub record PrintedRow (s rows : List ℕ) (i : ℕ) (prints prints' : List ℕ) : Type 0 where
  pub key : ℕ
  pub words : prints' ≡ sets prints (3 * i) (prints_of s rows i key)
  pub keyed : KeyPrint s rows i (print 0 (text_at s (field rows i 1))) key
