-- What the inner functions of pairs promise: comparing by the bytes, priorities, and which transitions have one key.
use Rattle.std.specs.Prelude.{ℕ, ◌+◌, ◌≡◌, List, [], ◌∷◌, Bool, true, false, ◌||◌, length, drop}
use Rattle.std.proofs.Math.Option.{Option, some}
use Rattle.std.proofs.Math.ListN.{get_elem?}
use Rattle.reading.specs.Read.{ok}
use Rattle.reading.specs.Limits.{max_u32}
use Rattle.reading.specs.Item.{read_number}
use Rattle.reading.specs.Combine.{optional}
use Rattle.reading.specs.Transition.{Transition}
use Rattle.findings.specs.Lists.{any}
use Rattle.findings.specs.Pairs.{same_pattern, alike}
use Rattle.findings.specs.Scene.{Reads, RowAt}
use Rattle.findings.specs.Prints.{rival, Prints}
use Rattle.findings.specs.Classes.{Says}

module _ (s rows : List ℕ) (i j : ℕ) (r : Bool) where
  pub record SamePattern : Type 0 where
    pub of : (t u : Transition) → RowAt s rows i t → RowAt s rows j u → r ≡ same_pattern t u

  pub record Alike : Type 0 where
    pub of : (t u : Transition) → RowAt s rows i t → RowAt s rows j u → r ≡ alike t u

-- the priority at a place
pub record PriorityAt (s : List ℕ) (at r : ℕ) : Type 0 where
  pub of : (v n : ℕ) → read_number max_u32 s at ≡ ok v n → r ≡ v

-- whether those at two places are both absent, or both given and equal
pub record SamePriority (s : List ℕ) (p q : ℕ) (r : Bool) : Type 0 where
  pub of : (a b : Option ℕ) → Reads (optional (read_number max_u32)) s p a → Reads (optional (read_number max_u32)) s q b → Says r (a ≡ b)

-- whether an earlier and a later transition have one key
unfoldable pub has_pair : List Transition → Bool
has_pair [] = false
has_pair (t ∷ ts) = any (rival t) ts || has_pair ts

module _ (prints : List ℕ) (count : ℕ) where
  pub record HasRival (i : ℕ) (r : Bool) : Type 0 where
    pub of : (ts : List Transition) → Prints prints ts → count ≡ length ts → (t : Transition) → get_elem? ts i ≡ some t → r ≡ any (rival t) (drop (i + 1) ts)

  pub record NoPairs (r : Bool) : Type 0 where
    pub of : (ts : List Transition) → Prints prints ts → count ≡ length ts → r ≡ true → has_pair ts ≡ false
