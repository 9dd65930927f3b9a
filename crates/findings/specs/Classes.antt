-- Classes of transitions, by what those of a class share: the first place of a class stands for it, so that code compares numbers instead of
-- bytes. Something is noted only of two transitions of one kind.
use Rattle.std.specs.Prelude.{ℕ, ◌<◌, ◌≤◌, ◌≡◌, ◌≢◌, List, Bool, true, false, cond, not, eqb, length, get_or, set}
use Rattle.std.proofs.Math.Option.{Option, none, some}
use Rattle.std.proofs.Math.ListN.{get_elem?}
use Rattle.reading.specs.Text.{Name}
use Rattle.reading.specs.Encode.{enc_option}
use Rattle.reading.specs.Expr.{enc_expr}
use Rattle.reading.specs.Pattern.{enc_pattern}
use Rattle.reading.specs.Transition.{Transition}
use Rattle.findings.specs.Finding.{Note, note, noted}
use Rattle.findings.specs.Scene.{field, RowAt, Rows}
use Rattle.findings.specs.Prints.{Prints}
use Rattle.findings.specs.Parts.{PrintPart}

-- what two transitions share of which something is noted
pub record Kind : Type 0 where
  pub state : Name
  pub pattern : List ℕ
  pub priority : Option ℕ

unfoldable pub kind_of : Transition → Kind
kind_of t = record { state = t.state; pattern = enc_pattern t.pattern; priority = t.priority }

unfoldable pub guard_of : Transition → List ℕ
guard_of t = enc_option enc_expr t.guard

-- no priority is given
unfoldable pub bare : Option ℕ → Bool
bare none = true
bare (some v) = false

-- what is noted of two of one kind, by whether they are bare and have the same guard
unfoldable pub kind_notes : Bool → Bool → Bool → ℕ → ℕ → List Note
kind_notes warn b same i j = cond b (cond warn (noted (not same) (note 24 i j 0)) (noted same (note 15 i j 0))) (noted (not warn) (note 14 i j 0))

-- the code's answer says whether P holds
pub record Says (r : Bool) (P : Type 0) : Type 0 where
  pub holds : r ≡ true → P
  pub fails : r ≡ false → P → ⊥

-- two transitions by their places
pub record SameKind (s rows : List ℕ) (i j : ℕ) (r : Bool) : Type 0 where
  pub of : (t u : Transition) → RowAt s rows i t → RowAt s rows j u → Says r (kind_of t ≡ kind_of u)

pub record Bare (s rows : List ℕ) (i : ℕ) (r : Bool) : Type 0 where
  pub of : (t : Transition) → RowAt s rows i t → r ≡ bare t.priority

-- r is the first place of the class of transition i, which is u
pub record First {A : Type 0} (f : Transition → A) (ts : List Transition) (i : ℕ) (u : Transition) (r : ℕ) : Type 0 where
  pub low : r ≤ i
  pub same : (t : Transition) → get_elem? ts r ≡ some t → f t ≡ f u
  pub least : (k : ℕ) → k < r → (t : Transition) → get_elem? ts k ≡ some t → f t ≡ f u → ⊥

-- K: what is known of the transitions
pub record FirstAt {A : Type 0} (f : Transition → A) (K : List Transition → Type 0) (count i r : ℕ) : Type 0 where
  pub of : (ts : List Transition) → K ts → count ≡ length ts → (u : Transition) → get_elem? ts i ≡ some u → First f ts i u r

-- word k of a table is what Q asks, for the first n
pub record Tabled (Q : ℕ → ℕ → Type 0) (n : ℕ) (table : List ℕ) : Type 0 where
  pub each : (k : ℕ) → k < n → Q k (get_or table k 0)

-- the print of the guard of transition i
abbrev pub GuardPrint : List ℕ → List ℕ → ℕ → ℕ → Type 0
GuardPrint s rows i r = PrintPart s (field rows i 3) (field rows i 4) 0 r

pub record Known (s rows prints : List ℕ) (ts : List Transition) : Type 0 where
  pub rows_are : Rows s rows ts
  pub prints_are : Prints prints ts

-- the tables of the first places
pub record Classed (s rows prints : List ℕ) (count : ℕ) (kinds guards : List ℕ) : Type 0 where
  pub kinds_are : Tabled (FirstAt kind_of (Known s rows prints) count) count kinds
  pub guards_are : Tabled (FirstAt guard_of (Rows s rows) count) count guards

-- the marks but those of places i and j where they are two
unfoldable pub unmarked : ℕ → ℕ → List ℕ → List ℕ
unmarked i j marks = cond (eqb i j) marks (set (set marks i 0) j 0)

-- a place that is marked has a number that no other has
pub record Lone (count : ℕ) (kinds marks : List ℕ) : Type 0 where
  pub of : (i j : ℕ) → i < count → j < count → i ≢ j → get_or kinds i 0 ≡ get_or kinds j 0 → get_or marks i 0 ≡ 0
