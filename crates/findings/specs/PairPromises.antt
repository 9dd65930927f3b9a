-- What the code of pairs promises: for whatever reads there, it notes what the definition says.
use Rattle.std.specs.Prelude.{ℕ, ◌≡◌, List, Bool, cond, length}
use Rattle.std.proofs.Math.Option.{some}
use Rattle.std.proofs.Math.ListN.{get_elem?}
use Rattle.reading.specs.Transition.{Transition}
use Rattle.typing.specs.Names.{eq_name}
use Rattle.findings.specs.Lists.{Placed}
use Rattle.findings.specs.Finding.{Note}
use Rattle.findings.specs.Pairs.{same_guard, clash, ambiguous, by_state}
use Rattle.findings.specs.Noting.{Noted}
use Rattle.findings.specs.Scene.{RowAt, Rows}
use Rattle.findings.specs.Prints.{PrintOf, Prints}

-- the prints of the transitions of rows
pub record Printed (s rows : List ℕ) (count : ℕ) (prints : List ℕ) : Type 0 where
  pub of : (ts : List Transition) → Rows s rows ts → count ≡ length ts → Prints prints ts

-- two transitions by their places
module _ (s rows prints : List ℕ) (i j : ℕ) (r : Bool) where
  pub record SameState : Type 0 where
    pub of : (t u : Transition) → RowAt s rows i t → RowAt s rows j u → PrintOf prints i t → PrintOf prints j u → r ≡ eq_name t.state u.state

  pub record LeadsTo : Type 0 where
    pub of : (t u : Transition) → RowAt s rows i t → RowAt s rows j u → PrintOf prints i t → PrintOf prints j u → r ≡ eq_name t.next_state u.state

pub record SameGuard (s rows : List ℕ) (i j : ℕ) (r : Bool) : Type 0 where
  pub of : (t u : Transition) → RowAt s rows i t → RowAt s rows j u → r ≡ same_guard t u

-- whether transition i leads to the state of transition j, of so many
pub record LeadsOn (s rows prints : List ℕ) (count i j : ℕ) (r : Bool) : Type 0 where
  pub of : (ts : List Transition) → Rows s rows ts → Prints prints ts → count ≡ length ts → (t u : Transition) → get_elem? ts i ≡ some t → get_elem? ts j ≡ some u → r ≡ eq_name t.next_state u.state

-- warnings or errors of a pair
unfoldable pub pair_notes : Bool → Placed Transition → Placed Transition → List Note
pair_notes warn x y = cond warn (ambiguous x y) (clash x y)

module _ (s : List ℕ) (owner : ℕ) (o : List ℕ) (skip n r : ℕ) (o' : List ℕ) (rows : List ℕ) where
  -- sites 14 and 15, or site 24
  pub record NotesPairs (prints : List ℕ) (count : ℕ) (warn : Bool) : Type 0 where
    pub of : (ts : List Transition) → Rows s rows ts → Prints prints ts → count ≡ length ts → Noted owner o skip n (by_state (pair_notes warn) ts) r o'
