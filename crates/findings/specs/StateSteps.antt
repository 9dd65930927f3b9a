-- What the loops by state promise: the least state not yet done, the marks of those that are, and the notes of one state.
use Rattle.std.specs.Prelude.{ℕ, suc, ◌+◌, ◌≡◌, List, [], ◌∷◌, Bool, cond, eqb, length, drop, get_or}
use Rattle.std.proofs.Math.Option.{Option, none, some}
use Rattle.std.proofs.Math.ListN.{get_elem?}
use Rattle.reading.specs.Text.{Name}
use Rattle.reading.specs.Transition.{Transition}
use Rattle.typing.specs.Names.{eq_name}
use Rattle.findings.specs.Lists.{Placed, placed, each, each_pair}
use Rattle.findings.specs.Finding.{Note}
use Rattle.findings.specs.Order.{least, without}
use Rattle.findings.specs.Noting.{Noted}
use Rattle.findings.specs.Scene.{Rows}
use Rattle.findings.specs.Prints.{Prints}
use Rattle.findings.specs.Promises.{at_place}
use Rattle.findings.specs.PairPromises.{pair_notes}

-- the states of those that are not marked; places count from k
unfoldable pub undone : List ℕ → ℕ → List Transition → List Name
undone marks k [] = []
undone marks k (t ∷ ts) = cond (eqb (get_or marks k 0) 0) (t.state ∷ undone marks (suc k) ts) (undone marks (suc k) ts)

-- the least of names and the one found before them, if any
unfoldable pub next_name : Option Name → List Name → Option Name
next_name none [] = none
next_name none (x ∷ xs) = some (least x xs)
next_name (some b) xs = some (least b xs)

unfoldable pub state_in : Option Transition → Option Name
state_in none = none
state_in (some t) = some t.state

-- r is the place of the least; past the last one where there is none
module _ (s rows : List ℕ) (count : ℕ) (marks : List ℕ) where
  pub record Better (b i r : ℕ) : Type 0 where
    pub of : (ts : List Transition) → Rows s rows ts → count ≡ length ts → (t : Transition) → get_elem? ts i ≡ some t → (rest : List Name) → next_name (state_in (get_elem? ts r)) rest ≡ next_name (state_in (get_elem? ts b)) (cond (eqb (get_or marks i 0) 0) (t.state ∷ rest) rest)

  pub record NextState (r : ℕ) : Type 0 where
    pub of : (ts : List Transition) → Rows s rows ts → count ≡ length ts → state_in (get_elem? ts r) ≡ next_name none (undone marks 0 ts)

  -- those of the state of transition b are marked
  pub record StateMarked (prints : List ℕ) (b : ℕ) (marks' : List ℕ) : Type 0 where
    pub of : (ts : List Transition) → Rows s rows ts → Prints prints ts → count ≡ length ts → (t : Transition) → get_elem? ts b ≡ some t → undone marks' 0 ts ≡ without t.state (undone marks 0 ts)

-- a pair where the earlier one has the state
unfoldable pub in_state : Bool → Name → Placed Transition → Placed Transition → List Note
in_state warn w x y = cond (eq_name w x.item.state) (pair_notes warn x y) []

-- the notes of transition i with each later one; the same where it has the state of transition b; and of all of that state
module _ (s : List ℕ) (owner : ℕ) (o : List ℕ) (skip n r : ℕ) (o' : List ℕ) (rows prints : List ℕ) (count : ℕ) (warn : Bool) where
  pub record NotesLater (i : ℕ) : Type 0 where
    pub of : (ts : List Transition) → Rows s rows ts → Prints prints ts → count ≡ length ts → (t : Transition) → get_elem? ts i ≡ some t → Noted owner o skip n (each (pair_notes warn (at_place i t)) (placed (i + 1) (drop (i + 1) ts))) r o'

  pub record NotesRow (b i : ℕ) : Type 0 where
    pub of : (ts : List Transition) → Rows s rows ts → Prints prints ts → count ≡ length ts → (t u : Transition) → get_elem? ts b ≡ some t → get_elem? ts i ≡ some u → Noted owner o skip n (each (in_state warn t.state (at_place i u)) (placed (i + 1) (drop (i + 1) ts))) r o'

  pub record NotesOfState (b : ℕ) : Type 0 where
    pub of : (ts : List Transition) → Rows s rows ts → Prints prints ts → count ≡ length ts → (t : Transition) → get_elem? ts b ≡ some t → Noted owner o skip n (each_pair (in_state warn t.state) (placed 0 ts)) r o'
