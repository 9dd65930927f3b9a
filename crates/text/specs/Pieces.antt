-- What the messages of two transitions have in common, and those of a list's entries.
use Rattle.std.specs.Prelude.{◌≡◌, List, [], ◌∷◌, ◌++◌, ℕ}
use Rattle.reading.specs.Text.{Name}
use Rattle.text.specs.Form.{text, format}
use Rattle.text.specs.Message.{site_form}
use Rattle.text.specs.Put.{Put}

-- in which module and state they are
unfoldable pub in_state : Name → Name → List ℕ
in_state n t = text "module '" ++ n ++ text "' state '" ++ t

-- and which priority they have
unfoldable pub in_priority : Name → Name → List ℕ → List ℕ
in_priority n t k = in_state n t ++ text "': duplicate priority " ++ k

-- in which module an entry is, and in which transition
unfoldable pub in_module : List ℕ → List ℕ
in_module n = text "module '" ++ n

unfoldable pub in_transition : List ℕ → List ℕ → List ℕ
in_transition n i = in_module n ++ text "' transition #" ++ i

-- an entry's name is put with bytes before and behind it
pub record PutWithin (o : List ℕ) (at : ℕ) (p : List ℕ) (n : Name) (q : List ℕ) (r : ℕ) (o' : List ℕ) : Type 0 where
  pub put : Put o at (p ++ n ++ q) r o'

-- two arguments and three, with bytes before and between them, and behind two
pub record PutTwo (o : List ℕ) (at : ℕ) (p a q b t : List ℕ) (r : ℕ) (o' : List ℕ) : Type 0 where
  pub put : Put o at (p ++ a ++ q ++ b ++ t) r o'

pub record PutThree (o : List ℕ) (at : ℕ) (p a q b t c : List ℕ) (r : ℕ) (o' : List ℕ) : Type 0 where
  pub put : Put o at (p ++ a ++ q ++ b ++ t ++ c) r o'

-- what is said at a site before what is wrong: in which transition, then q; or in which module, then an entry's name with p before it and q behind it
unfoldable pub RowForm : ℕ → List ℕ → Type 0
RowForm site q = (n i : List ℕ) → format (site_form site) (n ∷ i ∷ [] ∷ [] ∷ [] ∷ []) ≡ in_transition n i ++ q

unfoldable pub EntryForm : ℕ → List ℕ → List ℕ → Type 0
EntryForm site p q = (n t : List ℕ) → format (site_form site) (n ∷ t ∷ [] ∷ [] ∷ [] ∷ []) ≡ in_module n ++ (p ++ t ++ q)

-- or in which transition, then the name of an assignment's variable with p before it and q behind it
unfoldable pub SetForm : ℕ → List ℕ → List ℕ → Type 0
SetForm site p q = (n i t : List ℕ) → format (site_form site) (n ∷ i ∷ t ∷ [] ∷ [] ∷ []) ≡ in_transition n i ++ (p ++ t ++ q)
