-- A text put into lent bytes.
use Rattle.std.specs.Prelude.{ℕ, ◌+◌, ◌≡◌, List, length}
use Rattle.std.proofs.lemmas.List.Edits.{sets}

-- bs stands in o from place at on, as far as o reaches: o' is what o becomes, and r the place after bs
pub record Put (o : List ℕ) (at : ℕ) (bs : List ℕ) (r : ℕ) (o' : List ℕ) : Type 0 where
  pub next : r ≡ at + length bs
  pub bytes : o' ≡ sets o at bs
