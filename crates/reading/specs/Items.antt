-- Items one after another, whatever they hold: each is as long as the heads in it say.
use Rattle.std.specs.Prelude.{ℕ, suc, ◌+◌, ◌≡◌, List, eqb}
use Rattle.reading.specs.Read.{ok, pick}
use Rattle.reading.specs.Head.{read_head}
use Rattle.reading.specs.declared.cursor.Head.{Head}

-- how many items are inside an item, by its head
unfoldable pub inside : Head → ℕ
inside h = pick (eqb h.major 4) h.argument 0

-- how many bytes follow its head
unfoldable pub payload : Head → ℕ
payload h = pick (eqb h.major 3) h.argument 0

-- so many items stand from the one place to the other
pub data Items (s : List ℕ) : ℕ → ℕ → ℕ → Type 0 where
  none : {at : ℕ} → Items s 0 at at
  more : {k at n : ℕ} (h : Head) (m : ℕ) → read_head s at ≡ ok h m → Items s (k + inside h) (m + payload h) n → Items s (suc k) at n
