-- Numbers made of bytes, so that most names and patterns that differ are told apart by a number: equal bytes have equal numbers.
-- A transition's key is made of its state, its pattern and its priority, and nothing is noted of two whose keys differ.
use Rattle.std.specs.Prelude.{ℕ, ◌+◌, ◌*◌, ◌%◌, ◌^◌, ◌≡◌, List, Bool, eqb, get_or}
use Rattle.std.proofs.Math.Option.{Option, none, some}
use Rattle.std.proofs.Math.ListN.{get_elem?}
use Rattle.reading.specs.Pattern.{enc_pattern}
use Rattle.reading.specs.Transition.{Transition}
use Rattle.typing.specs.Lanes.{print}

-- a print with a priority
unfoldable pub ranked : Option ℕ → ℕ → ℕ
ranked none h = h
ranked (some v) h = (h * 31 + v % 2 ^ 32 + 1) % 2 ^ 32

unfoldable pub key_of : Transition → ℕ
key_of t = ranked t.priority (print (print 0 t.state) (enc_pattern t.pattern))

-- two of one key
unfoldable pub rival : Transition → Transition → Bool
rival t u = eqb (key_of t) (key_of u)

-- word f of the prints of transition i
abbrev pub print_at : List ℕ → ℕ → ℕ → ℕ
print_at prints i f = get_or prints (3 * i + f) 0

-- its state, the state it leads to, and its key
pub record PrintOf (prints : List ℕ) (i : ℕ) (t : Transition) : Type 0 where
  pub state_is : print_at prints i 0 ≡ print 0 t.state
  pub next_is : print_at prints i 1 ≡ print 0 t.next_state
  pub key_is : print_at prints i 2 ≡ key_of t

pub record Prints (prints : List ℕ) (ts : List Transition) : Type 0 where
  pub at : (i : ℕ) (t : Transition) → get_elem? ts i ≡ some t → PrintOf prints i t
