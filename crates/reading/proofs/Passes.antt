-- Past an item whose head is one byte, or a string's of two: each such head says what the whole head does; the loop over them goes as the definition does.
use Prim.Native.Nat.{ℕ, ◌+◌, ◌-◌, ◌*◌, ◌/◌, ◌%◌, ◌<◌, ◌≤◌}
use mathlib.Core.Path.{◌≡◌, refl, ap, ◌∙◌}
use mathlib.Core.List.{List}
use native.Mathlib.Omega.{arith}
use lib.ListN.{length, get_or}
use borrow.Author.Tests.{le-ltb, lt-leb, eq-eqb}
use Rattle.reading.specs.Read.{Read, ok, pick}
use Rattle.reading.specs.Head.{read_head, head_with, simple}
use Rattle.reading.specs.declared.cursor.Head.{Head}
use Rattle.reading.specs.Items.{inside, payload}
use Rattle.reading.specs.Skip.{skip_head, skip_items}
use Rattle.reading.specs.Link.{answer, stands}
use Rattle.reading.specs.Short.{Passes, Passed}
use Rattle.reading.specs.declared.cursor.Cursor.{Cursor}
use Rattle.reading.proofs.Rules.{pick_true, pick_false}
use Rattle.reading.proofs.Answers.{answer_ok}
use Rattle.reading.proofs.Short.{by_range, head_one, head_two}
use Rattle.reading.proofs.Skips.{passed_head, skip_on, skip_less}
use Rattle.std.specs.Prelude.{Result, Option, Some, None, Ok}
use Rattle.reading.specs.declared.fault.Refusal.{Refusal}

module _ (more : ℕ) (s : List ℕ) (at : ℕ) (there : at + 1 + more ≤ length s) where
  -- by the head that is read
  by_head : {h : Head} {from items n : ℕ} → read_head s at ≡ ok h from → more + inside h ≡ items → from + payload h ≡ n → n + items ≤ length s → Passes more s at items (record { at = n })
  by_head {h} {from} e u v f = record { head = passed_head s more at h from e (omega arith) ∙ rw (u, v); room = f }

  -- heads of one byte
  head_range : (due : ℕ) → due ≤ 6 → due * 32 ≤ get_or s at 0 → get_or s at 0 < due * 32 + 24 → read_head s at ≡ ok (record { major = due; argument = get_or s at 0 % 32 }) (at + 1)
  head_range due d l m = head_one s due at (omega arith) (by_range due (get_or s at 0) d l m)

  head_simple : 244 ≤ get_or s at 0 → get_or s at 0 ≤ 246 → read_head s at ≡ ok (record { major = 7; argument = get_or s at 0 % 32 }) (at + 1)
  unfolding read_head head_with simple
  head_simple l m =
      let seven : get_or s at 0 / 32 ≡ 7 = omega arith in
      rw (lt-leb (length s) at (omega arith), pick_false, le-ltb 27 (get_or s at 0 % 32) (omega arith), pick_false, seven, eq-eqb 7 7 refl, pick_true, le-ltb (get_or s at 0 % 32) 20 (omega arith), pick_false, le-ltb 22 (get_or s at 0 % 32) (omega arith), pick_false)

  -- past a number, a simple value, an array and a string
  pub past_number : get_or s at 0 < 24 → Passed more s at (Some (more, record { at = at + 1 }))
  unfolding Passed inside payload pick
  past_number m = by_head (head_range 0 (omega arith) (omega arith) m) (omega arith) (omega arith) there

  pub past_simple : 244 ≤ get_or s at 0 → get_or s at 0 ≤ 246 → Passed more s at (Some (more, record { at = at + 1 }))
  unfolding Passed inside payload pick
  past_simple l m = by_head (head_simple l m) (omega arith) (omega arith) there

  pub past_array : 128 ≤ get_or s at 0 → get_or s at 0 < 152 → get_or s at 0 % 32 ≤ length s - (at + 1) - more → Passed more s at (Some ((more + get_or s at 0 % 32), record { at = at + 1 }))
  unfolding Passed inside payload pick
  past_array l m f = by_head (head_range 4 (omega arith) l m) refl (omega arith) (omega arith)

  pub past_string : 96 ≤ get_or s at 0 → get_or s at 0 < 120 → get_or s at 0 % 32 ≤ length s - (at + 1) - more → Passed more s at (Some (more, record { at = at + 1 + get_or s at 0 % 32 }))
  unfolding Passed inside payload pick
  past_string l m f = by_head (head_range 3 (omega arith) l m) (omega arith) refl (omega arith)

  -- past a string whose head is two bytes
  pub past_two : get_or s at 0 ≡ 120 → 24 ≤ get_or s (at + 1) 0 → get_or s (at + 1) 0 < length s - (at + 1) - more → Passed more s at (Some (more, record { at = at + 1 + 1 + get_or s (at + 1) 0 }))
  unfolding Passed inside payload pick
  past_two b l f = by_head (head_two s at b (omega arith) l) (omega arith) refl (omega arith)

pub longer : (more : ℕ) (s : List ℕ) (at : ℕ) → Passed more s at None
unfolding Passed
longer more s at = tt

-- the loop: the items left from here decide what is answered, w
module _ (left : ℕ) (s : List ℕ) (at : ℕ) (w : Read (Unit {0})) (decides : skip_items left s at ≡ w) where
  module _ (more : 0 < left) {r : Option (ℕ × Cursor)} (e : Passed (left - 1) s at r) {items : ℕ} {c : Cursor} (q : r ≡ Some (items, c)) where
    passes : Passes (left - 1) s at items c
    unfolding Passed
    passes = rw q at e

    first : Ok (items, c) ≡ answer (skip_head (left - 1) s at)
    first = rw (passes.head, answer_ok)

    pub short_on : skip_items items s c.at ≡ w
    short_on = skip_on left s at w decides more first refl

    pub short_less : length s - c.at < length s - at
    short_less = skip_less left s at w decides more first refl (omega arith)

    pub short_past : {n : ℕ} → n ≤ at → n ≤ c.at
    short_past h = omega (arith, short_less)

    pub short_room : c.at + items ≤ length s
    short_room = passes.room

-- the rest by their whole heads
pub short_rest : (v w : Read (Unit {0})) {x : Result Cursor Refusal} → x ≡ stands v → v ≡ w → x ≡ stands w
short_rest v w e q = e ∙ ap stands q
