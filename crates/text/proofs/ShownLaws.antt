-- A string of a document is no longer than the document.
use Prim.Native.Nat.{ℕ, ◌+◌, ◌-◌, ◌≤◌}
use native.Mathlib.Omega.{arith}
use mathlib.Core.Path.{◌≡◌, sym}
use mathlib.Core.Bool.{Bool, true, false}
use mathlib.Core.List.{List, []}
use lib.Dec.{ltb}
use lib.ListN.{length, take, drop, length-take, length-drop}
use Rattle.reading.specs.Read.{Read, ok, refused, pick}
use Rattle.reading.specs.Item.{read_kind}
use Rattle.reading.specs.Skip.{span_of, text_at}
use Rattle.text.specs.Put.{Put}
use Rattle.text.proofs.PutLaws.{put_is}

pick_short : (b : Bool) (s xs : List ℕ) → length xs ≤ length s → length (pick b [] xs) ≤ length s
unfolding pick
pick_short true s xs h = omega arith
pick_short false s xs h = h

span_short : (s : List ℕ) (m : Read ℕ) → length (span_of s m) ≤ length s
unfolding span_of
span_short s (ok len n) = pick_short (ltb (length s - n) len) s (take len (drop n s)) (simp (length-take, length-drop) (omega arith))
span_short s (refused f p) = omega arith

pub text_short : (s : List ℕ) (at : ℕ) → length (text_at s at) ≤ length s
unfolding text_at
text_short s at = span_short s (read_kind 3 s at)

-- a string put
pub text_put : (s : List ℕ) (place : ℕ) {o o' xs : List ℕ} {at r : ℕ} → xs ≡ text_at s place → length s ≤ 0xffff → Put o at xs r o' → (Put o at (text_at s place) r o') × (r ≤ at + 0xffff)
text_put s place {o} {o'} {xs} {at} {r} e h p =
    let q : Put o at (text_at s place) r o' = put_is (sym e) p in (q, omega (arith, q.next, text_short s place))
