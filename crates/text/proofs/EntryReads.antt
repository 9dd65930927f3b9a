-- Entry k of a list that reads stands where k items are passed.
use Rattle.std.specs.Prelude.{Option as Maybe, Some, None}
use Prim.Native.Nat.{ℕ, zero, suc}
use mathlib.Core.Path.{◌≡◌, refl, sym, ◌∙◌}
use mathlib.Core.Bool.{Bool, true, false, cond}
use mathlib.Core.List.{List, [], ◌∷◌}
use mathlib.Core.Option.{Option, none}
use native.Mathlib.Omega.{arith}
use lib.ListN.{length, get_elem?}
use lib.Dec.{ltb}
use borrow.Author.Tests.{lt-ltb, le-ltb, ltb-true, ltb-false}
use Rattle.reading.specs.Read.{Reader, ok}
use Rattle.reading.specs.Combine.{entries, list_of}
use Rattle.reading.proofs.Rules.{no}
use Rattle.reading.proofs.Formats.{Laws}
use Rattle.reading.proofs.ListViews.{list_at}
use Rattle.typing.proofs.EnvLaws.{entry, after_is}
use Rattle.findings.specs.Scene.{Bytes, Reads}
use Rattle.findings.proofs.OptionLaws.{Given}
use Rattle.text.specs.Says.{passed, entry_of, entry_at, Entry, entry_here, entry_none, Picked}
use Rattle.text.proofs.LineLaws.{reads_there}

next_ltb : (k l : ℕ) → ltb (suc k) (suc l) ≡ ltb k l
next_ltb k l = go (ltb k l) refl
  where
    go : (b : Bool) → ltb k l ≡ b → ltb (suc k) (suc l) ≡ ltb k l
    go true e = lt-ltb (suc k) (suc l) (omega (arith, ltb-true k l e)) ∙ sym e
    go false e = le-ltb (suc k) (suc l) (omega (arith, ltb-false k l e)) ∙ sym e

module _ {A : Type 0} {F : Reader A} {enc : A → List ℕ} {Within : A → Type 0} {D : List ℕ → ℕ → Type 0} (L : Laws F enc Within 1 D) (s : List ℕ) where
  entry_from : Bytes s → (xs : List A) (k first n : ℕ) → entries (length xs) F s first ≡ ok xs n → Entry F s (cond (ltb k (length xs)) (Some (passed k s first)) None) (get_elem? xs k)
  unfolding passed
  entry_from B [] k first n e = rw (le-ltb k 0 (omega arith)) entry_none
  entry_from B (x ∷ xs) zero first n e = let u = entry F s first x xs n e in rw (lt-ltb 0 (suc (length xs)) (omega arith)) (entry_here (record { end = u.end; is = u.here }))
  entry_from B (x ∷ xs) (suc k) first n e =
      let u = entry F s first x xs n e in
      rw (next_ltb k (length xs), after_is L s B first x u.end u.here) (entry_from B xs k u.end n u.rest)

  pub entry_picked : {most at k : ℕ} {f : Maybe ℕ} {xs : List A} → Picked most s at k f → Reads (list_of most F) s at xs → Entry F s f (get_elem? xs k)
  unfolding entry_at entry_of
  entry_picked {most} {at} {k} {xs = xs} p r =
      let l = list_at F s most at xs r.end r.is in
      rw (p.is, l.opens) (entry_from p.each xs k l.first r.end l.entries_are)

-- an entry, by where it was found
module _ {A : Type 0} {F : Reader A} {s : List ℕ} where
  pub entry_nothing : {f : Maybe ℕ} {o : Option A} → Entry F s f o → f ≡ None → o ≡ none
  entry_nothing (entry_here r) q = no (cc)
  entry_nothing entry_none q = refl

  pub entry_given : {f : Maybe ℕ} {o : Option A} {k : ℕ} → Entry F s f o → f ≡ Some k → Given F s k o
  entry_given {k = k} (entry_here {k = j} {x = x} r) q = let e : k ≡ j = cc in record { item = x; reads = reads_there e r.is; is = refl }
  entry_given entry_none q = no (cc)
