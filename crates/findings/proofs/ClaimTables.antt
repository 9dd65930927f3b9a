-- The table of a module's properties and then its assumptions: each one's name and formula.
use Prim.Native.Nat.{ℕ, zero, suc, ◌+◌, ◌-◌, ◌*◌, ◌≤◌}
use mathlib.Core.Path.{◌≡◌, refl, sym, ap, subst, ◌∙◌}
use mathlib.Core.List.{List, [], ◌∷◌, ◌++◌, append_assoc, append-nil}
use mathlib.Core.Option.{some}
use native.Mathlib.Omega.{arith}
use lib.ListN.{length, get_or, get_elem?, take, drop, length-append, length-drop}
use lib.Seq.{sets-eq, length-sets, length-take-le, get_or-append-add, take_at}
use Rattle.reading.specs.Read.{Read, ok, refused}
use Rattle.reading.specs.Limits.{max_list}
use Rattle.reading.specs.Item.{read_count}
use Rattle.reading.specs.Combine.{entries, list_of}
use Rattle.reading.specs.Module.{Property, read_property}
use Rattle.reading.proofs.Rules.{no}
use Rattle.reading.proofs.HeadSound.{Bytes}
use Rattle.reading.proofs.ExprLaws.{name_laws}
use Rattle.reading.proofs.ModuleLaws.{property_laws}
use Rattle.reading.proofs.ItemLaws.{count_kind}
use Rattle.reading.proofs.Views.{property_at}
use Rattle.reading.proofs.ListViews.{list_at}
use Rattle.typing.specs.Table.{after_item, after_head, pairs_from, pairs_of, pairs_at, Filled}
use Rattle.typing.proofs.EnvLaws.{entry, after_is, fields_head}
use Rattle.typing.proofs.TableLaws.{pairs_length}
use Rattle.findings.specs.Scene.{Reads}
use Rattle.findings.specs.Promises.{ClaimAt, Claims, ClaimsSet}

-- a table of a list is short, and stands at the front of the words that are filled with it
pub pairs_few : (s : List ℕ) (at : ℕ) → length (pairs_at s at) ≤ 510
unfolding pairs_at pairs_of
pairs_few s at = go (read_count max_list s at) refl
  where
    go : (m : Read ℕ) → read_count max_list s at ≡ m → length (pairs_of s m) ≤ 510
    go (ok c k) e = let m = count_kind s at max_list c k e in let l = pairs_length c s k in omega (arith, m.1)
    go (refused f p) e = omega arith

pub filled_front : (o xs : List ℕ) {r : ℕ} {t : List ℕ} → length xs ≤ length o → Filled o xs r t → take r t ≡ xs
filled_front o xs {r} {t} h f =
    ap (take r) (f.words ∙ sets-eq xs o 0 (omega arith)) ∙ take_at xs (drop (0 + length xs) o) r (sym f.many)

claim_after : (s : List ℕ) (a b : ℕ) (T : List ℕ) (i : ℕ) (p : Property) → ClaimAt s T i p → ClaimAt s (a ∷ b ∷ T) (suc i) p
claim_after s a b T i p h = record {
  name_is = rw (even, odd) h.name_is;
  formula_is = rw odd h.formula_is;
}
  where
    even : get_or (a ∷ b ∷ T) (2 * suc i) 0 ≡ get_or T (2 * i) 0
    even = let q : 2 * suc i ≡ 2 + 2 * i = omega arith in ap (λ (j : ℕ). get_or (a ∷ b ∷ T) j 0) q ∙ get_or-append-add (a ∷ b ∷ []) T (2 * i) 0

    odd : get_or (a ∷ b ∷ T) (2 * suc i + 1) 0 ≡ get_or T (2 * i + 1) 0
    odd = let q : 2 * suc i + 1 ≡ 2 + (2 * i + 1) = omega arith in ap (λ (j : ℕ). get_or (a ∷ b ∷ T) j 0) q ∙ get_or-append-add (a ∷ b ∷ []) T (2 * i + 1) 0

abbrev ClaimsIn : List ℕ → List ℕ → List Property → Type 0
ClaimsIn s T ps = (i : ℕ) (p : Property) → get_elem? ps i ≡ some p → ClaimAt s T i p

module _ (s : List ℕ) (B : Bytes s) where
  claim_here : (k : ℕ) (p : Property) (n : ℕ) (T : List ℕ) → read_property s k ≡ ok p n → ClaimAt s (after_head s k ∷ after_item s (after_head s k) ∷ T) 0 p
  claim_here k p n T e =
      let v = property_at s k p n e in
      let h = fields_head 2 s k tt v.name v.opens in
      let a = after_is name_laws s B _ _ _ v.name_is in
      rw (h, a) (record { name_is = v.name_is; formula_is = record { end = n; is = v.formula_is } })

  claims_from : (ps : List Property) (k n : ℕ) (qs : List Property) (T : List ℕ) → entries (length ps) read_property s k ≡ ok ps n → ClaimsIn s T qs → ClaimsIn s (pairs_from (length ps) s k ++ T) (ps ++ qs)
  unfolding pairs_from
  claims_from [] k n qs T e h i p q = h i p q
  claims_from (x ∷ ps) k n qs T e h zero p q =
      let u = entry read_property s k x ps n e in
      let z : x ≡ p = cc in
      rw (← z) (claim_here k x u.end (pairs_from (length ps) s (after_item s k) ++ T) u.here)
  claims_from (x ∷ ps) k n qs T e h (suc i) p q =
      let u = entry read_property s k x ps n e in
      let a = after_is property_laws s B _ _ _ u.here in
      claim_after s (after_head s k) (after_item s (after_head s k)) (pairs_from (length ps) s (after_item s k) ++ T) i p (claims_from ps (after_item s k) n qs T (ap (entries (length ps) read_property s) a ∙ u.rest) h i p q)

  -- the table of two lists, one after the other
  pub claims_are : (a b : ℕ) (ps qs : List Property) → Reads (list_of max_list read_property) s a ps → Reads (list_of max_list read_property) s b qs → Claims s (pairs_at s a ++ pairs_at s b) (ps ++ qs)
  unfolding pairs_at pairs_of
  claims_are a b ps qs g h =
      let l = list_at read_property s max_list a ps g.end g.is in
      let m = list_at read_property s max_list b qs h.end h.is in
      let x = pairs_length (length ps) s l.first in
      let y = pairs_length (length qs) s m.first in
      let z = length-append ps qs in
      rw (l.opens, m.opens) (record {
        room = omega (arith, length-append (pairs_from (length ps) s l.first) (pairs_from (length qs) s m.first));
        at = claims_from ps l.first g.end qs (pairs_from (length qs) s m.first) l.entries_are (λ i p q. subst (λ (T : List ℕ). ClaimAt s T i p) (append-nil _) (claims_from qs m.first h.end [] [] m.entries_are (λ i p q. no (cc)) i p (rw (append-nil qs) q)));
      })

-- one table filled after another
pub claims_set : (s o t : List ℕ) (a b : ℕ) {r q : ℕ} (p more : List ℕ) → length o ≡ 1020 → Filled o (pairs_at s a) r t → Filled (take (1020 - r) (drop r t)) (pairs_at s b) q p → ClaimsSet s a b (r + q) (take r t ++ (p ++ more))
claims_set s o t a b {r} {q} p more h f g =
    let m = pairs_few s a in
    let n = pairs_few s b in
    let x = f.many in
    let y = g.many in
    let lt : length t ≡ 1020 = ap length f.words ∙ length-sets o 0 (pairs_at s a) ∙ h in
    let part : List ℕ = take (1020 - r) (drop r t) in
    let lp : length part ≡ 1020 - r = length-take-le (1020 - r) (drop r t) (omega (arith, length-drop r t)) in
    let front : take r t ≡ pairs_at s a = filled_front o (pairs_at s a) (omega arith) f in
    let back : p ≡ pairs_at s b ++ drop (0 + length (pairs_at s b)) part = g.words ∙ sets-eq (pairs_at s b) part 0 (omega arith) in
    let whole : take (r + q) (take r t ++ (p ++ more)) ≡ pairs_at s a ++ pairs_at s b =
    rw (front, back, append_assoc, ← append_assoc) (take_at (pairs_at s a ++ pairs_at s b) _ (r + q) (omega (arith, length-append (pairs_at s a) (pairs_at s b)))) in
    record {
      most = omega arith;
      of = λ ps qs B u v. rw whole (claims_are s B a b ps qs u v);
    }
