-- A message that is put is what the definition says, and the lent bytes keep their length.
use Rattle.std.specs.Prelude.{Option as Maybe}
use Prim.Native.Nat.{ℕ, ◌-◌, ◌≤◌}
use mathlib.Core.Path.{◌≡◌, refl, sym, ap, subst, ◌∙◌}
use mathlib.Core.Bool.{Bool, true}
use mathlib.Core.List.{List}
use mathlib.Core.Option.{Option}
use lib.ListN.{length, take}
use lib.Seq.{length-sets}
use Rattle.findings.specs.declared.whole.Ready.{Ready}
use Rattle.reading.specs.Module.{Module}
use Rattle.findings.proofs.GroupTables.{front_cut}
use Rattle.text.specs.Put.{Put}
use Rattle.findings.specs.Scene.{Scene}
use Rattle.text.specs.Message.{Saying, saying, saying_text, init_said, set_said, priority_said, pair_said, error_emit_said, claim_said, formula_said, event_said, var_said}
use Rattle.text.specs.Said.{saying_of}
use Rattle.text.specs.Says.{WithNames, WithRows, WithOwn, WithClaims, WithFormulas, Warned, Named, Says, SaysWarning, PutsSaid, PutsFinding}
use Rattle.text.specs.Bound.{Straight}
use Rattle.text.specs.declared.said.Said.{Said}
use Rattle.text.proofs.SayLaws.{warned, with_rows}

pub finding_put : (H : Module → Type 0) (s : List ℕ) (site i j : ℕ) {x : Maybe Said} {o : List ℕ} {at r : ℕ} {o' : List ℕ} → Says H s (saying site i j) x → Put o at (saying_text site (saying_of s x)) r o' → PutsFinding H site i j o at r o'
finding_put H s site i j {o = o} {at = at} {r = r} {o' = o'} p q = record {
  of = λ m h. subst (λ (y : Option Saying). Put o at (saying_text site y) r o') (p.of m h) q;
}

pub put_length : {o : List ℕ} {at : ℕ} {bs : List ℕ} {r : ℕ} {o' : List ℕ} → Put o at bs r o' → length o' ≡ length o
put_length {o} {at} {bs} p = ap length p.bytes ∙ length-sets o at bs

-- sites 15 and 24
pub first_of_two : {site : ℕ} → site ≡ 15 → (site ≡ 15 → ⊥) → site ≡ 24
first_of_two e n = absurd (n e)

-- sites 8, 9, 12 and 13
pub judged_site : {site : ℕ} {b : Bool} → (b ≡ true → (site ≡ 8 → ⊥) → (site ≡ 9 → ⊥) → (site ≡ 12 → ⊥) → site ≡ 13) → b ≡ true → (site ≡ 8 → ⊥) → (site ≡ 9 → ⊥) → (site ≡ 12 → ⊥) → site ≡ 13
judged_site f = f

-- sites that need no pattern to be judged
pub straight_site : {site : ℕ} {b : Bool} → (b ≡ true → Straight site) → b ≡ true → Straight site
straight_site f = f

-- what X says is the message of site k, and what is known of the module has what X asks for
finding_of : (K H : Module → Type 0) (s : List ℕ) (site i j : ℕ) {o : List ℕ} {at r : ℕ} {o' : List ℕ} (X : Module → Option Saying) (k : ℕ) → ((m : Module) → K m → H m) → ((m : Module) → saying k i j m ≡ X m) → PutsSaid (Says H s X) s k o at r o' → site ≡ k → PutsFinding K site i j o at r o'
finding_of K H s site i j {o} {at} {r} {o'} X k f x p e =
    subst (λ (z : ℕ). PutsFinding K z i j o at r o') (sym e)
    (finding_put K s k i j (record { of = λ m h. p.says.of m (f m h) ∙ sym (x m) }) p.put)

module _ (s places rows : List ℕ) (count i j : ℕ) where
  abbrev Row : Module → Type 0
  Row = WithRows s places rows count

  -- those of two transitions
  finding_two : (K : Module → Type 0) (site : ℕ) {o : List ℕ} {at r : ℕ} {o' : List ℕ} (k : ℕ) → ((m : Module) → K m → Row m) → ((m : Module) → saying k i j m ≡ pair_said i j m) → PutsSaid (Says Row s (pair_said i j)) s site o at r o' → site ≡ k → PutsFinding K site i j o at r o'
  finding_two K site {o} {at} {r} {o'} k f x p e = finding_of K Row s site i j (pair_said i j) k f x (subst (λ (z : ℕ). PutsSaid (Says Row s (pair_said i j)) s z o at r o') e p) e

  -- warnings
  module _ (found : Maybe ℕ) where
    abbrev Warning : Module → Type 0
    Warning = Warned s places rows count found

    module _ (site : ℕ) {o : List ℕ} {at r : ℕ} {o' : List ℕ} where
      pub finding_22 : PutsSaid (Says (Scene s places) s (event_said i j)) s 22 o at r o' → site ≡ 22 → PutsFinding Warning site i j o at r o'
      unfolding saying
      finding_22 = finding_of Warning (Scene s places) s site i j (event_said i j) 22 (λ m h. h.scene) (λ m. refl)

      pub finding_23 : PutsSaid (Says (Scene s places) s (var_said i)) s 23 o at r o' → site ≡ 23 → PutsFinding Warning site i j o at r o'
      unfolding saying
      finding_23 = finding_of Warning (Scene s places) s site i j (var_said i) 23 (λ m h. h.scene) (λ m. refl)

      pub finding_24 : PutsSaid (Says Row s (pair_said i j)) s site o at r o' → site ≡ 24 → PutsFinding Warning site i j o at r o'
      unfolding saying
      finding_24 = finding_two Warning site 24 (λ m h. with_rows h) (λ m. refl)

      pub warning_put : {x : Maybe Said} → 21 ≤ site → SaysWarning Warning s site i j x → Put o at (saying_text site (saying_of s x)) r o' → PutsFinding Warning site i j o at r o'
      warning_put l p = finding_put Warning s site i j (p.of l)

  -- any finding
  module _ (known : Ready) (table enums properties : List ℕ) where
    abbrev Known : Module → Type 0
    Known = Named s places rows count known table enums properties

    module _ (site : ℕ) {o : List ℕ} {at r : ℕ} {o' : List ℕ} where
      pub finding_5 : PutsSaid (Says (WithNames s places (take 829 table) enums) s (init_said i)) s 5 o at r o' → site ≡ 5 → PutsFinding Known site i j o at r o'
      unfolding saying
      finding_5 = finding_of Known (WithNames s places (take 829 table) enums) s site i j (init_said i) 5 (λ m h. (h.scene, h.agree)) (λ m. refl)

      pub finding_11 : PutsSaid (Says Row s (set_said i j)) s 11 o at r o' → site ≡ 11 → PutsFinding Known site i j o at r o'
      unfolding saying
      finding_11 = finding_of Known Row s site i j (set_said i j) 11 (λ m h. with_rows (warned h)) (λ m. refl)

      pub finding_14 : PutsSaid (Says Row s (priority_said i j)) s 14 o at r o' → site ≡ 14 → PutsFinding Known site i j o at r o'
      unfolding saying
      finding_14 = finding_of Known Row s site i j (priority_said i j) 14 (λ m h. with_rows (warned h)) (λ m. refl)

      pub finding_15 : PutsSaid (Says Row s (pair_said i j)) s site o at r o' → site ≡ 15 → PutsFinding Known site i j o at r o'
      unfolding saying
      finding_15 = finding_two Known site 15 (λ m h. with_rows (warned h)) (λ m. refl)

      pub finding_17 : PutsSaid (Says (WithNames s places (take 829 table) enums) s (error_emit_said i)) s 17 o at r o' → site ≡ 17 → PutsFinding Known site i j o at r o'
      unfolding saying
      finding_17 = finding_of Known (WithNames s places (take 829 table) enums) s site i j (error_emit_said i) 17 (λ m h. (h.scene, h.agree)) (λ m. refl)

      pub finding_18 : PutsSaid (Says (WithClaims s places (take (known.claims - 0) properties)) s (claim_said i)) s 18 o at r o' → site ≡ 18 → PutsFinding Known site i j o at r o'
      unfolding saying
      finding_18 p = finding_of Known (WithClaims s places (take known.claims properties)) s site i j (claim_said i) 18 (λ m h. (h.scene, h.claims_are)) (λ m. refl) (rw (sym (front_cut properties known.claims)) p)

      pub finding_19 : PutsSaid (Says (WithFormulas s places (take (known.claims - 0) properties) (take 829 table) enums) s (formula_said i)) s 19 o at r o' → site ≡ 19 → PutsFinding Known site i j o at r o'
      unfolding saying
      finding_19 p = finding_of Known (WithFormulas s places (take known.claims properties) (take 829 table) enums) s site i j (formula_said i) 19 (λ m h. ((h.scene, h.agree), (h.scene, h.claims_are))) (λ m. refl) (rw (sym (front_cut properties known.claims)) p)

      pub finding_judged : PutsSaid (Says (WithOwn s places rows count (take 829 table) enums) s (saying site i j)) s site o at r o' → PutsFinding Known site i j o at r o'
      finding_judged p = finding_of Known (WithOwn s places rows count (take 829 table) enums) s site i j (saying site i j) site (λ m h. (with_rows (warned h), h.agree)) (λ m. refl) p refl

      pub finding_warning : PutsFinding (Warned s places rows count known.found) site i j o at r o' → PutsFinding Known site i j o at r o'
      finding_warning p = record { of = λ m h. p.of m (warned h) }

pub said_length : {S : Maybe Said → Type 0} {s : List ℕ} {site : ℕ} {o : List ℕ} {at r : ℕ} {o' : List ℕ} → PutsSaid S s site o at r o' → length o' ≡ length o
said_length p = put_length p.put
