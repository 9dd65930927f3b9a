-- The first of each kind and of each guard: those passed have another key or print, or other bytes.
use Prim.Native.Nat.{ℕ, ◌+◌, ◌%◌, ◌<◌}
use mathlib.Core.Path.{◌≡◌, sym, ap, ◌∙◌}
use mathlib.Core.List.{List}
use mathlib.Core.Bool.{Bool, true, false}
use mathlib.Core.Option.{some}
use native.Mathlib.Omega.{arith}
use lib.Dec.{eqb}
use lib.ListN.{length, get_or, get_elem?, set}
use borrow.Author.Tests.{eqb-true, eqb-false}
use Rattle.reading.specs.Transition.{Transition}
use Rattle.reading.proofs.Rules.{by, no}
use Rattle.reading.proofs.ListViews.{spanned}
use Rattle.reading.proofs.OptionLaws.{option_laws}
use Rattle.reading.proofs.TransitionLaws.{top_expr_laws, top_expr_solid}
use Rattle.typing.specs.Lanes.{print}
use Rattle.findings.specs.Pairs.{same_guard}
use Rattle.findings.specs.Scene.{field, RowAt, Rows}
use Rattle.findings.specs.Prints.{print_at, Prints}
use Rattle.findings.specs.PairPromises.{SameGuard}
use Rattle.findings.specs.PairSteps.{Alike, SamePriority}
use Rattle.findings.specs.Classes.{kind_of, guard_of, SameKind, FirstAt, GuardPrint, Known, Tabled, Classed}
use Rattle.findings.proofs.PlaceLaws.{entry_below}
use Rattle.findings.proofs.PairTests.{isn't}
use Rattle.findings.proofs.KindLaws.{alike_kind, kind_alike, kind_priority, kind_key, same_guard_lem, guard_same}
use Rattle.findings.proofs.ClassLaws.{Passed, passed_more, passed_found, Firsts, firsts_more, firsts_fresh, class_same, class_apart}

-- by kinds
module _ (s rows : List ℕ) (i j : ℕ) {b : Bool} (a : Alike s rows i j b) where
  pub kind_pair : {p q : ℕ} {r : Bool} → b ≡ true → SamePriority s p q r → p ≡ field rows i 7 → q ≡ field rows j 7 → SameKind s rows i j r
  kind_pair e w f g =
      let v = rw (f, g) at w in
      record {
        of = λ t u k l.
            let y = v.of t.priority u.priority k.priority_is l.priority_is in
            record { holds = λ z. alike_kind t u (sym (a.of t u k l) ∙ e) (y.holds z); fails = λ z q. y.fails z (kind_priority t u q) };
      }

  pub kind_unlike : b ≡ false → SameKind s rows i j false
  kind_unlike e = record {
    of = λ t u k l. record { holds = λ z. no (cc); fails = λ z q. let x = a.of t u k l in let y = kind_alike t u q in no (cc) };
  }

-- of equal kinds the keys are equal
kinds_keyed : (s rows prints : List ℕ) (ts : List Transition) → Known s rows prints ts → (k i : ℕ) (t u : Transition) → get_elem? ts k ≡ some t → get_elem? ts i ≡ some u → kind_of t ≡ kind_of u → print_at prints k 2 ≡ print_at prints i 2
kinds_keyed s rows prints ts x k i t u g h q = (x.prints_are.at k t g).key_is ∙ kind_key t u q ∙ sym (x.prints_are.at i u h).key_is

abbrev pub key_at : List ℕ → ℕ → ℕ
key_at prints k = print_at prints k 2

module _ (s rows prints : List ℕ) (count : ℕ) {i v : ℕ} {kinds seen : List ℕ} (w : Firsts kind_of (Known s rows prints) count (key_at prints) i kinds seen) (h : i < count) where
  pub kinds_seen : {r : ℕ} → FirstAt kind_of (Known s rows prints) count i r → v ≡ r → Firsts kind_of (Known s rows prints) count (key_at prints) (i + 1) (set kinds i v) (set seen (print_at prints i 2 % 2039) 1)
  kinds_seen p e = firsts_more kind_of (Known s rows prints) count (key_at prints) w h p e

  pub kinds_fresh : get_or seen (print_at prints i 2 % 2039) 0 ≡ 0 → v ≡ i → Firsts kind_of (Known s rows prints) count (key_at prints) (i + 1) (set kinds i v) (set seen (print_at prints i 2 % 2039) 1)
  kinds_fresh z e = firsts_fresh kind_of (Known s rows prints) count (key_at prints) w (λ ts x q k t u. kinds_keyed s rows prints ts x k i t u) h z e

module _ (s rows prints : List ℕ) (count i : ℕ) {j : ℕ} (w : Passed kind_of (Known s rows prints) count i j) where
  pub kind_skip : (print_at prints j 2 ≡ print_at prints i 2 → ⊥) → Passed kind_of (Known s rows prints) count i (j + 1)
  kind_skip d =
      passed_more kind_of (Known s rows prints) count i w (λ ts x e t u g h q. d (kinds_keyed s rows prints ts x j i t u g h q))

  module _ {r : Bool} (p : SameKind s rows j i r) where
    pub kind_other : r ≡ false → Passed kind_of (Known s rows prints) count i (j + 1)
    kind_other z =
        passed_more kind_of (Known s rows prints) count i w (λ ts x e t u g h.
        (p.of t u (x.rows_are.at j t g) (x.rows_are.at i u h)).fails z)

    pub kind_found : r ≡ true → j < i → FirstAt kind_of (Known s rows prints) count i j
    kind_found z l =
        passed_found kind_of (Known s rows prints) count i w l (λ ts x t u g h.
        (p.of t u (x.rows_are.at j t g) (x.rows_are.at i u h)).holds z)

-- by guards
guard_print : (s rows : List ℕ) (k : ℕ) (t : Transition) {r : ℕ} → GuardPrint s rows k r → RowAt s rows k t → r ≡ print 0 (guard_of t)
unfolding guard_of
guard_print s rows k t p a = p.is ∙ ap (print 0) (spanned (option_laws top_expr_laws top_expr_solid) s p.each (field rows k 3) t.guard (field rows k 4) a.guard_is).0

guards_keyed : (s rows marks : List ℕ) (count : ℕ) → Tabled (GuardPrint s rows) count marks → (ts : List Transition) → Rows s rows ts → count ≡ length ts → (k i : ℕ) (t u : Transition) → get_elem? ts k ≡ some t → get_elem? ts i ≡ some u → guard_of t ≡ guard_of u → get_or marks k 0 ≡ get_or marks i 0
guards_keyed s rows marks count m ts x e k i t u g h q =
    let a = entry_below ts k t g in
    let b = entry_below ts i u h in
    guard_print s rows k t (m.each k (omega arith)) (x.at k t g) ∙ ap (print 0) q ∙ sym (guard_print s rows i u (m.each i (omega arith)) (x.at i u h))

abbrev pub mark_at : List ℕ → ℕ → ℕ
mark_at marks k = get_or marks k 0

module _ (s rows marks : List ℕ) (count : ℕ) {i v : ℕ} {guards seen : List ℕ} (w : Firsts guard_of (Rows s rows) count (mark_at marks) i guards seen) (h : i < count) where
  pub guards_seen : {r : ℕ} → FirstAt guard_of (Rows s rows) count i r → v ≡ r → Firsts guard_of (Rows s rows) count (mark_at marks) (i + 1) (set guards i v) (set seen (get_or marks i 0 % 2039) 1)
  guards_seen p e = firsts_more guard_of (Rows s rows) count (mark_at marks) w h p e

  pub guards_fresh : Tabled (GuardPrint s rows) count marks → get_or seen (get_or marks i 0 % 2039) 0 ≡ 0 → v ≡ i → Firsts guard_of (Rows s rows) count (mark_at marks) (i + 1) (set guards i v) (set seen (get_or marks i 0 % 2039) 1)
  guards_fresh m z e = firsts_fresh guard_of (Rows s rows) count (mark_at marks) w (λ ts x q k t u. guards_keyed s rows marks count m ts x q k i t u) h z e

module _ (s rows : List ℕ) (count i : ℕ) {j : ℕ} (w : Passed guard_of (Rows s rows) count i j) where
  pub guard_skip : (marks : List ℕ) → Tabled (GuardPrint s rows) count marks → (get_or marks j 0 ≡ get_or marks i 0 → ⊥) → Passed guard_of (Rows s rows) count i (j + 1)
  guard_skip marks m d = passed_more guard_of (Rows s rows) count i w (λ ts x e t u g h q. d (guards_keyed s rows marks count m ts x e j i t u g h q))

  module _ {r : Bool} (p : SameGuard s rows j i r) where
    pub guard_other : r ≡ false → Passed guard_of (Rows s rows) count i (j + 1)
    guard_other z =
        passed_more guard_of (Rows s rows) count i w (λ ts x e t u g h q.
        let y = p.of t u (x.at j t g) (x.at i u h) in
        let v = guard_same t u q in
        no (cc))

    pub guard_found_lem : r ≡ true → j < i → FirstAt guard_of (Rows s rows) count i j
    guard_found_lem z l =
        passed_found guard_of (Rows s rows) count i w l (λ ts x t u g h.
        same_guard_lem t u (sym (p.of t u (x.at j t g) (x.at i u h)) ∙ z))

-- two transitions by the tables
module _ {s rows prints : List ℕ} {count : ℕ} {kinds guards : List ℕ} (w : Classed s rows prints count kinds guards) (ts : List Transition) (R : Rows s rows ts) (P : Prints prints ts) (e : count ≡ length ts) (i j : ℕ) (t u : Transition) (g : get_elem? ts i ≡ some t) (h : get_elem? ts j ≡ some u) where
  known : Known s rows prints ts
  known = record { rows_are = R; prints_are = P }

  pub one_kind : get_or kinds j 0 ≡ get_or kinds i 0 → kind_of t ≡ kind_of u
  one_kind q = class_same kind_of (Known s rows prints) count w.kinds_are ts known e i j t u g h (sym q)

  pub two_kinds : (get_or kinds j 0 ≡ get_or kinds i 0 → ⊥) → kind_of t ≡ kind_of u → ⊥
  two_kinds d = class_apart kind_of (Known s rows prints) count w.kinds_are ts known e i j t u g h (λ q. d (sym q))

  pub guards_told : eqb (get_or guards i 0) (get_or guards j 0) ≡ same_guard t u
  guards_told =
      by (eqb (get_or guards i 0) (get_or guards j 0))
      (λ z. z ∙ sym (guard_same t u (class_same guard_of (Rows s rows) count w.guards_are ts R e i j t u g h (eqb-true _ _ z))))
      (λ z. z ∙ isn't (same_guard t u) (λ y. class_apart guard_of (Rows s rows) count w.guards_are ts R e i j t u g h (eqb-false _ _ z) (same_guard_lem t u y)))
