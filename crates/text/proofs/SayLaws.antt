-- What is said by site: a transition's row is found by its number, and the tables of a module have what each part asks for.
use Rattle.std.specs.Prelude.{Option as Maybe, None}
use Prim.Native.Nat.{ℕ, zero, suc, ◌+◌, ◌<◌, ◌≤◌}
use mathlib.Core.Path.{◌≡◌, refl, sym, ap, subst, ◌∙◌}
use mathlib.Core.Logic.{◌⊎◌, inl, inr}
use mathlib.Core.List.{List}
use mathlib.Core.Option.{Option, none}
use native.Mathlib.Omega.{arith}
use lib.ListN.{length, take, get_or-eq_default}
use Rattle.reading.specs.Module.{Module}
use Rattle.reading.specs.Transition.{Transition}
use Rattle.findings.specs.Scene.{Scene, Rows, RowAt}
use Rattle.findings.proofs.PlaceLaws.{entry_past, entry_at}
use Rattle.text.specs.Message.{Saying, saying, sayings, of_given, of_entry, of_module, initial_said, version_said, init_said, var_said, set_said, error_next_said, error_emit_said, claim_said, formula_said, variant_said, event_said, priority_said, pair_said, id_said, clash_said}
use Rattle.text.specs.Said.{saying_of}
use Rattle.text.specs.Says.{WithNames, WithClaims, WithFormulas, WithStates, WithRows, WithOwn, Tables, Warned, Says, SaysState, SaysNext, SaysSet, SaysId, SaysClash, SaysPriority, SaysPair, SaysJudged, SaysOwn, SaysPlain, SaysWarning}
use Rattle.text.specs.declared.said.Said.{Said}

-- past the last transition nothing is said; what is said of one that is there is said of its row
module _ (s rows : List ℕ) {count i : ℕ} (ts : List Transition) (many : count ≡ length ts) (f : Transition → Option Saying) where
  no_row : count ≤ i → saying_of s None ≡ of_entry ts i f
  unfolding saying_of of_given
  no_row h = rw (entry_past ts i (omega arith))

  in_row : {y : Option Saying} → i < count → Rows s rows ts → ((t : Transition) → RowAt s rows i t → y ≡ f t) → y ≡ of_entry ts i f
  unfolding of_given
  in_row h g k = let t = entry_at ts i (omega arith) in k t.item (g.at i t.item t.is) ∙ ap (of_given f) (sym t.is)

module _ (s places rows : List ℕ) (count i : ℕ) where
  module _ (h : count ≤ i) where
    pub id_past : Says (WithRows s places rows count) s (id_said i) None
    id_past = record { of = λ m g. no_row s rows m.transitions g.1.1 _ h }

    pub clash_past : Says (WithRows s places rows count) s (clash_said i) None
    clash_past = record { of = λ m g. no_row s rows m.transitions g.1.1 _ h }

    pub set_past : (j : ℕ) → Says (WithRows s places rows count) s (set_said i j) None
    set_past j = record { of = λ m g. no_row s rows m.transitions g.1.1 _ h }

    pub priority_past : (j : ℕ) → Says (WithRows s places rows count) s (priority_said i j) None
    priority_past j = record { of = λ m g. no_row s rows m.transitions g.1.1 _ h }

    pub pair_past : (j : ℕ) → Says (WithRows s places rows count) s (pair_said i j) None
    pair_past j = record { of = λ m g. no_row s rows m.transitions g.1.1 _ h }

  module _ (h : i < count) where
    pub id_there : {r : Maybe Said} → SaysId s places rows i r → Says (WithRows s places rows count) s (id_said i) r
    id_there p = record { of = λ m g. in_row s rows m.transitions g.1.1 _ h g.1.0 λ t w. p.of m t g.0 w }

    pub clash_there : {r : Maybe Said} → SaysClash s places rows i r → Says (WithRows s places rows count) s (clash_said i) r
    clash_there p = record { of = λ m g. in_row s rows m.transitions g.1.1 _ h g.1.0 λ t w. p.of m t g.0 w }

    pub set_there : (j : ℕ) {r : Maybe Said} → SaysSet s places rows i j r → Says (WithRows s places rows count) s (set_said i j) r
    set_there j p = record { of = λ m g. in_row s rows m.transitions g.1.1 _ h g.1.0 λ t w. p.of m t g.0 w }

    -- and transition j
    module _ (j : ℕ) where
      module _ (l : count ≤ j) where
        pub priority_alone : Says (WithRows s places rows count) s (priority_said i j) None
        priority_alone = record { of = λ m g. in_row s rows m.transitions g.1.1 _ h g.1.0 λ t w. no_row s rows m.transitions g.1.1 _ l }

        pub pair_alone : Says (WithRows s places rows count) s (pair_said i j) None
        pair_alone = record { of = λ m g. in_row s rows m.transitions g.1.1 _ h g.1.0 λ t w. no_row s rows m.transitions g.1.1 _ l }

      module _ (l : j < count) {r : Maybe Said} where
        pub priority_there : SaysPriority s places rows i j r → Says (WithRows s places rows count) s (priority_said i j) r
        priority_there p = record {
          of = λ m g. in_row s rows m.transitions g.1.1 _ h g.1.0 λ t w.
              in_row s rows m.transitions g.1.1 _ l g.1.0 λ u v. p.of u v m t g.0 w;
        }

        pub pair_there : SaysPair s places rows i j r → Says (WithRows s places rows count) s (pair_said i j) r
        pair_there p = record {
          of = λ m g. in_row s rows m.transitions g.1.1 _ h g.1.0 λ t w.
              in_row s rows m.transitions g.1.1 _ l g.1.0 λ u v. p.of u v m t g.0 w;
        }

-- what is said at site n
says_at : (H : Module → Type 0) (s : List ℕ) (site i j : ℕ) {r : Maybe Said} (n : ℕ) → site ≡ n → Says H s (saying n i j) r → Says H s (saying site i j) r
says_at H s site i j {r} n q = subst (λ (k : ℕ). Says H s (saying k i j) r) (sym q)

-- a number from k on is k, or greater
from : (P : ℕ → Type 0) (k : ℕ) → P k → ((n : ℕ) → suc k ≤ n → P n) → (n : ℕ) → k ≤ n → P n
from P zero a f zero h = a
from P zero a f (suc n) h = f (suc n) (omega arith)
from P (suc k) a f zero h = absurd (omega arith)
from P (suc k) a f (suc n) h = from (λ (x : ℕ). P (suc x)) k a (λ x l. f (suc x) (omega arith)) n (omega arith)

from_6_to_13 : (P : ℕ → Type 0) → P 6 → P 7 → P 8 → P 9 → P 10 → P 11 → P 12 → P 13 → (n : ℕ) → 6 ≤ n → n ≤ 13 → P n
from_6_to_13 P a b c d e f g h =
    let Q : ℕ → Type 0 = λ n. n ≤ 13 → P n in
    from Q 6 (λ u. a) (from Q 7 (λ u. b) (from Q 8 (λ u. c) (from Q 9 (λ u. d) (from Q 10 (λ u. e) (from Q 11 (λ u. f) (from Q 12 (λ u. g) (from Q 13 (λ u. h) (λ n l u. absurd (omega arith)))))))))

-- sites 6 to 13
module _ (s places rows : List ℕ) (count : ℕ) (vars enums : List ℕ) (site i j : ℕ) where
  abbrev Own : Module → Type 0
  Own = WithOwn s places rows count vars enums

  pub own_past : count ≤ i → SaysOwn Own s site i j None
  unfolding saying
  own_past h =
      let x : (n : ℕ) (f : Module → Transition → Option Saying) → ((m : Module) → saying n i j m ≡ of_entry m.transitions i (f m)) → Says Own s (saying n i j) None = λ n f e. record { of = λ m g. no_row s rows m.transitions g.0.1.1 (f m) h ∙ sym (e m) } in
      record { of = from_6_to_13 (λ (n : ℕ). Says Own s (saying n i j) None) (x 6 _ λ m. refl) (x 7 _ λ m. refl) (x 8 _ λ m. refl) (x 9 _ λ m. refl) (x 10 _ λ m. refl) (x 11 _ λ m. refl) (x 12 _ λ m. refl) (x 13 _ λ m. refl) site }

  module _ (h : i < count) {r : Maybe Said} where
    own_site : (n : ℕ) → site ≡ n → Says Own s (saying n i j) r → SaysOwn Own s site i j r
    own_site n q p = record { of = λ l u. says_at Own s site i j n q p }

    pub own_state : site ≡ 6 → SaysState s places rows i r → SaysOwn Own s site i j r
    unfolding saying
    own_state q p = own_site 6 q (record { of = λ m g. in_row s rows m.transitions g.0.1.1 _ h g.0.1.0 λ t w. p.of m t g.0.0 w })

    pub own_next : site ≡ 7 → SaysNext s places rows i r → SaysOwn Own s site i j r
    unfolding saying
    own_next q p = own_site 7 q (record { of = λ m g. in_row s rows m.transitions g.0.1.1 _ h g.0.1.0 λ t w. p.of m t g.0.0 w })

    pub own_set : site ≡ 11 → SaysSet s places rows i j r → SaysOwn Own s site i j r
    unfolding saying
    own_set q p = own_site 11 q (record { of = λ m g. in_row s rows m.transitions g.0.1.1 _ h g.0.1.0 λ t w. p.of m t g.0.0 w })

    pub own_judged : (site ≡ 6 → ⊥) → (site ≡ 7 → ⊥) → (site ≡ 11 → ⊥) → SaysJudged s places rows i vars enums site j r → SaysOwn Own s site i j r
    unfolding saying
    own_judged a b c p = record {
      of = λ l u. from_6_to_13 (λ (n : ℕ). site ≡ n → Says Own s (saying n i j) r)
          (λ e. absurd (a e))
          (λ e. absurd (b e))
          (λ e. record { of = λ m g. in_row s rows m.transitions g.0.1.1 _ h g.0.1.0 λ t w. p.pattern e m t g.0.0 w g.1 })
          (λ e. record { of = λ m g. in_row s rows m.transitions g.0.1.1 _ h g.0.1.0 λ t w. p.guard e m t g.0.0 w g.1 })
          (λ e. record { of = λ m g. in_row s rows m.transitions g.0.1.1 _ h g.0.1.0 λ t w. p.guard_type e m t g.0.0 w g.1 })
          (λ e. absurd (c e))
          (λ e. record { of = λ m g. in_row s rows m.transitions g.0.1.1 _ h g.0.1.0 λ t w. p.value e m t g.0.0 w g.1 })
          (λ e. record { of = λ m g. in_row s rows m.transitions g.0.1.1 _ h g.0.1.0 λ t w. p.emit e m t g.0.0 w g.1 })
          site l u refl;
    }

-- a number that is none of the k from a on
abbrev pub Apart : Type 0 → ℕ → ℕ → ℕ → Type 0
Apart B a zero x = B
Apart B a (suc k) x = Apart B a k x × (x ≡ a + k → ⊥)

apart_past : (B : Type 0) (a k x : ℕ) → a ≤ x → Apart B a k x → a + k ≤ x
apart_past B a zero x l h = omega arith
apart_past B a (suc k) x l h = let q = apart_past B a k x l h.0 in let n = h.1 in omega arith

-- all tables have those that a warning needs, and those the places of the transitions' fields
module _ {s places rows : List ℕ} {count : ℕ} {found : Maybe ℕ} {m : Module} where
  pub warned : {names enums properties : List ℕ} → Tables s places rows count found names enums properties m → Warned s places rows count found m
  warned g = record { scene = g.scene; rows_are = g.rows_are; count_is = g.count_is; states_at = g.states_at }

  pub with_rows : Warned s places rows count found m → WithRows s places rows count m
  with_rows g = (g.scene, (g.rows_are, g.count_is))

-- warnings
module _ (s places rows : List ℕ) (count : ℕ) (found : Maybe ℕ) (site i j : ℕ) where
  abbrev Warning : Module → Type 0
  Warning = Warned s places rows count found

  pub warning_none : Apart (Unit {0}) 21 6 site → SaysWarning Warning s site i j None
  unfolding saying saying_of
  warning_none h = record { of = λ l. record { of = λ m g. sym (get_or-eq_default (sayings m i j) none (apart_past (Unit {0}) 21 6 site l h)) } }

  module _ {r : Maybe Said} where
    warning_site : (n : ℕ) → site ≡ n → Says Warning s (saying n i j) r → SaysWarning Warning s site i j r
    warning_site n q p = record { of = λ l. says_at Warning s site i j n q p }

    pub warning_21 : site ≡ 21 → Says (WithStates s places found) s (variant_said i) r → SaysWarning Warning s site i j r
    unfolding saying
    warning_21 q p = warning_site 21 q (record { of = λ m g. p.of m (g.scene, g.states_at) })

    pub warning_22 : site ≡ 22 → Says (Scene s places) s (event_said i j) r → SaysWarning Warning s site i j r
    unfolding saying
    warning_22 q p = warning_site 22 q (record { of = λ m g. p.of m g.scene })

    pub warning_23 : site ≡ 23 → Says (Scene s places) s (var_said i) r → SaysWarning Warning s site i j r
    unfolding saying
    warning_23 q p = warning_site 23 q (record { of = λ m g. p.of m g.scene })

    pub warning_24 : site ≡ 24 → Says (WithRows s places rows count) s (pair_said i j) r → SaysWarning Warning s site i j r
    unfolding saying
    warning_24 q p = warning_site 24 q (record { of = λ m g. p.of m (with_rows g) })

    pub warning_25 : site ≡ 25 → Says (WithRows s places rows count) s (id_said i) r → SaysWarning Warning s site i j r
    unfolding saying
    warning_25 q p = warning_site 25 q (record { of = λ m g. p.of m (with_rows g) })

    pub warning_26 : site ≡ 26 → Says (WithRows s places rows count) s (clash_said i) r → SaysWarning Warning s site i j r
    unfolding saying
    warning_26 q p = warning_site 26 q (record { of = λ m g. p.of m (with_rows g) })

-- every site but 6 to 13
module _ (s places rows : List ℕ) (count : ℕ) (found : Maybe ℕ) (names enums properties : List ℕ) (site i j : ℕ) where
  abbrev All : Module → Type 0
  All = Tables s places rows count found names enums properties

  plain_site : {r : Maybe Said} (n : ℕ) → site ≡ n → Says All s (saying n i j) r → SaysPlain All s site i j r
  plain_site n q p =
      let x = says_at All s site i j n q p in
      record { below = λ l. x; above = λ l. x }

  pub plain_0 : site ≡ 0 → SaysPlain All s site i j None
  unfolding saying saying_of
  plain_0 q = plain_site 0 q (record { of = λ m g. refl })

  module _ {r : Maybe Said} where
    pub plain_module : (site ≡ 1) ⊎ (site ≡ 3) → Says (Scene s places) s of_module r → SaysPlain All s site i j r
    unfolding saying
    plain_module (inl q) p = plain_site 1 q (record { of = λ m g. p.of m g.scene })
    plain_module (inr q) p = plain_site 3 q (record { of = λ m g. p.of m g.scene })

    pub plain_2 : site ≡ 2 → Says (Scene s places) s initial_said r → SaysPlain All s site i j r
    unfolding saying
    plain_2 q p = plain_site 2 q (record { of = λ m g. p.of m g.scene })

    pub plain_4 : site ≡ 4 → Says (Scene s places) s version_said r → SaysPlain All s site i j r
    unfolding saying
    plain_4 q p = plain_site 4 q (record { of = λ m g. p.of m g.scene })

    pub plain_5 : site ≡ 5 → Says (WithNames s places names enums) s (init_said i) r → SaysPlain All s site i j r
    unfolding saying
    plain_5 q p = plain_site 5 q (record { of = λ m g. p.of m (g.scene, g.agree) })

    pub plain_14 : site ≡ 14 → Says (WithRows s places rows count) s (priority_said i j) r → SaysPlain All s site i j r
    unfolding saying
    plain_14 q p = plain_site 14 q (record { of = λ m g. p.of m (with_rows (warned g)) })

    pub plain_15 : site ≡ 15 → Says (WithRows s places rows count) s (pair_said i j) r → SaysPlain All s site i j r
    unfolding saying
    plain_15 q p = plain_site 15 q (record { of = λ m g. p.of m (with_rows (warned g)) })

    pub plain_16 : site ≡ 16 → Says (Scene s places) s error_next_said r → SaysPlain All s site i j r
    unfolding saying
    plain_16 q p = plain_site 16 q (record { of = λ m g. p.of m g.scene })

    pub plain_17 : site ≡ 17 → Says (WithNames s places names enums) s (error_emit_said i) r → SaysPlain All s site i j r
    unfolding saying
    plain_17 q p = plain_site 17 q (record { of = λ m g. p.of m (g.scene, g.agree) })

    pub plain_claim : (site ≡ 18) ⊎ (site ≡ 20) → Says (WithClaims s places properties) s (claim_said i) r → SaysPlain All s site i j r
    unfolding saying
    plain_claim (inl q) p = plain_site 18 q (record { of = λ m g. p.of m (g.scene, g.claims_are) })
    plain_claim (inr q) p = plain_site 20 q (record { of = λ m g. p.of m (g.scene, g.claims_are) })

    pub plain_19 : site ≡ 19 → Says (WithFormulas s places properties names enums) s (formula_said i) r → SaysPlain All s site i j r
    unfolding saying
    plain_19 q p = plain_site 19 q (record { of = λ m g. p.of m ((g.scene, g.agree), (g.scene, g.claims_are)) })

    pub plain_warning : 5 < site → (14 ≤ site → 21 ≤ site) → SaysWarning (Warned s places rows count found) s site i j r → SaysPlain All s site i j r
    plain_warning l f p = record {
      below = λ h. absurd (omega arith);
      above = λ h. record { of = λ m g. (p.of (f h)).of m (warned g) };
    }

-- every site, by the block of the table that has the variables
module _ (s places rows : List ℕ) (count : ℕ) (found : Maybe ℕ) (table enums properties : List ℕ) (site i j : ℕ) where
  abbrev Whole : Module → Type 0
  Whole = Tables s places rows count found (take 829 table) enums properties

  pub says_own : {r : Maybe Said} → 6 ≤ site → site ≤ 13 → SaysOwn (WithOwn s places rows count (take 829 table) enums) s site i j r → Says Whole s (saying site i j) r
  says_own l u p = record { of = λ m g. (p.of l u).of m (with_rows (warned g), g.agree) }

  module _ {r : Maybe Said} (p : SaysPlain Whole s site i j r) where
    pub says_below : site < 6 → Says Whole s (saying site i j) r
    says_below h = p.below (omega arith)

    pub says_above : 13 < site → Says Whole s (saying site i j) r
    says_above h = p.above (omega arith)
