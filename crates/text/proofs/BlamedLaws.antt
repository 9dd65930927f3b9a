-- What is said with what is wrong from its pieces: where it is, and what was judged.
use Rattle.std.specs.Prelude.{Option, None, Some, Result, ⊤}
use Prim.Native.Nat.{ℕ, ◌+◌, ◌-◌, ◌*◌, ◌/◌, ◌<◌, ◌≤◌}
use native.Mathlib.Omega.{arith}
use mathlib.Core.Path.{◌≡◌, refl, ap, ◌∙◌}
use mathlib.Core.Bool.{Bool, true, false}
use mathlib.Core.List.{List, [], ◌∷◌, ◌++◌}
use lib.ListN.{length, get_or, take}
use lib.Dec.{eqb}
use Rattle.reading.specs.Limits.{max_depth, max_list}
use Rattle.reading.specs.Skip.{text_at}
use Rattle.typing.specs.Blames.{JudgesOutput}
use Rattle.typing.specs.Blocks.{env_at}
use Rattle.typing.specs.Judges.{TypesFormula}
use Rattle.typing.specs.Means.{unfit_of, blame_of, Fit, Typed}
use Rattle.typing.specs.Table.{after_head, Past}
use Rattle.typing.specs.Typed.{Types}
use Rattle.typing.specs.declared.cause.Blame.{Blame}
use Rattle.findings.specs.Promises.{JudgesOwn}
use Rattle.findings.specs.Scene.{outputs_in, field}
use Rattle.findings.specs.declared.transition.Judged.{Judged}
use Rattle.text.specs.Form.{text, format, plain}
use Rattle.text.specs.Shown.{decimal}
use Rattle.text.specs.Put.{Put}
use Rattle.text.specs.Pieces.{in_module, in_transition, PutWithin, RowForm, EntryForm, SetForm}
use Rattle.text.specs.CauseText.{alone_blame, blame_text}
use Rattle.text.specs.Message.{site_form, saying, saying_text, init_said, error_emit_said, formula_said}
use Rattle.text.specs.Said.{shown, saying_of, line}
use Rattle.text.specs.Says.{Picked, Untyped, WithNames, WithOwn, WithFormulas, Says, SaysGuard, SaysValue, SaysEmit, SaysInside, SaysJudged, PutsSaid}
use Rattle.text.specs.Bound.{SeesNames}
use Rattle.text.specs.declared.said.Arg.TheVariants.{Blank, Name, Number}
use Rattle.text.specs.declared.said.Said.{Said}
use Rattle.text.proofs.PutLaws.{put_is, ◌then◌}
use Rattle.text.proofs.PieceLaws.{format_end}
use Rattle.text.proofs.ListedLaws.{in_module_lem, entry_formed, set_formed}
use Rattle.text.proofs.ClaimLaws.{formula_said_lem}
use Rattle.text.proofs.ErrorLaws.{error_emit_said_lem}
use Rattle.text.proofs.ForeLaws.{init_said_lem}
use Rattle.text.proofs.GuardLaws.{guard_said_lem}
use Rattle.text.proofs.SetLaws.{value_said_lem, emit_said_lem}
use Rattle.text.proofs.TransitionLaws.{pattern_said_lem}
use Rattle.text.proofs.JudgedLaws.{inside_guard, inside_value, inside_emit, judged_pattern, judged_seen}
use Rattle.text.proofs.SayLaws.{own_past, own_judged}

-- a message that ends with what is wrong: of a module, of an entry, of a transition, and of an assignment of one
module _ (s : List ℕ) (k n : ℕ) (w : Result ⊤ Blame) {o o₁ o₂ o₃ : List ℕ} {at r₁ r₂ r₃ : ℕ} where
  pub module_blamed : (q : List ℕ) → Put o at (in_module (text_at s n)) r₁ o₁
      → Put o₁ r₁ q r₂ o₂
      → Put o₂ r₂ (blame_text (blame_of s w)) r₃ o₃
      → site_form k ≡ text "module '{}" ++ q
      → plain q ≡ true
      → Put o at (saying_text k (saying_of s (line (Name n) Blank Blank Blank Blank w))) r₃ o₃
  unfolding saying_text saying_of shown
  module_blamed q a b c u g =
      put_is (
      ap (λ (f : List ℕ). format f (text_at s n ∷ [] ∷ [] ∷ [] ∷ [] ∷ [])) u
      ∙ in_module_lem (text_at s n) q ([] ∷ [] ∷ [] ∷ [] ∷ [])
      ∙ ap (λ (x : List ℕ). in_module (text_at s n) ++ x) (format_end q ([] ∷ [] ∷ [] ∷ [] ∷ []) g))
      (a then b)
      then c

  pub entry_blamed : (t : ℕ) {p q : List ℕ} → PutWithin o₁ r₁ p (text_at s t) q r₂ o₂
      → Put o at (in_module (text_at s n)) r₁ o₁
      → Put o₂ r₂ (blame_text (blame_of s w)) r₃ o₃
      → EntryForm k p q
      → Put o at (saying_text k (saying_of s (line (Name n) (Name t) Blank Blank Blank w))) r₃ o₃
  unfolding saying_text saying_of shown
  entry_blamed t b a c f = entry_formed s k n t b a f then c

  pub row_blamed : (i : ℕ) {q : List ℕ} → Put o at (in_transition (text_at s n) (decimal i)) r₁ o₁
      → Put o₁ r₁ q r₂ o₂
      → Put o₂ r₂ (blame_text (blame_of s w)) r₃ o₃
      → RowForm k q
      → Put o at (saying_text k (saying_of s (line (Name n) (Number i) Blank Blank Blank w))) r₃ o₃
  unfolding saying_text saying_of shown RowForm
  row_blamed i a b c f = put_is (f (text_at s n) (decimal i)) (a then b) then c

  pub set_blamed : (i t : ℕ) {p q : List ℕ} → PutWithin o₁ r₁ p (text_at s t) q r₂ o₂
      → Put o at (in_transition (text_at s n) (decimal i)) r₁ o₁
      → Put o₂ r₂ (blame_text (blame_of s w)) r₃ o₃
      → SetForm k p q
      → Put o at (saying_text k (saying_of s (line (Name n) (Number i) (Name t) Blank Blank w))) r₃ o₃
  unfolding saying_text saying_of shown
  set_blamed i t b a c f = set_formed s k n t b i a f then c

-- what S says is what T says; and the site is k
puts_at : {S T : Option Said → Type 0} {s o o' : List ℕ} {site at r : ℕ} (k : ℕ) → site ≡ k → ((x : Option Said) → S x → T x) → PutsSaid S s k o at r o' → PutsSaid T s site o at r o'
puts_at k e f p = record { said = p.said; says = f p.said p.says; put = rw e p.put }

-- what is said of a first value, of an output of an error, and of a formula
module _ (s places names enums : List ℕ) (w : Result ⊤ Blame) {o o' : List ℕ} {i at r a : ℕ} where
  pub init_put : {x k name ty init : ℕ} {f : Option ℕ} {t : Typed} → x ≡ get_or places 7 0 → Picked max_list s x i f → f ≡ Some k → name ≡ after_head s k → Past s name ty → Past s ty init → Types (env_at s names enums) max_depth s init t → Untyped s t w → a ≡ get_or places 0 0
      → Put o at (saying_text 5 (saying_of s (line (Name a) (Name name) Blank Blank Blank w))) r o'
      → PutsSaid (Says (WithNames s places names enums) s (init_said i)) s 5 o at r o'
  init_put h c q l d e t u g p = record { said = _; says = init_said_lem s places h c q l g names enums d e t u refl; put = p }

  pub error_emit_put : {x state emits k : ℕ} {b : Bool} {f : Option ℕ} {outputs : List ℕ} → x ≡ get_or places 2 0 → b ≡ eqb (get_or s x 0) 246 → b ≡ false → state ≡ after_head s x → Past s state emits → Picked max_list s emits i f → f ≡ Some k → outputs ≡ outputs_in places → JudgesOutput (env_at s names enums) s k outputs w → a ≡ get_or places 0 0
      → Put o at (saying_text 17 (saying_of s (line (Name a) Blank Blank Blank Blank w))) r o'
      → PutsSaid (Says (WithNames s places names enums) s (error_emit_said i)) s 17 o at r o'
  error_emit_put h e z l d c q x j g p = record { said = _; says = error_emit_said_lem s places names enums h e z l d c q g x j refl; put = p }

  pub formula_put : (table : List ℕ) {b formula : ℕ} {fit : Fit} → a ≡ get_or places 0 0 → i < length table / 2 → b ≡ get_or table (2 * i) 0 → formula ≡ get_or table (2 * i + 1) 0 → TypesFormula (env_at s names enums) max_depth s formula fit → blame_of s w ≡ alone_blame (unfit_of s fit)
      → Put o at (saying_text 19 (saying_of s (line (Name a) (Name b) Blank Blank Blank w))) r o'
      → PutsSaid (Says (WithFormulas s places table names enums) s (formula_said i)) s 19 o at r o'
  formula_put table h l e f t u p = record { said = _; says = formula_said_lem s places table l h e names enums f t u refl; put = p }

-- sites 8, 9, 12 and 13, without the first
pub inside_site : {site : ℕ} → ((site ≡ 8 → ⊥) → (site ≡ 9 → ⊥) → (site ≡ 12 → ⊥) → site ≡ 13) → (site ≡ 8 → ⊥) → (site ≡ 9 → ⊥) → (site ≡ 12 → ⊥) → site ≡ 13
inside_site f = f

-- what is said of a guard, a value and an output
module _ (s places rows : List ℕ) (i : ℕ) (enums : List ℕ) {o o' : List ℕ} {at r : ℕ} where
  module _ (names : List ℕ) where
    pub guard_put : {x a : ℕ} {b : Bool} {d : Typed} {w : Result ⊤ Blame} → x ≡ field rows i 3 → b ≡ eqb (get_or s x 0) 246 → b ≡ false → Types (env_at s names enums) max_depth s x d → Untyped s d w → a ≡ get_or places 0 0
        → Put o at (saying_text 9 (saying_of s (line (Name a) (Number i) Blank Blank Blank w))) r o'
        → PutsSaid (SaysGuard s places rows i names enums) s 9 o at r o'
    guard_put h e q t u g p = record { said = _; says = guard_said_lem s places rows i names enums h e q t u g refl; put = p }

    pub value_put : (j : ℕ) {x k var value a : ℕ} {f : Option ℕ} {d : Typed} {w : Result ⊤ Blame} → x ≡ field rows i 6 → Picked max_list s x j f → f ≡ Some k → var ≡ after_head s k → Past s var value → Types (env_at s names enums) max_depth s value d → Untyped s d w → a ≡ get_or places 0 0
        → Put o at (saying_text 12 (saying_of s (line (Name a) (Number i) (Name var) Blank Blank w))) r o'
        → PutsSaid (SaysValue s places rows i names enums j) s 12 o at r o'
    value_put j h c q l d t u g p = record { said = _; says = value_said_lem s places rows i j h c names enums q l d t u g refl; put = p }

    pub emit_put : (j : ℕ) {x k a : ℕ} {f : Option ℕ} {outputs : List ℕ} {w : Result ⊤ Blame} → x ≡ field rows i 5 → Picked max_list s x j f → f ≡ Some k → outputs ≡ outputs_in places → JudgesOutput (env_at s names enums) s k outputs w → a ≡ get_or places 0 0
        → Put o at (saying_text 13 (saying_of s (line (Name a) (Number i) Blank Blank Blank w))) r o'
        → PutsSaid (SaysEmit s places rows i names enums j) s 13 o at r o'
    emit_put j h c q x e g p = record { said = _; says = emit_said_lem s places rows i j h c names enums q x e g refl; put = p }

    -- by site
    module _ (site j : ℕ) where
      pub puts_guard : site ≡ 9 → PutsSaid (SaysGuard s places rows i names enums) s 9 o at r o' → PutsSaid (SaysInside s places rows i names enums site j) s site o at r o'
      puts_guard e = puts_at 9 e λ x. inside_guard s places rows i names enums site j e

      pub puts_value : site ≡ 12 → PutsSaid (SaysValue s places rows i names enums j) s 12 o at r o' → PutsSaid (SaysInside s places rows i names enums site j) s site o at r o'
      puts_value e = puts_at 12 e λ x. inside_value s places rows i names enums site j e

      pub puts_emit : ((site ≡ 9 → ⊥) → (site ≡ 12 → ⊥) → site ≡ 13) → (site ≡ 9 → ⊥) → (site ≡ 12 → ⊥) → PutsSaid (SaysEmit s places rows i names enums j) s 13 o at r o' → PutsSaid (SaysInside s places rows i names enums site j) s site o at r o'
      puts_emit f a b = let e = f a b in puts_at 13 e λ x. inside_emit s places rows i names enums site j a (λ q. omega arith) b

  -- of a pattern, and by the names with those that it binds
  pub pattern_put : (table : List ℕ) {p : Judged} {table' : List ℕ} → JudgesOwn s places rows i table p table' → (j : ℕ) {a : ℕ} → a ≡ get_or places 0 0
      → Put o at (saying_text 8 (saying_of s (line (Name a) (Number i) Blank Blank Blank p.blame))) r o'
      → PutsSaid (SaysJudged s places rows i (take 829 table) enums 8 j) s 8 o at r o'
  pattern_put table g j h x = record { said = _; says = judged_pattern s places rows i table enums 8 j g refl (pattern_said_lem s places i h refl); put = x }

  module _ (vars : List ℕ) (site j : ℕ) where
    pub pattern_at : site ≡ 8
        → ((enums : List ℕ) (j : ℕ) → PutsSaid (SaysJudged s places rows i vars enums 8 j) s 8 o at r o')
        → PutsSaid (SaysJudged s places rows i vars enums site j) s site o at r o'
    pattern_at e p = rw e (p enums j)

    pub puts_seen : {table : List ℕ} {n : ℕ} → SeesNames s places rows i vars table n → (site ≡ 8 → ⊥)
        → PutsSaid (SaysInside s places rows i (take (n - 0) table) enums site j) s site o at r o'
        → PutsSaid (SaysJudged s places rows i vars enums site j) s site o at r o'
    puts_seen g n = puts_at site refl λ x. judged_seen s places rows i vars enums site j g n

-- of a transition that is there, what its row says
module _ (s places rows : List ℕ) (count : ℕ) (vars enums : List ℕ) (site i j : ℕ) (f : (site ≡ 8 → ⊥) → (site ≡ 9 → ⊥) → (site ≡ 12 → ⊥) → site ≡ 13) where
  apart : (site ≡ 8 → ⊥) → (site ≡ 9 → ⊥) → (site ≡ 12 → ⊥) → (site ≡ 13 → ⊥) → ⊥
  apart a b c d = d (f a b c)

  from_6 : 6 ≤ site
  from_6 = let n : site < 6 → ⊥ = λ l. apart (λ e. omega arith) (λ e. omega arith) (λ e. omega arith) (λ e. omega arith) in omega arith

  to_13 : site ≤ 13
  to_13 = let n : 13 < site → ⊥ = λ l. apart (λ e. omega arith) (λ e. omega arith) (λ e. omega arith) (λ e. omega arith) in omega arith

  pub judged_past : count ≤ i → Says (WithOwn s places rows count vars enums) s (saying site i j) None
  judged_past h = (own_past s places rows count vars enums site i j h).of from_6 to_13

  pub puts_judged : {o o' : List ℕ} {at r : ℕ} → i < count
      → PutsSaid (SaysJudged s places rows i vars enums site j) s site o at r o'
      → PutsSaid (Says (WithOwn s places rows count vars enums) s (saying site i j)) s site o at r o'
  puts_judged h = puts_at site refl λ x p.
      (own_judged s places rows count vars enums site i j h
      (λ q. apart (λ e. omega arith) (λ e. omega arith) (λ e. omega arith) (λ e. omega arith))
      (λ q. apart (λ e. omega arith) (λ e. omega arith) (λ e. omega arith) (λ e. omega arith))
      (λ q. apart (λ e. omega arith) (λ e. omega arith) (λ e. omega arith) (λ e. omega arith))
      p).of from_6 to_13
