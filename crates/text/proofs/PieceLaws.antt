-- The form of two transitions from its pieces, and what is said of them by it.
use Rattle.std.specs.Prelude.{Option, None, Ok}
use Prim.Native.Nat.{ℕ, ◌<◌}
use mathlib.Core.Path.{◌≡◌, refl, sym, ap, ◌∙◌}
use mathlib.Core.Bool.{Bool, true, false, cond}
use lib.Dec.{eqb}
use mathlib.Core.List.{List, [], ◌∷◌, ◌++◌, append_assoc, append-nil}
use lib.ListN.{get_or}
use Rattle.reading.specs.Skip.{text_at}
use Rattle.typing.specs.Means.{blame_of}
use Rattle.findings.specs.Scene.{field}
use Rattle.text.specs.Form.{text, format, plain, next, rest}
use Rattle.text.specs.Shown.{decimal}
use Rattle.text.specs.Put.{Put}
use Rattle.text.specs.Pieces.{in_state, in_priority, PutTwo}
use Rattle.text.specs.CauseText.{blame_text}
use Rattle.text.specs.Message.{site_form, saying_text, pair_said, priority_said}
use Rattle.text.specs.Said.{shown, saying_of, line}
use Rattle.text.specs.Says.{NumberAt, WithRows, Says, SaysPair, SaysPriority, PutsSaid}
use Rattle.text.specs.declared.said.Arg.TheVariants.{Blank, Name, Number}
use Rattle.text.specs.declared.said.Said.{Said}
use Rattle.text.proofs.PutLaws.{put_is, put_none, ◌then◌}
use Rattle.text.proofs.FormLaws.{never}
use Rattle.text.proofs.PairLaws.{pair_said_lem, priority_absent, priority_said_lem}
use Rattle.text.proofs.SayLaws.{pair_there, priority_there}

neither : {A : Type 0} (a b c : Bool) (x y z : A) → cond a false (cond b false c) ≡ true → (cond a x (cond b y z) ≡ z) × (c ≡ true)
neither true b c x y z h = never h
neither false true c x y z h = never h
neither false false c x y z h = (refl, h)

pub format_plain : (p f : List ℕ) (as' : List (List ℕ)) → plain p ≡ true → format (p ++ f) as' ≡ p ++ format f as'
unfolding format
format_plain [] f as' h = refl
format_plain (c ∷ p) f as' h =
    let e = neither (eqb c 123) (eqb c 125) (plain p) (next as' ++ format (p ++ f) (rest as')) (format (p ++ f) as') (c ∷ format (p ++ f) as') h in
    e.0 ∙ ap (λ (x : List ℕ). c ∷ x) (format_plain p f as' e.1)

pub format_end : (p : List ℕ) (as' : List (List ℕ)) → plain p ≡ true → format p as' ≡ p
unfolding format
format_end p as' h = ap (λ (x : List ℕ). format x as') (sym (append-nil p)) ∙ format_plain p [] as' h ∙ append-nil p

-- a piece up to an argument
pub format_arg : (p f a : List ℕ) (as' : List (List ℕ)) → plain p ≡ true → format (p ++ (123 ∷ 125 ∷ f)) (a ∷ as') ≡ p ++ (a ++ format f as')
unfolding format
format_arg p f a as' h = format_plain p (123 ∷ 125 ∷ f) (a ∷ as') h

-- the ids of two transitions, with p before them and q after them
abbrev ids : List ℕ → List ℕ → List ℕ
ids p q = p ++ (text "{} and #{}" ++ q)

ids_are : (i j p q : List ℕ) (as' : List (List ℕ)) → plain p ≡ true → plain q ≡ true → format (ids p q) (i ∷ j ∷ as') ≡ p ++ (i ++ (text " and #" ++ (j ++ q)))
ids_are i j p q as' g h =
    format_arg p (text " and #{}" ++ q) i (j ∷ as') g
    ∙ ap (λ (x : List ℕ). p ++ (i ++ x)) (
    format_arg (text " and #") q j as' refl ∙ ap (λ (x : List ℕ). text " and #" ++ (j ++ x)) (format_end q as' h))

appended : (m n k t p i a j q : List ℕ) → m ++ (n ++ (k ++ (t ++ (p ++ (i ++ (a ++ (j ++ q))))))) ≡ m ++ n ++ k ++ t ++ (p ++ i ++ a ++ j ++ q)
appended m n k t p i a j q = simp append_assoc

in_state_lem : (n t f : List ℕ) (as' : List (List ℕ)) → format (text "module '{}' state '{}" ++ f) (n ∷ t ∷ as') ≡ text "module '" ++ (n ++ (text "' state '" ++ (t ++ format f as')))
in_state_lem n t f as' =
    format_arg (text "module '") (text "' state '{}" ++ f) n (t ∷ as') refl
    ∙ ap (λ (x : List ℕ). text "module '" ++ (n ++ x)) (format_arg (text "' state '") f t as' refl)

-- the form of two transitions; and of two that have a priority
abbrev pub formed : List ℕ → List ℕ → List ℕ
formed p q = text "module '{}' state '{}" ++ ids p q

abbrev pub ranked : List ℕ → List ℕ → List ℕ
ranked p q = text "module '{}' state '{}" ++ (text "': duplicate priority {}" ++ ids p q)

formed_is : (n t i j p q : List ℕ) → plain p ≡ true → plain q ≡ true
    → format (formed p q) (n ∷ t ∷ i ∷ j ∷ [] ∷ []) ≡ in_state n t ++ (p ++ i ++ text " and #" ++ j ++ q)
unfolding in_state
formed_is n t i j p q g h =
    in_state_lem n t (ids p q) (i ∷ j ∷ [] ∷ [])
    ∙ ap (λ (x : List ℕ). text "module '" ++ (n ++ (text "' state '" ++ (t ++ x)))) (ids_are i j p q ([] ∷ []) g h)
    ∙ appended (text "module '") n (text "' state '") t p i (text " and #") j q

prepended : (m n k t d r p i a j q : List ℕ) → m ++ (n ++ (k ++ (t ++ (d ++ (r ++ (p ++ (i ++ (a ++ (j ++ q))))))))) ≡ m ++ n ++ k ++ t ++ d ++ r ++ (p ++ i ++ a ++ j ++ q)
prepended m n k t d r p i a j q = simp append_assoc

ranked_is : (n t r i j p q : List ℕ) → plain p ≡ true → plain q ≡ true
    → format (ranked p q) (n ∷ t ∷ r ∷ i ∷ j ∷ []) ≡ in_priority n t r ++ (p ++ i ++ text " and #" ++ j ++ q)
unfolding in_state in_priority
ranked_is n t r i j p q g h =
    in_state_lem n t (text "': duplicate priority {}" ++ ids p q) (r ∷ i ∷ j ∷ [])
    ∙ ap (λ (x : List ℕ). text "module '" ++ (n ++ (text "' state '" ++ (t ++ x)))) (
    format_arg (text "': duplicate priority ") (ids p q) r (i ∷ j ∷ []) refl
    ∙ ap (λ (x : List ℕ). text "': duplicate priority " ++ (r ++ x)) (ids_are i j p q [] g h))
    ∙ prepended (text "module '") n (text "' state '") t (text "': duplicate priority ") r p i (text " and #") j q

pub form_put : (f n t i j : List ℕ) {o o₁ o₂ p q : List ℕ} {at r₁ r₂ : ℕ}
    → Put o at (in_state n t) r₁ o₁
    → PutTwo o₁ r₁ p i (text " and #") j q r₂ o₂
    → f ≡ formed p q
    → plain p ≡ true
    → plain q ≡ true
    → Put o at (format f (n ∷ t ∷ i ∷ j ∷ [] ∷ [])) r₂ o₂
form_put f n t i j {p = p} {q = q} a b e g h =
    put_is (ap (λ (x : List ℕ). format x (n ∷ t ∷ i ∷ j ∷ [] ∷ [])) e ∙ formed_is n t i j p q g h) (a then b.put)

pub rank_put : (f n t k i j : List ℕ) {o o₁ o₂ p q : List ℕ} {at r₁ r₂ : ℕ}
    → Put o at (in_priority n t k) r₁ o₁
    → PutTwo o₁ r₁ p i (text " and #") j q r₂ o₂
    → f ≡ ranked p q
    → plain p ≡ true
    → plain q ≡ true
    → Put o at (format f (n ∷ t ∷ k ∷ i ∷ j ∷ [])) r₂ o₂
rank_put f n t k i j {p = p} {q = q} a b e g h =
    put_is (ap (λ (x : List ℕ). format x (n ∷ t ∷ k ∷ i ∷ j ∷ [])) e ∙ ranked_is n t k i j p q g h) (a then b.put)

-- nothing said
pub puts_none : {S : Option Said → Type 0} {s o : List ℕ} {site at : ℕ} → S None → PutsSaid S s site o at at o
unfolding saying_text saying_of
puts_none p = record { said = None; says = p; put = put_none refl }

-- what is said of a priority
module _ (s o o' : List ℕ) (at r n t k i j : ℕ) where
  abbrev ToldRank : Type 0
  ToldRank = Put o at (saying_text 14 (saying_of s (line (Name n) (Name t) (Number k) (Number i) (Number j) (Ok tt)))) r o'

  pub told_rank : Put o at (format (site_form 14) (text_at s n ∷ text_at s t ∷ decimal k ∷ decimal i ∷ decimal j ∷ [])) r o' → ToldRank
  unfolding saying_text saying_of shown blame_of blame_text
  told_rank p = put_is (append-nil _) p

  module _ {places rows : List ℕ} {x y z : ℕ} (e : z ≡ field rows x 7) {b : Bool} (u : b ≡ eqb (get_or s z 0) 246) where
    pub rank_none : b ≡ true → PutsSaid (SaysPriority s places rows x y) s 14 o at at o
    rank_none q = puts_none (priority_absent s places rows x y e u q)

    pub rank_said : {h l : ℕ} → b ≡ false → NumberAt s z k → h ≡ field rows x 0 → NumberAt s h i → l ≡ field rows y 0 → NumberAt s l j → n ≡ get_or places 0 0 → t ≡ field rows x 1 → ToldRank → PutsSaid (SaysPriority s places rows x y) s 14 o at r o'
    rank_said q d h g h₁ g₁ f f₁ p = record { said = _; says = priority_said_lem s places rows x y e u q d h g h₁ g₁ f f₁; put = p }

-- what is said of two transitions
module _ (s o o' : List ℕ) (site at r n t i j : ℕ) where
  abbrev Formed : ℕ → Type 0
  Formed k = Put o at (format (site_form k) (text_at s n ∷ text_at s t ∷ decimal i ∷ decimal j ∷ [] ∷ [])) r o'

  abbrev Told : Type 0
  Told = Put o at (saying_text site (saying_of s (line (Name n) (Name t) (Number i) (Number j) Blank (Ok tt)))) r o'

  told : (k : ℕ) → site ≡ k → Formed k → Told
  unfolding saying_text saying_of shown blame_of blame_text
  told k e p = put_is (rw e (append-nil _)) p

  pub told_first : site ≡ 15 → Formed 15 → Told
  told_first e p = told 15 e p

  pub told_second : ((site ≡ 15 → ⊥) → site ≡ 24) → (site ≡ 15 → ⊥) → Formed 24 → Told
  told_second f e p = told 24 (f e) p

  pub pair_put : {places rows : List ℕ} {x y k l : ℕ} → k ≡ field rows x 0 → NumberAt s k i → l ≡ field rows y 0 → NumberAt s l j → n ≡ get_or places 0 0 → t ≡ field rows x 1 → Told → PutsSaid (SaysPair s places rows x y) s site o at r o'
  pair_put h g h₁ g₁ f f₁ p = record { said = _; says = pair_said_lem s _ _ _ _ h g h₁ g₁ f f₁; put = p }

-- of two transitions that are there, what their rows say
pub puts_pair : (s places rows : List ℕ) (count i j : ℕ) {o o' : List ℕ} {site at r : ℕ} → i < count → j < count
    → PutsSaid (SaysPair s places rows i j) s site o at r o' → PutsSaid (Says (WithRows s places rows count) s (pair_said i j)) s site o at r o'
puts_pair s places rows count i j h l p = record { said = p.said; says = pair_there s places rows count i h j l p.says; put = p.put }

pub puts_priority : (s places rows : List ℕ) (count i j : ℕ) {o o' : List ℕ} {site at r : ℕ} → i < count → j < count
    → PutsSaid (SaysPriority s places rows i j) s site o at r o' → PutsSaid (Says (WithRows s places rows count) s (priority_said i j)) s site o at r o'
puts_priority s places rows count i j h l p = record { said = p.said; says = priority_there s places rows count i h j l p.says; put = p.put }
