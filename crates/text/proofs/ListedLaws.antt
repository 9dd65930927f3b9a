-- What is said of a list's entry from its pieces: where it is, its name, and plain bytes around that.
use Rattle.std.specs.Prelude.{Option, Some, Ok}
use Prim.Native.Nat.{ℕ, ◌*◌, ◌/◌, ◌<◌}
use mathlib.Core.Path.{◌≡◌, refl, ap, sym, ◌∙◌}
use mathlib.Core.Bool.{true}
use mathlib.Core.List.{List, [], ◌∷◌, ◌++◌, append_assoc}
use lib.ListN.{length, get_or}
use Rattle.reading.specs.Limits.{max_list}
use Rattle.reading.specs.Skip.{text_at}
use Rattle.typing.specs.Table.{after_head, after_tag}
use Rattle.findings.specs.Scene.{Scene, field}
use Rattle.text.specs.Form.{text, format, plain}
use Rattle.text.specs.Shown.{decimal}
use Rattle.text.specs.Put.{Put}
use Rattle.text.specs.Pieces.{in_module, in_transition, PutWithin, RowForm, EntryForm, SetForm}
use Rattle.text.specs.Message.{site_form, saying_text, set_said, claim_said, event_said, var_said}
use Rattle.text.specs.Said.{saying_of, line}
use Rattle.text.specs.Says.{Picked, VariantsOf, WithRows, WithClaims, Says, SaysSet, PutsSaid}
use Rattle.text.specs.declared.said.Arg.TheVariants.{Blank, Name, Number}
use Rattle.text.proofs.PutLaws.{put_is, ◌then◌}
use Rattle.text.proofs.PieceLaws.{format_arg, format_end}
use Rattle.text.proofs.ClaimLaws.{claim_said_lem}
use Rattle.text.proofs.ForeLaws.{var_said_lem}
use Rattle.text.proofs.VariantLaws.{event_said_lem}
use Rattle.text.proofs.SetLaws.{set_said_lem}
use Rattle.text.proofs.SayLaws.{set_there}

-- an argument with p before it and q behind it
abbrev pub around : List ℕ → List ℕ → List ℕ
around p q = p ++ (text "{}" ++ q)

pub around_is : (p a q : List ℕ) (as' : List (List ℕ)) → plain p ≡ true → plain q ≡ true → format (around p q) (a ∷ as') ≡ p ++ a ++ q
around_is p a q as' g l = format_arg p q a as' g ∙ ap (λ (x : List ℕ). p ++ (a ++ x)) (format_end q as' l) ∙ sym (append_assoc p a q)

pub in_module_lem : (n f : List ℕ) (as' : List (List ℕ)) → format (text "module '{}" ++ f) (n ∷ as') ≡ in_module n ++ format f as'
unfolding in_module
in_module_lem n f as' = format_arg (text "module '") f n as' refl ∙ sym (append_assoc (text "module '") n (format f as'))

joined : (h p a f : List ℕ) → h ++ (p ++ (a ++ f)) ≡ h ++ p ++ a ++ f
joined h p a f = simp append_assoc

in_transition_lem : (n i f : List ℕ) (as' : List (List ℕ)) → format (text "module '{}' transition #{}" ++ f) (n ∷ i ∷ as') ≡ in_transition n i ++ format f as'
unfolding in_transition
in_transition_lem n i f as' =
    in_module_lem n (text "' transition #{}" ++ f) (i ∷ as')
    ∙ ap (λ (x : List ℕ). in_module n ++ x) (format_arg (text "' transition #") f i as' refl)
    ∙ joined (in_module n) (text "' transition #") i (format f as')

-- a form that tells a transition, and one that tells a module and an entry's name
pub row_form : (k : ℕ) (q : List ℕ) → site_form k ≡ text "module '{}' transition #{}" ++ q → plain q ≡ true → RowForm k q
unfolding RowForm
row_form k q u g n i =
    ap (λ (f : List ℕ). format f (n ∷ i ∷ [] ∷ [] ∷ [] ∷ [])) u
    ∙ in_transition_lem n i q ([] ∷ [] ∷ [] ∷ [])
    ∙ ap (λ (x : List ℕ). in_transition n i ++ x) (format_end q ([] ∷ [] ∷ [] ∷ []) g)

pub entry_form : (k : ℕ) (p q : List ℕ) → site_form k ≡ text "module '{}" ++ around p q → plain p ≡ true → plain q ≡ true → EntryForm k p q
unfolding EntryForm
entry_form k p q u g l n t =
    ap (λ (f : List ℕ). format f (n ∷ t ∷ [] ∷ [] ∷ [] ∷ [])) u
    ∙ in_module_lem n (around p q) (t ∷ [] ∷ [] ∷ [] ∷ [])
    ∙ ap (λ (x : List ℕ). in_module n ++ x) (around_is p t q ([] ∷ [] ∷ [] ∷ []) g l)

pub set_form : (k : ℕ) (p q : List ℕ) → site_form k ≡ text "module '{}' transition #{}" ++ around p q → plain p ≡ true → plain q ≡ true → SetForm k p q
unfolding SetForm
set_form k p q u g l n i t =
    ap (λ (f : List ℕ). format f (n ∷ i ∷ t ∷ [] ∷ [] ∷ [])) u
    ∙ in_transition_lem n i (around p q) (t ∷ [] ∷ [] ∷ [])
    ∙ ap (λ (x : List ℕ). in_transition n i ++ x) (around_is p t q ([] ∷ [] ∷ []) g l)

-- an entry's message is put in two pieces
module _ (s : List ℕ) (k n t : ℕ) {o o₁ o₂ p q : List ℕ} {at r₁ r₂ : ℕ} (b : PutWithin o₁ r₁ p (text_at s t) q r₂ o₂) where
  pub entry_formed : Put o at (in_module (text_at s n)) r₁ o₁
      → EntryForm k p q
      → Put o at (format (site_form k) (text_at s n ∷ text_at s t ∷ [] ∷ [] ∷ [] ∷ [])) r₂ o₂
  unfolding EntryForm
  entry_formed a f = put_is (f (text_at s n) (text_at s t)) (a then b.put)

  pub set_formed : (i : ℕ) → Put o at (in_transition (text_at s n) (decimal i)) r₁ o₁
      → SetForm k p q
      → Put o at (format (site_form k) (text_at s n ∷ decimal i ∷ text_at s t ∷ [] ∷ [] ∷ [])) r₂ o₂
  unfolding SetForm
  set_formed i a f = put_is (f (text_at s n) (decimal i) (text_at s t)) (a then b.put)

-- what is said of an entry by the tables of its module
module _ (s places o o' : List ℕ) (at r a b : ℕ) where
  abbrev Told : ℕ → Type 0
  Told k = Put o at (saying_text k (saying_of s (line (Name a) (Name b) Blank Blank Blank (Ok tt)))) r o'

  pub claim_put : (table : List ℕ) {i : ℕ} → a ≡ get_or places 0 0 → i < length table / 2 → b ≡ get_or table (2 * i) 0 → Told 18 → PutsSaid (Says (WithClaims s places table) s (claim_said i)) s 18 o at r o'
  claim_put table h l e p = record { said = _; says = claim_said_lem s places table l h e refl; put = p }

  pub event_put : {i at' j k : ℕ} {group f : Option ℕ} → a ≡ get_or places 0 0 → VariantsOf places i group → group ≡ Some at' → Picked max_list s at' j f → f ≡ Some k → b ≡ after_tag s k → Told 22 → PutsSaid (Says (Scene s places) s (event_said i j)) s 22 o at r o'
  event_put h v e c q t p = record { said = _; says = event_said_lem s places v e c q h t refl; put = p }

  pub var_put : {x i k : ℕ} {f : Option ℕ} → a ≡ get_or places 0 0 → x ≡ get_or places 7 0 → Picked max_list s x i f → f ≡ Some k → b ≡ after_head s k → Told 23 → PutsSaid (Says (Scene s places) s (var_said i)) s 23 o at r o'
  var_put h e c q t p = record { said = _; says = var_said_lem s places e c q t h refl; put = p }

  pub set_put : (rows : List ℕ) {x i j k : ℕ} {f : Option ℕ} → a ≡ get_or places 0 0 → x ≡ field rows i 6 → Picked max_list s x j f → f ≡ Some k → b ≡ after_head s k
      → Put o at (saying_text 11 (saying_of s (line (Name a) (Number i) (Name b) Blank Blank (Ok tt)))) r o'
      → PutsSaid (SaysSet s places rows i j) s 11 o at r o'
  set_put rows h e c q t p = record { said = _; says = set_said_lem s places rows _ _ e c q t h refl; put = p }

-- of a transition that is there, what its row says
pub puts_set : (s places rows : List ℕ) (count i j : ℕ) {o o' : List ℕ} {site at r : ℕ} → i < count
    → PutsSaid (SaysSet s places rows i j) s site o at r o' → PutsSaid (Says (WithRows s places rows count) s (set_said i j)) s site o at r o'
puts_set s places rows count i j h p = record { said = p.said; says = set_there s places rows count i h j p.says; put = p.put }
