-- What is said of a cause from its pieces: the arguments of its form, and plain bytes around them.
use Prim.Native.Nat.{ℕ}
use mathlib.Core.Path.{◌≡◌, refl, ap, ◌∙◌}
use mathlib.Core.Bool.{true}
use mathlib.Core.List.{List, [], ◌∷◌, ◌++◌, append_assoc, append-nil}
use Rattle.typing.specs.Means.{cause_of}
use Rattle.typing.specs.declared.cause.Cause.{Cause}
use Rattle.text.specs.Form.{format, plain}
use Rattle.text.specs.Put.{Put}
use Rattle.text.specs.Pieces.{PutWithin, PutTwo, PutThree}
use Rattle.text.specs.CauseText.{cause_text}
use Rattle.text.proofs.PutLaws.{put_is, ◌then◌}
use Rattle.text.proofs.PieceLaws.{format_plain, format_arg, format_end}
use Rattle.text.proofs.ListedLaws.{around, around_is}

-- an argument between two texts
pub within : {o o₁ o₂ o₃ p a q : List ℕ} {at r₁ r₂ r₃ : ℕ} → Put o at p r₁ o₁ → Put o₁ r₁ a r₂ o₂ → Put o₂ r₂ q r₃ o₃ → PutWithin o at p a q r₃ o₃
within b c d = record { put = b then c then d }

joined : (p a q x : List ℕ) → p ++ (a ++ (q ++ x)) ≡ p ++ a ++ q ++ x
joined p a q x = simp append_assoc

module _ (f : List ℕ) {o o₁ p a q : List ℕ} {at r₁ : ℕ} (b : PutWithin o at p a q r₁ o₁) where
  -- a form's first argument with bytes around it, and then the rest
  ahead : (g : List ℕ) (as' : List (List ℕ)) {o₂ : List ℕ} {r₂ : ℕ} → Put o₁ r₁ (format g as') r₂ o₂
      → f ≡ around p (q ++ g)
      → plain p ≡ true
      → plain q ≡ true
      → Put o at (format f (a ∷ as')) r₂ o₂
  ahead g as' c u h l =
      put_is (
      ap (λ (x : List ℕ). format x (a ∷ as')) u
      ∙ format_arg p (q ++ g) a as' h
      ∙ ap (λ (x : List ℕ). p ++ (a ++ x)) (format_plain q g as' l)
      ∙ joined p a q (format g as'))
      (b.put then c)

  -- a form of one argument, of two, and one that ends with its third
  pub one_told : f ≡ around p q → plain p ≡ true → plain q ≡ true → Put o at (format f (a ∷ [])) r₁ o₁
  one_told u h l = put_is (ap (λ (x : List ℕ). format x (a ∷ [])) u ∙ around_is p a q [] h l) b.put

  pub two_told : (d t : List ℕ) {o₂ : List ℕ} {r₂ : ℕ} → Put o₁ r₁ (d ++ t) r₂ o₂
      → f ≡ around p (around q t)
      → plain p ≡ true
      → plain q ≡ true
      → plain t ≡ true
      → Put o at (format f (a ∷ d ∷ [])) r₂ o₂
  two_told d t c u h l m = ahead (around [] t) (d ∷ []) (put_is (around_is [] d t [] refl m) c) u h l

-- by the cause's case
pub cause_told : (s : List ℕ) {o o' : List ℕ} {at r : ℕ} {c k : Cause} → c ≡ k → Put o at (cause_text (cause_of s k)) r o' → Put o at (cause_text (cause_of s c)) r o'
cause_told s e p = rw e p

-- by the cause's case: a name with bytes around it, two arguments, and three
module _ (s : List ℕ) {o o' p a q : List ℕ} {at r : ℕ} {c k : Cause} (e : c ≡ k) where
  pub name_told : PutWithin o at p a q r o'
      → cause_text (cause_of s k) ≡ format (around p q) (a ∷ [])
      → plain p ≡ true
      → plain q ≡ true
      → Put o at (cause_text (cause_of s c)) r o'
  name_told b u h l = rw (e, u, around_is p a q [] h l) b.put

  pub pair_told : {d t : List ℕ} → PutTwo o at p a q d t r o'
      → cause_text (cause_of s k) ≡ format (around p (around q t)) (a ∷ d ∷ [])
      → plain p ≡ true
      → plain q ≡ true
      → plain t ≡ true
      → Put o at (cause_text (cause_of s c)) r o'
  pair_told {d} {t} b u h l m =
      rw (e, u) (put_is (
      format_arg p (around q t) a (d ∷ []) h
      ∙ ap (λ (x : List ℕ). p ++ (a ++ x)) (format_arg q t d [] l ∙ ap (λ (x : List ℕ). q ++ (d ++ x)) (format_end t [] m))
      ∙ simp append_assoc)
      b.put)

  pub trio_told : {d t g : List ℕ} → PutThree o at p a q d t g r o'
      → cause_text (cause_of s k) ≡ format (around p (around q (around t []))) (a ∷ d ∷ g ∷ [])
      → plain p ≡ true
      → plain q ≡ true
      → plain t ≡ true
      → Put o at (cause_text (cause_of s c)) r o'
  trio_told {d} {t} {g} b u h l m =
      rw (e, u) (put_is (
      format_arg p (around q (around t [])) a (d ∷ g ∷ []) h
      ∙ ap (λ (x : List ℕ). p ++ (a ++ x)) (
      format_arg q (around t []) d (g ∷ []) l
      ∙ ap (λ (x : List ℕ). q ++ (d ++ x)) (around_is t g [] [] m refl))
      ∙ simp (append_assoc, append-nil))
      b.put)
