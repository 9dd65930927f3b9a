-- An option that reads: absent where null stands.
use Prim.Native.Nat.{ℕ}
use mathlib.Core.Path.{◌≡◌, refl}
use mathlib.Core.List.{List}
use mathlib.Core.Bool.{Bool, true, false}
use mathlib.Core.Option.{Option, none, some}
use lib.ListN.{get_or}
use lib.Dec.{eqb}
use borrow.Author.Tests.{eqb-true, eqb-false}
use Rattle.reading.specs.Read.{Reader}
use Rattle.reading.specs.Combine.{optional}
use Rattle.reading.specs.Views.{OptionAt, absent, present}
use Rattle.reading.proofs.ListViews.{option_at}
use Rattle.findings.specs.Scene.{Reads}

-- what is there
pub record Given {A : Type 0} (F : Reader A) (s : List ℕ) (at : ℕ) (w : Option A) : Type 0 where
  pub item : A
  pub reads : Reads F s at item
  pub is : w ≡ some item

module _ {A : Type 0} (F : Reader A) (s : List ℕ) (at : ℕ) {w : Option A} {t : Bool} (g : Reads (optional F) s at w) (e : t ≡ eqb (get_or s at 0) 246) where
  pub not_given : t ≡ true → w ≡ none
  not_given q = go (option_at F s at w g.end g.is)
    where
      go : {v : Option A} {n : ℕ} → OptionAt F s at v n → v ≡ none
      go (absent p z) = refl
      go (present p z) = absurd (p (eqb-true _ _ (let u : eqb (get_or s at 0) 246 ≡ true = cc in u)))

  pub is_given : t ≡ false → Given F s at w
  is_given q = go (option_at F s at w g.end g.is)
    where
      go : {v : Option A} {n : ℕ} → OptionAt F s at v n → Given F s at v
      go (absent p z) = absurd (eqb-false _ _ (let u : eqb (get_or s at 0) 246 ≡ false = cc in u) p)
      go {n = n} (present {x = x} p z) = record { item = x; reads = record { end = n; is = z }; is = refl }
