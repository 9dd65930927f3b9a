-- An item that reads is passed as so many items; and a string that reads is the part of the document that is handed out.
use Prim.Native.Nat.{ℕ, suc, ◌-◌, ◌≤◌}
use mathlib.Core.Path.{◌≡◌}
use mathlib.Core.List.{List}
use native.Mathlib.Omega.{arith}
use lib.ListN.{length}
use borrow.Author.Tests.{le-ltb}
use Rattle.reading.specs.Read.{Reader, ok}
use Rattle.reading.specs.Text.{Name, read_name, read_version}
use Rattle.reading.specs.Skip.{skip_items, span_of, text_at}
use Rattle.reading.specs.Views.{StringAt}
use Rattle.reading.proofs.Rules.{pick_false}
use Rattle.reading.proofs.Gives.{Gives}
use Rattle.reading.proofs.HeadSound.{Bytes}
use Rattle.reading.proofs.Formats.{Laws, item_sound}
use Rattle.reading.proofs.Skips.{items_passed}
use Rattle.reading.proofs.ListViews.{name_at_lem, version_at}

pub passed : {A : Type 0} {read : Reader A} {enc : A → List ℕ} {Within : A → Type 0} {k : ℕ} {D : List ℕ → ℕ → Type 0} → Laws read enc Within (suc k) D → (s : List ℕ) → Bytes s → (at : ℕ) → Gives (λ _ n. skip_items (suc k) s at ≡ ok tt n) (read s at)
passed L s B at x n e = items_passed (L.items s at x n e) (item_sound L s B at x n e).there.fits

string_text : {s : List ℕ} {at : ℕ} {w : Name} {n : ℕ} → StringAt s at w n → text_at s at ≡ w
unfolding text_at span_of
string_text {s} {at} {w} {n} h =
    let l : length w ≤ length s - h.from = omega (arith, h.end, h.fits) in
    rw (h.head, le-ltb (length s - h.from) (length w) l, pick_false, h.part)

pub name_text : (s : List ℕ) (at : ℕ) → Gives (λ w _. text_at s at ≡ w) (read_name s at)
name_text s at w n e = string_text (name_at_lem s at w n e)

pub version_text : (s : List ℕ) (at : ℕ) → Gives (λ w _. text_at s at ≡ w) (read_version s at)
version_text s at w n e = string_text (version_at s at w n e)
