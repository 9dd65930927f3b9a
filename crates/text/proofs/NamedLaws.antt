-- What is said of a module and one thing in it, as the definition says it.
use Rattle.std.specs.Prelude.{Option as Maybe, None, Some, Ok, Result, ⊤}
use Prim.Native.Nat.{ℕ}
use mathlib.Core.Path.{◌≡◌, refl, sym, ap, ◌∙◌}
use mathlib.Core.List.{List}
use mathlib.Core.Bool.{Bool, true, false}
use mathlib.Core.Option.{Option, some}
use lib.ListN.{get_or}
use lib.Dec.{eqb}
use Rattle.reading.specs.Read.{Reader}
use Rattle.reading.specs.Combine.{optional}
use Rattle.reading.specs.Text.{Name}
use Rattle.reading.specs.Module.{Module}
use Rattle.reading.specs.Skip.{text_at}
use Rattle.typing.specs.Causes as causes
use Rattle.typing.specs.Means.{blame_of}
use Rattle.typing.specs.declared.cause.Blame.{Blame}
use Rattle.findings.specs.Scene.{Reads, Scene}
use Rattle.findings.proofs.OptionLaws.{not_given, is_given}
use Rattle.text.specs.Message.{Saying, two, of_given, of_name}
use Rattle.text.specs.Said.{shown, saying_of, line}
use Rattle.text.specs.Says.{Entry}
use Rattle.text.specs.declared.said.Arg.{Arg}
use Rattle.text.specs.declared.said.Arg.TheVariants.{Blank, Name as NameAt}
use Rattle.text.specs.declared.said.Said.{Said}
use Rattle.text.proofs.LineLaws.{line_says, module_shown}
use Rattle.text.proofs.EntryReads.{entry_nothing, entry_given}

module _ (s places : List ℕ) (m : Module) (g : Scene s places m) {a : ℕ} (i : a ≡ get_or places 0 0) {r : Maybe Said} where
  -- the module's name, an argument and what is wrong
  pub two_said : {b : Arg} {w : Result ⊤ Blame} {x : List ℕ} {v : Option causes.Blame} → r ≡ line (NameAt a) b Blank Blank Blank w → shown s b ≡ x → blame_of s w ≡ v → saying_of s r ≡ some (two m.name x v)
  unfolding shown
  two_said q h j = line_says s q (module_shown s i g) h refl refl refl j

  -- a name, and nothing wrong with it
  pub name_said : {at : ℕ} {n : Name} → r ≡ line (NameAt a) (NameAt at) Blank Blank Blank (Ok tt) → text_at s at ≡ n → saying_of s r ≡ of_name m n
  unfolding shown blame_of
  name_said q h = two_said q h refl

-- what may be absent
module _ {A : Type 0} (F : Reader A) (s : List ℕ) (at : ℕ) {w : Option A} {t : Bool} (g : Reads (optional F) s at w) (e : t ≡ eqb (get_or s at 0) 246) (f : A → Option Saying) where
  pub absent_said : t ≡ true → saying_of s None ≡ of_given f w
  unfolding saying_of of_given
  absent_said q = rw (not_given F s at g e q)

  pub present_said : {y : Option Saying} → t ≡ false → ((x : A) → Reads F s at x → y ≡ f x) → y ≡ of_given f w
  unfolding of_given
  present_said q h = let v = is_given F s at g e q in h v.item v.reads ∙ ap (of_given f) (sym v.is)

-- what may be no entry of its list
module _ {A : Type 0} {F : Reader A} {s : List ℕ} {f : Maybe ℕ} {w : Option A} (g : Entry F s f w) (h : A → Option Saying) where
  pub missing_said : f ≡ None → saying_of s None ≡ of_given h w
  unfolding saying_of of_given
  missing_said q = rw (entry_nothing g q)

  pub entry_said : {k : ℕ} {y : Option Saying} → f ≡ Some k → ((x : A) → Reads F s k x → y ≡ h x) → y ≡ of_given h w
  unfolding of_given
  entry_said q e = let v = entry_given g q in e v.item v.reads ∙ ap (of_given h) (sym v.is)
