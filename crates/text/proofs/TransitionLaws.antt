-- What is said of the states and the pattern of a transition, for whatever reads there.
use Rattle.std.specs.Prelude.{Option, Result, Ok, ⊤}
use Prim.Native.Nat.{ℕ}
use mathlib.Core.Path.{◌≡◌, refl}
use mathlib.Core.List.{List}
use lib.ListN.{get_or}
use Rattle.typing.specs.Means.{blame_of}
use Rattle.typing.specs.declared.cause.Blame.{Blame}
use Rattle.findings.specs.Scene.{field}
use Rattle.text.specs.Said.{shown, line}
use Rattle.text.specs.Says.{SaysState, SaysNext, SaysPattern}
use Rattle.text.specs.declared.said.Arg.TheVariants.{Blank, Name, Number}
use Rattle.text.specs.declared.said.Said.{Said}
use Rattle.text.proofs.LineLaws.{line_says, name_shown, module_shown}

pub pattern_said_lem : (s places : List ℕ) (i : ℕ) {w : Result ⊤ Blame} {a : ℕ} {r : Option Said} → a ≡ get_or places 0 0 → r ≡ line (Name a) (Number i) Blank Blank Blank w → SaysPattern s places i w r
unfolding shown
pattern_said_lem s places i f q = record { of = λ m t c b. line_says s q (module_shown s f c) refl refl refl refl b }

module _ (s places rows : List ℕ) (i : ℕ) where
  pub state_said_lem : {a k : ℕ} {r : Option Said} → k ≡ field rows i 1 → a ≡ get_or places 0 0 → r ≡ line (Name a) (Number i) (Name k) Blank Blank (Ok tt) → SaysState s places rows i r
  unfolding shown blame_of
  state_said_lem h f q = record { of = λ m t c w. line_says s q (module_shown s f c) refl (name_shown s h w.state_is) refl refl refl }

  pub next_said_lem : {a k : ℕ} {r : Option Said} → k ≡ field rows i 4 → a ≡ get_or places 0 0 → r ≡ line (Name a) (Number i) (Name k) Blank Blank (Ok tt) → SaysNext s places rows i r
  unfolding shown blame_of
  next_said_lem h f q = record { of = λ m t c w. line_says s q (module_shown s f c) refl (name_shown s h w.next_state_is) refl refl refl }
