-- What a line says, argument by argument, for whatever reads where its names and numbers stand.
use Rattle.std.specs.Prelude.{Option as Maybe, ⊤, Result, Ok, Err}
use Prim.Native.Nat.{ℕ, ◌≤◌}
use mathlib.Core.Path.{◌≡◌, ap, ◌∙◌}
use mathlib.Core.List.{List}
use mathlib.Core.Bool.{Bool, true, false}
use mathlib.Core.Option.{Option, none, some}
use native.Mathlib.Omega.{arith}
use lib.ListN.{get_or}
use lib.Dec.{eqb}
use borrow.Author.Tests.{le-ltb}
use Rattle.reading.specs.Read.{Reader, ok}
use Rattle.reading.specs.Limits.{max_u64}
use Rattle.reading.specs.Item.{read_number}
use Rattle.reading.specs.Text.{Name as Text, read_name}
use Rattle.reading.specs.Skip.{text_at}
use Rattle.reading.specs.Link.{answer}
use Rattle.reading.specs.Module.{Module}
use Rattle.reading.specs.Transition.{Transition, read_top_expr}
use Rattle.reading.specs.declared.cursor.Cursor.{Cursor}
use Rattle.reading.proofs.Rules.{no, bind_ok, pick_false}
use Rattle.reading.proofs.Answers.{got, out}
use Rattle.reading.proofs.ItemLaws.{number_kind}
use Rattle.reading.proofs.Walks.{name_text}
use Rattle.typing.specs.Causes as causes
use Rattle.typing.specs.Means.{blame_of}
use Rattle.typing.specs.declared.cause.Blame.{Blame}
use Rattle.findings.specs.Scene.{Reads, Scene, RowAt, field}
use Rattle.findings.proofs.OptionLaws.{Given, not_given, is_given}
use Rattle.text.specs.Shown.{decimal}
use Rattle.text.specs.Message.{five}
use Rattle.text.specs.Said.{shown, saying_of, line}
use Rattle.text.specs.Says.{NumberAt}
use Rattle.text.specs.declared.said.Arg.{Arg}
use Rattle.text.specs.declared.said.Arg.TheVariants.{Name, Number}
use Rattle.text.specs.declared.said.Said.{Said}
-- what reads at a place that is known
use Rattle.reading.specs.declared.fault.Refusal.{Refusal}

pub reads_there : {A : Type 0} {F : Reader A} {s : List ℕ} {k k' : ℕ} {x : A} {m : ℕ} → k ≡ k' → F s k' ≡ ok x m → Reads F s k x
reads_there {F} {s} {m} h e = record { end = m; is = ap (F s) h ∙ e }

module _ (s : List ℕ) where
  pub line_says : {r : Maybe Said} {a b c d e : Arg} {w : Result ⊤ Blame} {a' b' c' d' e' : List ℕ} {w' : Option causes.Blame} → r ≡ line a b c d e w → shown s a ≡ a' → shown s b ≡ b' → shown s c ≡ c' → shown s d ≡ d' → shown s e ≡ e' → blame_of s w ≡ w' → saying_of s r ≡ some (five a' b' c' d' e' w')
  unfolding saying_of
  line_says q a b c d e w = ap (saying_of s) q ∙ (λ i. some (five (a i) (b i) (c i) (d i) (e i) (w i)))

  -- the name at a place that is known; and that of the module
  pub name_shown : {k k' : ℕ} {w : Text} {n : ℕ} → k ≡ k' → read_name s k' ≡ ok w n → shown s (Name k) ≡ w
  unfolding shown
  name_shown {k'} {w} {n} h e = ap (text_at s) h ∙ name_text s k' w n e

  pub module_shown : {places : List ℕ} {k : ℕ} {m : Module} → k ≡ get_or places 0 0 → Scene s places m → shown s (Name k) ≡ m.name
  module_shown h y = name_shown h y.name_is.is

  -- the number there
  pub number_shown : {k k' most v n r : ℕ} → k ≡ k' → NumberAt s k r → most ≤ max_u64 → read_number most s k' ≡ ok v n → shown s (Number r) ≡ decimal v
  unfolding shown
  number_shown {most} {v} {n} h g l e = ap decimal (g.of most v n l (ap (read_number most s) h ∙ e))

  number_wider : (at most v n : ℕ) → most ≤ max_u64 → read_number most s at ≡ ok v n → read_number max_u64 s at ≡ ok v n
  unfolding read_number
  number_wider at most v n l e = let z = number_kind s at most v n e in rw (z.0, bind_ok, le-ltb max_u64 v (omega (arith, z.1)), pick_false)

  module _ {at : ℕ} {a : Result (ℕ × Cursor) Refusal} (e : a ≡ answer (read_number max_u64 s at)) where
    pub number_got : {v : ℕ} {c : Cursor} → a ≡ Ok (v, c) → NumberAt s at v
    number_got q = record { of = λ most v n l h. let x = got _ e q in let y = number_wider at most v n l h in cc }

    pub number_none : {f : Refusal} (r : ℕ) → a ≡ Err f → NumberAt s at r
    number_none r q = record { of = λ most v n l h. no (let x = out _ e q in let y = number_wider at most v n l h in cc) }

-- the guard of transition i, by whether null stands there
module _ (s rows : List ℕ) (i : ℕ) {at : ℕ} (h : at ≡ field rows i 3) {b : Bool} (e : b ≡ eqb (get_or s at 0) 246) where
  pub guard_none : b ≡ true → {t : Transition} → RowAt s rows i t → t.guard ≡ none
  guard_none q w = not_given read_top_expr s at (reads_there h w.guard_is) e q

  pub guard_some : b ≡ false → {t : Transition} → RowAt s rows i t → Given read_top_expr s at t.guard
  guard_some q w = is_given read_top_expr s at (reads_there h w.guard_is) e q
