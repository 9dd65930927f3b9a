-- What is said of properties and assumptions, by their table.
use Rattle.std.specs.Prelude.{Option as Maybe, None, Ok, Result, ⊤}
use Prim.Native.Nat.{ℕ, ◌+◌, ◌*◌, ◌/◌, ◌<◌, ◌≤◌}
use mathlib.Core.Path.{◌≡◌, sym, ap, ◌∙◌}
use mathlib.Core.List.{List}
use mathlib.Core.Option.{Option, some}
use native.Mathlib.Omega.{arith}
use lib.ListN.{length, get_or, get_elem?}
use Rattle.reading.specs.Limits.{max_depth}
use Rattle.reading.specs.Module.{Property}
use Rattle.reading.specs.Skip.{text_at}
use Rattle.reading.proofs.Walks.{name_text}
use Rattle.typing.specs.Env.{for_module}
use Rattle.typing.specs.Formulas.{type_formula}
use Rattle.typing.specs.Judges.{TypesFormula}
use Rattle.typing.specs.Means.{unfit_of, blame_of, Fit}
use Rattle.typing.specs.Blocks.{env_at}
use Rattle.typing.specs.declared.cause.Blame.{Blame}
use Rattle.typing.proofs.Agreement.{formula_agree}
use Rattle.findings.specs.Promises.{Claims}
use Rattle.findings.proofs.PlaceLaws.{entry_past, entry_at}
use Rattle.findings.proofs.RowLaws.{moved}
use Rattle.text.specs.CauseText.{alone_blame}
use Rattle.text.specs.Message.{Saying, of_given, of_claim, of_formula, claim_said, formula_said}
use Rattle.text.specs.Said.{shown, saying_of, line}
use Rattle.text.specs.Says.{WithClaims, WithFormulas, Says}
use Rattle.text.specs.declared.said.Arg.TheVariants.{Blank, Name}
use Rattle.text.specs.declared.said.Said.{Said}
use Rattle.text.proofs.NamedLaws.{two_said, name_said}

module _ (s table : List ℕ) {i : ℕ} {ps : List Property} (g : Claims s table ps) (f : Property → Option Saying) where
  pub no_claim : length table / 2 ≤ i → saying_of s None ≡ of_given f (get_elem? ps i)
  unfolding saying_of of_given
  no_claim h = rw (entry_past ps i (omega (arith, g.room)))

  pub of_claim_lem : {y : Option Saying} → i < length table / 2 → ((p : Property) → get_elem? ps i ≡ some p → y ≡ f p) → y ≡ of_given f (get_elem? ps i)
  unfolding of_given
  of_claim_lem h k = let p = entry_at ps i (omega (arith, g.room)) in k p.item p.is ∙ ap (of_given f) (sym p.is)

module _ (s places table : List ℕ) {i : ℕ} where
  pub claim_absent : length table / 2 ≤ i → Says (WithClaims s places table) s (claim_said i) None
  claim_absent h = record { of = λ m g. no_claim s table g.1 (of_claim m) h }

  module _ {a at : ℕ} (h : i < length table / 2) (k : a ≡ get_or places 0 0) (j : at ≡ get_or table (2 * i) 0) where
    claim_text : {ps : List Property} (g : Claims s table ps) (p : Property) → get_elem? ps i ≡ some p → text_at s at ≡ p.name
    claim_text g p e = ap (text_at s) j ∙ name_text s _ _ _ (g.at i p e).name_is

    pub claim_said_lem : {r : Maybe Said} → r ≡ line (Name a) (Name at) Blank Blank Blank (Ok tt) → Says (WithClaims s places table) s (claim_said i) r
    claim_said_lem q = record { of = λ m g. of_claim_lem s table g.1 (of_claim m) h λ p e. name_said s places m g.0 k q (claim_text g.1 p e) }

    pub formula_said_lem : (names enums : List ℕ) {formula : ℕ} {fit : Fit} {w : Result ⊤ Blame} {r : Maybe Said} → formula ≡ get_or table (2 * i + 1) 0 → TypesFormula (env_at s names enums) max_depth s formula fit → blame_of s w ≡ alone_blame (unfit_of s fit) → r ≡ line (Name a) (Name at) Blank Blank Blank w → Says (WithFormulas s places table names enums) s (formula_said i) r
    unfolding shown
    formula_said_lem names enums {w = w} l t b q = record {
      of = λ m g. of_claim_lem s table g.1.1 (of_formula m) h λ p e.
          let v = moved l (g.1.1.at i p e).formula_is in
          let u : blame_of s w ≡ alone_blame (type_formula (for_module m) p.formula) = b ∙ ap alone_blame (t.of p.formula v.end v.is ∙ formula_agree g.0.1 p.formula) in
          two_said s places m g.0.0 k q (claim_text g.1.1 p e) u;
    }

  pub formula_absent : (names enums : List ℕ) → length table / 2 ≤ i → Says (WithFormulas s places table names enums) s (formula_said i) None
  formula_absent names enums h = record { of = λ m g. no_claim s table g.1.1 (of_formula m) h }
