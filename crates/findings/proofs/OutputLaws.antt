-- What is noted of an output: the number of what is wrong with it tells whether there is anything.
use Rattle.std.specs.Prelude.{Result, ⊤}
use Prim.Native.Nat.{ℕ}
use mathlib.Core.Path.{◌≡◌, ap, ◌∙◌}
use mathlib.Core.List.{List}
use Rattle.typing.specs.Causes.{blame_word}
use Rattle.typing.specs.Means.{blame_of}
use Rattle.typing.specs.Blocks.{env_at}
use Rattle.typing.specs.Blames.{JudgesOutput}
use Rattle.typing.specs.Outputs.{validate_output_expr}
use Rattle.typing.specs.declared.cause.Blame.{Blame}
use Rattle.typing.proofs.Agreement.{output_agree}
use Rattle.findings.specs.Noting.{Noted, numbered}
use Rattle.findings.specs.Promises.{NotesOutput}
use Rattle.findings.proofs.NoteLaws.{note_as, blamed_numbered}

module _ (s names enums : List ℕ) (owner : ℕ) {o o' : List ℕ} {skip n r at : ℕ} {outputs : List ℕ} {site first second : ℕ} {b : Result ⊤ Blame} {c : ℕ} where
  pub output_noted : JudgesOutput (env_at s names enums) s at outputs b → c ≡ blame_word (blame_of s b) → Noted owner o skip n (numbered site first second c) r o' → NotesOutput s owner o skip n r o' at outputs names enums site first second
  output_noted j e p = record {
    of = λ x gs env h g a.
        let u : c ≡ blame_word (validate_output_expr gs env x) = e ∙ ap blame_word (j.of gs x h.end g h.is ∙ output_agree a gs x) in
        note_as owner _ (ap (numbered site first second) u ∙ blamed_numbered site first second (validate_output_expr gs env x)) p;
  }
