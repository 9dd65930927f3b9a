-- The number of why an expression has no type is its cause's, and what is noted of the expression.
use Rattle.std.specs.Prelude.{Ok, Err}
use Prim.Native.Nat.{ℕ}
use mathlib.Core.Path.{◌≡◌, refl, ap, sym, ◌∙◌}
use mathlib.Core.List.{List}
use Rattle.reading.specs.Limits.{max_depth}
use Rattle.reading.specs.Transition.{read_top_expr}
use Rattle.reading.proofs.Rules.{no}
use Rattle.typing.specs.Causes.{Answer, is, fails, number, cause_word}
use Rattle.typing.specs.Blocks.{env_at}
use Rattle.typing.specs.Typing.{type_expr}
use Rattle.typing.specs.Typed.{Types}
use Rattle.typing.specs.Means.{cause_of, bad, typed_of, outcome, Typed}
use Rattle.typing.specs.declared.ty.Ty.{Ty}
use Rattle.typing.specs.declared.cause.Cause.{Cause}
use Rattle.typing.proofs.Depends.{type_agree}
use Rattle.findings.specs.Finding.{type_cause}
use Rattle.findings.specs.Noting.{Noted, numbered}
use Rattle.findings.specs.Promises.{TypedNumber, NotesTyped}
use Rattle.findings.proofs.NoteLaws.{note_as, caused_numbered}

module _ (s : List ℕ) {t : Typed} where
  pub typed_none : {y : Ty} {k : ℕ} → t ≡ Ok (y, k) → TypedNumber s t 0
  unfolding typed_of outcome cause_word type_cause
  typed_none q = record { of = go }
    where
      go : (a : Answer) (k : ℕ) → typed_of s t ≡ outcome k a → 0 ≡ cause_word (type_cause a)
      go (is x) k e = refl
      go (fails c) k e = no (cc)

  pub typed_cause : {c : Cause} {n : ℕ} → t ≡ Err c → n ≡ number (cause_of s c) → TypedNumber s t n
  unfolding typed_of outcome cause_word type_cause
  typed_cause {c} {n} q z = record { of = go }
    where
      go : (a : Answer) (k : ℕ) → typed_of s t ≡ outcome k a → n ≡ cause_word (type_cause a)
      go (is x) k e = no (cc)
      go (fails d) k e = let u : bad (cause_of s c) ≡ bad d = sym (ap (typed_of s) q) ∙ e in let v : cause_of s c ≡ d = cc in z ∙ ap number v

module _ (s names enums : List ℕ) (owner : ℕ) {o o' : List ℕ} {skip n r at site first second : ℕ} {t : Typed} {c : ℕ} where
  pub typed_noted : Types (env_at s names enums) max_depth s at t → TypedNumber s t c → Noted owner o skip n (numbered site first second c) r o' → NotesTyped s owner o skip n r o' at names enums site first second
  unfolding read_top_expr
  typed_noted y e p = record {
    of = λ x env g a.
        let u : c ≡ cause_word (type_cause (type_expr env x)) = e.of (type_expr (env_at s names enums) x) g.end (y.of x g.end g.is) ∙ ap (λ (z : Answer). cause_word (type_cause z)) (type_agree a x) in
        note_as owner _ (ap (numbered site first second) u ∙ caused_numbered site first second (type_cause (type_expr env x))) p;
  }
