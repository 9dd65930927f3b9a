-- A cause that stands alone is what is wrong.
use Rattle.std.specs.Prelude.{Ok, Err}
use Prim.Native.Nat.{ℕ}
use mathlib.Core.Path.{◌≡◌, refl, sym, ap, ◌∙◌}
use mathlib.Core.List.{List}
use mathlib.Core.Option.{some}
use Rattle.reading.proofs.Rules.{no}
use Rattle.typing.specs.Causes as causes
use Rattle.typing.specs.Causes.{Answer, is, fails}
use Rattle.typing.specs.Means.{cause_of, bad, typed_of, outcome, unfit_of, within_of, blame_of, Fit, Typed}
use Rattle.typing.specs.declared.ty.Ty.{Ty}
use Rattle.typing.specs.declared.cause.Cause.{Cause}
use Rattle.typing.specs.declared.cause.Within.TheVariants.{Alone}
use Rattle.findings.specs.Finding.{type_cause}
use Rattle.text.specs.CauseText.{alone_blame}
use Rattle.text.specs.Message.{untyped}
use Rattle.text.specs.Says.{Untyped}

module _ (s : List ℕ) where
  pub alone_is : (c : Cause) → blame_of s (Err (record { within = Alone; cause = c })) ≡ alone_blame (some (cause_of s c))
  unfolding blame_of within_of alone_blame
  alone_is c = refl

  -- an expression's type, or the cause that it has none
  module _ {t : Typed} where
    pub typed_blame : {y : Ty} {k : ℕ} → t ≡ Ok (y, k) → Untyped s t (Ok tt)
    unfolding typed_of outcome untyped type_cause alone_blame blame_of
    typed_blame q = record { of = go }
      where
        go : (a : Answer) (n : ℕ) → typed_of s t ≡ outcome n a → blame_of s (Ok tt) ≡ untyped a
        go (is x) n e = refl
        go (fails c) n e = no (cc)

    pub failed_blame : {c : Cause} → t ≡ Err c → Untyped s t (Err (record { within = Alone; cause = c }))
    unfolding typed_of outcome untyped type_cause
    failed_blame {c} q = record { of = go }
      where
        go : (a : Answer) (n : ℕ) → typed_of s t ≡ outcome n a → blame_of s (Err (record { within = Alone; cause = c })) ≡ untyped a
        go (is x) n e = no (cc)
        go (fails d) n e =
            let u : bad (cause_of s c) ≡ bad d = sym (ap (typed_of s) q) ∙ e in
            let v : cause_of s c ≡ d = cc in
            alone_is c ∙ ap (λ (z : causes.Cause). alone_blame (some z)) v

  -- a formula that fits, or the cause that it doesn't
  module _ {f : Fit} where
    pub fine_blame : f ≡ Ok tt → blame_of s (Ok tt) ≡ alone_blame (unfit_of s f)
    unfolding blame_of unfit_of alone_blame
    fine_blame q = rw q

    pub unfit_blame : {c : Cause} → f ≡ Err c → blame_of s (Err (record { within = Alone; cause = c })) ≡ alone_blame (unfit_of s f)
    unfolding unfit_of
    unfit_blame {c} q = rw q (alone_is c)
