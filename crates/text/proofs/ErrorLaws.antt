-- What is said of where an error leads, and of what it emits.
use Rattle.std.specs.Prelude.{Option as Maybe, None, Some, Ok, Result, ⊤}
use Prim.Native.Nat.{ℕ}
use mathlib.Core.Path.{◌≡◌, refl, ap, ◌∙◌}
use mathlib.Core.List.{List}
use mathlib.Core.Bool.{Bool, true, false}
use mathlib.Core.Option.{Option}
use lib.ListN.{get_or, get_elem?}
use lib.Dec.{eqb}
use Rattle.reading.specs.Limits.{max_list}
use Rattle.reading.specs.Combine.{list_of}
use Rattle.reading.specs.Transition.{OnError, read_output_expr, read_on_error}
use Rattle.reading.specs.Module.{Module}
use Rattle.reading.specs.Skip.{text_at}
use Rattle.reading.proofs.ExprLaws.{name_laws}
use Rattle.reading.proofs.TransitionLaws.{output_expr_laws}
use Rattle.reading.proofs.Views.{on_error_at}
use Rattle.reading.proofs.Walks.{name_text}
use Rattle.typing.specs.Env.{for_module}
use Rattle.typing.specs.Outputs.{validate_output_expr}
use Rattle.typing.specs.Blames.{JudgesOutput}
use Rattle.typing.specs.Means.{blame_of}
use Rattle.typing.specs.Table.{after_item, after_head, Past}
use Rattle.typing.specs.Blocks.{env_at}
use Rattle.typing.specs.declared.cause.Blame.{Blame}
use Rattle.typing.proofs.Agreement.{output_agree}
use Rattle.typing.proofs.EnvLaws.{after_is, fields_head}
use Rattle.findings.specs.Scene.{Reads, outputs_in, Scene}
use Rattle.findings.proofs.RowLaws.{moved}
use Rattle.text.specs.Message.{Saying, of_entry, of_error_next, of_error_emit, error_next_said, error_emit_said}
use Rattle.text.specs.Said.{shown, line}
use Rattle.text.specs.Says.{Entry, Picked, WithNames, Says}
use Rattle.text.specs.declared.said.Arg.TheVariants.{Blank, Name}
use Rattle.text.specs.declared.said.Said.{Said}
use Rattle.text.proofs.EntryReads.{entry_picked}
use Rattle.text.proofs.NamedLaws.{two_said, name_said, absent_said, present_said, missing_said, entry_said}

module _ (s : List ℕ) {at state : ℕ} {x : OnError} (i : state ≡ after_head s at) (g : Reads read_on_error s at x) where
  next_text : text_at s state ≡ x.next_state
  next_text =
      let d = on_error_at s at x g.end g.is in
      ap (text_at s) (i ∙ fields_head 2 s at tt d.next_state d.opens) ∙ name_text s d.next_state x.next_state d.emits d.next_state_is

  emits_read : {emits : ℕ} → Past s state emits → Reads (list_of max_list read_output_expr) s emits x.emits
  emits_read {emits} p =
      let d = on_error_at s at x g.end g.is in
      let y : state ≡ d.next_state = i ∙ fields_head 2 s at tt d.next_state d.opens in
      let z : emits ≡ d.emits = p.is ∙ ap (after_item s) y ∙ after_is name_laws s p.each d.next_state x.next_state d.emits d.next_state_is in
      moved z (record { end = g.end; is = d.emits_is })

-- where it leads
module _ (s places : List ℕ) {at : ℕ} {t : Bool} (k : at ≡ get_or places 2 0) (e : t ≡ eqb (get_or s at 0) 246) where
  pub error_next_absent : t ≡ true → Says (Scene s places) s error_next_said None
  error_next_absent q = record { of = λ m g. absent_said read_on_error s at (moved k g.on_error_is) e (of_error_next m) q }

  pub error_next_said_lem : {a state : ℕ} {r : Maybe Said} → t ≡ false → a ≡ get_or places 0 0 → state ≡ after_head s at → r ≡ line (Name a) (Name state) Blank Blank Blank (Ok tt) → Says (Scene s places) s error_next_said r
  error_next_said_lem z i j q = record {
    of = λ m g. present_said read_on_error s at (moved k g.on_error_is) e (of_error_next m) z λ x h. name_said s places m g i q (next_text s j h);
  }

-- output i of those that it emits
abbrev emit_of : ℕ → Module → OnError → Option Saying
emit_of i m x = of_entry x.emits i (of_error_emit m)

module _ (s places names enums : List ℕ) {at : ℕ} {t : Bool} (k : at ≡ get_or places 2 0) (e : t ≡ eqb (get_or s at 0) 246) where
  pub error_silent : (i : ℕ) → t ≡ true → Says (WithNames s places names enums) s (error_emit_said i) None
  error_silent i q = record { of = λ m g. absent_said read_on_error s at (moved k g.0.on_error_is) e (emit_of i m) q }

  module _ {i state emits : ℕ} {f : Maybe ℕ} (z : t ≡ false) (j : state ≡ after_head s at) (p : Past s state emits) (h : Picked max_list s emits i f) where
    emitted : {x : OnError} → Reads read_on_error s at x → Entry read_output_expr s f (get_elem? x.emits i)
    emitted u = entry_picked output_expr_laws s h (emits_read s j u p)

    pub error_emit_absent : f ≡ None → Says (WithNames s places names enums) s (error_emit_said i) None
    error_emit_absent q = record {
      of = λ m g. present_said read_on_error s at (moved k g.0.on_error_is) e (emit_of i m) z λ x u. missing_said (emitted u) (of_error_emit m) q;
    }

    pub error_emit_said_lem : {a here : ℕ} {outputs : List ℕ} {w : Result ⊤ Blame} {r : Maybe Said} → f ≡ Some here → a ≡ get_or places 0 0 → outputs ≡ outputs_in places → JudgesOutput (env_at s names enums) s here outputs w → r ≡ line (Name a) Blank Blank Blank Blank w → Says (WithNames s places names enums) s (error_emit_said i) r
    unfolding shown
    error_emit_said_lem {w = w} q l n b c = record {
      of = λ m g. present_said read_on_error s at (moved k g.0.on_error_is) e (emit_of i m) z λ x u.
          entry_said (emitted u) (of_error_emit m) q λ o v.
          let d : blame_of s w ≡ validate_output_expr m.outputs (for_module m) o = b.of m.outputs o v.end (rw n g.0.output_groups) v.is ∙ output_agree g.1 m.outputs o in
          two_said s places m g.0 l c refl d;
    }
