-- What is said of a module, its initial state, its version and its variables.
use Rattle.std.specs.Prelude.{Option, None, Some, Result, Ok, ⊤}
use Prim.Native.Nat.{ℕ}
use mathlib.Core.Path.{◌≡◌, refl, ap, ◌∙◌}
use mathlib.Core.List.{List}
use mathlib.Core.Bool.{Bool, true, false}
use lib.ListN.{get_or, get_elem?}
use lib.Dec.{eqb}
use Rattle.reading.specs.Limits.{max_depth, max_list}
use Rattle.reading.specs.Decl.{VarDecl, read_var_decl}
use Rattle.reading.specs.Module.{Module}
use Rattle.reading.specs.Skip.{text_at}
use Rattle.reading.specs.Text.{read_name, read_version}
use Rattle.reading.proofs.DeclLaws.{var_decl_laws}
use Rattle.reading.proofs.Views.{var_decl_at}
use Rattle.reading.proofs.Walks.{name_text, version_text}
use Rattle.typing.specs.Env.{for_module}
use Rattle.typing.specs.Typing.{type_expr}
use Rattle.typing.specs.Typed.{Types}
use Rattle.typing.specs.Means.{blame_of, Typed}
use Rattle.typing.specs.Table.{after_head, Past}
use Rattle.typing.specs.Blocks.{env_at}
use Rattle.typing.specs.declared.cause.Blame.{Blame}
use Rattle.typing.proofs.Depends.{type_agree}
use Rattle.typing.proofs.EnvLaws.{fields_head}
use Rattle.findings.specs.Scene.{Reads, Scene}
use Rattle.findings.proofs.OpeningLaws.{init_place}
use Rattle.findings.proofs.RowLaws.{moved}
use Rattle.text.specs.Message.{untyped, of_module, of_name, of_init, of_var, initial_said, version_said, init_said, var_said}
use Rattle.text.specs.Said.{shown, line}
use Rattle.text.specs.Says.{Entry, Picked, Untyped, WithNames, Says}
use Rattle.text.specs.declared.said.Arg.TheVariants.{Blank, Name}
use Rattle.text.specs.declared.said.Said.{Said}
use Rattle.text.proofs.EntryReads.{entry_picked}
use Rattle.text.proofs.NamedLaws.{two_said, name_said, absent_said, present_said, missing_said, entry_said}

module _ (s places : List ℕ) where
  pub module_said : {a : ℕ} {r : Option Said} → a ≡ get_or places 0 0 → r ≡ line (Name a) Blank Blank Blank Blank (Ok tt) → Says (Scene s places) s of_module r
  unfolding shown blame_of
  module_said i q = record { of = λ m g. two_said s places m g i q refl refl }

  module _ {at : ℕ} {t : Bool} (e : t ≡ eqb (get_or s at 0) 246) where
    pub initial_absent : at ≡ get_or places 4 0 → t ≡ true → Says (Scene s places) s initial_said None
    initial_absent k q = record { of = λ m g. absent_said read_name s at (moved k g.initial_state_is) e (of_name m) q }

    pub version_absent : at ≡ get_or places 1 0 → t ≡ true → Says (Scene s places) s version_said None
    version_absent k q = record { of = λ m g. absent_said read_version s at (moved k g.version_is) e (of_name m) q }

    module _ {a : ℕ} {r : Option Said} (z : t ≡ false) (i : a ≡ get_or places 0 0) (q : r ≡ line (Name a) (Name at) Blank Blank Blank (Ok tt)) where
      pub initial_said_lem : at ≡ get_or places 4 0 → Says (Scene s places) s initial_said r
      initial_said_lem k = record {
        of = λ m g. present_said read_name s at (moved k g.initial_state_is) e (of_name m) z λ n h. name_said s places m g i q (name_text s at n h.end h.is);
      }

      pub version_said_lem : at ≡ get_or places 1 0 → Says (Scene s places) s version_said r
      version_said_lem k = record {
        of = λ m g. present_said read_version s at (moved k g.version_is) e (of_name m) z λ n h. name_said s places m g i q (version_text s at n h.end h.is);
      }

-- a variable's name
pub var_text : (s : List ℕ) {k name : ℕ} {v : VarDecl} → name ≡ after_head s k → Reads read_var_decl s k v → text_at s name ≡ v.name
var_text s {k} {name} {v} i g =
    let d = var_decl_at s k v g.end g.is in
    ap (text_at s) (i ∙ fields_head 3 s k tt d.name d.opens) ∙ name_text s d.name v.name d.ty d.name_is

module _ (s places : List ℕ) {p i : ℕ} {f : Option ℕ} (j : p ≡ get_or places 7 0) (h : Picked max_list s p i f) where
  vars_entry : (m : Module) → Scene s places m → Entry read_var_decl s f (get_elem? m.vars i)
  vars_entry m g = entry_picked var_decl_laws s h (moved j g.vars_are)

  pub var_absent : f ≡ None → Says (Scene s places) s (var_said i) None
  var_absent q = record { of = λ m g. missing_said (vars_entry m g) (of_var m) q }

  pub init_absent : (names enums : List ℕ) → f ≡ None → Says (WithNames s places names enums) s (init_said i) None
  init_absent names enums q = record { of = λ m g. missing_said (vars_entry m g.0) (of_init m) q }

  module _ {k name a : ℕ} {r : Option Said} (q : f ≡ Some k) (l : name ≡ after_head s k) (x : a ≡ get_or places 0 0) where
    pub var_said_lem : r ≡ line (Name a) (Name name) Blank Blank Blank (Ok tt) → Says (Scene s places) s (var_said i) r
    var_said_lem z = record { of = λ m g. entry_said (vars_entry m g) (of_var m) q λ v u. name_said s places m g x z (var_text s l u) }

    pub init_said_lem : (names enums : List ℕ) {ty init : ℕ} {t : Typed} {w : Result ⊤ Blame} → Past s name ty → Past s ty init → Types (env_at s names enums) max_depth s init t → Untyped s t w → r ≡ line (Name a) (Name name) Blank Blank Blank w → Says (WithNames s places names enums) s (init_said i) r
    unfolding shown
    init_said_lem names enums {t = t} {w = w} c d y b z = record {
      of = λ m g. entry_said (vars_entry m g.0) (of_init m) q λ v u.
          let o = y.of v.init u.end ((init_place s l c d).of v u.end u.is) in
          let e : blame_of s w ≡ untyped (type_expr (for_module m) v.init) = b.of (type_expr (env_at s names enums) v.init) u.end o ∙ ap untyped (type_agree g.1 v.init) in
          two_said s places m g.0 x z (var_text s l u) e;
    }
