-- The message of a finding, over the content: the form of its site in the words of validator.rs, its arguments, and what is wrong
-- with the expression, pattern, output or formula that it is about.
use Rattle.std.specs.Prelude.{ℕ, List, [], ◌∷◌, ◌++◌, get_or}
use Rattle.std.proofs.Math.Option.{Option, none, some}
use Rattle.std.proofs.Math.ListN.{get_elem?}
use Rattle.reading.specs.Text.{Name}
use Rattle.reading.specs.Expr.{Expr}
use Rattle.reading.specs.Decl.{VarDecl}
use Rattle.reading.specs.Transition.{OutputExpr, Assignment, OnError, Transition}
use Rattle.reading.specs.Module.{Property, Module, Ir}
use Rattle.typing.specs.Causes.{Answer, is, fails, Blame}
use Rattle.typing.specs.Env.{Env, for_module, with_bindings}
use Rattle.typing.specs.Typing.{type_expr}
use Rattle.typing.specs.Patterns.{validate_event_pattern}
use Rattle.typing.specs.Outputs.{validate_output_expr}
use Rattle.typing.specs.Formulas.{type_formula}
use Rattle.typing.specs.Guards.{Clash, contradictory_equalities}
use Rattle.findings.specs.Finding.{Note, Finding, type_cause}
use Rattle.findings.specs.Mentions.{group_variants, states}
use Rattle.findings.specs.Errors.{claims}
use Rattle.text.specs.Form.{text, format}
use Rattle.text.specs.Shown.{decimal, debug_type}
use Rattle.text.specs.CauseText.{blame_text, alone_blame}

-- the forms of the sites, from 0, which is none
abbrev pub forms : List (List ℕ)
forms =
    []
    ∷ text "module '{}' has no State enum variants"
    ∷ text "module '{}' initial state '{}' is not a State variant"
    ∷ text "module '{}' has transitions but no initial state"
    ∷ text "module '{}' invalid version header '{}' (expected X.Y or X.Y.Z)"
    ∷ text "module '{}' var '{}' init: "
    ∷ text "module '{}' transition #{}: state '{}' is not a State variant"
    ∷ text "module '{}' transition #{}: next state '{}' is not a State variant"
    ∷ text "module '{}' transition #{}: event pattern: "
    ∷ text "module '{}' transition #{}: guard: "
    ∷ text "module '{}' transition #{}: guard must be bool: guard must be bool, found {}"
    ∷ text "module '{}' transition #{}: set unknown variable '{}'"
    ∷ text "module '{}' transition #{}: set '{}': "
    ∷ text "module '{}' transition #{}: emit: "
    ∷ text "module '{}' state '{}': duplicate priority {} for the same event pattern (transitions #{} and #{})"
    ∷ text "module '{}' state '{}': duplicate transitions #{} and #{} - identical event pattern and guard; the second is unreachable"
    ∷ text "module '{}' on_error: next state '{}' is not a State variant"
    ∷ text "module '{}' on_error emit: "
    ∷ text "module '{}' has duplicate property/assumption name '{}'"
    ∷ text "module '{}' property '{}': "
    ∷ text "module '{}' property '{}': always[N] requires N >= 1"
    ∷ text "module '{}': state '{}' is unreachable from the initial state"
    ∷ text "module '{}': event '{}' is never used in any transition pattern (dead event)"
    ∷ text "module '{}': variable '{}' is never read or written (unused)"
    ∷ text "module '{}' state '{}': transitions #{} and #{} share an event pattern with different guards and no priorities; first match wins in source order (add distinct `priority N;` to pin the intent)"
    ∷ text "module '{}': transition #{} has a guard that is always false (dead transition)"
    ∷ text "module '{}': transition #{} guard is impossible: '{}' is compared equal to both {} and {}"
    ∷ []

unfoldable pub site_form : ℕ → List ℕ
site_form site = get_or forms site []

-- the arguments of a form, five of them, the unused ones empty; and what is wrong, where the form leaves that to a cause
pub record Saying : Type 0 where
  pub args : List (List ℕ)
  pub blame : Option Blame

abbrev pub five : List ℕ → List ℕ → List ℕ → List ℕ → List ℕ → Option Blame → Saying
five a b c d e w = record { args = a ∷ b ∷ c ∷ d ∷ e ∷ []; blame = w }

abbrev pub four : List ℕ → List ℕ → List ℕ → List ℕ → Saying
four a b c d = five a b c d [] none

abbrev pub three : List ℕ → List ℕ → List ℕ → Option Blame → Saying
three a b c w = five a b c [] [] w

abbrev pub two : List ℕ → List ℕ → Option Blame → Saying
two a b w = three a b [] w

-- what f says of what is given; nothing where nothing is
unfoldable pub of_given : {A : Type 0} → (A → Option Saying) → Option A → Option Saying
of_given f none = none
of_given f (some x) = f x

-- what f says of entry k of a list
abbrev pub of_entry : {A : Type 0} → List A → ℕ → (A → Option Saying) → Option Saying
of_entry xs k f = of_given f (get_elem? xs k)

-- why an expression has no type
unfoldable pub untyped : Answer → Option Blame
untyped a = alone_blame (type_cause a)

-- what a transition's guard, sets and emits see: the bindings of its own pattern too
unfoldable pub inside : Module → Transition → Env
inside m t = with_bindings (validate_event_pattern m.events t.pattern).bound (for_module m)

-- what is said in a module of one thing
module _ (m : Module) where
  -- sites 1 and 3
  abbrev pub of_module : Option Saying
  of_module = some (two m.name [] none)

  -- sites 2, 4, 21 and 22; of the initial state, the version, a State variant, an event's variant
  abbrev pub of_name : Name → Option Saying
  of_name n = some (two m.name n none)

  -- site 5, and site 23
  abbrev pub of_init : VarDecl → Option Saying
  of_init v = some (two m.name v.name (untyped (type_expr (for_module m) v.init)))

  abbrev pub of_var : VarDecl → Option Saying
  of_var v = of_name v.name

  -- sites 6 to 13, of transition i
  module _ (i : ℕ) (t : Transition) where
    abbrev pub of_state : Option Saying
    of_state = some (three m.name (decimal i) t.state none)

    abbrev pub of_next : Option Saying
    of_next = some (three m.name (decimal i) t.next_state none)

    abbrev pub of_pattern : Option Saying
    of_pattern = some (two m.name (decimal i) (validate_event_pattern m.events t.pattern).fault)

    abbrev pub of_guard : Expr → Option Saying
    of_guard e = some (two m.name (decimal i) (untyped (type_expr (inside m t) e)))

    unfoldable pub guard_found : Answer → Option Saying
    guard_found (is a) = some (three m.name (decimal i) (debug_type a) none)
    guard_found (fails c) = none

    abbrev pub of_guard_type : Expr → Option Saying
    of_guard_type e = guard_found (type_expr (inside m t) e)

    abbrev pub of_set : Assignment → Option Saying
    of_set a = some (three m.name (decimal i) a.var none)

    abbrev pub of_value : Assignment → Option Saying
    of_value a = some (three m.name (decimal i) a.var (untyped (type_expr (inside m t) a.value)))

    abbrev pub of_emit : OutputExpr → Option Saying
    of_emit o = some (two m.name (decimal i) (validate_output_expr m.outputs (inside m t) o))

  -- site 14; sites 15 and 24: of two transitions
  module _ (t u : Transition) where
    abbrev pub of_priority : ℕ → Option Saying
    of_priority p = some (five m.name t.state (decimal p) (decimal t.id) (decimal u.id) none)

    abbrev pub of_two : Option Saying
    of_two = some (four m.name t.state (decimal t.id) (decimal u.id))

  -- sites 16 and 17
  abbrev pub of_error_next : OnError → Option Saying
  of_error_next e = of_name e.next_state

  abbrev pub of_error_emit : OutputExpr → Option Saying
  of_error_emit o = some (two m.name [] (validate_output_expr m.outputs (for_module m) o))

  -- sites 18 and 20; site 19
  abbrev pub of_claim : Property → Option Saying
  of_claim p = of_name p.name

  abbrev pub of_formula : Property → Option Saying
  of_formula p = some (two m.name p.name (alone_blame (type_formula (for_module m) p.formula)))

  -- sites 25 and 26
  abbrev pub of_id : Transition → Option Saying
  of_id t = of_name (decimal t.id)

  abbrev pub of_clash : Transition → Clash → Option Saying
  of_clash t c = some (five m.name (decimal t.id) c.name (decimal c.earlier) (decimal c.later) none)

-- what is said in a module of its initial state, its version, and what it does on an error
abbrev pub initial_said : Module → Option Saying
initial_said m = of_given (of_name m) m.initial_state

abbrev pub version_said : Module → Option Saying
version_said m = of_given (of_name m) m.version

abbrev pub error_next_said : Module → Option Saying
error_next_said m = of_given (of_error_next m) m.on_error

-- of entry i of a list
module _ (i : ℕ) where
  abbrev pub init_said : Module → Option Saying
  init_said m = of_entry m.vars i (of_init m)

  abbrev pub var_said : Module → Option Saying
  var_said m = of_entry m.vars i (of_var m)

  abbrev pub error_emit_said : Module → Option Saying
  error_emit_said m = of_given (λ e. of_entry e.emits i (of_error_emit m)) m.on_error

  abbrev pub claim_said : Module → Option Saying
  claim_said m = of_entry (claims m) i (of_claim m)

  abbrev pub formula_said : Module → Option Saying
  formula_said m = of_entry (claims m) i (of_formula m)

  abbrev pub variant_said : Module → Option Saying
  variant_said m = of_entry (states m) i (of_name m)

  -- of transition i
  abbrev in_transition : (Module → Transition → Option Saying) → Module → Option Saying
  in_transition f m = of_entry m.transitions i (f m)

  abbrev in_guard : (Module → Transition → Expr → Option Saying) → Module → Option Saying
  in_guard f = in_transition λ m t. of_given (f m t) t.guard

  abbrev pub state_said : Module → Option Saying
  state_said = in_transition λ m. of_state m i

  abbrev pub next_said : Module → Option Saying
  next_said = in_transition λ m. of_next m i

  abbrev pub pattern_said : Module → Option Saying
  pattern_said = in_transition λ m. of_pattern m i

  abbrev pub guard_said : Module → Option Saying
  guard_said = in_guard λ m. of_guard m i

  abbrev pub guard_type_said : Module → Option Saying
  guard_type_said = in_guard λ m. of_guard_type m i

  abbrev pub id_said : Module → Option Saying
  id_said = in_transition of_id

  abbrev pub clash_said : Module → Option Saying
  clash_said = in_guard λ m t e. of_given (of_clash m t) (contradictory_equalities e)

  -- of entry j there, or of transition j too
  module _ (j : ℕ) where
    abbrev pub set_said : Module → Option Saying
    set_said = in_transition λ m t. of_entry t.assignments j (of_set m i t)

    abbrev pub value_said : Module → Option Saying
    value_said = in_transition λ m t. of_entry t.assignments j (of_value m i t)

    abbrev pub emit_said : Module → Option Saying
    emit_said = in_transition λ m t. of_entry t.emits j (of_emit m i t)

    abbrev pub priority_said : Module → Option Saying
    priority_said = in_transition λ m t. of_entry m.transitions j λ u. of_given (of_priority m t u) t.priority

    abbrev pub pair_said : Module → Option Saying
    pair_said = in_transition λ m t. of_entry m.transitions j (of_two m t)

    abbrev pub event_said : Module → Option Saying
    event_said m = of_entry m.events i λ g. of_entry (group_variants (some g)) j (of_name m)

-- what is said in a module by site, from 0, which is none; i and j are the first and the second word
abbrev pub sayings : Module → ℕ → ℕ → List (Option Saying)
sayings m i j =
    none
    ∷ of_module m
    ∷ initial_said m
    ∷ of_module m
    ∷ version_said m
    ∷ init_said i m
    ∷ state_said i m
    ∷ next_said i m
    ∷ pattern_said i m
    ∷ guard_said i m
    ∷ guard_type_said i m
    ∷ set_said i j m
    ∷ value_said i j m
    ∷ emit_said i j m
    ∷ priority_said i j m
    ∷ pair_said i j m
    ∷ error_next_said m
    ∷ error_emit_said i m
    ∷ claim_said i m
    ∷ formula_said i m
    ∷ claim_said i m
    ∷ variant_said i m
    ∷ event_said i j m
    ∷ var_said i m
    ∷ pair_said i j m
    ∷ id_said i m
    ∷ clash_said i m
    ∷ []

unfoldable pub saying : ℕ → ℕ → ℕ → Module → Option Saying
saying site i j m = get_or (sayings m i j) site none

-- the text of what is said at a site
unfoldable pub saying_text : ℕ → Option Saying → List ℕ
saying_text site none = []
saying_text site (some x) = format (site_form site) x.args ++ blame_text x.blame

-- the message of what is noted in a module, and of a finding
unfoldable pub note_text : Module → Note → List ℕ
note_text m x = saying_text x.site (saying x.site x.first x.second m)

unfoldable pub in_owner : Note → Option Module → List ℕ
in_owner x none = []
in_owner x (some m) = note_text m x

unfoldable pub message_of : Ir → Finding → List ℕ
message_of x f = in_owner f.note (get_elem? x.modules f.owner)
