-- The errors of a module: sites 1 to 20, in the order of validate_module.
use Rattle.std.specs.Prelude.{ℕ, zero, suc, List, [], ◌∷◌, ◌++◌, map, Bool, true, false, cond, not, ◌||◌}
use Rattle.std.proofs.Math.Option.{Option, none, some}
use Rattle.reading.specs.Text.{Name}
use Rattle.reading.specs.Expr.{Expr}
use Rattle.reading.specs.Decl.{ConstructorGroup, VarDecl}
use Rattle.reading.specs.Transition.{OutputExpr, Assignment, OnError, Transition}
use Rattle.reading.specs.Module.{Property, Module}
use Rattle.typing.specs.Causes.{number, Answer, is, fails}
use Rattle.typing.specs.Names.{eq_name, member}
use Rattle.typing.specs.Rules.{is_bool}
use Rattle.typing.specs.Env.{Env, given, for_module, with_bindings}
use Rattle.typing.specs.Typing.{type_expr}
use Rattle.typing.specs.Patterns.{Judged, validate_event_pattern}
use Rattle.typing.specs.Outputs.{validate_output_expr}
use Rattle.typing.specs.Formulas.{type_formula, bounded_always_error}
use Rattle.typing.specs.Version.{is_valid_version_format}
use Rattle.findings.specs.Lists.{Placed, placed, each}
use Rattle.findings.specs.Finding.{Note, note, noted, caused, blamed, type_cause}
use Rattle.findings.specs.Mentions.{states}
use Rattle.findings.specs.Pairs.{clash, by_state}

-- a name that is no State variant
unfoldable pub unknown_state : List Name → Name → Note → List Note
unknown_state vs n x = noted (not (member n vs)) x

unfoldable pub is_empty : {A : Type 0} → List A → Bool
is_empty [] = true
is_empty (x ∷ xs) = false

-- "initial state unknown 2; transitions without one 3"
unfoldable pub initial_notes : List Name → Option Name → Bool → List Note
initial_notes vs none moves = noted moves (note 3 0 0 0)
initial_notes vs (some s) moves = unknown_state vs s (note 2 0 0 0)

unfoldable pub version_notes : Option Name → List Note
version_notes none = []
version_notes (some v) = noted (not (is_valid_version_format v)) (note 4 0 0 0)

unfoldable pub init_notes : Env → Placed VarDecl → List Note
init_notes env v = caused (λ c. note 5 v.place 0 c) (type_cause (type_expr env v.item.init))

-- sites 1 to 5; whether there are transitions is told
unfoldable pub opening : Module → Bool → List Note
opening m moves =
    noted (is_empty (states m)) (note 1 0 0 0)
    ++ initial_notes (states m) m.initial_state moves
    ++ version_notes m.version
    ++ each (init_notes (for_module m)) (placed 0 m.vars)

-- sites 9 and 10, of the transition at place i
unfoldable pub guard_typed : ℕ → Answer → List Note
guard_typed i (is t) = noted (not (is_bool t)) (note 10 i 0 0)
guard_typed i (fails c) = note 9 i 0 (number c) ∷ []

unfoldable pub guard_notes : Env → ℕ → Option Expr → List Note
guard_notes env i none = []
guard_notes env i (some e) = guard_typed i (type_expr env e)

-- "unknown set 11, set value 12": "The value of an unknown set isn't typed"
unfoldable pub set_notes : Env → ℕ → Placed Assignment → List Note
set_notes env i a =
    cond (given (env.vars a.item.var)) (caused (λ c. note 12 i a.place c) (type_cause (type_expr env a.item.value)))
    (note 11 i a.place 0 ∷ [])

unfoldable pub emit_notes : Env → List ConstructorGroup → ℕ → Placed OutputExpr → List Note
emit_notes env outputs i o = blamed (λ c. note 13 i o.place c) (validate_output_expr outputs env o.item)

-- sites 9 to 13: "After a faulty pattern the guard still sees bindings made so far"
unfoldable pub body_notes : Env → List ConstructorGroup → Placed Transition → List Note
body_notes env outputs x =
    guard_notes env x.place x.item.guard
    ++ each (set_notes env x.place) (placed 0 x.item.assignments)
    ++ each (emit_notes env outputs x.place) (placed 0 x.item.emits)

-- sites 6 to 13
unfoldable pub judged_notes : Module → Placed Transition → Judged → List Note
judged_notes m x j =
    unknown_state (states m) x.item.state (note 6 x.place 0 0)
    ++ unknown_state (states m) x.item.next_state (note 7 x.place 0 0)
    ++ blamed (λ c. note 8 x.place 0 c) j.fault
    ++ body_notes (with_bindings j.bound (for_module m)) m.outputs x

unfoldable pub own : Module → Placed Transition → List Note
own m x = judged_notes m x (validate_event_pattern m.events x.item.pattern)

-- "on_error state 16, its emit 17"
unfoldable pub error_emit_notes : Module → Placed OutputExpr → List Note
error_emit_notes m o = blamed (λ c. note 17 o.place 0 c) (validate_output_expr m.outputs (for_module m) o.item)

unfoldable pub on_error_notes : Module → Option OnError → List Note
on_error_notes m none = []
on_error_notes m (some e) = unknown_state (states m) e.next_state (note 16 0 0 0) ++ each (error_emit_notes m) (placed 0 e.emits)

-- whether the name stands before place k
unfoldable pub stands_earlier : List Name → ℕ → Name → Bool
stands_earlier [] k n = false
stands_earlier (x ∷ xs) zero n = false
stands_earlier (x ∷ xs) (suc k) n = eq_name x n || stands_earlier xs k n

abbrev pub property_name : Property → Name
property_name p = p.name

-- "property or assumption name that stands earlier too 18"
unfoldable pub repeat_notes : List Name → List Note
repeat_notes ns = each (λ p. noted (stands_earlier ns p.place p.item) (note 18 p.place 0 0)) (placed 0 ns)

-- "formula 19, bound 20"
unfoldable pub formula_notes : Env → Placed Property → List Note
formula_notes env p =
    caused (λ c. note 19 p.place 0 c) (type_formula env p.item.formula)
    ++ noted (bounded_always_error p.item.formula) (note 20 p.place 0 0)

-- "properties then assumptions"
unfoldable pub claims : Module → List Property
claims m = m.properties ++ m.assumptions

-- sites 16 to 20
unfoldable pub closing : Module → List Note
closing m =
    on_error_notes m m.on_error
    ++ repeat_notes (map property_name (claims m))
    ++ each (formula_notes (for_module m)) (placed 0 (claims m))

unfoldable pub errors : Module → List Note
errors m =
    opening m (not (is_empty m.transitions))
    ++ each (own m) (placed 0 m.transitions)
    ++ by_state clash m.transitions
    ++ closing m
