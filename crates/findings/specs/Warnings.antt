-- The warnings of a module: sites 21 to 26, in the order of module_warnings.
use Rattle.std.specs.Prelude.{ℕ, List, [], ◌∷◌, ◌++◌, Bool, cond, not, ◌&&◌}
use Rattle.std.proofs.Math.Option.{Option, none, some}
use Rattle.reading.specs.Text.{Name}
use Rattle.reading.specs.Expr.{Expr}
use Rattle.reading.specs.Decl.{ConstructorGroup, VarDecl}
use Rattle.reading.specs.Transition.{Transition}
use Rattle.reading.specs.Module.{Module}
use Rattle.typing.specs.Names.{eq_name, member, first_called}
use Rattle.typing.specs.Env.{given}
use Rattle.typing.specs.Guards.{is_literal_false, contradictory_equalities}
use Rattle.findings.specs.Lists.{Placed, placed, any, each}
use Rattle.findings.specs.Finding.{Note, note, noted}
use Rattle.findings.specs.Reach.{reached}
use Rattle.typing.specs.First.{group_name}
use Rattle.findings.specs.Mentions.{group_variants, states, all_touched, variant_used}
use Rattle.findings.specs.Pairs.{ambiguous, by_state}

abbrev pub starts_at : Transition → Name → Bool
starts_at t s = eq_name t.state s

abbrev pub leads_to : Transition → Name
leads_to t = t.next_state

-- "unreachable 21 (variant)", from the initial state
unfoldable pub unreachable : List Name → Option Name → List Transition → List Note
unreachable vs none ts = []
unreachable vs (some s) ts = each (λ v. noted (not (member v.item (reached starts_at leads_to s ts))) (note 21 v.place 0 0)) (placed 0 vs)

-- "An event is used by group and variant name"
unfoldable pub uses_event : List ConstructorGroup → Name → Name → Transition → Bool
uses_event events g v t = eq_name t.pattern.group g && variant_used (group_variants (first_called group_name g events)) t.pattern.variant v

-- "dead event 22 (group, variant)"
unfoldable pub dead_in : List ConstructorGroup → List Transition → Placed ConstructorGroup → List Note
dead_in events ts g =
    each (λ v. noted (not (any (uses_event events g.item.name v.item) ts)) (note 22 g.place v.place 0))
    (placed 0 (group_variants (some g.item)))

unfoldable pub dead : List ConstructorGroup → List Transition → List Note
dead events ts = each (dead_in events ts) (placed 0 events)

-- "unused variable 23"
unfoldable pub unused : List Name → List VarDecl → List Note
unused used vs = each (λ v. noted (not (member v.item.name used)) (note 23 v.place 0 0)) (placed 0 vs)

-- "guard literal false 25, contradictory equalities 26": "Site 26, only where 25 isn't given"
unfoldable pub impossible_guard : ℕ → Option Expr → List Note
impossible_guard i none = []
impossible_guard i (some e) = cond (is_literal_false e) (note 25 i 0 0 ∷ []) (noted (given (contradictory_equalities e)) (note 26 i 0 0))

unfoldable pub impossible : Placed Transition → List Note
impossible x = impossible_guard x.place x.item.guard

unfoldable pub warnings : Module → List Note
warnings m =
    unreachable (states m) m.initial_state m.transitions
    ++ dead m.events m.transitions
    ++ unused (all_touched m) m.vars
    ++ by_state ambiguous m.transitions
    ++ each impossible (placed 0 m.transitions)
