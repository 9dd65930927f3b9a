-- What a module declares, as the findings use it: the first enum called State, groups by name, the names that are mentioned.
use Rattle.std.specs.Prelude.{List, [], ◌∷◌, ◌++◌, map, Bool}
use Rattle.std.proofs.Math.Option.{Option, none, some}
use Rattle.reading.specs.Text.{Name}
use Rattle.reading.specs.Expr.{Expr}
use Rattle.reading.specs.Expr as expr
use Rattle.reading.specs.Decl.{EnumDecl, ConstructorGroup}
use Rattle.reading.specs.Pattern.{PatternVariant}
use Rattle.reading.specs.Transition.{OutputExpr, Assignment, OnError, Transition}
use Rattle.reading.specs.Module.{Module}
use Rattle.typing.specs.Names.{eq_name, member, first_called, state_enum}
use Rattle.typing.specs.First.{enum_name}
use Rattle.typing.specs.Patterns.{declared_name, pattern_variant_name}
use Rattle.findings.specs.Lists.{each}

unfoldable pub enum_variants : Option EnumDecl → List Name
enum_variants none = []
enum_variants (some e) = e.variants

-- "Sites 1, 2, 6, 7, 16 and 21 use the first enum called State"
unfoldable pub states : Module → List Name
states m = enum_variants (first_called enum_name state_enum m.enums)

-- the names of a group's variants
unfoldable pub group_variants : Option ConstructorGroup → List Name
group_variants none = []
group_variants (some g) = map declared_name g.variants

-- collect_names: "as a one-name path inside" an expression
unfoldable pub sole_name : List Name → List Name
sole_name [] = []
sole_name (n ∷ []) = n ∷ []
sole_name (n ∷ (m ∷ ms)) = []

unfoldable pub collect_names : Expr → List Name
collect_names (expr.int v) = []
collect_names (expr.bool b) = []
collect_names (expr.path p) = sole_name p
collect_names (expr.unary op e) = collect_names e
collect_names (expr.binary op l r) = collect_names l ++ collect_names r

unfoldable pub guard_names : Option Expr → List Name
guard_names none = []
guard_names (some e) = collect_names e

unfoldable pub emit_names : List OutputExpr → List Name
emit_names os = each (λ o. each collect_names o.args) os

-- "A variable is used by a set to it, or as a one-name path inside a guard or an emit's arguments, on_error's too; set values don't count"
unfoldable pub touched : Transition → List Name
touched t = guard_names t.guard ++ emit_names t.emits ++ map (λ (a : Assignment). a.var) t.assignments

unfoldable pub error_touched : Option OnError → List Name
error_touched none = []
error_touched (some e) = emit_names e.emits

unfoldable pub all_touched : Module → List Name
all_touched m = each touched m.transitions ++ error_touched m.on_error

-- "a pattern without variant uses those of the first group of its name"
unfoldable pub variant_used : List Name → Option PatternVariant → Name → Bool
variant_used vs none v = member v vs
variant_used vs (some w) v = eq_name (pattern_variant_name w) v
