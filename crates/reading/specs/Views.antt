-- What stands where in an item that is read: the place of each of its parts, and how the part reads there.
use Rattle.std.specs.Prelude.{ℕ, ◌+◌, ◌-◌, ◌≤◌, ◌≡◌, List, ◌∷◌, Bool, length, take, drop, get_or}
use Rattle.std.proofs.Math.Option.{Option, none, some}
use Rattle.reading.specs.Read.{Reader, ok}
use Rattle.reading.specs.Limits.{max_u32, max_u64, max_list, max_modules, max_depth}
use Rattle.reading.specs.Item.{read_kind, read_number, read_ir_version, read_case, read_bool, read_fields, read_count, read_tag}
use Rattle.reading.specs.Text.{Name, read_name, read_version}
use Rattle.reading.specs.Combine.{entries, list_of, optional}
use Rattle.reading.specs.Expr.{Expr, unary_ops, bin_ops, read_path, read_expr}
use Rattle.reading.specs.Expr as expr
use Rattle.reading.specs.Decl.{EnumDecl, Ty, FieldDecl, ConstructorVariant, ConstructorGroup, VarDecl, read_names, read_enum_decl, read_ty, read_field_decl, read_constructor_variant, read_constructor_group, read_var_decl}
use Rattle.reading.specs.Decl as decl
use Rattle.reading.specs.Pattern.{PatternExpr, PatternField, PatternVariant, Pattern, read_pattern_expr, read_pattern_field, read_pattern_variant, read_pattern}
use Rattle.reading.specs.Pattern as pattern
use Rattle.reading.specs.Transition.{OutputExpr, Assignment, OnError, Transition, read_top_expr, read_output_expr, read_assignment, read_on_error, read_transition}
use Rattle.reading.specs.Formula.{Formula, read_formula}
use Rattle.reading.specs.Formula as formula
use Rattle.reading.specs.Module.{Property, Module, Ir, read_property, read_module}
use Rattle.reading.specs.declared.item.Tag.{Tag}

-- the bytes from one place to another
abbrev pub span : List ℕ → ℕ → ℕ → List ℕ
span s at n = take (n - at) (drop at s)

-- a string: its bytes are a part of the document
pub record StringAt (s : List ℕ) (at : ℕ) (w : Name) (n : ℕ) : Type 0 where
  pub from : ℕ
  pub head : read_kind 3 s at ≡ ok (length w) from
  pub part : take (length w) (drop from s) ≡ w
  pub end : n ≡ from + length w
  pub fits : n ≤ length s

-- a list: its first entry's place
pub record ListAt {A : Type 0} (limit : ℕ) (F : Reader A) (s : List ℕ) (at : ℕ) (xs : List A) (n : ℕ) : Type 0 where
  pub first : ℕ
  pub few : length xs ≤ limit
  pub opens : read_count limit s at ≡ ok (length xs) first
  pub entries_are : entries (length xs) F s first ≡ ok xs n

-- the i-th entry stands at k, those after it follow, and the list ends at n
pub record Rest {A : Type 0} (F : Reader A) (s : List ℕ) (k i : ℕ) (xs : List A) (n : ℕ) : Type 0 where
  pub entries_are : entries (length xs - i) F s k ≡ ok (drop i xs) n

-- the entry whose turn it is
pub record Turn {A : Type 0} (F : Reader A) (s : List ℕ) (k i : ℕ) (xs : List A) (n : ℕ) : Type 0 where
  pub entry : A
  pub end : ℕ
  pub split : drop i xs ≡ entry ∷ drop (i + 1) xs
  pub here : F s k ≡ ok entry end
  pub next : Rest F s end (i + 1) xs n

-- an option: null, or the item
pub data OptionAt {A : Type 0} (F : Reader A) (s : List ℕ) (at : ℕ) : Option A → ℕ → Type 0 where
  absent : {n : ℕ} → get_or s at 0 ≡ 246 → n ≡ at + 1 → OptionAt F s at none n
  present : {x : A} {n : ℕ} → (get_or s at 0 ≡ 246 → ⊥) → F s at ≡ ok x n → OptionAt F s at (some x) n

-- the fields of a record, each where the one before it ends
pub record EnumDeclAt (s : List ℕ) (at : ℕ) (x : EnumDecl) (n : ℕ) : Type 0 where
  pub name : ℕ
  pub variants : ℕ
  pub opens : read_fields 2 s at ≡ ok tt name
  pub name_is : read_name s name ≡ ok x.name variants
  pub variants_is : read_names s variants ≡ ok x.variants n

pub record FieldDeclAt (s : List ℕ) (at : ℕ) (x : FieldDecl) (n : ℕ) : Type 0 where
  pub name : ℕ
  pub ty : ℕ
  pub opens : read_fields 2 s at ≡ ok tt name
  pub name_is : read_name s name ≡ ok x.name ty
  pub ty_is : read_ty s ty ≡ ok x.ty n

pub record ConstructorGroupAt (s : List ℕ) (at : ℕ) (x : ConstructorGroup) (n : ℕ) : Type 0 where
  pub name : ℕ
  pub variants : ℕ
  pub opens : read_fields 2 s at ≡ ok tt name
  pub name_is : read_name s name ≡ ok x.name variants
  pub variants_is : list_of max_list read_constructor_variant s variants ≡ ok x.variants n

pub record VarDeclAt (s : List ℕ) (at : ℕ) (x : VarDecl) (n : ℕ) : Type 0 where
  pub name : ℕ
  pub ty : ℕ
  pub init : ℕ
  pub opens : read_fields 3 s at ≡ ok tt name
  pub name_is : read_name s name ≡ ok x.name ty
  pub ty_is : read_ty s ty ≡ ok x.ty init
  pub init_is : read_expr max_depth s init ≡ ok x.init n

pub record PatternFieldAt (s : List ℕ) (at : ℕ) (x : PatternField) (n : ℕ) : Type 0 where
  pub name : ℕ
  pub pattern : ℕ
  pub opens : read_fields 2 s at ≡ ok tt name
  pub name_is : optional read_name s name ≡ ok x.name pattern
  pub pattern_is : read_pattern_expr s pattern ≡ ok x.pattern n

pub record PatternAt (s : List ℕ) (at : ℕ) (x : Pattern) (n : ℕ) : Type 0 where
  pub group : ℕ
  pub variant : ℕ
  pub opens : read_fields 2 s at ≡ ok tt group
  pub group_is : read_name s group ≡ ok x.group variant
  pub variant_is : optional read_pattern_variant s variant ≡ ok x.variant n

pub record OutputExprAt (s : List ℕ) (at : ℕ) (x : OutputExpr) (n : ℕ) : Type 0 where
  pub group : ℕ
  pub variant : ℕ
  pub args : ℕ
  pub opens : read_fields 3 s at ≡ ok tt group
  pub group_is : read_name s group ≡ ok x.group variant
  pub variant_is : optional read_name s variant ≡ ok x.variant args
  pub args_is : list_of max_list read_top_expr s args ≡ ok x.args n

pub record AssignmentAt (s : List ℕ) (at : ℕ) (x : Assignment) (n : ℕ) : Type 0 where
  pub var : ℕ
  pub value : ℕ
  pub opens : read_fields 2 s at ≡ ok tt var
  pub var_is : read_name s var ≡ ok x.var value
  pub value_is : read_top_expr s value ≡ ok x.value n

pub record OnErrorAt (s : List ℕ) (at : ℕ) (x : OnError) (n : ℕ) : Type 0 where
  pub next_state : ℕ
  pub emits : ℕ
  pub opens : read_fields 2 s at ≡ ok tt next_state
  pub next_state_is : read_name s next_state ≡ ok x.next_state emits
  pub emits_is : list_of max_list read_output_expr s emits ≡ ok x.emits n

pub record TransitionAt (s : List ℕ) (at : ℕ) (x : Transition) (n : ℕ) : Type 0 where
  pub id : ℕ
  pub state : ℕ
  pub pattern : ℕ
  pub guard : ℕ
  pub next_state : ℕ
  pub emits : ℕ
  pub assignments : ℕ
  pub priority : ℕ
  pub opens : read_fields 8 s at ≡ ok tt id
  pub id_is : read_number max_u64 s id ≡ ok x.id state
  pub state_is : read_name s state ≡ ok x.state pattern
  pub pattern_is : read_pattern s pattern ≡ ok x.pattern guard
  pub guard_is : optional read_top_expr s guard ≡ ok x.guard next_state
  pub next_state_is : read_name s next_state ≡ ok x.next_state emits
  pub emits_is : list_of max_list read_output_expr s emits ≡ ok x.emits assignments
  pub assignments_is : list_of max_list read_assignment s assignments ≡ ok x.assignments priority
  pub priority_is : optional (read_number max_u32) s priority ≡ ok x.priority n

pub record PropertyAt (s : List ℕ) (at : ℕ) (x : Property) (n : ℕ) : Type 0 where
  pub name : ℕ
  pub formula : ℕ
  pub opens : read_fields 2 s at ≡ ok tt name
  pub name_is : read_name s name ≡ ok x.name formula
  pub formula_is : read_formula max_depth s formula ≡ ok x.formula n

pub record ModuleAt (s : List ℕ) (at : ℕ) (x : Module) (n : ℕ) : Type 0 where
  pub name : ℕ
  pub version : ℕ
  pub on_error : ℕ
  pub enums : ℕ
  pub initial_state : ℕ
  pub events : ℕ
  pub outputs : ℕ
  pub vars : ℕ
  pub transitions : ℕ
  pub properties : ℕ
  pub assumptions : ℕ
  pub opens : read_fields 11 s at ≡ ok tt name
  pub name_is : read_name s name ≡ ok x.name version
  pub version_is : optional read_version s version ≡ ok x.version on_error
  pub on_error_is : optional read_on_error s on_error ≡ ok x.on_error enums
  pub enums_is : list_of max_list read_enum_decl s enums ≡ ok x.enums initial_state
  pub initial_state_is : optional read_name s initial_state ≡ ok x.initial_state events
  pub events_is : list_of max_list read_constructor_group s events ≡ ok x.events outputs
  pub outputs_is : list_of max_list read_constructor_group s outputs ≡ ok x.outputs vars
  pub vars_is : list_of max_list read_var_decl s vars ≡ ok x.vars transitions
  pub transitions_is : list_of max_list read_transition s transitions ≡ ok x.transitions properties
  pub properties_is : list_of max_list read_property s properties ≡ ok x.properties assumptions
  pub assumptions_is : list_of max_list read_property s assumptions ≡ ok x.assumptions n

pub record IrAt (s : List ℕ) (at : ℕ) (x : Ir) (n : ℕ) : Type 0 where
  pub ir_version : ℕ
  pub modules : ℕ
  pub opens : read_fields 2 s at ≡ ok tt ir_version
  pub ir_version_is : read_ir_version s ir_version ≡ ok x.ir_version modules
  pub modules_is : list_of max_modules read_module s modules ≡ ok x.modules n

-- a data enum: the head that stands there, and the fields after it
pub record EnumAt {A : Type 0} (Fields : ℕ → ℕ → A → ℕ → Type 0) (s : List ℕ) (at : ℕ) (x : A) (n : ℕ) : Type 0 where
  pub tag : Tag
  pub next : ℕ
  pub tagged : read_tag s at ≡ ok tag next
  pub fields : Fields next tag.case x n

-- the fields of each, by the case number: they start at m, and the content is what the case makes of them
pub data ExprAt (d : ℕ) (s : List ℕ) (m : ℕ) : ℕ → Expr → ℕ → Type 0 where
  int_expr : {v n : ℕ} → read_number max_u64 s m ≡ ok v n → ExprAt d s m 0 (expr.int v) n
  bool_expr : {b : Bool} {n : ℕ} → read_bool s m ≡ ok b n → ExprAt d s m 1 (expr.bool b) n
  path_expr : {p : List Name} {n : ℕ} → read_path s m ≡ ok p n → ExprAt d s m 2 (expr.path p) n
  unary_expr : {op k : ℕ} {e : Expr} {n : ℕ} → read_case unary_ops s m ≡ ok op k → read_expr d s k ≡ ok e n → ExprAt d s m 3 (expr.unary op e) n
  binary_expr : {op k : ℕ} {l : Expr} {j : ℕ} {r : Expr} {n : ℕ} → read_case bin_ops s m ≡ ok op k → read_expr d s k ≡ ok l j → read_expr d s j ≡ ok r n → ExprAt d s m 4 (expr.binary op l r) n

pub data TyAt (s : List ℕ) (m : ℕ) : ℕ → Ty → ℕ → Type 0 where
  bool_ty : TyAt s m 0 decl.bool m
  bit_ty : {w n : ℕ} → read_number max_u32 s m ≡ ok w n → TyAt s m 1 (decl.bit w) n
  enum_ty : {w : Name} {n : ℕ} → read_name s m ≡ ok w n → TyAt s m 2 (decl.enum w) n

pub data ConstructorVariantAt (s : List ℕ) (m : ℕ) : ℕ → ConstructorVariant → ℕ → Type 0 where
  unit_variant : {w : Name} {n : ℕ} → read_name s m ≡ ok w n → ConstructorVariantAt s m 0 (decl.unit w) n
  struct_variant : {w : Name} {k : ℕ} {fs : List FieldDecl} {n : ℕ} → read_name s m ≡ ok w k → list_of max_list read_field_decl s k ≡ ok fs n → ConstructorVariantAt s m 1 (decl.struct w fs) n

pub data PatternExprAt (s : List ℕ) (m : ℕ) : ℕ → PatternExpr → ℕ → Type 0 where
  wildcard_pattern : PatternExprAt s m 0 pattern.wildcard m
  bind_pattern : {w : Name} {n : ℕ} → read_name s m ≡ ok w n → PatternExprAt s m 1 (pattern.bind w) n
  int_pattern : {v n : ℕ} → read_number max_u64 s m ≡ ok v n → PatternExprAt s m 2 (pattern.int v) n
  bool_pattern : {b : Bool} {n : ℕ} → read_bool s m ≡ ok b n → PatternExprAt s m 3 (pattern.bool b) n
  path_pattern : {p : List Name} {n : ℕ} → read_path s m ≡ ok p n → PatternExprAt s m 4 (pattern.enum_variant p) n

pub data PatternVariantAt (s : List ℕ) (m : ℕ) : ℕ → PatternVariant → ℕ → Type 0 where
  unit_pattern : {w : Name} {n : ℕ} → read_name s m ≡ ok w n → PatternVariantAt s m 0 (pattern.unit w) n
  struct_pattern : {w : Name} {k : ℕ} {fs : List PatternField} {n : ℕ} → read_name s m ≡ ok w k → list_of max_list read_pattern_field s k ≡ ok fs n → PatternVariantAt s m 1 (pattern.struct w fs) n

pub data FormulaAt (d : ℕ) (s : List ℕ) (m : ℕ) : ℕ → Formula → ℕ → Type 0 where
  input_formula : {p : Pattern} {n : ℕ} → read_pattern s m ≡ ok p n → FormulaAt d s m 0 (formula.input_is p) n
  output_formula : {p : Pattern} {n : ℕ} → read_pattern s m ≡ ok p n → FormulaAt d s m 1 (formula.output_has p) n
  expr_formula : {e : Expr} {n : ℕ} → read_expr d s m ≡ ok e n → FormulaAt d s m 2 (formula.expr e) n
  not_formula : {f : Formula} {n : ℕ} → read_formula d s m ≡ ok f n → FormulaAt d s m 3 (formula.not f) n
  and_formula : {f : Formula} {k : ℕ} {g : Formula} {n : ℕ} → read_formula d s m ≡ ok f k → read_formula d s k ≡ ok g n → FormulaAt d s m 4 (formula.and f g) n
  or_formula : {f : Formula} {k : ℕ} {g : Formula} {n : ℕ} → read_formula d s m ≡ ok f k → read_formula d s k ≡ ok g n → FormulaAt d s m 5 (formula.or f g) n
  implies_formula : {f : Formula} {k : ℕ} {g : Formula} {n : ℕ} → read_formula d s m ≡ ok f k → read_formula d s k ≡ ok g n → FormulaAt d s m 6 (formula.implies f g) n
  next_formula : {f : Formula} {n : ℕ} → read_formula d s m ≡ ok f n → FormulaAt d s m 7 (formula.next f) n
  always_formula : {f : Formula} {n : ℕ} → read_formula d s m ≡ ok f n → FormulaAt d s m 8 (formula.always f) n
  bounded_always_formula : {b k : ℕ} {f : Formula} {n : ℕ} → read_number max_u64 s m ≡ ok b k → read_formula d s k ≡ ok f n → FormulaAt d s m 9 (formula.bounded_always b f) n
  bounded_eventually_formula : {b k : ℕ} {f : Formula} {n : ℕ} → read_number max_u64 s m ≡ ok b k → read_formula d s k ≡ ok f n → FormulaAt d s m 10 (formula.bounded_eventually b f) n
  eventually_formula : {f : Formula} {n : ℕ} → read_formula d s m ≡ ok f n → FormulaAt d s m 11 (formula.eventually f) n
  until_formula : {f : Formula} {k : ℕ} {g : Formula} {n : ℕ} → read_formula d s m ≡ ok f k → read_formula d s k ≡ ok g n → FormulaAt d s m 12 (formula.until f g) n
