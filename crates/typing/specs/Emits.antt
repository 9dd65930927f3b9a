-- What the steps of the judging of an output promise: for whatever reads there, the answer is the definition's.
use Rattle.std.specs.Prelude.{ℕ, ◌≡◌, List, Option as Maybe, Result, ⊤}
use Rattle.std.proofs.Math.Option.{Option, none, some}
use Rattle.std.proofs.Math.ListN.{get_elem?}
use Rattle.reading.specs.Read.{ok}
use Rattle.reading.specs.Limits.{max_list}
use Rattle.reading.specs.Text.{Name, read_name}
use Rattle.reading.specs.Expr.{Expr}
use Rattle.reading.specs.Combine.{list_of, optional}
use Rattle.reading.specs.Decl.{Ty, FieldDecl, ConstructorVariant, ConstructorGroup, read_ty, read_field_decl, read_constructor_variant}
use Rattle.reading.specs.Transition.{OutputExpr, read_top_expr}
use Rattle.reading.specs.Skip.{text_at}
use Rattle.typing.specs.Types.{type_to_expr_type}
use Rattle.typing.specs.Causes.{Answer, blame, arg}
use Rattle.typing.specs.Names.{first_called}
use Rattle.typing.specs.Env.{Env}
use Rattle.typing.specs.Patterns.{declared_name}
use Rattle.typing.specs.Outputs.{arg_cause, judge_args, variant_name, judge_output_variant, judge_output}
use Rattle.typing.specs.Means.{typed_of, outcome, blame_of, Typed}
use Rattle.typing.specs.Accepts.{name_found}
use Rattle.typing.specs.Entries.{Entered}
use Rattle.typing.specs.Rolls.{Bytes, OutputsAt, variants_in}
use Rattle.typing.specs.declared.cause.Blame.{Blame}

-- an argument that was typed, with its field's name and type; and so many arguments with their fields
pub record JudgesArg (s : List ℕ) (t : Typed) (name ty : ℕ) (r : Result ⊤ Blame) : Type 0 where
  pub of : (a : Answer) (n : ℕ) (u : Ty) (m : ℕ) → typed_of s t ≡ outcome n a → read_ty s ty ≡ ok u m → blame_of s r ≡ blame (arg (text_at s name)) (arg_cause a (type_to_expr_type u))

pub record JudgesArgs (env : Env) (s : List ℕ) (at fields count : ℕ) (r : Result ⊤ Blame) : Type 0 where
  pub of : (es : List Expr) (fs : List FieldDecl) → Entered read_top_expr s count at es → Entered read_field_decl s count fields fs → blame_of s r ≡ judge_args env es fs

-- the name of a list's only variant, and the one given or that
pub record OnlyVariant (s : List ℕ) (at : ℕ) (r : Maybe ℕ) : Type 0 where
  pub of : (vs : List ConstructorVariant) (n : ℕ) → list_of max_list read_constructor_variant s at ≡ ok vs n → name_found s r ≡ variant_name none vs

pub record NamesVariant (s : List ℕ) (at variants : ℕ) (r : Maybe ℕ) : Type 0 where
  pub of : (v : Option Name) (n : ℕ) (vs : List ConstructorVariant) (m : ℕ) → optional read_name s at ≡ ok v n → list_of max_list read_constructor_variant s variants ≡ ok vs m → name_found s r ≡ variant_name v vs

-- the arguments, by the declared variant, by the variants, and by the group whose variants they are
pub record JudgesVariant (env : Env) (s : List ℕ) (args name decl : ℕ) (r : Result ⊤ Blame) : Type 0 where
  pub of : (o : OutputExpr) (n : ℕ) (d : ConstructorVariant) (m : ℕ) → list_of max_list read_top_expr s args ≡ ok o.args n → read_constructor_variant s decl ≡ ok d m → blame_of s r ≡ judge_output_variant env o (text_at s name) (some d)

pub record JudgesName (env : Env) (s : List ℕ) (group args name : ℕ) (outputs : List ℕ) (k variants : ℕ) (r : Result ⊤ Blame) : Type 0 where
  pub of : (o : OutputExpr) (n : ℕ) (gs : List ConstructorGroup) (g : ConstructorGroup) → Bytes s → text_at s group ≡ o.group → list_of max_list read_top_expr s args ≡ ok o.args n → OutputsAt s outputs gs → get_elem? gs k ≡ some g → variants ≡ variants_in s outputs k → blame_of s r ≡ judge_output_variant env o (text_at s name) (first_called declared_name (text_at s name) g.variants)

pub record JudgesGroup (env : Env) (s : List ℕ) (group : ℕ) (outputs : List ℕ) (k : ℕ) (r : Result ⊤ Blame) : Type 0 where
  pub of : (o : OutputExpr) (v a n : ℕ) (gs : List ConstructorGroup) (g : ConstructorGroup) → read_name s group ≡ ok o.group v → optional read_name s v ≡ ok o.variant a → list_of max_list read_top_expr s a ≡ ok o.args n → OutputsAt s outputs gs → get_elem? gs k ≡ some g → blame_of s r ≡ judge_output env o (some g)
