-- Transitions, and what they emit and set.
use Rattle.std.specs.Prelude.{ℕ, ◌≤◌, List, ◌++◌}
use Rattle.std.proofs.Math.Option.{Option}
use Rattle.reading.specs.Read.{Reader}
use Rattle.reading.specs.Limits.{max_u32, max_u64, max_list, max_depth}
use Rattle.reading.specs.Item.{read_number}
use Rattle.reading.specs.Text.{Name, read_name}
use Rattle.reading.specs.Combine.{◌then◌, record_of, list_of, optional}
use Rattle.reading.specs.Encode.{enc_head, enc_text, enc_list, enc_option, enc_record, WithinName, WithinList, WithinOption, ◌&◌}
use Rattle.reading.specs.Expr.{Expr, read_expr, enc_expr, WithinExpr}
use Rattle.reading.specs.Pattern.{Pattern, read_pattern, enc_pattern, WithinPattern}

pub record OutputExpr : Type 0 where
  pub group : Name
  pub variant : Option Name
  pub args : List Expr

pub record Assignment : Type 0 where
  pub var : Name
  pub value : Expr

pub record OnError : Type 0 where
  pub next_state : Name
  pub emits : List OutputExpr

pub record Transition : Type 0 where
  pub id : ℕ
  pub state : Name
  pub pattern : Pattern
  pub guard : Option Expr
  pub next_state : Name
  pub emits : List OutputExpr
  pub assignments : List Assignment
  pub priority : Option ℕ

-- a top expression
unfoldable pub read_top_expr : Reader Expr
read_top_expr = read_expr max_depth

unfoldable pub read_output_expr : Reader OutputExpr
read_output_expr =
    record_of 3 (read_name then optional read_name then list_of max_list read_top_expr)
    λ p. record { group = p.0; variant = p.1.0; args = p.1.1 }

unfoldable pub read_assignment : Reader Assignment
read_assignment = record_of 2 (read_name then read_top_expr) λ p. record { var = p.0; value = p.1 }

unfoldable pub read_on_error : Reader OnError
read_on_error = record_of 2 (read_name then list_of max_list read_output_expr) λ p. record { next_state = p.0; emits = p.1 }

unfoldable pub read_transition : Reader Transition
read_transition =
    record_of 8
    (read_number max_u64
    then read_name
    then read_pattern
    then optional read_top_expr
    then read_name
    then list_of max_list read_output_expr
    then list_of max_list read_assignment
    then optional (read_number max_u32))
    λ p. record {
      id = p.0;
      state = p.1.0;
      pattern = p.1.1.0;
      guard = p.1.1.1.0;
      next_state = p.1.1.1.1.0;
      emits = p.1.1.1.1.1.0;
      assignments = p.1.1.1.1.1.1.0;
      priority = p.1.1.1.1.1.1.1;
    }

unfoldable pub enc_output_expr : OutputExpr → List ℕ
enc_output_expr x = enc_record 3 (enc_text x.group ++ enc_option enc_text x.variant ++ enc_list enc_expr x.args)

unfoldable pub enc_assignment : Assignment → List ℕ
enc_assignment x = enc_record 2 (enc_text x.var ++ enc_expr x.value)

unfoldable pub enc_on_error : OnError → List ℕ
enc_on_error x = enc_record 2 (enc_text x.next_state ++ enc_list enc_output_expr x.emits)

unfoldable pub enc_transition : Transition → List ℕ
enc_transition x =
    enc_record 8
    (enc_head 0 x.id
    ++ enc_text x.state
    ++ enc_pattern x.pattern
    ++ enc_option enc_expr x.guard
    ++ enc_text x.next_state
    ++ enc_list enc_output_expr x.emits
    ++ enc_list enc_assignment x.assignments
    ++ enc_option (enc_head 0) x.priority)

abbrev pub WithinTopExpr : Expr → Type 0
WithinTopExpr = WithinExpr max_depth

unfoldable pub WithinOutputExpr : OutputExpr → Type 0
WithinOutputExpr x = WithinName x.group & WithinOption WithinName x.variant & WithinList max_list WithinTopExpr x.args

unfoldable pub WithinAssignment : Assignment → Type 0
WithinAssignment x = WithinName x.var & WithinTopExpr x.value

unfoldable pub WithinOnError : OnError → Type 0
WithinOnError x = WithinName x.next_state & WithinList max_list WithinOutputExpr x.emits

unfoldable pub WithinTransition : Transition → Type 0
WithinTransition x =
    (x.id ≤ max_u64)
    & WithinName x.state
    & WithinPattern x.pattern
    & WithinOption WithinTopExpr x.guard
    & WithinName x.next_state
    & WithinList max_list WithinOutputExpr x.emits
    & WithinList max_list WithinAssignment x.assignments
    & WithinOption (λ v. v ≤ max_u32) x.priority
