-- Modules, and the document's content as a whole.
use Rattle.std.specs.Prelude.{ℕ, ◌≤◌, List, ◌++◌}
use Rattle.std.proofs.Math.Option.{Option}
use Rattle.reading.specs.Read.{Reader}
use Rattle.reading.specs.Limits.{max_modules, max_list, max_depth, max_version}
use Rattle.reading.specs.Item.{read_ir_version}
use Rattle.reading.specs.Text.{Name, read_name, read_version}
use Rattle.reading.specs.Combine.{◌then◌, record_of, list_of, optional}
use Rattle.reading.specs.Encode.{enc_head, enc_text, enc_list, enc_option, enc_record, WithinName, WithinVersion, WithinList, WithinOption, ◌&◌}
use Rattle.reading.specs.Decl.{EnumDecl, ConstructorGroup, VarDecl, read_enum_decl, read_constructor_group, read_var_decl, enc_enum_decl, enc_constructor_group, enc_var_decl, WithinEnumDecl, WithinConstructorGroup, WithinVarDecl}
use Rattle.reading.specs.Transition.{OnError, Transition, read_on_error, read_transition, enc_on_error, enc_transition, WithinOnError, WithinTransition}
use Rattle.reading.specs.Formula.{Formula, read_formula, enc_formula, WithinFormula}

pub record Property : Type 0 where
  pub name : Name
  pub formula : Formula

pub record Module : Type 0 where
  pub name : Name
  pub version : Option Name
  pub on_error : Option OnError
  pub enums : List EnumDecl
  pub initial_state : Option Name
  pub events : List ConstructorGroup
  pub outputs : List ConstructorGroup
  pub vars : List VarDecl
  pub transitions : List Transition
  pub properties : List Property
  pub assumptions : List Property

pub record Ir : Type 0 where
  pub ir_version : ℕ
  pub modules : List Module

unfoldable pub read_property : Reader Property
read_property = record_of 2 (read_name then read_formula max_depth) λ p. record { name = p.0; formula = p.1 }

unfoldable pub read_module : Reader Module
read_module =
    record_of 11
    (read_name
    then optional read_version
    then optional read_on_error
    then list_of max_list read_enum_decl
    then optional read_name
    then list_of max_list read_constructor_group
    then list_of max_list read_constructor_group
    then list_of max_list read_var_decl
    then list_of max_list read_transition
    then list_of max_list read_property
    then list_of max_list read_property)
    λ p. record {
      name = p.0;
      version = p.1.0;
      on_error = p.1.1.0;
      enums = p.1.1.1.0;
      initial_state = p.1.1.1.1.0;
      events = p.1.1.1.1.1.0;
      outputs = p.1.1.1.1.1.1.0;
      vars = p.1.1.1.1.1.1.1.0;
      transitions = p.1.1.1.1.1.1.1.1.0;
      properties = p.1.1.1.1.1.1.1.1.1.0;
      assumptions = p.1.1.1.1.1.1.1.1.1.1;
    }

unfoldable pub read_ir : Reader Ir
read_ir = record_of 2 (read_ir_version then list_of max_modules read_module) λ p. record { ir_version = p.0; modules = p.1 }

unfoldable pub enc_property : Property → List ℕ
enc_property x = enc_record 2 (enc_text x.name ++ enc_formula x.formula)

unfoldable pub enc_module : Module → List ℕ
enc_module x =
    enc_record 11
    (enc_text x.name
    ++ enc_option enc_text x.version
    ++ enc_option enc_on_error x.on_error
    ++ enc_list enc_enum_decl x.enums
    ++ enc_option enc_text x.initial_state
    ++ enc_list enc_constructor_group x.events
    ++ enc_list enc_constructor_group x.outputs
    ++ enc_list enc_var_decl x.vars
    ++ enc_list enc_transition x.transitions
    ++ enc_list enc_property x.properties
    ++ enc_list enc_property x.assumptions)

unfoldable pub enc_ir : Ir → List ℕ
enc_ir x = enc_record 2 (enc_head 0 x.ir_version ++ enc_list enc_module x.modules)

unfoldable pub WithinProperty : Property → Type 0
WithinProperty x = WithinName x.name & WithinFormula max_depth x.formula

unfoldable pub WithinModule : Module → Type 0
WithinModule x =
    WithinName x.name
    & WithinOption WithinVersion x.version
    & WithinOption WithinOnError x.on_error
    & WithinList max_list WithinEnumDecl x.enums
    & WithinOption WithinName x.initial_state
    & WithinList max_list WithinConstructorGroup x.events
    & WithinList max_list WithinConstructorGroup x.outputs
    & WithinList max_list WithinVarDecl x.vars
    & WithinList max_list WithinTransition x.transitions
    & WithinList max_list WithinProperty x.properties
    & WithinList max_list WithinProperty x.assumptions

unfoldable pub WithinIr : Ir → Type 0
WithinIr x = (x.ir_version ≤ max_version) & WithinList max_modules WithinModule x.modules
