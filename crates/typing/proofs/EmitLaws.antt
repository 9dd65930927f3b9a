-- What each step of the judging of an output gives, for whatever reads there.
use Rattle.std.specs.Prelude.{Option as Maybe, Some, None, Result, Ok, Err, ⊤}
use Prim.Native.Nat.{ℕ, ◌-◌, ◌<◌, ◌≤◌}
use mathlib.Core.Path.{◌≡◌, refl, sym, ap, ◌∙◌}
use mathlib.Core.Bool.{Bool, true, false}
use mathlib.Core.List.{List, [], ◌∷◌}
use mathlib.Core.Option.{Option, none, some}
use native.Mathlib.Omega.{arith}
use lib.Dec.{eqb}
use lib.ListN.{length, get_or, get_elem?}
use borrow.Author.Tests.{eq-eqb, ne_eqb}
use Rattle.reading.specs.Read.{ok, pick}
use Rattle.reading.specs.Limits.{max_depth, max_list}
use Rattle.reading.specs.Item.{read_count}
use Rattle.reading.specs.Text.{Name, read_name}
use Rattle.reading.specs.Expr.{Expr}
use Rattle.reading.specs.Combine.{list_of, optional}
use Rattle.reading.specs.Decl.{FieldDecl, ConstructorVariant, ConstructorGroup, read_field_decl, read_constructor_variant}
use Rattle.reading.specs.Transition.{OutputExpr, read_top_expr}
use Rattle.reading.specs.Skip.{text_at}
use Rattle.reading.proofs.Rules.{no}
use Rattle.reading.proofs.ExprLaws.{name_laws, name_solid}
use Rattle.reading.proofs.OptionLaws.{option_laws}
use Rattle.reading.proofs.Views.{output_expr_at}
use Rattle.reading.proofs.ListViews.{option_at}
use Rattle.reading.proofs.Walks.{name_text}
use Rattle.typing.specs.Types.{type_to_expr_type}
use Rattle.typing.specs.Causes as causes
use Rattle.typing.specs.Causes.{first_of, blame, arg}
use Rattle.typing.specs.Names.{first_called}
use Rattle.typing.specs.Env.{Env}
use Rattle.typing.specs.Typing.{type_expr}
use Rattle.typing.specs.Outputs.{fields_of, arg_cause, judge_args, variant_name, judge_output_variant, judge_output_name, judge_output, validate_output_expr}
use Rattle.typing.specs.Means.{cause_of, unfit_of, within_of, blame_of, Fit, Typed}
use Rattle.typing.specs.Table.{after_item, after_head, after_tag, Past}
use Rattle.typing.specs.Accepts.{name_found}
use Rattle.typing.specs.First.{group_name}
use Rattle.typing.specs.Typed.{Types}
use Rattle.typing.specs.Arguments.{AcceptsTyped}
use Rattle.typing.specs.Entries.{opened, Entered, FieldsAt}
use Rattle.typing.specs.Emits.{JudgesArg, JudgesArgs, OnlyVariant, NamesVariant, JudgesVariant, JudgesName, JudgesGroup}
use Rattle.typing.specs.Rolls.{variants_in, OutputsAt, FindsOn, FindsVariant}
use Rattle.typing.specs.Blames.{JudgesOutput}
use Rattle.typing.specs.declared.ty.Ty.{Ty}
use Rattle.typing.specs.declared.cause.Cause.{Cause}
use Rattle.typing.specs.declared.cause.Cause.TheVariants.{UnknownOutputGroup, BareOutput, UnknownOutputVariant, ArgumentCount}
use Rattle.typing.specs.declared.cause.Within.TheVariants.{Alone, Arg}
use Rattle.typing.specs.declared.cause.Blame.{Blame}
use Rattle.typing.specs.declared.entries.Entries.{Entries}
use Rattle.typing.proofs.EnvLaws.{entry, after_is, fields_head}
use Rattle.typing.proofs.TypeLaws.{is_typed, is_failed}
use Rattle.typing.proofs.EntryLaws.{entered, Next, none_left, next, entered_at}
use Rattle.typing.proofs.PartLaws.{past_at, option_null, option_there, field_text, field_type, field_ends}
use Rattle.typing.proofs.FirstLaws.{found_no, found_yes, variant_text}
use Rattle.typing.proofs.OutputLaws.{numbered_no, numbered_yes, group_number}

-- an argument with its field's name and type
module _ (s : List ℕ) (t : Typed) (name ty : ℕ) {f : Fit} (g : AcceptsTyped s t ty f) where
  pub arg_fine : f ≡ Ok tt → JudgesArg s t name ty (Ok tt)
  unfolding blame unfit_of blame_of
  arg_fine q = record { of = λ a n u m i j. rw (sym (g.of a n u m i j) ∙ ap (unfit_of s) q) }

  pub arg_unfit : {c : Cause} → f ≡ Err c → JudgesArg s t name ty (Err (record { within = Arg name; cause = c }))
  unfolding blame unfit_of blame_of within_of
  arg_unfit q = record { of = λ a n u m i j. rw (sym (g.of a n u m i j) ∙ ap (unfit_of s) q) }

found_first : (s : List ℕ) {b : Result ⊤ Blame} {x : Blame} → b ≡ Err x → (o : Option causes.Blame) → blame_of s b ≡ first_of (blame_of s b) o
unfolding first_of blame_of
found_first s q o = rw q

none_first : (s : List ℕ) {b : Result ⊤ Blame} → b ≡ Ok tt → (o : Option causes.Blame) → o ≡ first_of (blame_of s b) o
unfolding first_of blame_of
none_first s q o = rw q

-- what is left of both lists decides
pub record Left (env : Env) (s : List ℕ) (left k g : ℕ) (es : List Expr) (fs : List FieldDecl) : Type 0 where
  pub args : List Expr
  pub fields : List FieldDecl
  pub given : Entered read_top_expr s left k args
  pub declared : Entered read_field_decl s left g fields
  pub same : judge_args env args fields ≡ judge_args env es fs

pub record Judging (env : Env) (s : List ℕ) (at fields count left k g : ℕ) : Type 0 where
  pub of : (es : List Expr) (fs : List FieldDecl) → Entered read_top_expr s count at es → Entered read_field_decl s count fields fs → Left env s left k g es fs

pub args_start : (env : Env) (s : List ℕ) (at fields count : ℕ) → Judging env s at fields count count at fields
args_start env s at fields count = record { of = λ es fs u v. record { args = es; fields = fs; given = u; declared = v; same = refl } }

module _ (env : Env) (s : List ℕ) (at fields count left k g : ℕ) (h : Judging env s at fields count left k g) where
  pub args_done : left ≤ 0 → JudgesArgs env s at fields count (Ok tt)
  unfolding judge_args blame_of
  args_done z = record { of = λ es fs u v. let l = h.of es fs u v in (λ i. judge_args env (sym (none_left l.args z l.given) i) l.fields) ∙ l.same }

  module _ (z : 0 < left) {name ty : ℕ} {t : Typed} {b : Result ⊤ Blame} (n : name ≡ after_head s g) (o : Past s name ty) (y : Types env max_depth s k t) (e : JudgesArg s t name ty b) where
    arg_is : (x : Expr) (m : ℕ) (d : FieldDecl) (i : ℕ) → read_top_expr s k ≡ ok x m → read_field_decl s g ≡ ok d i → blame_of s b ≡ blame (arg d.name) (arg_cause (type_expr env x) (type_to_expr_type d.ty))
    unfolding read_top_expr
    arg_is x m d i q r = e.of (type_expr env x) m d.ty i (y.of x m q) (field_type s g d i r (past_at n o)) ∙ ap (λ (w : Name). blame (arg w) (arg_cause (type_expr env x) (type_to_expr_type d.ty))) (field_text s g d i r n)

    -- the argument whose turn it is, and those after it
    turn : {es : List Expr} {fs : List FieldDecl} (l : Left env s left k g es fs) → (x : Next read_top_expr s left k l.args) × (d : Next read_field_decl s left g l.fields) × (first_of (blame_of s b) (judge_args env x.tail d.tail) ≡ judge_args env es fs)
    unfolding judge_args
    turn l =
        let x = next l.args z l.given in
        let d = next l.fields z l.declared in
        (x, d, ap (λ o. first_of o (judge_args env x.tail d.tail)) (arg_is x.head x.end d.head d.end x.here d.here) ∙ (λ i. judge_args env (sym x.split i) (sym d.split i)) ∙ l.same)

    pub args_hit : {x : Blame} {r : Result ⊤ Blame} → b ≡ Err x → r ≡ Err x → JudgesArgs env s at fields count r
    args_hit q g = record { of = λ es fs u v. ap (blame_of s) (g ∙ sym q) ∙ found_first s q _ ∙ (turn (h.of es fs u v)).2 }

    module _ (q : b ≡ Ok tt) where
      pub args_untyped : {c : Cause} → t ≡ Err c → JudgesArgs env s at fields count (Ok tt)
      unfolding read_top_expr arg_cause blame blame_of
      args_untyped f = record {
        of = λ es fs u v.
            let w = turn (h.of es fs u v) in
            let x = w.0 in
            let d = w.1 in
            let i = is_failed env max_depth s k y x.head x.end x.here f in
            let j = sym (ap (blame_of s) q) ∙ arg_is x.head x.end d.head d.end x.here d.here in
            let r = rw i at j in
            no (cc);
      }

      pub args_miss : {τ : Ty} {k' g' : ℕ} → t ≡ Ok (τ, k') → Past s ty g' → Judging env s at fields count (left - 1) k' g'
      unfolding read_top_expr
      args_miss f p = record {
        of = λ es fs u v.
            let w = turn (h.of es fs u v) in
            let x = w.0 in
            let d = w.1 in
            record {
              args = x.tail;
              fields = d.tail;
              given = entered_at (is_typed env max_depth s k y x.head x.end x.here f).1 x.rest;
              declared = entered_at (field_ends s g d.head d.end d.here (past_at n o) p) d.rest;
              same = none_first s q _ ∙ w.2;
            };
      }

-- the only variant
module _ (s : List ℕ) (at : ℕ) {e : Entries} (h : e ≡ opened (read_count max_list s at)) where
  pub only_not : (e.many ≡ 1 → ⊥) → OnlyVariant s at None
  unfolding name_found variant_name
  only_not k = record { of = λ vs n g. go vs (entered read_constructor_variant s at h vs n g).count }
    where
      go : (vs : List ConstructorVariant) → e.many ≡ length vs → name_found s None ≡ variant_name none vs
      go [] i = refl
      go (v ∷ []) i = absurd (k i)
      go (v ∷ (w ∷ ws)) i = refl

  pub only_one : {k : ℕ} → e.many ≡ 1 → k ≡ after_tag s e.first → OnlyVariant s at (Some k)
  unfolding name_found variant_name
  only_one {k} i j = record { of = λ vs n g. go vs (entered read_constructor_variant s at h vs n g) }
    where
      go : (vs : List ConstructorVariant) → Entered read_constructor_variant s e.many e.first vs → name_found s (Some k) ≡ variant_name none vs
      go [] l = absurd (omega (arith, l.count))
      go (v ∷ []) l = let u = entry read_constructor_variant s e.first v [] l.end l.reads in ap some (ap (text_at s) j ∙ variant_text s e.first v u.end u.here)
      go (v ∷ (w ∷ ws)) l = absurd (omega (arith, l.count))

-- the variant's name
module _ (s : List ℕ) (at variants : ℕ) {b : Bool} (e : b ≡ eqb (get_or s at 0) 246) where
  pub named_not : {r : Maybe ℕ} → b ≡ true → OnlyVariant s variants r → NamesVariant s at variants r
  named_not q h = record { of = λ v n vs m i j. rw (option_null e q (option_at read_name s at v n i)) (h.of vs m j) }

  pub named_there : b ≡ false → NamesVariant s at variants (Some at)
  unfolding name_found variant_name
  named_there q = record {
    of = λ v n vs m i j.
        let x = option_there e q (option_at read_name s at v n i) in
        rw (x.1, name_text s at x.0 n x.2);
  }

-- by the declared variant
module _ (env : Env) (s : List ℕ) (args name decl : ℕ) {given fields : Entries} (h : given ≡ opened (read_count max_list s args)) (g : FieldsAt s decl fields) where
  pub count_differs : (given.many ≡ fields.many → ⊥) → JudgesVariant env s args name decl (Err (record { within = Alone; cause = ArgumentCount name given.many fields.many }))
  unfolding judge_output_variant blame blame_of within_of cause_of pick
  count_differs z = record {
    of = λ o n d m i j.
        let x = entered read_top_expr s args h o.args n i in
        let y = g.declared d m j in
        rw (x.count, y.count, ne_eqb (length o.args) (length (fields_of d)) (λ q. z (x.count ∙ q ∙ sym y.count)));
  }

  pub count_same : (r : Result ⊤ Blame) → given.many ≡ fields.many → JudgesArgs env s given.first fields.first given.many r → JudgesVariant env s args name decl r
  unfolding judge_output_variant pick
  count_same r z k = record {
    of = λ o n d m i j.
        let x = entered read_top_expr s args h o.args n i in
        let y = g.declared d m j in
        rw (eq-eqb (length o.args) (length (fields_of d)) (sym x.count ∙ z ∙ y.count)) (k.of o.args (fields_of d) x (rw (sym z) at y));
  }

-- by the variants
module _ (env : Env) (s : List ℕ) (group args name : ℕ) (outputs : List ℕ) (k variants : ℕ) {f : Maybe ℕ} {w : Name} (t : w ≡ text_at s name) (h : FindsVariant s outputs k variants w f) where
  pub variant_unknown : f ≡ None → JudgesName env s group args name outputs k variants (Err (record { within = Alone; cause = UnknownOutputVariant name group }))
  unfolding judge_output_variant blame blame_of within_of cause_of
  variant_unknown q = record { of = λ o n gs g B i j u e v. rw (sym t, found_no (h.of B gs g u e v) q, i) }

  pub variant_known : {decl : ℕ} (r : Result ⊤ Blame) → f ≡ Some decl → JudgesVariant env s args name decl r → JudgesName env s group args name outputs k variants r
  variant_known r q y = record { of = λ o n gs g B i j u e v. let x = found_yes (h.of B gs g u e v) q in rw (sym t, x.3) (rw (sym t) at (y.of o n x.0 x.1 j x.2)) }

-- by the declared group
module _ (env : Env) (s : List ℕ) (group : ℕ) (outputs : List ℕ) (k : ℕ) {variant args variants : ℕ} {f : Maybe ℕ} (a : Past s group variant) (b : Past s variant args) (c : variants ≡ variants_in s outputs k) (e : NamesVariant s variant variants f) where
  variant_place : (o : OutputExpr) (l : ℕ) → read_name s group ≡ ok o.group l → variant ≡ l
  variant_place o l i = a.is ∙ after_is name_laws s a.each group o.group l i

  name_was : (o : OutputExpr) (l m : ℕ) (gs : List ConstructorGroup) (g : ConstructorGroup) → read_name s group ≡ ok o.group l → optional read_name s l ≡ ok o.variant m → OutputsAt s outputs gs → get_elem? gs k ≡ some g → name_found s f ≡ variant_name o.variant g.variants
  name_was o l m gs g i j u v = let x = u.variants_are k g v in e.of o.variant m g.variants x.0 (ap (optional read_name s) (variant_place o l i) ∙ j) (rw c x.1)

  pub output_bare : f ≡ None → JudgesGroup env s group outputs k (Err (record { within = Alone; cause = BareOutput group }))
  unfolding judge_output judge_output_name name_found blame blame_of within_of cause_of
  output_bare q = record { of = λ o l m n gs g i j u v w. rw (sym (name_was o l m gs g i j v w) ∙ ap (name_found s) q, name_text s group o.group l i) }

  pub output_named : {name : ℕ} (r : Result ⊤ Blame) → f ≡ Some name → JudgesName env s group args name outputs k variants r → JudgesGroup env s group outputs k r
  unfolding judge_output judge_output_name name_found
  output_named r q y = record {
    of = λ o l m n gs g i j u v w.
        let p : args ≡ m = b.is ∙ ap (after_item s) (variant_place o l i) ∙ after_is (option_laws name_laws name_solid) s b.each l o.variant m j in
        rw (sym (name_was o l m gs g i j v w) ∙ ap (name_found s) q)
        (y.of o n gs g a.each (name_text s group o.group l i) (ap (list_of max_list read_top_expr s) p ∙ u) v w c);
  }

-- by the groups
module _ (env : Env) (s : List ℕ) (at : ℕ) (outputs : List ℕ) {group : ℕ} {w : Name} {f : Maybe ℕ} (h : group ≡ after_head s at) (t : w ≡ text_at s group) (e : FindsOn false s w outputs 0 f) where
  pub output_unknown : f ≡ None → JudgesOutput env s at outputs (Err (record { within = Alone; cause = UnknownOutputGroup group }))
  unfolding validate_output_expr judge_output blame blame_of within_of cause_of
  output_unknown q = record {
    of = λ gs o j u v.
        let x = output_expr_at s at o j v in
        let p : w ≡ o.group = t ∙ ap (text_at s) (h ∙ fields_head 3 s at tt x.group x.opens) ∙ name_text s x.group o.group x.variant x.group_is in
        let y = group_number s outputs w gs e u in
        rw (sym p, numbered_no y.2 (sym y.1 ∙ q), sym t);
  }

  pub output_known : {k : ℕ} (r : Result ⊤ Blame) → f ≡ Some k → JudgesGroup env s group outputs k r → JudgesOutput env s at outputs r
  unfolding validate_output_expr
  output_known r q g = record {
    of = λ gs o j u v.
        let x = output_expr_at s at o j v in
        let z : group ≡ x.group = h ∙ fields_head 3 s at tt x.group x.opens in
        let p : w ≡ o.group = t ∙ ap (text_at s) z ∙ name_text s x.group o.group x.variant x.group_is in
        let y = group_number s outputs w gs e u in
        let d = numbered_yes y.2 (sym y.1 ∙ q) in
        g.of o x.variant x.args j gs d.0 (ap (read_name s) z ∙ x.group_is) x.variant_is x.args_is u d.1
        ∙ ap (judge_output env o) (sym d.2 ∙ ap (λ (n : Name). first_called group_name n gs) p);
  }
