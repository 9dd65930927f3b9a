-- The laws of items of one head: numbers, case numbers, bools, and the heads of arrays.
use Prim.Native.Nat.{ℕ, ◌<◌, ◌≤◌}
use mathlib.Core.Path.{◌≡◌, refl, ap, ◌∙◌, subst}
use mathlib.Core.List.{List}
use mathlib.Core.Bool.{Bool, true, false}
use native.Mathlib.Omega.{arith}
use borrow.Author.Tests.{ltb-true, ltb-false, eqb-true, lt-ltb, le-ltb, eq-eqb}
use Rattle.reading.specs.Read.{ok}
use Rattle.reading.specs.Limits.{max_u64}
use Rattle.reading.specs.Item.{read_kind, read_number, read_case, read_bool, read_fields, read_count, read_tag}
use Rattle.reading.specs.Encode.{enc_head, enc_bool}
use Rattle.reading.specs.declared.item.Tag.{Tag}
use Rattle.reading.proofs.Rules.{pick_true, pick_false, bind_ok, no}
use Rattle.reading.proofs.Gives.{Gives, gives_ok, gives_refused, gives_pick, gives_bind}
use Rattle.reading.proofs.At.{At}
use Rattle.reading.proofs.HeadSound.{Bytes, head_sound}
use Rattle.reading.proofs.HeadComplete.{head_complete}
use Rattle.reading.proofs.Blames.{Blames, Inner, blames_ok, blames_refused, blames_pick, blames_bind, kind_blames, unexpected, out_of_range}
use Rattle.reading.proofs.Items.{plain_item}
use Rattle.reading.proofs.Formats.{Is, Laws, Never}

abbrev pub Below : ℕ → ℕ → Type 0
Below k v = v < k

abbrev pub AtMost : ℕ → ℕ → Type 0
AtMost k v = v ≤ k

module _ (s : List ℕ) (B : Bytes s) where
  pub kind_sound : (due at : ℕ) → Gives (Is (AtMost max_u64) (enc_head due) s at) (read_kind due s at)
  unfolding read_kind
  kind_sound due at =
      gives_bind _ _ _ λ h n e.
      gives_pick _ _ _ _ (λ q.
      let k = head_sound s B at h n e in
      gives_ok (Is (AtMost max_u64) (enc_head due) s at) h.argument n (record {
        within = omega (arith, k.small);
        there = subst (λ (z : ℕ). At s at (enc_head z h.argument) n) (eqb-true _ _ q) k.there;
      }))
      (λ _. gives_refused _ _ _)

module _ (s : List ℕ) where
  pub kind_complete : (due at v n : ℕ) → due < 7 → v ≤ max_u64 → At s at (enc_head due v) n → read_kind due s at ≡ ok v n
  unfolding read_kind
  kind_complete due at v n d7 v64 h =
      let e = head_complete s at due v (omega arith) n (omega arith) (λ q. let z : ◌≡◌ {A = ℕ} 0 1 = omega arith in no z) h in
      rw (e, bind_ok, eq-eqb due due refl, pick_true)

  simple_complete : (at v n : ℕ) → 20 ≤ v → v ≤ 22 → At s at (enc_head 7 v) n → read_kind 7 s at ≡ ok v n
  unfolding read_kind
  simple_complete at v n l u h =
      let e = head_complete s at 7 v (omega arith) n (omega arith) (λ _. (l, u)) h in
      rw (e, bind_ok, pick_true)

-- what is read by one head, and the test that it passes
module _ (s : List ℕ) (at : ℕ) where
  abbrev Ok : (due : ℕ) (P : ℕ → Type 0) → ℕ → ℕ → Type 0
  Ok due P v n = (read_kind due s at ≡ ok v n) × P v

  pub number_kind : (limit : ℕ) → Gives (Ok 0 (AtMost limit)) (read_number limit s at)
  unfolding read_number
  number_kind limit = gives_bind _ _ _ λ v n e. gives_pick _ _ _ _ (λ _. gives_refused _ _ _) λ q. gives_ok (Ok 0 (AtMost limit)) v n (e, ltb-false _ _ q)

  pub count_kind : (limit : ℕ) → Gives (Ok 4 (AtMost limit)) (read_count limit s at)
  unfolding read_count
  count_kind limit = gives_bind _ _ _ λ v n e. gives_pick _ _ _ _ (λ _. gives_refused _ _ _) λ q. gives_ok (Ok 4 (AtMost limit)) v n (e, ltb-false _ _ q)

  pub case_kind : (cases : ℕ) → Gives (Ok 0 (Below cases)) (read_case cases s at)
  unfolding read_case
  case_kind cases = gives_bind _ _ _ λ v n e. gives_pick _ _ _ _ (λ q. gives_ok (Ok 0 (Below cases)) v n (e, ltb-true _ _ q)) (λ _. gives_refused _ _ _)

  pub fields_kind : (k : ℕ) → Gives (λ _ n. read_kind 4 s at ≡ ok k n) (read_fields k s at)
  unfolding read_fields
  fields_kind k = gives_bind _ _ _ λ v n e. gives_pick _ _ _ _ (λ q. gives_ok (λ _ n. read_kind 4 s at ≡ ok k n) tt n (e ∙ ap (λ (z : ℕ). ok z n) (eqb-true v k q))) (λ _. gives_refused _ _ _)

  -- the head of a data enum
  pub record Tags (t : Tag) (n : ℕ) : Type 0 where
    pub array : read_kind 4 s at ≡ ok t.count t.place
    pub number : read_kind 0 s t.place ≡ ok t.case n

  pub tag_kinds : Gives Tags (read_tag s at)
  unfolding read_tag
  tag_kinds =
      gives_bind _ _ _ λ count p q.
      gives_pick _ _ _ _ (λ _. gives_refused _ _ _) λ _.
      gives_bind _ _ _ λ case n r. gives_ok Tags _ n (record { array = q; number = r })

  pub fields_complete : (k n : ℕ) → k ≤ max_u64 → At s at (enc_head 4 k) n → read_fields k s at ≡ ok tt n
  unfolding read_fields
  fields_complete k n h a = rw (kind_complete s 4 at k n (omega arith) h a, bind_ok, eq-eqb k k refl, pick_true)

  pub count_complete : (limit v n : ℕ) → v ≤ limit → limit ≤ max_u64 → At s at (enc_head 4 v) n → read_count limit s at ≡ ok v n
  unfolding read_count
  count_complete limit v n h k a = rw (kind_complete s 4 at v n (omega arith) (omega arith) a, bind_ok, le-ltb limit v h, pick_false)

-- what is refused
module _ {D : ℕ → Type 0} (s : List ℕ) (at : ℕ) where
  pub number_blames : (limit : ℕ) → Blames (Inner D) (read_number limit s at)
  unfolding read_number
  number_blames limit = blames_bind (Inner D) _ _ (kind_blames s at 0) λ v n e. blames_pick (Inner D) _ _ _ (λ _. blames_refused (Inner D) _ _ out_of_range) (λ _. blames_ok (Inner D) _ _)

  pub count_blames : (limit : ℕ) → Blames (Inner D) (read_count limit s at)
  unfolding read_count
  count_blames limit = blames_bind (Inner D) _ _ (kind_blames s at 4) λ v n e. blames_pick (Inner D) _ _ _ (λ _. blames_refused (Inner D) _ _ out_of_range) (λ _. blames_ok (Inner D) _ _)

  pub case_blames : (cases : ℕ) → Blames (Inner D) (read_case cases s at)
  unfolding read_case
  case_blames cases = blames_bind (Inner D) _ _ (kind_blames s at 0) λ v n e. blames_pick (Inner D) _ _ _ (λ _. blames_ok (Inner D) _ _) (λ _. blames_refused (Inner D) _ _ unexpected)

  pub fields_blames : (k : ℕ) → Blames (Inner D) (read_fields k s at)
  unfolding read_fields
  fields_blames k = blames_bind (Inner D) _ _ (kind_blames s at 4) λ v n e. blames_pick (Inner D) _ _ _ (λ _. blames_ok (Inner D) _ _) (λ _. blames_refused (Inner D) _ _ unexpected)

  pub tag_blames : Blames (Inner D) (read_tag s at)
  unfolding read_tag
  tag_blames =
      blames_bind (Inner D) _ _ (kind_blames s at 4) λ count p q.
      blames_pick (Inner D) _ _ _ (λ _. blames_refused (Inner D) _ _ unexpected) λ _.
      blames_bind (Inner D) _ _ (kind_blames s p 0) λ case n r. blames_ok (Inner D) _ _

number_complete : (limit : ℕ) → limit ≤ max_u64 → (s : List ℕ) (at v n : ℕ) → v ≤ limit → At s at (enc_head 0 v) n → read_number limit s at ≡ ok v n
unfolding read_number
number_complete limit k s at v n h a = rw (kind_complete s 0 at v n (omega arith) (omega arith) a, bind_ok, le-ltb limit v h, pick_false)

pub number_laws : (limit : ℕ) → limit ≤ max_u64 → Laws (read_number limit) (enc_head 0) (AtMost limit) 1 Never
number_laws limit h = record {
  sound = λ s B at _ v n e. let k = number_kind s at limit v n e in record { within = k.1; there = (kind_sound s B 0 at v n k.0).there };
  complete = number_complete limit h;
  items = λ s at v n e. plain_item 0 refl refl (number_kind s at limit v n e).0;
  blames = λ s at. number_blames s at limit;
}

case_complete : (cases : ℕ) → cases ≤ max_u64 → (s : List ℕ) (at v n : ℕ) → v < cases → At s at (enc_head 0 v) n → read_case cases s at ≡ ok v n
unfolding read_case
case_complete cases k s at v n h a = rw (kind_complete s 0 at v n (omega arith) (omega arith) a, bind_ok, lt-ltb v cases h, pick_true)

pub case_laws : (cases : ℕ) → cases ≤ max_u64 → Laws (read_case cases) (enc_head 0) (Below cases) 1 Never
case_laws cases h = record {
  sound = λ s B at _ v n e. let k = case_kind s at cases v n e in record { within = k.1; there = (kind_sound s B 0 at v n k.0).there };
  complete = case_complete cases h;
  items = λ s at v n e. plain_item 0 refl refl (case_kind s at cases v n e).0;
  blames = λ s at. case_blames s at cases;
}

-- a bool's simple value
pub bool_kind : (s : List ℕ) (at : ℕ) → Gives (λ b n. (v : ℕ) × (read_kind 7 s at ≡ ok v n) × (enc_head 7 v ≡ enc_bool b)) (read_bool s at)
unfolding read_bool enc_bool
bool_kind s at =
    gives_bind _ _ _ λ v n e.
    gives_pick _ _ _ _ (λ q. gives_ok (λ b n. (v : ℕ) × (read_kind 7 s at ≡ ok v n) × (enc_head 7 v ≡ enc_bool b)) false n (v, e, ap (enc_head 7) (eqb-true v 20 q))) λ _.
    gives_pick _ _ _ _ (λ q. gives_ok (λ b n. (v : ℕ) × (read_kind 7 s at ≡ ok v n) × (enc_head 7 v ≡ enc_bool b)) true n (v, e, ap (enc_head 7) (eqb-true v 21 q))) λ _.
    gives_refused _ _ _

bool_complete : (s : List ℕ) (at : ℕ) (b : Bool) (n : ℕ) → Unit {0} → At s at (enc_bool b) n → read_bool s at ≡ ok b n
unfolding read_bool enc_bool
bool_complete s at false n w a = rw (simple_complete s at 20 n (omega arith) (omega arith) a, bind_ok, pick_true)
bool_complete s at true n w a = rw (simple_complete s at 21 n (omega arith) (omega arith) a, bind_ok, pick_false, pick_true)

bool_blames : {D : ℕ → Type 0} (s : List ℕ) (at : ℕ) → Blames (Inner D) (read_bool s at)
unfolding read_bool
bool_blames {D} s at =
    blames_bind (Inner D) _ _ (kind_blames s at 7) λ v n e.
    blames_pick (Inner D) _ _ _ (λ _. blames_ok (Inner D) _ _) λ _.
    blames_pick (Inner D) _ _ _ (λ _. blames_ok (Inner D) _ _) λ _. blames_refused (Inner D) _ _ unexpected

pub bool_laws : Laws read_bool enc_bool (λ _. Unit {0}) 1 Never
bool_laws = record {
  sound = λ s B at _ b n e.
      let k = bool_kind s at b n e in
      record { within = tt; there = subst (λ (z : List ℕ). At s at z n) k.2 (kind_sound s B 7 at k.0 n k.1).there };
  complete = bool_complete;
  items = λ s at b n e. plain_item 7 refl refl (bool_kind s at b n e).1;
  blames = λ s at. bool_blames s at;
}
