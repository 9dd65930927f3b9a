-- The laws of options, from those of the item: an item of another kind is never null.
use Prim.Native.Nat.{ℕ, ◌+◌, ◌<◌}
use mathlib.Core.Path.{◌≡◌, refl, subst}
use mathlib.Core.List.{List, [], ◌∷◌}
use mathlib.Core.Option.{Option, none, some}
use mathlib.Core.Bool.{Bool}
use native.Mathlib.Omega.{arith}
use lib.ListN.{length, get_or, get_or-eq_default}
use lib.Dec.{leb}
use borrow.Author.Tests.{eqb-true, ne_eqb, lt-leb, leb-true, leb-false}
use Rattle.reading.specs.Read.{Reader, ok, refused}
use Rattle.reading.specs.Head.{read_head, head_with, simple}
use Rattle.reading.specs.Item.{read_kind, read_number, read_fields, read_tag}
use Rattle.reading.specs.Text.{read_text}
use Rattle.reading.specs.Combine.{record_of, optional, Cases, enum_of}
use Rattle.reading.specs.Encode.{put1, enc_option, WithinOption}
use Rattle.reading.specs.Items.{Items}
use Rattle.reading.specs.declared.fault.Fault.TheVariants.{Unexpected}
use Rattle.reading.proofs.Rules.{by, no, pick_true, pick_false, bind_ok, bind_out, map_ok}
use Rattle.reading.proofs.Gives.{gives_ok, gives_pick, gives_map}
use Rattle.reading.proofs.At.{At, at_byte, at_first}
use Rattle.reading.proofs.Blames.{Inner, blames_ok, blames_pick, blames_map}
use Rattle.reading.proofs.Items.{plain_item}
use Rattle.reading.proofs.Formats.{Is, Laws}

-- null is no item of another kind
pub Solid : {A : Type 0} → Reader A → Type 0
Solid read = (s : List ℕ) (at : ℕ) → get_or s at 0 ≡ 246 → read s at ≡ refused Unexpected at

module _ (s : List ℕ) (at : ℕ) (q : get_or s at 0 ≡ 246) where
  pub null_inside : at < length s
  null_inside =
      by (leb (length s) at)
      (λ t. let e : get_or s at 0 ≡ 0 = get_or-eq_default s 0 (leb-true _ _ t) in let z : ◌≡◌ {A = ℕ} 0 1 = omega arith in no z)
      (λ t. leb-false _ _ t)

  null_head : read_head s at ≡ ok (record { major = 7; argument = 22 }) (at + 1)
  unfolding read_head head_with simple
  null_head = rw (lt-leb (length s) at null_inside, pick_false, q, pick_false, pick_true, pick_false, pick_false)

  null_kind : read_kind 7 s at ≡ ok 22 (at + 1)
  unfolding read_kind
  null_kind = rw (null_head, bind_ok, pick_true)

  null_other : (due : ℕ) → due < 7 → read_kind due s at ≡ refused Unexpected at
  unfolding read_kind
  null_other due h = let c : 7 ≡ due → ⊥ = λ e. omega arith in rw (null_head, bind_ok, ne_eqb 7 due c, pick_false)

pub number_solid : (limit : ℕ) → Solid (read_number limit)
unfolding read_number Solid
number_solid limit s at q = rw (null_other s at q 0 (omega arith), bind_out)

pub text_solid : (least : ℕ) (alphabet : ℕ → Bool) → Solid (read_text least alphabet)
unfolding read_text Solid
text_solid least alphabet s at q = rw (null_other s at q 3 (omega arith), bind_out)

pub record_solid : {A B : Type 0} (k : ℕ) (read : Reader A) (make : A → B) → Solid (record_of k read make)
unfolding record_of read_fields Solid
record_solid k read make s at q = rw (null_other s at q 4 (omega arith), bind_out, bind_out)

pub enum_solid : {A : Type 0} (cases : Cases A) → Solid (enum_of cases)
unfolding enum_of read_tag Solid
enum_solid cases s at q = rw (null_other s at q 4 (omega arith), bind_out, bind_out)

-- an option: null, or the item
module _ {A : Type 0} {read : Reader A} {enc : A → List ℕ} {Within : A → Type 0} {D : List ℕ → ℕ → Type 0} (L : Laws read enc Within 1 D) (solid : Solid read) where
  option_complete : (s : List ℕ) (at : ℕ) (x : Option A) (n : ℕ) → WithinOption Within x → At s at (enc_option enc x) n → optional read s at ≡ ok x n
  unfolding optional enc_option WithinOption put1 Solid
  option_complete s at none n w a = rw ((at_first a).1, pick_true, a.end)
  option_complete s at (some x) n w a =
      let e = L.complete s at x n w a in
      let f : get_or s at 0 ≡ 246 → ⊥ = λ q. let r = solid s at q in no (cc) in
      rw (ne_eqb (get_or s at 0) 246 f, pick_false, e, map_ok)

  pub option_laws : Laws (optional read) (enc_option enc) (WithinOption Within) 1 D
  unfolding optional enc_option WithinOption put1
  option_laws = record {
    sound = λ s B at h.
        gives_pick _ _ _ _ (λ q.
        let e = eqb-true (get_or s at 0) 246 q in
        gives_ok (Is (WithinOption Within) (enc_option enc) s at) none (at + 1) (record {
          within = tt;
          there = subst (λ (z : ℕ). At s at (z ∷ []) (at + 1)) e (at_byte at (null_inside s at e));
        }))
        (λ _. gives_map (Is (WithinOption Within) (enc_option enc) s at) _ _ λ x n e. let i = L.sound s B at h x n e in record { within = i.within; there = i.there });
    complete = option_complete;
    items = λ s at.
        gives_pick _ _ _ _ (λ q. gives_ok (λ _ n. Items s 1 at n) none (at + 1) (plain_item 7 refl refl (null_kind s at (eqb-true _ _ q))))
        (λ _. gives_map (λ _ n. Items s 1 at n) _ _ λ x n e. L.items s at x n e);
    blames = λ s at. blames_pick (Inner (D s)) _ _ _ (λ _. blames_ok (Inner (D s)) _ _) (λ _. blames_map (Inner (D s)) _ _ (L.blames s at));
  }
