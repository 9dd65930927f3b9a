-- The laws of no item, of one after the other, and of records, from those of their fields.
use Prim.Native.Nat.{ℕ, ◌+◌, ◌≤◌}
use mathlib.Core.Path.{◌≡◌, sym, ap, subst}
use mathlib.Core.List.{List, [], ◌++◌}
use native.Mathlib.Omega.{arith}
use Rattle.reading.specs.Read.{ok}
use Rattle.reading.specs.Limits.{max_u64}
use Rattle.reading.specs.Combine.{nothing, ◌then◌, record_of}
use Rattle.reading.specs.Encode.{enc_head, enc_record, ◌&◌}
use Rattle.reading.specs.Items.{Items, none as no_item}
use Rattle.reading.proofs.Rules.{bind_ok, map_ok}
use Rattle.reading.proofs.Gives.{gives_ok, gives_bind, gives_map}
use Rattle.reading.proofs.At.{At, at_join, at_split, at_nil}
use Rattle.reading.proofs.Blames.{Inner, blames_ok, blames_bind, blames_map}
use Rattle.reading.proofs.Items.{items_join, array_item}
use Rattle.reading.proofs.Formats.{Is, Laws, Never, Format, of}
use Rattle.reading.proofs.ItemLaws.{kind_sound, fields_kind, fields_complete, fields_blames}

-- no item
pub nothing_laws : Laws nothing (λ _. []) (λ _. Unit {0}) 0 Never
unfolding nothing
nothing_laws = record {
  sound = λ s B at h. gives_ok (Is (λ _. Unit {0}) (λ _. []) s at) tt at (record { within = tt; there = at_nil h });
  complete = λ s at x n w a. let e : at ≡ n = omega (arith, a.end) in ap (λ (z : ℕ). ok tt z) e;
  items = λ s at. gives_ok (λ _ n. Items s 0 at n) tt at no_item;
  blames = λ s at. blames_ok (Inner (Never s)) tt at;
}

-- one after the other
module _ {A B : Type 0} {D : List ℕ → ℕ → Type 0} (F : Format D A) (G : Format D B) where
  abbrev pub WithinBoth : A × B → Type 0
  WithinBoth p = F.Within p.0 & G.Within p.1

  abbrev pub enc_both : A × B → List ℕ
  enc_both p = F.enc p.0 ++ G.enc p.1

  both_complete : (s : List ℕ) (at : ℕ) (x : A × B) (n : ℕ) → WithinBoth x → At s at (enc_both x) n → (F.read then G.read) s at ≡ ok x n
  unfolding ◌then◌
  both_complete s at x n w a =
      let k = at_split (F.enc x.0) (G.enc x.1) a in
      rw (F.laws.complete s at x.0 _ w.0 k.0, bind_ok, G.laws.complete s _ x.1 n w.1 k.1, map_ok)

  pub both_laws : Laws (F.read then G.read) enc_both WithinBoth (F.count + G.count) D
  unfolding ◌then◌
  both_laws = record {
    sound = λ s B at h.
        gives_bind _ _ _ λ a n e. gives_map (Is WithinBoth enc_both s at) _ _ λ b m q.
        let i = F.laws.sound s B at h a n e in
        let j = G.laws.sound s B n i.there.fits b m q in
        record { within = (i.within, j.within); there = at_join i.there j.there };
    complete = both_complete;
    items = λ s at.
        gives_bind _ _ _ λ a n e. gives_map (λ _ m. Items s (F.count + G.count) at m) _ _ λ b m q.
        items_join (F.laws.items s at a n e) (G.laws.items s n b m q);
    blames = λ s at. blames_bind (Inner (D s)) _ _ (F.laws.blames s at) λ a n e. blames_map (Inner (D s)) _ _ (G.laws.blames s n);
  }

  abbrev pub ◌also◌ : Format D (A × B)
  ◌also◌ = of both_laws

infixr 50 ◌also◌
-- a record: an array of its fields
module _ {A B : Type 0} {D : List ℕ → ℕ → Type 0} (F : Format D A) (make : A → B) (parts : B → A) (back : (a : A) → parts (make a) ≡ a) (there : (b : B) → make (parts b) ≡ b) (small : F.count ≤ max_u64) where
  abbrev WithinParts : B → Type 0
  WithinParts b = F.Within (parts b)

  abbrev enc_parts : B → List ℕ
  enc_parts b = enc_record F.count (F.enc (parts b))

  record_complete : (s : List ℕ) (at : ℕ) (x : B) (n : ℕ) → WithinParts x → At s at (enc_parts x) n → record_of F.count F.read make s at ≡ ok x n
  unfolding record_of
  record_complete s at x n w a =
      let k = at_split (enc_head 4 F.count) (F.enc (parts x)) a in
      rw (fields_complete s at F.count _ small k.0, bind_ok, F.laws.complete s _ (parts x) n w k.1, map_ok, there x)

  pub record_laws : Laws (record_of F.count F.read make) enc_parts WithinParts 1 D
  unfolding record_of
  record_laws = record {
    sound = λ s B at h.
        gives_bind _ _ _ λ _ n e. gives_map (Is WithinParts enc_parts s at) _ _ λ a m q.
        let i = (kind_sound s B 4 at _ n (fields_kind s at F.count tt n e)).there in
        let j = F.laws.sound s B n i.fits a m q in
        record {
          within = subst (λ (z : A). F.Within z) (sym (back a)) j.within;
          there = at_join i (subst (λ (z : A). At s n (F.enc z) m) (sym (back a)) j.there);
        };
    complete = record_complete;
    items = λ s at.
        gives_bind _ _ _ λ _ n e. gives_map (λ _ m. Items s 1 at m) _ _ λ a m q.
        array_item (fields_kind s at F.count tt n e) (F.laws.items s n a m q);
    blames = λ s at. blames_bind (Inner (D s)) _ _ (fields_blames s at F.count) λ _ n e. blames_map (Inner (D s)) _ _ (F.laws.blames s n);
  }
