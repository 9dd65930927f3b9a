-- What is shown of every reader: what it accepts is the one encoding of a content within the limits, every such encoding is accepted,
-- it reads so many items, and its refusals are faults of an item: 2 to 6, or 7 at a place that Deep names.
use Prim.Native.Nat.{ℕ, suc, ◌≤◌}
use mathlib.Core.Path.{◌≡◌, refl, sym, subst}
use mathlib.Core.List.{List}
use native.Mathlib.Omega.{arith}
use lib.ListN.{length}
use Rattle.reading.specs.Read.{Reader, ok, refused}
use Rattle.reading.specs.Items.{Items}
use Rattle.reading.specs.declared.fault.Fault.{Fault}
use Rattle.reading.specs.declared.fault.Fault.TheVariants.{TooDeep}
use Rattle.reading.proofs.Gives.{Gives, gives_refused}
use Rattle.reading.proofs.At.{At}
use Rattle.reading.proofs.HeadSound.{Bytes}
use Rattle.reading.proofs.Blames.{Blames, Inner, truncated, non_canonical, unexpected, out_of_range, outside_alphabet, deep_start, inner_more, blames_refused}
use Rattle.reading.proofs.Items.{items_inside}

-- the content x is within its limits, and stands from at to n
pub record Is {A : Type 0} (Within : A → Type 0) (enc : A → List ℕ) (s : List ℕ) (at : ℕ) (x : A) (n : ℕ) : Type 0 where
  pub within : Within x
  pub there : At s at (enc x) n

pub record Laws {A : Type 0} (read : Reader A) (enc : A → List ℕ) (Within : A → Type 0) (count : ℕ) (Deep : List ℕ → ℕ → Type 0) : Type 0 where
  pub sound : (s : List ℕ) → Bytes s → (at : ℕ) → at ≤ length s → Gives (Is Within enc s at) (read s at)
  pub complete : (s : List ℕ) (at : ℕ) (x : A) (n : ℕ) → Within x → At s at (enc x) n → read s at ≡ ok x n
  pub items : (s : List ℕ) (at : ℕ) → Gives (λ _ n. Items s count at n) (read s at)
  pub blames : (s : List ℕ) (at : ℕ) → Blames (Inner (Deep s)) (read s at)

-- 7 is never given; or only where the reader is at some place
abbrev pub Never : List ℕ → ℕ → Type 0
Never s p = ⊥

abbrev pub From : {A : Type 0} → Reader A → List ℕ → ℕ → Type 0
From read s p = (at : ℕ) × (read s at ≡ refused TooDeep p)

pub record Format (Deep : List ℕ → ℕ → Type 0) (A : Type 0) : Type 1 where
  pub read : Reader A
  pub enc : A → List ℕ
  pub Within : A → Type 0
  pub count : ℕ
  pub laws : Laws read enc Within count Deep

module _ {A : Type 0} {read : Reader A} {enc : A → List ℕ} {Within : A → Type 0} {count : ℕ} {D : List ℕ → ℕ → Type 0} where
  -- the format that laws are of
  abbrev pub of : Laws read enc Within count D → Format D A
  of l = record { read = read; enc = enc; Within = Within; count = count; laws = l }

  -- more places of 7
  pub deeper : {E : List ℕ → ℕ → Type 0} → ((s : List ℕ) (p : ℕ) → D s p → E s p) → Laws read enc Within count D → Laws read enc Within count E
  deeper h l = record { sound = l.sound; complete = l.complete; items = l.items; blames = λ s at f p e. inner_more (h s) (l.blames s at f p e) }

  -- a reader's 7 is its own
  pub own : Laws read enc Within count D → Laws read enc Within count (From read)
  own l = record { sound = l.sound; complete = l.complete; items = l.items; blames = λ s at f p e. owned s at f p e (l.blames s at f p e) }
    where
      owned : (s : List ℕ) (at : ℕ) (f : Fault) (p : ℕ) → read s at ≡ refused f p → Inner (D s) f p → Inner (From read s) f p
      owned s at f p e truncated = truncated
      owned s at f p e non_canonical = non_canonical
      owned s at f p e unexpected = unexpected
      owned s at f p e out_of_range = out_of_range
      owned s at f p e outside_alphabet = outside_alphabet
      owned s at f p e (deep_start d) = deep_start (at, e)

  -- the same encoding, said in another way
  pub by_bytes : {enc' : A → List ℕ} → ((x : A) → enc' x ≡ enc x) → Laws read enc Within count D → Laws read enc' Within count D
  by_bytes e l = record {
    sound = λ s B at h x n q. let k = l.sound s B at h x n q in record { within = k.within; there = subst (λ (z : List ℕ). At s at z n) (sym (e x)) k.there };
    complete = λ s at x n w a. l.complete s at x n w (subst (λ (z : List ℕ). At s at z n) (e x) a);
    items = l.items;
    blames = l.blames;
  }

-- the format of a reader that never gives 7, among others
abbrev pub flat : {A : Type 0} {read : Reader A} {enc : A → List ℕ} {Within : A → Type 0} {count : ℕ} {D : List ℕ → ℕ → Type 0} → Laws read enc Within count Never → Format D A
flat l = of (deeper (λ s p z. absurd z) l)

-- an item that is read is inside the document
pub item_sound : {A : Type 0} {read : Reader A} {enc : A → List ℕ} {Within : A → Type 0} {k : ℕ} {D : List ℕ → ℕ → Type 0} → Laws read enc Within (suc k) D → (s : List ℕ) → Bytes s → (at : ℕ) → Gives (Is Within enc s at) (read s at)
item_sound l s B at x n e = l.sound s B at (let i = items_inside (l.items s at x n e) in omega arith) x n e

-- nothing is within limits where no level is left
abbrev pub deepest : {A : Type 0} → Reader A
deepest s at = refused TooDeep at

pub refusing : {A : Type 0} (enc : A → List ℕ) → Laws deepest enc (λ _. ⊥) 1 (From (deepest {A = A}))
refusing {A} enc = record {
  sound = λ s B at h. gives_refused _ _ _;
  complete = λ s at x n w a. absurd w;
  items = λ s at. gives_refused _ _ _;
  blames = λ s at. blames_refused (Inner (From (deepest {A = A}) s)) _ _ (deep_start (at, refl));
}
