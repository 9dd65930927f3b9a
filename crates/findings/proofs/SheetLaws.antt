-- writing findings one list after another; what the whole list leaves in lent words, and what one finding leaves in five
use Prim.Native.Nat.{ℕ, zero, suc, ◌+◌, ◌-◌, ◌*◌, ◌≤◌, ◌<◌}
use mathlib.Core.Path.{◌≡◌, refl, sym, ap, ◌∙◌, subst}
use mathlib.Core.List.{List, [], ◌∷◌, ◌++◌, append_assoc, append-nil}
use mathlib.Core.Bool.{Bool, true, false, cond}
use native.Mathlib.Nat.{add-zero}
use native.Mathlib.Omega.{arith}
use lib.ListN.{length, get_or, take, drop, length-append, length-drop, drop_of_length-le, take-append-drop}
use lib.Seq.{sets, sets-eq, length-sets, take_at, drop-append-add, drop-drop, paste, length-take-le}
use lib.Dec.{leb}
use borrow.Author.Tests.{le-leb, lt-leb}
use Rattle.findings.specs.Finding.{note, Finding, in_module, words}
use Rattle.findings.specs.Sheet.{put_one, put, Written, flat}

pub length_cond : (b : Bool) (x y o : List ℕ) → length x ≡ length o → length y ≡ length o → length (cond b x y) ≡ length o
length_cond true x y o p q = p
length_cond false x y o p q = q

pub length_put_one : (o : List ℕ) (k n : ℕ) (f : Finding) → length (put_one o k n f) ≡ length o
unfolding put_one
length_put_one o k n f =
    length_cond (leb k n) _ _ o (length_cond (leb (5 * (n - k) + 5) (length o)) _ _ o (length-sets o (5 * (n - k)) (words f)) refl) refl

pub length_put : (o : List ℕ) (k n : ℕ) (fs : List Finding) → length (put o k n fs) ≡ length o
unfolding put
length_put o k n [] = refl
length_put o k n (f ∷ fs) = length_put (put_one o k n f) k (suc n) fs ∙ length_put_one o k n f

pub put_append : (o : List ℕ) (k n : ℕ) (fs gs : List Finding) → put (put o k n fs) k (n + length fs) gs ≡ put o k n (fs ++ gs)
unfolding put
put_append o k n [] gs = rw add-zero
put_append o k n (f ∷ fs) gs =
    ap (λ (m : ℕ). put (put (put_one o k n f) k (suc n) fs) k m gs) (omega arith)
    ∙ put_append (put_one o k n f) k (suc n) fs gs

pub nothing : (o : List ℕ) (k n : ℕ) → Written o k n [] n o
unfolding put
nothing o k n = record { count = omega arith; buffer = refl }

pub then : {o o' o'' : List ℕ} {k n r r' : ℕ} {fs gs : List Finding}
    → Written o k n fs r o' → Written o' k r gs r' o'' → Written o k n (fs ++ gs) r' o''
then {o} {o'} {o''} {k} {n} {r} {r'} {fs} {gs} p q =
    record {
      count = omega (arith, length-append fs gs);
      buffer = q.buffer ∙ ap (λ (x : List ℕ). put x k r gs) p.buffer ∙ ap (λ (m : ℕ). put (put o k n fs) k m gs) p.count ∙ put_append o k n fs gs;
    }

pub written_length : {o o' : List ℕ} {k n r : ℕ} {fs : List Finding} → Written o k n fs r o' → length o' ≡ length o
written_length {o} {o'} {k} {n} {r} {fs} p = ap length p.buffer ∙ length_put o k n fs

-- one finding: before number k, without room, and written
pub put_one_before : (o : List ℕ) (k n : ℕ) (f : Finding) → n < k → put_one o k n f ≡ o
unfolding put_one
put_one_before o k n f h = rw (lt-leb k n h)

same : (b : Bool) (o : List ℕ) → cond b o o ≡ o
same true o = refl
same false o = refl

pub put_one_full : (o : List ℕ) (k n : ℕ) (f : Finding) → length o < 5 * (n - k) + 5 → put_one o k n f ≡ o
unfolding put_one
put_one_full o k n f h = rw (lt-leb (5 * (n - k) + 5) (length o) h) (same (leb k n) o)

pub put_one_fits : (o : List ℕ) (k n w : ℕ) (f : Finding) → k ≤ n → 5 * (n - k) + 5 ≤ length o → w ≡ 5 * (n - k) → put_one o k n f ≡ sets o w (words f)
unfolding put_one
put_one_fits o k n w f h l e = rw (le-leb k n h, le-leb (5 * (n - k) + 5) (length o) l) (ap (λ (x : ℕ). sets o x (words f)) (sym e))

pub written_before : {o : List ℕ} {k n : ℕ} {f : Finding} → n < k → Written o k n (f ∷ []) (n + 1) o
unfolding put
written_before {o} {k} {n} {f} h = record { count = refl; buffer = sym (put_one_before o k n f h) }

pub written_full : {o : List ℕ} {k n : ℕ} {f : Finding} → length o < 5 * (n - k) + 5 → Written o k n (f ∷ []) (n + 1) o
unfolding put
written_full {o} {k} {n} {f} h = record { count = refl; buffer = sym (put_one_full o k n f h) }

pub written_one : {o o' : List ℕ} {k n w : ℕ} {f : Finding} → k ≤ n → 5 * (n - k) + 5 ≤ length o → w ≡ 5 * (n - k) → o' ≡ sets o w (words f)
    → Written o k n (f ∷ []) (n + 1) o'
unfolding put
written_one {o} {o'} {k} {n} {w} {f} h l e p = record { count = refl; buffer = p ∙ sym (put_one_fits o k n w f h l e) }

-- a walk that has rest of all still to do
pub record Left (o : List ℕ) (k n : ℕ) (all : List Finding) (m : ℕ) (o' : List ℕ) (rest : List Finding) : Type 0 where
  pub made : List Finding
  pub split : all ≡ made ++ rest
  pub written : Written o k n made m o'

pub left_all : (o : List ℕ) (k n : ℕ) (all : List Finding) → Left o k n all n o all
left_all o k n all = record { made = []; split = refl; written = nothing o k n }

pub left_more : {o o' o'' : List ℕ} {k n m r : ℕ} {all rest rest' : List Finding} (fs : List Finding)
    → Left o k n all m o' rest → rest ≡ fs ++ rest' → Written o' k m fs r o'' → Left o k n all r o'' rest'
left_more {rest} {rest'} fs l e p =
    record {
      made = l.made ++ fs;
      split = l.split ∙ ap (λ (x : List Finding). l.made ++ x) e ∙ sym (append_assoc l.made fs rest');
      written = then l.written p;
    }

pub left_none : {o o' : List ℕ} {k n m : ℕ} {all rest : List Finding} → Left o k n all m o' rest → rest ≡ [] → Written o k n all m o'
left_none {o} {o'} {k} {n} {m} {all} {rest} l e =
    subst (λ (x : List Finding). Written o k n x m o')
    (sym (l.split ∙ ap (λ (x : List Finding). l.made ++ x) e ∙ append-nil l.made)) l.written

words_length : (f : Finding) → length (words f) ≡ 5
words_length f = refl

-- five words after p are replaced
sets_words : (p q ws : List ℕ) (n : ℕ) → length p ≡ n → length ws ≡ 5 → 5 ≤ length q → sets (p ++ q) n ws ≡ (p ++ ws) ++ drop 5 q
sets_words p q ws n e w h =
    let l : n + length ws ≡ length p + 5 = omega arith in
    sets-eq ws (p ++ q) n (omega (arith, length-append p q))
    ∙ ap (λ (x : List ℕ). x ++ ws ++ drop (n + length ws) (p ++ q)) (take_at p q n e)
    ∙ ap (λ (x : ℕ). p ++ ws ++ drop x (p ++ q)) l
    ∙ ap (λ (x : List ℕ). p ++ ws ++ x) (drop-append-add p q 5)

put_front : (fs : List Finding) (p q : List ℕ) (n : ℕ) → length p ≡ 5 * n → 5 * length fs ≤ length q
    → put (p ++ q) 0 n fs ≡ p ++ flat fs ++ drop (5 * length fs) q
unfolding put flat
put_front [] p q n e h = ap (λ (x : List ℕ). x ++ q) (sym (append-nil p))
put_front (f ∷ fs) p q n e h =
    let l : 5 + 5 * length fs ≡ 5 * length (f ∷ fs) = omega arith in
    ap (λ (x : List ℕ). put x 0 (suc n) fs)
    (put_one_fits (p ++ q) 0 n (5 * n) f (omega arith) (omega (arith, length-append p q)) (omega arith)
    ∙ sets_words p q (words f) (5 * n) e (words_length f) (omega arith))
    ∙ put_front fs (p ++ words f) (drop 5 q) (suc n)
    (omega (arith, length-append p (words f), words_length f)) (omega (arith, length-drop 5 q))
    ∙ ap (λ (x : List ℕ). p ++ words f ++ flat fs ++ x) (drop-drop (5 * length fs) 5 q)
    ∙ ap (λ (x : ℕ). p ++ words f ++ flat fs ++ drop x q) l
    ∙ ap (λ (x : List ℕ). x ++ drop (5 * length (f ∷ fs)) q) (append_assoc p (words f) (flat fs))

-- whole: from the front, and what is past stays
pub put_whole : (fs : List Finding) (o : List ℕ) → 5 * length fs ≤ length o → put o 0 0 fs ≡ flat fs ++ drop (5 * length fs) o
put_whole fs o h = put_front fs [] o 0 refl h

pub length_flat : (fs : List Finding) → length (flat fs) ≡ 5 * length fs
unfolding flat
length_flat [] = refl
length_flat (f ∷ fs) = omega (arith, length-append (words f) (flat fs), words_length f, length_flat fs)

-- the words of findings that were kept whole, copied after those of n others
pub copied : (fs : List Finding) (p kept o : List ℕ) (n len w : ℕ) → kept ≡ put p 0 0 fs → len ≡ 5 * length fs → len ≤ length kept → w ≡ 5 * n → w + len ≤ length o
    → paste o w kept len ≡ put o 0 n fs
copied fs p kept o n len w e l h d m =
    let z : 5 * length fs ≤ length p = omega (arith, ap length e, length_put p 0 0 fs) in
    let k : take len kept ≡ flat fs =
    ap (take len) (e ∙ put_whole fs p z)
    ∙ take_at (flat fs) (drop (5 * length fs) p) len (omega (arith, length_flat fs))
    in
    let u : w ≤ length o = omega arith in
    let v : length (take w o) ≡ 5 * n = length-take-le w o u ∙ d in
    ap (λ (x : List ℕ). take w o ++ x ++ drop (w + len) o) k
    ∙ ap (λ (x : List ℕ). take w o ++ flat fs ++ x) (sym (drop-drop len w o))
    ∙ ap (λ (x : ℕ). take w o ++ flat fs ++ drop x (drop w o)) l
    ∙ sym (put_front fs (take w o) (drop w o) n v (omega (arith, length-drop w o)))
    ∙ ap (λ (x : List ℕ). put x 0 n fs) (take-append-drop w o)

-- one: five words from number k on hold the finding number k
put_after : (fs : List Finding) (o : List ℕ) (k n : ℕ) → length o ≡ 5 → k < n → put o k n fs ≡ o
unfolding put
put_after [] o k n e h = refl
put_after (f ∷ fs) o k n e h =
    ap (λ (x : List ℕ). put x k (suc n) fs) (put_one_full o k n f (omega arith)) ∙ put_after fs o k (suc n) e (omega arith)

abbrev pub none : Finding
none = in_module 0 (note 0 0 0 0)

five : (o ws : List ℕ) → length o ≡ 5 → length ws ≡ 5 → sets o 0 ws ≡ ws
five o ws e w =
    let l : length o ≤ 5 = omega arith in
    sets_words [] o ws 0 refl w (omega arith) ∙ ap (λ (x : List ℕ). ws ++ x) (drop_of_length-le o l) ∙ append-nil ws

pub put_kth : (fs : List Finding) (o : List ℕ) (k n j : ℕ) → length o ≡ 5 → k ≡ n + j → j < length fs → put o k n fs ≡ words (get_or fs j none)
unfolding put
put_kth [] o k n j e d h = absurd (omega arith)
put_kth (f ∷ fs) o k n zero e d h =
    ap (λ (x : List ℕ). put x k (suc n) fs)
    (put_one_fits o k n 0 f (omega arith) (omega arith) (omega arith) ∙ five o (words f) e (words_length f))
    ∙ put_after fs (words f) k (suc n) (words_length f) (omega arith)
put_kth (f ∷ fs) o k n (suc j) e d h =
    ap (λ (x : List ℕ). put x k (suc n) fs) (put_one_before o k n f (omega arith))
    ∙ put_kth fs o k (suc n) j e (omega arith) (omega arith)
