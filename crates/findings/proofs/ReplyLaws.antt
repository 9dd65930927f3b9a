-- The answers of the calls, from what the walks over a document write.
use Prim.Native.Nat.{ℕ, zero, suc, ◌+◌, ◌-◌, ◌*◌, ◌<◌, ◌≤◌}
use mathlib.Core.Path.{◌≡◌, refl, sym, ap, ◌∙◌}
use mathlib.Core.List.{List, [], ◌∷◌, ◌++◌}
use mathlib.Core.Bool.{true, false}
use native.Mathlib.Omega.{arith}
use lib.ListN.{length, get_or, length-append}
use lib.Seq.{get_or-append-add, paste}
use lib.Dec.{ltb}
use borrow.Author.Tests.{lt-ltb, le-ltb}
use Rattle.reading.specs.Read.{Read, ok, refused}
use Rattle.reading.specs.Module.{Ir}
use Rattle.reading.specs.Document.{read_document}
use Rattle.reading.specs.Link.{verdict, refusal}
use Rattle.reading.proofs.Rules.{no}
use Rattle.reading.proofs.Views.{document_at}
use Rattle.findings.specs.Finding.{Finding}
use Rattle.findings.specs.Findings.{all_errors, all_warnings, findings}
use Rattle.findings.specs.Sheet.{put}
use Rattle.findings.specs.Walks.{WalksAll, Walked, PutsErrors, PutsWarnings, PutsAll, PutsKept, Replies, ByKind, Lines, WarningLine}
use Rattle.findings.specs.Reply.{Reply, Line, too_many_findings, reply_to, sheet_of, counts_to, errors_in, warnings_in, counted, line_to}
use Rattle.findings.specs.declared.reply.Counts.{Counts}
use Rattle.findings.specs.declared.reply.Denied.TheVariants.{Refused, Short}
use Rattle.findings.specs.declared.reply.Absent.TheVariants as absent
use Rattle.findings.proofs.SheetLaws.{put_append, put_whole, copied, none, put_kth}
-- written by another walk, and copied
use Rattle.std.specs.Prelude.{Ok, Err}
use Rattle.reading.specs.declared.fault.Refusal.{Refusal}

module _ (s kept o o' : List ℕ) {a : ℕ} where
  pub errors_walked : {p p' : List ℕ} {b c : ℕ} → WalksAll s o 0 0 c o' p 0 0 b p' → PutsErrors s kept a o o'
  errors_walked t = record { of = λ x n g q w. (t.of x n (document_at s x n g)).errors_are.buffer }

  pub errors_copied : 5 * a ≤ length kept → 5 * a ≤ length o → o' ≡ paste o 0 kept (5 * a) → PutsErrors s kept a o o'
  errors_copied h l e = record {
    of = λ x n g q w.
        let c = w.count in
        e ∙ copied (all_errors x) q kept o 0 (5 * a) 0 w.buffer (omega arith) h refl (omega arith);
  }

  pub warnings_walked : {p p' : List ℕ} {b c d : ℕ} → WalksAll s p 0 0 c p' o 0 a d o' → PutsWarnings s kept a b o o'
  warnings_walked t = record { of = λ x n g q w. (t.of x n (document_at s x n g)).warnings_are.buffer }

  pub warnings_copied : {b : ℕ} → 5 * b ≤ length kept → 5 * a + 5 * b ≤ length o → o' ≡ paste o (5 * a) kept (5 * b) → PutsWarnings s kept a b o o'
  warnings_copied {b} h l e = record {
    of = λ x n g q w.
        let c = w.count in
        e ∙ copied (all_warnings x) q kept o a (5 * b) (5 * a) w.buffer (omega arith) h refl l;
  }

-- from the walk that kept both
module _ (s : List ℕ) {e e' w w' : List ℕ} {a b : ℕ} (t : WalksAll s e 0 0 a e' w 0 0 b w') where
  module _ (x : Ir) (n : ℕ) (g : read_document s ≡ ok x n) where
    walked : Walked s e 0 0 a e' w 0 0 b w' x
    walked = t.of x n (document_at s x n g)

    both_counted : a + b ≡ length (findings x)
    unfolding findings
    both_counted =
        let p = walked.errors_are.count in
        let q = walked.warnings_are.count in
        omega (arith, length-append (all_errors x) (all_warnings x))

    both_put : {o o₁ o₂ : List ℕ} → PutsErrors s e' a o o₁ → PutsWarnings s w' a b o₁ o₂ → o₂ ≡ put o 0 0 (findings x)
    unfolding findings
    both_put {o} {o₁} {o₂} u v =
        let p = walked.errors_are in
        let m = p.count in
        let z : a ≡ 0 + length (all_errors x) = omega arith in
        v.of x n g w walked.warnings_are
        ∙ ap (λ (y : List ℕ). put y 0 a (all_warnings x)) (u.of x n g e p)
        ∙ ap (λ (y : ℕ). put (put o 0 0 (all_errors x)) 0 y (all_warnings x)) z
        ∙ put_append o 0 0 (all_errors x) (all_warnings x)

  reply_short : (o : List ℕ) → length o < 5 * (a + b) → Replies s o (Err (Short (a + b))) o
  unfolding reply_to sheet_of too_many_findings
  reply_short o h = record {
    of = λ x n g.
        let c = both_counted x n g in
        let l : ltb (length o) (5 * length (findings x)) ≡ true = lt-ltb (length o) (5 * length (findings x)) (omega arith) in
        (rw l (ap (λ (k : ℕ). Err (Short k)) c), rw l);
  }

  reply_written : (o o₁ o₂ : List ℕ) → 5 * (a + b) ≤ length o → PutsErrors s e' a o o₁ → PutsWarnings s w' a b o₁ o₂ → Replies s o (Ok (record { errors = a; warnings = b })) o₂
  unfolding reply_to sheet_of too_many_findings
  reply_written o o₁ o₂ h u v = record {
    of = λ x n g.
        let c = both_counted x n g in
        let p = (walked x n g).errors_are.count in
        let q = (walked x n g).warnings_are.count in
        let i : a ≡ length (all_errors x) = omega arith in
        let j : b ≡ length (all_warnings x) = omega arith in
        let l : ltb (length o) (5 * length (findings x)) ≡ false = le-ltb (length o) (5 * length (findings x)) (omega arith) in
        (rw (l, i, j), rw l (both_put x n g u v ∙ put_whole (findings x) o (omega arith)));
  }

-- from what a walk kept
module _ (s e' w' : List ℕ) (t : Counts) where
  pub all_short : (o : List ℕ) → length o < 5 * (t.errors + t.warnings) → PutsAll s e' w' t o (Err (Short (t.errors + t.warnings))) o
  all_short o h = record { of = λ e w z. reply_short s z o h }

  pub all_written : (o o₁ o₂ : List ℕ) → 5 * (t.errors + t.warnings) ≤ length o → PutsErrors s e' t.errors o o₁ → PutsWarnings s w' t.errors t.warnings o₁ o₂ → PutsAll s e' w' t o (Ok t) o₂
  all_written o o₁ o₂ h u v = record { of = λ e w z. reply_written s z o o₁ o₂ h u v }

  pub all_put : {e w o o' : List ℕ} {r : Reply} → WalksAll s e 0 0 t.errors e' w 0 0 t.warnings w' → PutsAll s e' w' t o r o' → Replies s o r o'
  all_put z p = p.of _ _ z

-- where it kept all
module _ (e' w' : List ℕ) (t : Counts) where
  pub kept_short : (o : List ℕ) → length o < 5 * t.errors + 5 * t.warnings → PutsKept e' w' t o (Err (Short (t.errors + t.warnings))) o
  kept_short o h = record { of = λ s. all_short s e' w' t o (omega arith) }

  pub kept_written : {o o₁ o₂ : List ℕ} → o₁ ≡ paste o 0 e' (5 * t.errors) → o₂ ≡ paste o₁ (5 * t.errors) w' (5 * t.warnings) → 5 * t.errors ≤ length e' → 5 * t.warnings ≤ length w' → 5 * t.errors + 5 * t.warnings ≤ length o → length o₁ ≡ length o → PutsKept e' w' t o (Ok t) o₂
  kept_written {o} {o₁} {o₂} u v h i l m = record {
    of = λ s. all_written s e' w' t o o₁ o₂ (omega arith) (errors_copied s e' o o₁ h (omega arith) u) (warnings_copied s w' o₁ o₂ i (omega arith) v);
  }

  pub kept_put : {s e w o o' : List ℕ} {r : Reply} → WalksAll s e 0 0 t.errors e' w 0 0 t.warnings w' → PutsKept e' w' t o r o' → Replies s o r o'
  kept_put {s} z p = (p.of s).of _ _ z

-- the document's verdict
module _ (s o : List ℕ) where
  module _ {f : Refusal} (e : Err f ≡ verdict (read_document s)) where
    both_refused : (Err (Refused f) ≡ reply_to o (read_document s)) × (o ≡ sheet_of o (read_document s))
    unfolding verdict reply_to sheet_of
    both_refused = go (read_document s) e
      where
        go : (m : Read Ir) → Err f ≡ verdict m → (Err (Refused f) ≡ reply_to o m) × (o ≡ sheet_of o m)
        go (ok x n) z = no (cc)
        go (refused g k) z = let a : f ≡ refusal g k = cc in (rw a, refl)

    pub refused_reply : Err (Refused f) ≡ reply_to o (read_document s)
    refused_reply = both_refused.0

    pub refused_sheet : o ≡ sheet_of o (read_document s)
    refused_sheet = both_refused.1

  module _ (e : Ok tt ≡ verdict (read_document s)) {r : Reply} {o' : List ℕ} (t : Replies s o r o') where
    both_accepted : (r ≡ reply_to o (read_document s)) × (o' ≡ sheet_of o (read_document s))
    unfolding verdict
    both_accepted = go (read_document s) refl e
      where
        go : (m : Read Ir) → read_document s ≡ m → Ok tt ≡ verdict m → (r ≡ reply_to o (read_document s)) × (o' ≡ sheet_of o (read_document s))
        go (ok x n) g z = let u = t.of x n g in (u.0 ∙ ap (reply_to o) (sym g), u.1 ∙ ap (sheet_of o) (sym g))
        go (refused g k) h z = no (cc)

    pub accepted_reply : r ≡ reply_to o (read_document s)
    accepted_reply = both_accepted.0

    pub accepted_sheet : o' ≡ sheet_of o (read_document s)
    accepted_sheet = both_accepted.1

-- errors and warnings in words of their own
module _ (s : List ℕ) {e e' w w' : List ℕ} {t : Counts} where
  pub by_kind : WalksAll s e 0 0 t.errors e' w 0 0 t.warnings w' → ByKind s e w t e' w'
  unfolding counts_to errors_in warnings_in
  by_kind z = record {
    of = λ x n g.
        let u = z.of x n (document_at s x n g) in
        let p = u.errors_are.count in
        let q = u.warnings_are.count in
        let i : t.errors ≡ length (all_errors x) = omega arith in
        let j : t.warnings ≡ length (all_warnings x) = omega arith in
        (rw (i, j), u.errors_are.buffer, u.warnings_are.buffer);
  }

-- a walk counts at most so many of each kind
pub counted_few : (t : Counts) → t.errors + t.warnings ≤ 1064390464 → counted (Ok t) ≤ 1064390464
unfolding counted
counted_few t h = h

pub counted_none : (f : Refusal) → counted (Err f) ≤ 1064390464
unfolding counted
counted_none f = omega arith

module _ (s e w : List ℕ) where
  module _ {f : Refusal} (h : Err f ≡ verdict (read_document s)) where
    kinds_refused : (Err f ≡ counts_to (read_document s)) × (e ≡ errors_in e (read_document s)) × (w ≡ warnings_in w (read_document s))
    unfolding verdict counts_to errors_in warnings_in
    kinds_refused = go (read_document s) h
      where
        go : (m : Read Ir) → Err f ≡ verdict m → (Err f ≡ counts_to m) × (e ≡ errors_in e m) × (w ≡ warnings_in w m)
        go (ok x n) z = no (cc)
        go (refused g k) z = let a : f ≡ refusal g k = cc in (rw a, refl, refl)

    pub refused_counts : Err f ≡ counts_to (read_document s)
    refused_counts = kinds_refused.0

    pub refused_errors : e ≡ errors_in e (read_document s)
    refused_errors = kinds_refused.1

    pub refused_warnings : w ≡ warnings_in w (read_document s)
    refused_warnings = kinds_refused.2

  module _ (h : Ok tt ≡ verdict (read_document s)) {r : Counts} {e' w' : List ℕ} (t : ByKind s e w r e' w') where
    kinds_accepted : (Ok r ≡ counts_to (read_document s)) × (e' ≡ errors_in e (read_document s)) × (w' ≡ warnings_in w (read_document s))
    unfolding verdict
    kinds_accepted = go (read_document s) refl h
      where
        go : (m : Read Ir) → read_document s ≡ m → Ok tt ≡ verdict m → (Ok r ≡ counts_to (read_document s)) × (e' ≡ errors_in e (read_document s)) × (w' ≡ warnings_in w (read_document s))
        go (ok x n) g z = let u = t.of x n g in (u.0 ∙ ap counts_to (sym g), u.1 ∙ ap (errors_in e) (sym g), u.2 ∙ ap (warnings_in w) (sym g))
        go (refused g k) z y = no (cc)

    pub accepted_counts : Ok r ≡ counts_to (read_document s)
    accepted_counts = kinds_accepted.0

    pub accepted_errors : e' ≡ errors_in e (read_document s)
    accepted_errors = kinds_accepted.1

    pub accepted_warnings : w' ≡ warnings_in w (read_document s)
    accepted_warnings = kinds_accepted.2

-- one finding
get_d_front : (xs ys : List Finding) (k : ℕ) (d : Finding) → k < length xs → get_or (xs ++ ys) k d ≡ get_or xs k d
get_d_front [] ys k d h = absurd (omega arith)
get_d_front (x ∷ xs) ys zero d h = refl
get_d_front (x ∷ xs) ys (suc k) d h = get_d_front xs ys k d (omega arith)

get_or_back : (xs ys : List Finding) (k j : ℕ) (d : Finding) → k ≡ length xs + j → get_or (xs ++ ys) k d ≡ get_or ys j d
get_or_back xs ys k j d e = ap (λ (i : ℕ). get_or (xs ++ ys) i d) e ∙ get_or-append-add xs ys j d

module _ (s : List ℕ) (k : ℕ) {e e' w w' : List ℕ} {a b : ℕ} (t : WalksAll s e k 0 a e' w 0 0 b w') where
  sizes : (x : Ir) (n : ℕ) → read_document s ≡ ok x n → (a ≡ length (all_errors x)) × (a + b ≡ length (findings x))
  unfolding findings
  sizes x n g =
      let u = t.of x n (document_at s x n g) in
      let p = u.errors_are.count in
      let q = u.warnings_are.count in
      (omega arith, omega (arith, length-append (all_errors x) (all_warnings x)))

  pub line_error : length e ≡ 5 → k < a → Lines s k (Ok e')
  unfolding line_to findings
  line_error l h = record {
    of = λ x n g.
        let u = (t.of x n (document_at s x n g)).errors_are in
        let z = sizes x n g in
        let c = z.1 in
        let y : ltb k (length (all_errors x ++ all_warnings x)) ≡ true = lt-ltb k (length (all_errors x ++ all_warnings x)) (omega arith) in
        rw (y, get_d_front (all_errors x) (all_warnings x) k none (omega (arith, z.0))) (ap Ok (u.buffer ∙ put_kth (all_errors x) e k 0 k l (omega arith) (omega (arith, z.0))));
  }

  pub line_missing : a + b ≤ k → Lines s k (Err (absent.Missing (a + b)))
  unfolding line_to
  line_missing h = record {
    of = λ x n g.
        let c = (sizes x n g).1 in
        let y : ltb k (length (findings x)) ≡ false = le-ltb k (length (findings x)) (omega arith) in
        rw y (ap (λ (i : ℕ). Err (absent.Missing i)) c);
  }

  pub line_after : {r : Line} → a ≤ k → k < a + b → WarningLine s k a r → Lines s k r
  line_after h i v = record {
    of = λ x n g.
        let z = sizes x n g in
        let c = z.1 in
        v.of x n g z.0 h (omega arith);
  }

pub warning_line : (s : List ℕ) (k : ℕ) {f f' p p' : List ℕ} {a c d : ℕ} → length p ≡ 5 → WalksAll s f 0 0 c f' p k a d p' → WarningLine s k a (Ok p')
unfolding line_to findings
warning_line s k {p} {p'} {a} l v = record {
  of = λ x n g e h i.
      let u = (v.of x n (document_at s x n g)).warnings_are in
      let m = length-append (all_errors x) (all_warnings x) in
      let y : ltb k (length (all_errors x ++ all_warnings x)) ≡ true = lt-ltb k (length (all_errors x ++ all_warnings x)) i in
      rw (y, get_or_back (all_errors x) (all_warnings x) k (k - a) none (omega arith)) (ap Ok (u.buffer ∙ put_kth (all_warnings x) p k a (k - a) l (omega arith) (omega arith)));
}

module _ (s : List ℕ) (k : ℕ) where
  pub line_refused : {f : Refusal} → Err f ≡ verdict (read_document s) → Err (absent.Refused f) ≡ line_to k (read_document s)
  unfolding verdict line_to
  line_refused {f} e = go (read_document s) e
    where
      go : (m : Read Ir) → Err f ≡ verdict m → Err (absent.Refused f) ≡ line_to k m
      go (ok x n) z = no (cc)
      go (refused g j) z = let a : f ≡ refusal g j = cc in rw a

  pub line_accepted : {r : Line} → Ok tt ≡ verdict (read_document s) → Lines s k r → r ≡ line_to k (read_document s)
  unfolding verdict
  line_accepted {r} e t = go (read_document s) refl e
    where
      go : (m : Read Ir) → read_document s ≡ m → Ok tt ≡ verdict m → r ≡ line_to k (read_document s)
      go (ok x n) g z = t.of x n g ∙ ap (line_to k) (sym g)
      go (refused g j) h z = no (cc)
