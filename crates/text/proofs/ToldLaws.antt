-- The message call: what it answers and what it leaves, from the words of the finding and the text that they say.
use Rattle.std.specs.Prelude.{Option, Result, Ok, Err}
use Prim.Native.Nat.{ℕ, ◌<◌, ◌≤◌}
use native.Mathlib.Nat.{zero-add}
use native.Mathlib.Omega.{arith}
use mathlib.Core.Path.{◌≡◌, refl, sym, ap, ◌∙◌}
use mathlib.Core.Bool.{Bool, cond, true, false}
use mathlib.Core.List.{List}
use lib.Dec.{ltb}
use lib.ListN.{length, get_or}
use lib.Seq.{sets-eq}
use borrow.Author.Tests.{lt-ltb, le-ltb, ltb-false}
use Rattle.reading.specs.Read.{Read, ok, refused}
use Rattle.reading.specs.Limits.{max_document}
use Rattle.reading.specs.Module.{Ir}
use Rattle.reading.specs.Document.{read_document}
use Rattle.reading.specs.Link.{refusal}
use Rattle.reading.specs.declared.fault.Refusal.{Refusal}
use Rattle.reading.specs.declared.fault.Fault.TheVariants.{TooLong}
use Rattle.reading.proofs.Rules.{no, pick_true}
use Rattle.findings.specs.Finding.{note, Finding, in_module, words}
use Rattle.findings.specs.Findings.{findings}
use Rattle.findings.specs.Reply.{line_to, Line}
use Rattle.findings.specs.declared.reply.Absent.{Absent}
use Rattle.findings.specs.declared.reply.Absent.TheVariants as line
use Rattle.text.specs.Put.{Put}
use Rattle.text.specs.Message.{saying_text, message_of}
use Rattle.text.specs.Said.{saying_of}
use Rattle.text.specs.Says.{SaysWords}
use Rattle.text.specs.Told.{untold_of, message_at, sized, filled, told_of, text_of}
use Rattle.text.specs.declared.said.Said.{Said}
use Rattle.text.specs.declared.told.Untold.{Untold}
use Rattle.text.specs.declared.told.Untold.TheVariants.{Refused, Missing, Short}

-- a text that is longer than the lent bytes
module _ (o : List ℕ) {s s' msg : List ℕ} {n : ℕ} (p : Put s 0 msg n s') (h : length o < n) where
  longer : ltb (length o) (length msg) ≡ true
  longer = lt-ltb (length o) (length msg) (omega (arith, p.next))

  pub short_told : Err (Short n) ≡ sized o msg
  unfolding sized
  short_told = rw longer (ap (λ (k : ℕ). Err (Short k)) (p.next ∙ zero-add (length msg)))

  pub short_text : o ≡ filled o msg
  unfolding filled
  short_text = rw longer

-- a text that fits
module _ (o : List ℕ) {s s' o' msg : List ℕ} {n w : ℕ} (p : Put s 0 msg n s') (h : n ≤ length o) (q : Put o 0 msg w o') where
  no_longer : ltb (length o) (length msg) ≡ false
  no_longer = le-ltb (length o) (length msg) (omega (arith, p.next))

  pub whole_told : Ok w ≡ sized o msg
  unfolding sized
  whole_told = rw no_longer (ap Ok (q.next ∙ zero-add (length msg)))

  pub whole_text : o' ≡ filled o msg
  unfolding filled
  whole_text = rw no_longer (q.bytes ∙ sets-eq msg o 0 (omega (arith, p.next)) ∙ simp zero-add)

-- a finding, by its words
line_is : (f : Finding) {ws : List ℕ} → ◌≡◌ {A = Line} (Ok ws) (Ok (words f)) → in_module (get_or ws 0 0) (note (get_or ws 1 0) (get_or ws 2 0) (get_or ws 3 0) f.note.cause) ≡ f
line_is f {ws} e = let u : ws ≡ words f = cc in rw u

-- finding number k, and its words or that there is none
abbrev kth : ℕ → Ir → Finding
kth k x = get_or (findings x) k (in_module 0 (note 0 0 0 0))

abbrev listed : ℕ → Ir → Bool → Line
listed k x b = cond b (Ok (words (kth k x))) (Err (line.Missing (length (findings x))))

module _ (s : List ℕ) (k : ℕ) {r : Line} (e : r ≡ line_to k (read_document s)) where
  -- a document that has a finding is short
  pub line_short : {ws : List ℕ} → r ≡ Ok ws → length s ≤ 0xffff
  unfolding line_to read_document
  line_short q = go (ltb max_document (length s)) refl
    where
      go : (b : Bool) → ltb max_document (length s) ≡ b → length s ≤ 0xffff
      go true l = let x : r ≡ Err (line.Refused (refusal TooLong 0)) = rw (l, pick_true) at e in no (cc)
      go false l = ltb-false max_document (length s) l

  module _ (o : List ℕ) where
    -- the document is refused
    told_refused : {f : Refusal} → r ≡ Err (line.Refused f) → (Err (Refused f) ≡ told_of k o (read_document s)) × (o ≡ text_of k o (read_document s))
    unfolding line_to told_of text_of
    told_refused {f} q = go (read_document s) (sym q ∙ e)
      where
        none : {A : Type 0} (x : Ir) (b : Bool) → Err (line.Refused f) ≡ listed k x b → A
        none x true z = no (cc)
        none x false z = no (cc)

        go : (m : Read Ir) → Err (line.Refused f) ≡ line_to k m → (Err (Refused f) ≡ told_of k o m) × (o ≡ text_of k o m)
        go (ok x n) z = none x (ltb k (length (findings x))) z
        go (refused g a) z = let u : f ≡ refusal g a = cc in (rw u, refl)

    -- there are only so many findings
    told_missing : {a : ℕ} → r ≡ Err (line.Missing a) → (Err (Missing k) ≡ told_of k o (read_document s)) × (o ≡ text_of k o (read_document s))
    unfolding line_to told_of text_of
    told_missing {a} q = go (read_document s) (sym q ∙ e)
      where
        past : (x : Ir) (b : Bool) → Err (line.Missing a) ≡ listed k x b → (Err (Missing k) ≡ cond b (sized o (message_at x k)) (Err (Missing k))) × (o ≡ cond b (filled o (message_at x k)) o)
        past x true z = no (cc)
        past x false z = (refl, refl)

        go : (m : Read Ir) → Err (line.Missing a) ≡ line_to k m → (Err (Missing k) ≡ told_of k o m) × (o ≡ text_of k o m)
        go (ok x n) z = past x (ltb k (length (findings x))) z
        go (refused g p) z = no (cc)

    -- either
    told_absent : (a : Absent) → r ≡ Err a → (Err (untold_of k a) ≡ told_of k o (read_document s)) × (o ≡ text_of k o (read_document s))
    told_absent (line.Refused f) q = told_refused q
    told_absent (line.Missing n) q = told_missing q

    pub absent_told : {a : Absent} {u : Untold} → r ≡ Err a → u ≡ untold_of k a → Err u ≡ told_of k o (read_document s)
    absent_told {a} q h = rw h (told_absent a q).0

    pub absent_text : {a : Absent} → r ≡ Err a → o ≡ text_of k o (read_document s)
    absent_text {a} q = (told_absent a q).1

    -- the words of the finding say the text
    module _ {ws : List ℕ} {d : Option Said} {t : Result ℕ Untold} {o' : List ℕ} (q : r ≡ Ok ws) (w : SaysWords s (get_or ws 0 0) (get_or ws 1 0) (get_or ws 2 0) (get_or ws 3 0) d) (l : t ≡ sized o (saying_text (get_or ws 1 0) (saying_of s d))) (h : o' ≡ filled o (saying_text (get_or ws 1 0) (saying_of s d))) where
      told_words : (t ≡ told_of k o (read_document s)) × (o' ≡ text_of k o (read_document s))
      unfolding line_to told_of text_of message_at
      told_words = go (read_document s) refl (sym q ∙ e)
        where
          here : (x : Ir) (b : Bool) → ((c : ℕ) → saying_text (get_or ws 1 0) (saying_of s d) ≡ message_of x (in_module (get_or ws 0 0) (note (get_or ws 1 0) (get_or ws 2 0) (get_or ws 3 0) c))) → Ok ws ≡ listed k x b → (t ≡ cond b (sized o (message_at x k)) (Err (Missing k))) × (o' ≡ cond b (filled o (message_at x k)) o)
          here x true g z =
              let u = g (kth k x).note.cause ∙ ap (message_of x) (line_is (kth k x) z) in
              (l ∙ ap (sized o) u, h ∙ ap (filled o) u)
          here x false g z = no (cc)

          go : (m : Read Ir) → read_document s ≡ m → Ok ws ≡ line_to k m → (t ≡ told_of k o m) × (o' ≡ text_of k o m)
          go (ok x n) g z = here x (ltb k (length (findings x))) (λ c. w.of x n c g) z
          go (refused f p) g z = no (cc)

      pub words_told : t ≡ told_of k o (read_document s)
      words_told = told_words.0

      pub words_text : o' ≡ text_of k o (read_document s)
      words_text = told_words.1
