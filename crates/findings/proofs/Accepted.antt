-- The rearranged document is accepted too: its content is within the limits and its encoding is as long, since both ask the same of each
-- transition and of their number.
use Prim.Native.Nat.{ℕ, zero, suc, ◌+◌}
use mathlib.Core.Path.{◌≡◌, refl, sym, ap, ap₂, subst, ◌∙◌}
use mathlib.Core.List.{List, [], ◌∷◌, Permᴰ}
use mathlib.Core.Option.{some}
use native.Mathlib.Omega.{arith}
use lib.ListN.{length, get_elem?, length-append}
use Rattle.reading.specs.Encode.{enc_head, enc_all, enc_list, All, more, WithinList}
use Rattle.reading.specs.Transition.{Transition, enc_transition}
use Rattle.reading.specs.Module.{Module, Ir, enc_module, enc_ir, WithinModule, WithinIr}
use Rattle.reading.specs.Read.{ok}
use Rattle.reading.specs.Document.{read_document}
use Rattle.reading.proofs.HeadSound.{Bytes}
use Rattle.reading.proofs.Theorems.{document_sound, document_complete}
use Rattle.findings.specs.Demand.{with_transitions, in_place, rearranged}
use Rattle.findings.proofs.Permutations.{perm_length}

-- ── lists ──
module _ {A : Type 0} where
  all_perm : {P : A → Type 0} {l k : List A} → Permᴰ l k → All P l → All P k
  all_perm Permᴰ.nil a = a
  all_perm {P} (Permᴰ.cons e d) (more p a) = more (subst P e p) (all_perm d a)
  all_perm {P} (Permᴰ.swap e₁ e₂) (more p (more q a)) = more (subst P e₂ q) (more (subst P e₁ p) a)
  all_perm (Permᴰ.trans d₁ d₂) a = all_perm d₂ (all_perm d₁ a)

  within_perm : {P : A → Type 0} {n : ℕ} {l k : List A} → Permᴰ l k → WithinList n P l → WithinList n P k
  within_perm p w = record { most = rw (perm_length p) at w.most; each = all_perm p w.each }

  enc_all_length : (enc : A → List ℕ) {l k : List A} → Permᴰ l k → length (enc_all enc k) ≡ length (enc_all enc l)
  unfolding enc_all
  enc_all_length enc Permᴰ.nil = refl
  enc_all_length enc (Permᴰ.cons {a} {b} {l₁} {l₂} e d) =
      simp length-append (ap₂ ◌+◌ (ap (λ z. length (enc z)) (sym e)) (enc_all_length enc d))
  enc_all_length enc (Permᴰ.swap {a} {b} {a'} {b'} {l} e₁ e₂) =
      let p : length (enc a) ≡ length (enc b') = ap (λ z. length (enc z)) e₁ in
      let q : length (enc b) ≡ length (enc a') = ap (λ z. length (enc z)) e₂ in
      simp length-append (omega arith)
  enc_all_length enc (Permᴰ.trans d₁ d₂) = enc_all_length enc d₂ ∙ enc_all_length enc d₁

  enc_list_length : (enc : A → List ℕ) {l k : List A} → Permᴰ l k → length (enc_list enc k) ≡ length (enc_list enc l)
  unfolding enc_list
  enc_list_length enc {l} {k} p =
      length-append (enc_head 4 (length k)) (enc_all enc k)
      ∙ ap₂ ◌+◌ (ap (λ n. length (enc_head 4 n)) (sym (perm_length p))) (enc_all_length enc p)
      ∙ sym (length-append (enc_head 4 (length l)) (enc_all enc l))

-- ── a module ──
module _ (y : Module) (us : List Transition) (p : Permᴰ y.transitions us) where
  module_length : length (enc_module (with_transitions us y)) ≡ length (enc_module y)
  unfolding enc_module
  module_length = simp (length-append, enc_list_length enc_transition p)

  module_within : WithinModule y → WithinModule (with_transitions us y)
  unfolding WithinModule
  module_within w = search within_perm depth 14

-- ── the document ──
module _ (y : Module) (us : List Transition) (p : Permᴰ y.transitions us) where
  enc_all_in_place : (ms : List Module) (m : ℕ) → get_elem? ms m ≡ some y → length (enc_all enc_module (in_place m us ms)) ≡ length (enc_all enc_module ms)
  unfolding enc_all
  enc_all_in_place [] m e = refl
  enc_all_in_place (z ∷ ms) zero e =
      let q : z ≡ y = cc in
      simp length-append (ap (λ n. n + length (enc_all enc_module ms)) (module_length z us (rw q p)))
  enc_all_in_place (z ∷ ms) (suc m) e = simp length-append (ap (λ n. length (enc_module z) + n) (enc_all_in_place ms m e))

  length_in_place : (ms : List Module) (m : ℕ) → length (in_place m us ms) ≡ length ms
  length_in_place [] m = refl
  length_in_place (z ∷ ms) zero = refl
  length_in_place (z ∷ ms) (suc m) = ap suc (length_in_place ms m)

  all_in_place : (ms : List Module) (m : ℕ) → get_elem? ms m ≡ some y → All WithinModule ms → All WithinModule (in_place m us ms)
  all_in_place [] m e a = a
  all_in_place (z ∷ ms) zero e (more w a) = let q : z ≡ y = cc in more (module_within z us (rw q p) w) a
  all_in_place (z ∷ ms) (suc m) e (more w a) = more w (all_in_place ms m e a)

  ir_length : (x : Ir) (m : ℕ) → get_elem? x.modules m ≡ some y → length (enc_ir (rearranged m us x)) ≡ length (enc_ir x)
  unfolding enc_ir enc_list
  ir_length x m e = simp (length-append, length_in_place, enc_all_in_place x.modules m e)

  ir_within : (x : Ir) (m : ℕ) → get_elem? x.modules m ≡ some y → WithinIr x → WithinIr (rearranged m us x)
  unfolding WithinIr
  ir_within x m e w =
      (w.0, record { most = rw (length_in_place x.modules m) w.1.most; each = all_in_place x.modules m e w.1.each })

  pub rearranged_accepted : (s : List ℕ) → Bytes s → (x : Ir) (n : ℕ) → read_document s ≡ ok x n → (m : ℕ) → get_elem? x.modules m ≡ some y → read_document (enc_ir (rearranged m us x)) ≡ ok (rearranged m us x) (length (enc_ir (rearranged m us x)))
  rearranged_accepted s b x n h m e =
      let a = document_sound s b x n h in
      document_complete
      (rearranged m us x)
      (ir_within x m e a.within)
      (omega (arith, ir_length x m e, ap length a.bytes, a.short))
