-- What a walk over modules promises: errors go to one buffer and warnings to another, each in the order of the list.
use Rattle.std.specs.Prelude.{ℕ, ◌<◌, ◌≤◌, ◌≡◌, List, length, Ok}
use Rattle.reading.specs.Read.{ok}
use Rattle.reading.specs.Limits.{max_modules}
use Rattle.reading.specs.Combine.{list_of}
use Rattle.reading.specs.Module.{Module, Ir, read_module, read_ir}
use Rattle.reading.specs.Document.{read_document}
use Rattle.findings.specs.Errors.{errors}
use Rattle.findings.specs.Warnings.{warnings}
use Rattle.findings.specs.Findings.{by_module, all_errors, all_warnings, findings}
use Rattle.findings.specs.Sheet.{put, Written}
use Rattle.findings.specs.Noting.{Noted}
use Rattle.findings.specs.Scene.{Bytes, Reads, Rows, Scene}
use Rattle.findings.specs.Prints.{Prints}
use Rattle.findings.specs.Reply.{Reply, Line, reply_to, sheet_of, counts_to, errors_in, warnings_in, line_to}
use Rattle.findings.specs.declared.reply.Counts.{Counts}

-- the buffer o, skip and the next number n before; the next number r and the buffer o' after; the second for warnings
module _ (s o : List ℕ) (skip n r : ℕ) (o' p : List ℕ) (leave k q : ℕ) (p' : List ℕ) where
  -- of the module at a place; end is the place after it
  pub record ModuleWalked (owner end : ℕ) (m : Module) (e : ℕ) : Type 0 where
    pub errors_are : Noted owner o skip n (errors m) r o'
    pub warnings_are : Noted owner p leave k (warnings m) q p'
    pub ends : end ≡ e

  -- of a module whose fields' places are known
  pub record WalksNamed (owner : ℕ) (places rows prints : List ℕ) (count : ℕ) : Type 0 where
    pub of : (m : Module) → Bytes s → Scene s places m → Rows s rows m.transitions → Prints prints m.transitions → count ≡ length m.transitions → Noted owner o skip n (errors m) r o' × Noted owner p leave k (warnings m) q p'

  pub record WalksModule (owner at end : ℕ) : Type 0 where
    pub of : (m : Module) (e : ℕ) → read_module s at ≡ ok m e → ModuleWalked owner end m e

  -- of all modules of the list at a place
  pub record ModulesWalked (ms : List Module) : Type 0 where
    pub errors_are : Written o skip n (by_module errors ms) r o'
    pub warnings_are : Written p leave k (by_module warnings ms) q p'

  pub record WalksModules (at : ℕ) : Type 0 where
    pub of : (ms : List Module) → Reads (list_of max_modules read_module) s at ms → ModulesWalked ms

  -- of a whole document
  pub record Walked (x : Ir) : Type 0 where
    pub errors_are : Written o skip n (all_errors x) r o'
    pub warnings_are : Written p leave k (all_warnings x) q p'

  pub record WalksAll : Type 0 where
    pub of : (x : Ir) (e : ℕ) → read_ir s 0 ≡ ok x e → Walked x

-- the findings of a document that reads, written from what a walk kept of them: errors first, and warnings after a of them
pub record PutsErrors (s kept : List ℕ) (a : ℕ) (o o' : List ℕ) : Type 0 where
  pub of : (x : Ir) (n : ℕ) → read_document s ≡ ok x n → (p : List ℕ) → Written p 0 0 (all_errors x) a kept → o' ≡ put o 0 0 (all_errors x)

pub record PutsWarnings (s kept : List ℕ) (a b : ℕ) (o o' : List ℕ) : Type 0 where
  pub of : (x : Ir) (n : ℕ) → read_document s ≡ ok x n → (p : List ℕ) → Written p 0 0 (all_warnings x) b kept → o' ≡ put o 0 a (all_warnings x)

-- the answer to a document that reads, and the lent words afterwards
pub record Replies (s o : List ℕ) (r : Reply) (o' : List ℕ) : Type 0 where
  pub of : (x : Ir) (n : ℕ) → read_document s ≡ ok x n → (r ≡ reply_to o (ok x n)) × (o' ≡ sheet_of o (ok x n))

-- the same from what a walk kept of the errors and of the warnings, and how many it counted
pub record PutsAll (s e' w' : List ℕ) (t : Counts) (o : List ℕ) (r : Reply) (o' : List ℕ) : Type 0 where
  pub of : (e w : List ℕ) → WalksAll s e 0 0 t.errors e' w 0 0 t.warnings w' → Replies s o r o'

-- where the walk kept all of them, whatever the document
pub record PutsKept (e' w' : List ℕ) (t : Counts) (o : List ℕ) (r : Reply) (o' : List ℕ) : Type 0 where
  pub of : (s : List ℕ) → PutsAll s e' w' t o r o'

-- the answer where errors and warnings each have words of their own, and those words afterwards
pub record ByKind (s e w : List ℕ) (r : Counts) (e' w' : List ℕ) : Type 0 where
  pub of : (x : Ir) (n : ℕ) → read_document s ≡ ok x n → (Ok r ≡ counts_to (ok x n)) × (e' ≡ errors_in e (ok x n)) × (w' ≡ warnings_in w (ok x n))

-- finding number k of a document that reads
pub record Lines (s : List ℕ) (k : ℕ) (r : Line) : Type 0 where
  pub of : (x : Ir) (n : ℕ) → read_document s ≡ ok x n → r ≡ line_to k (ok x n)

-- the same where so many errors come before it
pub record WarningLine (s : List ℕ) (k a : ℕ) (r : Line) : Type 0 where
  pub of : (x : Ir) (n : ℕ) → read_document s ≡ ok x n → a ≡ length (all_errors x) → a ≤ k → k < length (findings x) → r ≡ line_to k (ok x n)
