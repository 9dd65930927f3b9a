-- What the code's arguments and sayings stand for, in a document.
use Rattle.std.specs.Prelude.{ℕ, List, [], ◌∷◌, map, Option as Maybe, None, Some, Result, ⊤}
use Rattle.std.proofs.Math.Option.{Option, none, some}
use Rattle.reading.specs.Skip.{text_at}
use Rattle.typing.specs.Means.{ty_of, path_at, blame_of}
use Rattle.text.specs.Shown.{decimal, debug_type, debug_names, what_text}
use Rattle.typing.specs.declared.cause.Blame.{Blame}
use Rattle.text.specs.Message.{Saying}
use Rattle.text.specs.declared.said.Arg.{Arg}
use Rattle.text.specs.declared.said.Arg.TheVariants.{Blank, Name, Number, Debug, Path, Word}
use Rattle.text.specs.declared.said.Said.{Said}

unfoldable pub shown : List ℕ → Arg → List ℕ
shown s Blank = []
shown s (Name at) = text_at s at
shown s (Number n) = decimal n
shown s (Debug t) = debug_type (ty_of s t)
shown s (Path at) = debug_names (path_at s at)
shown s (Word w) = what_text w

unfoldable pub saying_of : List ℕ → Maybe Said → Option Saying
saying_of s None = none
saying_of s (Some x) = some (record { args = map (shown s) x.args; blame = blame_of s x.blame })

-- five arguments and what is wrong
abbrev pub line : Arg → Arg → Arg → Arg → Arg → Result ⊤ Blame → Maybe Said
line a b c d e w = Some (record { args = a ∷ b ∷ c ∷ d ∷ e ∷ []; blame = w })
