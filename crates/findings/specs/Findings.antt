-- The findings of a document: "All errors by module, then all warnings by module."
use Rattle.std.specs.Prelude.{List, ◌++◌, map}
use Rattle.reading.specs.Module.{Module, Ir}
use Rattle.findings.specs.Lists.{placed, each}
use Rattle.findings.specs.Finding.{Note, Finding, in_module}
use Rattle.findings.specs.Errors.{errors}
use Rattle.findings.specs.Warnings.{warnings}

-- what f notes of each module, with the module's place
unfoldable pub by_module : (Module → List Note) → List Module → List Finding
by_module f ms = each (λ x. map (in_module x.place) (f x.item)) (placed 0 ms)

unfoldable pub all_errors : Ir → List Finding
all_errors x = by_module errors x.modules

unfoldable pub all_warnings : Ir → List Finding
all_warnings x = by_module warnings x.modules

unfoldable pub findings : Ir → List Finding
findings x = all_errors x ++ all_warnings x
