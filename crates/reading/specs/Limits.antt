-- The limits of document 01.
use Rattle.std.specs.Prelude.{ℕ}

-- a document's bytes
abbrev pub max_document : ℕ
max_document = 65535

-- modules of a document, segments of a path, entries of any other list
abbrev pub max_modules : ℕ
max_modules = 16

abbrev pub max_path : ℕ
max_path = 8

abbrev pub max_list : ℕ
max_list = 255

-- bytes of a name and of a version string
abbrev pub max_text : ℕ
max_text = 64

-- width and priority are below 2^32; id, literal and bound any u64
abbrev pub max_u32 : ℕ
max_u32 = 4294967295

abbrev pub max_u64 : ℕ
max_u64 = 18446744073709551615

-- levels of an expression or formula
abbrev pub max_depth : ℕ
max_depth = 32

-- the newest ir_version
abbrev pub max_version : ℕ
max_version = 1
