-- What governs an element whose attribute xsi:type is another now (Structures 3.3.4, 5.2).
use Rattle.std.specs.Prelude.{ℕ, List, Option}
use Rattle.xs_names.specs.Names.{NameTable}
use Rattle.xs_components.specs.Tables.{Tables}
use Rattle.elem_governing.specs.Governing.{governed}
use Rattle.elem_governing.specs.declared.pairs.Governing.{Governing}

-- by the declaration that it had, assessed as strictly as it was
abbrev pub regoverned : NameTable → Tables → Governing → Option (List ℕ) → List (List ℕ × ℕ) → Governing
regoverned names t pair xsi scope = governed names t pair.mode pair.declaration xsi scope
