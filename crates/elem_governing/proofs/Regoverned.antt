-- What governs an element again is what governs it.
use Rattle.std.proofs.Common.{◌≡◌, ℕ, List, Option, refl}
use Rattle.xs_names.specs.Names.{NameTable}
use Rattle.xs_components.specs.Tables.{Tables}
use Rattle.component_tables.specs.Types.{global_of}
use Rattle.elem_governing.specs.Governing.{governed, govern_root, govern_child, child_mode, accepting_particle, particle_declaration}
use Rattle.elem_governing.specs.declared.pairs.Mode.{Mode}
use Rattle.elem_governing.specs.declared.pairs.Mode.TheVariants.{Strict, Lax, Skip}
use Rattle.elem_governing.specs.Again.{regoverned}

module _ (names : NameTable) (t : Tables) (xsi now : Option (List ℕ)) (scope inner : List (List ℕ × ℕ)) where
  governed-again : (mode : Mode) (declaration : Option ℕ) → regoverned names t (governed names t mode declaration xsi scope) now inner ≡ governed names t mode declaration now inner
  governed-again Strict declaration = refl
  governed-again Lax declaration = refl
  governed-again Skip declaration = refl

  pub child-again : (mode : Mode) (term : Option ℕ) (name : ℕ) → regoverned names t (govern_child names t mode term name xsi scope) now inner ≡ govern_child names t mode term name now inner
  child-again mode term name = governed-again (child_mode mode (accepting_particle t term)) (particle_declaration t name (accepting_particle t term))

  pub root-again : (name : ℕ) → regoverned names t (govern_root names t name xsi scope) now inner ≡ govern_root names t name now inner
  root-again name = governed-again Strict (global_of t name)
