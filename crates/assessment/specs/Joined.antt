-- The assessment of a document with the codes of its IDs at the root: Structures 3.3.4, 5.2.
use Rattle.std.specs.Prelude.{ℕ, ◌==◌, Bool, false, List, [], if◌then◌else◌}
use Rattle.xs_codes.specs.declared.fault.Found.{Found}
use Rattle.tree_rows.specs.Forest.{Forest, none, text, element}
use Rattle.identity_tables.specs.Ids.{id_codes}
pub use Rattle.elem_assess.specs.Marked.{marked_record}
use Rattle.assessment.specs.Assessment.{Entry, Assessed, nothing, entry, Beside}
use Rattle.assessment.specs.Bearings.{borne_values}

-- the element of the number is the validation root
abbrev pub is_root : Forest → ℕ → Bool
is_root none n = false
is_root (text number chars next) n = is_root next n
is_root (element number name bindings attributes children next) n = number == n

-- cvc-id.1 and cvc-id.2 (Structures 3.3.4) stand at the root, by the values in the document; there are no identity constraints
abbrev pub beside_of : Forest → Assessed → Beside
beside_of f found = record { identity = λ number. []; ids = λ number. if is_root f number then id_codes (borne_values found) else [] }

-- ---- codes behind others

abbrev pub marked_entry : List Found → Entry → Entry
marked_entry codes own = record own { element = marked_record codes own.element }

-- those of the root
abbrev pub marked : List Found → Assessed → Assessed
marked codes nothing = nothing
marked codes (entry own below next) = entry (marked_entry codes own) below next

-- the codes of its IDs behind the others of the root
abbrev pub with_codes : Assessed → Assessed
with_codes found = marked (id_codes (borne_values found)) found
