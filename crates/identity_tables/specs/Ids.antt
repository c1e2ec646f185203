-- The IDs of a document, the references to them, and what its root is judged by: Structures 3.3.4 and 3.15.5.
use Rattle.std.specs.Prelude.{◌≡◌, ℕ, ◌==◌, Bool, true, false, not, List, [], ◌∷◌, ◌++◌, map, length, filter, bytes_eq, codes, refl, Option, None, Some, if◌then◌else◌}
use Rattle.std.specs.List.{list_any, flat_map}
use Rattle.xs_codes.specs.declared.builtin.Builtin.{Builtin}
use Rattle.xs_codes.specs.declared.builtin.Builtin.TheVariants as types
use Rattle.xs_codes.specs.declared.code.Code.{Code}
use Rattle.xs_codes.specs.declared.code.Code.TheVariants.{CvcId1, CvcId2}
use Rattle.xs_codes.specs.declared.fault.Found.{Found}
use Rattle.simple_values.specs.declared.atom.Atom.{Atom}
use Rattle.simple_values.specs.declared.atom.Atom.TheVariants as atoms
use Rattle.simple_values.specs.declared.atoms.TypedAtom.{TypedAtom}
use Rattle.simple_values.specs.declared.value.Value.{Value}
use Rattle.simple_values.specs.declared.value.Value.TheVariants as values
use Rattle.identity_tables.specs.declared.role.IdRole.{IdRole}
use Rattle.identity_tables.specs.declared.role.IdRole.TheVariants.{Id, Reference, Neither}

-- what an atom is by the built-in type that it is of, or that its type is derived from: an ID (Datatypes 3.3.8), a reference to
-- one (3.3.9), or neither; the items of IDREFS (3.3.10) are of IDREF
abbrev pub role_of : Builtin → IdRole
role_of types.Id = Id
role_of types.IdRef = Reference
role_of _ = Neither

-- An atom of a document's values, and the element that bears it where it is an ID: for the value of an attribute its element, for
-- that of an element's text the parent, or at the root the root itself.
pub record BorneAtom : Type 0 where
  pub bearer : ℕ
  pub atom : TypedAtom

-- an ID and an element that bears it
pub record BorneId : Type 0 where
  pub id : List ℕ
  pub bearer : ℕ

-- ---- the atoms of values

abbrev pub atoms_of : Value → List TypedAtom
atoms_of (values.Atom builtin atom) = record { builtin = builtin; atom = atom } ∷ []
atoms_of (values.List items) = items

abbrev pub borne : ℕ → TypedAtom → BorneAtom
borne bearer atom = record { bearer = bearer; atom = atom }

abbrev pub borne_by : ℕ → List TypedAtom → List BorneAtom
borne_by bearer items = map (borne bearer) items

-- those of a valid text; a text that is not valid has no value
abbrev pub borne_in : ℕ → Option Value → List BorneAtom
borne_in bearer None = []
borne_in bearer (Some value) = borne_by bearer (atoms_of value)

abbrev pub borne_in_all : ℕ → List (Option Value) → List BorneAtom
borne_in_all bearer values = flat_map (borne_in bearer) values

-- ---- the ID/IDREF table (Structures 3.15.5)

-- the characters of a string
abbrev pub strings_of : Atom → List (List ℕ)
strings_of (atoms.Text chars) = chars ∷ []
strings_of _ = []

abbrev pub ids_if : IdRole → ℕ → List (List ℕ) → List BorneId
ids_if Id bearer strings = map (λ id. record { id = id; bearer = bearer }) strings
ids_if Reference bearer strings = []
ids_if Neither bearer strings = []

abbrev pub references_if : IdRole → List (List ℕ) → List (List ℕ)
references_if Id strings = []
references_if Reference strings = strings
references_if Neither strings = []

abbrev pub ids_in : BorneAtom → List BorneId
ids_in a = ids_if (role_of a.atom.builtin) a.bearer (strings_of a.atom.atom)

abbrev pub references_in : BorneAtom → List (List ℕ)
references_in a = references_if (role_of a.atom.builtin) (strings_of a.atom.atom)

-- the IDs among the atoms of a document, with their bearers
abbrev pub ids : List BorneAtom → List BorneId
ids all = flat_map ids_in all

-- the references to IDs
abbrev pub references : List BorneAtom → List (List ℕ)
references all = flat_map references_in all

-- the [binding] of a string: the elements that bear it as an ID
abbrev pub binding : List BorneId → List ℕ → List ℕ
binding all id = map (λ (b : BorneId). b.bearer) (filter (λ (b : BorneId). bytes_eq b.id id) all)

-- ---- Validation Root Valid (ID/IDREF) (Structures 3.3.4)

-- cvc-id.1 (Structures 3.3.4): the binding of some reference is empty.
abbrev pub has_unbound : List BorneId → List (List ℕ) → Bool
has_unbound all refs = list_any (λ id. length (binding all id) == 0) refs

-- cvc-id.2 (Structures 3.3.4): the binding of some ID has more than one member.
abbrev pub has_shared : List BorneId → Bool
has_shared all = list_any (λ (b : BorneId). list_any (λ other. not (other == b.bearer)) (binding all b.id)) all

abbrev pub found : Code → Found
found code = record { code = code; place = 0 }

abbrev pub code_if : Bool → Code → List Found
code_if broken code = if broken then found code ∷ [] else []

one_bearer_twice : has_shared (record { id = codes "x"; bearer = 1 } ∷ record { id = codes "x"; bearer = 1 } ∷ []) ≡ false
one_bearer_twice = refl

two_bearers : has_shared (record { id = codes "x"; bearer = 1 } ∷ record { id = codes "y"; bearer = 1 } ∷ record { id = codes "x"; bearer = 2 } ∷ []) ≡ true
two_bearers = refl

-- the codes of IDs of the root of a document with these atoms
unfoldable pub id_codes : List BorneAtom → List Found
id_codes all = code_if (has_unbound (ids all) (references all)) CvcId1 ++ code_if (has_shared (ids all)) CvcId2
