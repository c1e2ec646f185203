-- All Group Limited (Structures 3.8.6), and the number of members of an all.
use Rattle.std.specs.Prelude.{◌≡◌, ℕ, ◌<◌, ◌⊎◌, ◌==◌, ◌&&◌, Bool, false, List, [], Option, None, Some, Contains, length, nat_lt, slice_get}
use Rattle.std.specs.Option.{option_and_then, is_some}
use Rattle.xs_codes.specs.declared.code.Code.{Code}
use Rattle.xs_codes.specs.declared.code.Code.TheVariants.{XLimitAll, CosAllLimited1, CosAllLimited2}
use Rattle.xs_codes.specs.declared.fault.Fault.{Fault}
use Rattle.xs_components.specs.Tables.{Tables}
use Rattle.xs_components.specs.Terms.{term_of}
use Rattle.xs_components.specs.declared.common.Place.{Place}
use Rattle.xs_components.specs.declared.particle.Particle.{Particle}
use Rattle.xs_components.specs.declared.particle.Term.{Term}
use Rattle.xs_components.specs.declared.particle.Term.TheVariants.{Element, Any, Group, Sequence, Choice, All}
use Rattle.component_references.specs.Ranked.{held_particles}
use Rattle.particle_forms.specs.Models.{group_particle}
use Rattle.content_models.specs.Ways.{group_below}
use Rattle.schema_models.specs.SetModels.{content_of}

-- the members of a term that is an all
abbrev pub all_in : Term → Option (List ℕ)
all_in (Element element) = None
all_in (Any wildcard) = None
all_in (Group group) = None
all_in (Sequence members) = None
all_in (Choice members) = None
all_in (All members) = Some members

abbrev pub members_in : Option Particle → List ℕ
members_in None = []
members_in (Some part) = held_particles part.term

-- at most once, and not never: a particle that never comes is none
abbrev pub is_one : Option ℕ → Bool
is_one None = false
is_one (Some most) = most == 1

abbrev pub part_once : Option Particle → Bool
part_once None = false
part_once (Some part) = nat_lt part.min 2 && is_one part.max

abbrev pub part_single : ℕ → Option Particle → Bool
part_single id None = false
part_single id (Some part) = part_once (Some part) && is_some (term_of part.term id)

abbrev pub part_place : Option Particle → Place
part_place None = record { document = 0; item = 0 }
part_place (Some part) = part.at

module _ (t : Tables) where
  -- the particles that a model group holds
  abbrev pub members_at : ℕ → List ℕ
  members_at p = members_in (slice_get t.particles.parts p)

  -- the members of an all
  abbrev pub all_at : ℕ → Option (List ℕ)
  all_at p = option_and_then (λ part. all_in part.term) (slice_get t.particles.parts p)

  -- a particle comes once at most
  abbrev pub comes_once : ℕ → Bool
  comes_once p = part_once (slice_get t.particles.parts p)

  -- a particle is an element or a wildcard that comes once at most
  abbrev pub is_single : ℕ → Bool
  is_single p = part_single p (slice_get t.particles.parts p)

  abbrev pub particle_fault : ℕ → Code → Fault
  particle_fault p code = record {
    phase = 7;
    document = (part_place (slice_get t.particles.parts p)).document;
    item = (part_place (slice_get t.particles.parts p)).item;
    code = code;
  }

  -- A particle is an all, directly or by references to groups.
  pub data IsAllAt : ℕ → ℕ → Type 0 where
    itself : (p : ℕ) (members : List ℕ) → all_at p ≡ Some members → IsAllAt p p
    by_group : (p q all : ℕ) → group_below t p ≡ Some q → IsAllAt q all → IsAllAt p all

  -- A particle stands in the schema set: it is the content of a complex type or of a group definition (Structures 3.4.1, 3.7.1), or
  -- a member of one that does.
  pub data Stands : ℕ → Type 0 where
    content : (type p : ℕ) → content_of t type ≡ Some p → Stands p
    group : (g p : ℕ) → group_particle t g ≡ Some p → Stands p
    member : (p q : ℕ) → Stands p → Contains (members_at p) q → Stands q

  -- x-limit.all: an all has more than 64 members.
  abbrev pub IsCrowded : ℕ → Fault → Type 0
  IsCrowded p f = (members : List ℕ) × (all_at p ≡ Some members) × (64 < length members) × (f ≡ particle_fault p XLimitAll)

  -- cos-all-limited.1 (Structures 3.8.6): an all comes otherwise than once at most, itself or by reference.
  abbrev pub IsRepeated : ℕ → Fault → Type 0
  IsRepeated p f = (all : ℕ) × IsAllAt p all × (comes_once p ≡ false) × (f ≡ particle_fault all CosAllLimited1)

  -- cos-all-limited.1: an all is a member of a model group, itself or by reference, and so not the whole of a content.
  abbrev pub IsNested : ℕ → Fault → Type 0
  IsNested q f = (all : ℕ) × IsAllAt q all × (f ≡ particle_fault all CosAllLimited1)

  -- cos-all-limited.2 (Structures 3.8.6): a member of an all is not an element that comes once at most.
  abbrev pub IsMisfit : ℕ → Fault → Type 0
  IsMisfit q f = (is_single q ≡ false) × (f ≡ particle_fault q CosAllLimited2)

  -- one of these, of a particle or its members
  abbrev pub IsMemberMisfit : ℕ → Fault → Type 0
  IsMemberMisfit p f = (members : List ℕ) × (all_at p ≡ Some members) × (q : ℕ) × Contains members q × IsMisfit q f

  abbrev pub IsUnlimitedAt : ℕ → Fault → Type 0
  IsUnlimitedAt p f = (IsCrowded p f ⊎ IsRepeated p f) ⊎ (((q : ℕ) × Contains (members_at p) q × IsNested q f) ⊎ IsMemberMisfit p f)

  -- cos-all-limited.1: an all without members comes otherwise than once at most. As the group of a complex type it makes explicit content
  -- that is empty (Structures 3.4.2), and stands in no content.
  abbrev pub IsEmptyRepeated : ℕ → Fault → Type 0
  IsEmptyRepeated p f = (all_at p ≡ Some []) × (comes_once p ≡ false) × (f ≡ particle_fault p CosAllLimited1)

  -- the fault is one of an all that stands in the schema set, or of one without members; its item is the all, or the member
  abbrev pub IsUnlimited : Fault → Type 0
  IsUnlimited f = (p : ℕ) × (p < length t.particles.parts) × ((Stands p × IsUnlimitedAt p f) ⊎ IsEmptyRepeated p f)

  -- the particles of contents are there
  abbrev pub AreContentsThere : Type 0
  AreContentsThere = (type p : ℕ) → content_of t type ≡ Some p → p < length t.particles.parts
