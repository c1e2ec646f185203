-- Which term of its parent's content model each child element is attributed to, and where child elements get stuck (Structures
-- 3.4.4, 3.8.4, 3.9.4).
use Rattle.std.specs.Prelude.{◌≡◌, ℕ, suc, ◌<◌, ◌⊎◌, ⊤, List, Option, None, Some, map, take, length, slice_get, slice_index, slice_index_or}
use Rattle.std.specs.Option.{option_and_then}
use Rattle.xs_names.specs.Names.{NameTable}
use Rattle.xs_components.specs.Tables.{Tables}
use Rattle.xs_components.specs.declared.common.TypeId.{TypeId}
use Rattle.xs_components.specs.declared.common.TypeId.TheVariants.{AnyType, Builtin, Simple, Complex}
use Rattle.particle_models.specs.Words.{IsWordOfNames, BeginsWord}
use Rattle.particle_forms.specs.Models.{model_of}
use Rattle.particle_forms.specs.Accepted.{accepts}
use Rattle.content_automaton.specs.Terms.{ExpandedName, name_at}
use Rattle.content_automaton.specs.Attribution.{IsAmbivalent}
use Rattle.content_automaton.specs.Modelled.{IsTermAt}
use Rattle.content_models.specs.Terms.{model_terms}
use Rattle.content_models.specs.Built.{IsFirstIn}

-- What a schema set has for content models: its names and components, the names of the members of each substitution group by the
-- number of its head, and the classes of its element declarations: those with the same properties have one.
pub record SchemaSet : Type 0 where
  pub names : NameTable
  pub parts : Tables
  pub members : List (List ℕ)
  pub classes : List ℕ

-- the particle of the content model of a type, if it has one; the content of anyType admits all elements laxly (Structures 3.4.7)
abbrev pub content_particle : Tables → Option TypeId → Option ℕ
content_particle t None = None
content_particle t (Some AnyType) = None
content_particle t (Some (Builtin kind)) = None
content_particle t (Some (Simple id)) = None
content_particle t (Some (Complex id)) = option_and_then (λ content. content) (slice_get t.contents id)

module _ (s : SchemaSet) where
  abbrev pub expanded : List ℕ → List ExpandedName
  expanded children = map (name_at s.names) children

  module _ (p : ℕ) where
    -- the names are those of a word of the content model of a particle; they begin one
    abbrev pub IsWord : List ℕ → Type 0
    IsWord children = IsWordOfNames (accepts s.names s.members s.parts) (model_of s.parts p) (expanded children)

    abbrev pub Begins : List ℕ → Type 0
    Begins children = BeginsWord (accepts s.names s.members s.parts) (model_of s.parts p) (expanded children)

    -- the first so many names begin words, each with those before it
    abbrev pub BeginUpTo : List ℕ → ℕ → Type 0
    BeginUpTo children i = (k : ℕ) → k < i → Begins (take (suc k) children)

    -- The place where child elements get stuck: the least i such that the first i + 1 names begin no word; their number, where all
    -- begin one but are none; none where they are a word.
    abbrev pub IsStuck : List ℕ → Option ℕ → Type 0
    IsStuck children None = IsWord children
    IsStuck children (Some i) =
        BeginUpTo children i ×
        (((i < length children) × (Begins (take (suc i) children) → ⊥)) ⊎ ((i ≡ length children) × (IsWord children → ⊥)))

    -- the place is before the one where the children get stuck
    abbrev pub IsBefore : Option ℕ → ℕ → Type 0
    IsBefore None i = ⊤
    IsBefore (Some stuck) i = i < stuck

    abbrev pub IsNameAmbivalent : ℕ → Type 0
    IsNameAmbivalent name = IsAmbivalent s.names (model_terms s.members s.parts s.classes p) (name_at s.names name)

    -- The term of the child with this name at place i: for an ambivalent name before the stuck place the term at the place that ends
    -- every marked prefix; else the first that accepts the name, in the order of the schema, if one does.
    abbrev pub IsTermOf : List ℕ → Option ℕ → ℕ → ℕ → Option ℕ → Type 0
    IsTermOf children stuck i name term =
        (IsNameAmbivalent name × IsBefore stuck i ×
        IsTermAt (accepts s.names s.members s.parts) (model_of s.parts p) (expanded (take i children)) (name_at s.names name) term) ⊎
        ((IsNameAmbivalent name → IsBefore stuck i → ⊥) × IsFirstIn s.names s.parts s.members s.classes p (name_at s.names name) term)

    -- each child has its term
    pub record AreTermsBy (children : List ℕ) (stuck : Option ℕ) (terms : List (Option ℕ)) : Type 0 where
      pub each : length terms ≡ length children
      pub are : (i : ℕ) → i < length children → IsTermOf children stuck i (slice_index children i) (slice_index_or terms i None)
      pub stuck_is : IsStuck children stuck

  -- a type without a content model has no term for any child, and none gets stuck
  pub record AreNoTerms (children : List ℕ) (stuck : Option ℕ) (terms : List (Option ℕ)) : Type 0 where
    pub terms_are : terms ≡ map (λ name. None) children
    pub stuck_is : stuck ≡ None

  abbrev pub AreTerms : Option ℕ → List ℕ → Option ℕ → List (Option ℕ) → Type 0
  AreTerms None children stuck terms = AreNoTerms children stuck terms
  AreTerms (Some p) children stuck terms = AreTermsBy p children stuck terms
