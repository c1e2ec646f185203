-- The types of a schema set, judged: each by what the table of them has for the types that it names, along references.
use Rattle.std.specs.Prelude.{◌≡◌, ℕ, ◌<◌, List, Option, None, Some, length, slice_get}
use Rattle.xs_components.specs.Tables.{Tables}
use Rattle.simple_types.specs.declared.judged.JudgedType.{JudgedType}
use Rattle.simple_types.specs.Forms.{IsFormMade, IsContentMade}
use Rattle.simple_types.specs.Lookup.{looked_up, content_of}

-- what is true of the part of a number, if it is there
abbrev pub Holds : {A : Type 0} → (A → Type 0) → Option A → Type 0
Holds P None = ⊥
Holds P (Some x) = P x

-- judging the simple type of a number comes to this, by the table
abbrev pub IsSimpleAt : Tables → List JudgedType → ℕ → JudgedType → Type 0
IsSimpleAt t table n made = Holds (λ part. IsFormMade t (looked_up table) part.at part.form made) (slice_get t.simples.parts n)

-- judging the content of the complex type of a number comes to this, by the tables
abbrev pub IsContentAt : Tables → List JudgedType → List JudgedType → ℕ → JudgedType → Type 0
IsContentAt t simples table n made =
    Holds (λ part. IsContentMade (looked_up simples) (content_of simples table) part.by_extension part.base part.content made) (slice_get t.complexes.parts n)

-- every simple type is judged
pub record AreSimplesJudged (t : Tables) (table : List JudgedType) : Type 0 where
  pub alike : length table ≡ length t.simples.parts
  pub each : (n : ℕ) → n < length t.simples.parts → Holds (IsSimpleAt t table n) (slice_get table n)

-- every complex type's content is judged
pub record AreContentsJudged (t : Tables) (simples table : List JudgedType) : Type 0 where
  pub alike : length table ≡ length t.complexes.parts
  pub each : (n : ℕ) → n < length t.complexes.parts → Holds (IsContentAt t simples table n) (slice_get table n)
