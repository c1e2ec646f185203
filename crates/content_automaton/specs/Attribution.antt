-- What is attributed to a name (Structures 3.4.4): the first of the terms that accept it, and whether these are of one class.
use Rattle.std.specs.Prelude.{◌≡◌, ◌≢◌, ◌==◌, if◌then◌else◌, ℕ, ◌<◌, ◌≤◌, List, length, slice_index_or, Contains}
use Rattle.xs_names.specs.Names.{NameTable}
use Rattle.content_automaton.specs.declared.symbol_terms.Accepts.{Accepts}
use Rattle.content_automaton.specs.declared.rows.Entry.{Entry}
use Rattle.content_automaton.specs.declared.attribution.Attribution.{Attribution}
use Rattle.content_automaton.specs.declared.attribution.Attribution.TheVariants.{Nothing, OneClass, Ambivalent}
use Rattle.content_automaton.specs.Terms.{ExpandedName, Gives}

module _ (t : NameTable) (terms : List Accepts) (name : ExpandedName) where
  -- the term of this number, in the order of the schema, accepts the name, and gives it this class
  abbrev pub GivesAt : ℕ → ℕ → Type 0
  GivesAt k class = (k < length terms) × ((a : Accepts) → Gives t (slice_index_or terms k a) name class)

  -- no term accepts the name
  abbrev pub IsStranger : Type 0
  IsStranger = (k class : ℕ) → GivesAt k class → ⊥

  -- the first term that accepts the name, in the order of the schema
  abbrev pub IsFirstTerm : ℕ → Type 0
  IsFirstTerm first = ((class : ℕ) × GivesAt first class) × ((k class : ℕ) → GivesAt k class → first ≤ k)

  -- the terms that accept the name are of one class
  abbrev pub IsOfOneClass : Type 0
  IsOfOneClass = (i j c d : ℕ) → GivesAt i c → GivesAt j d → c ≡ d

  -- the name is ambivalent: terms of different classes accept it
  abbrev pub IsAmbivalent : Type 0
  IsAmbivalent = (i j c d : ℕ) × GivesAt i c × GivesAt j d × (c ≢ d)

  -- what is attributed to the name
  abbrev pub IsAttributed : Attribution → Type 0
  IsAttributed Nothing = IsStranger
  IsAttributed (OneClass first class) = IsFirstTerm first × IsOfOneClass
  IsAttributed (Ambivalent first) = IsFirstTerm first × IsAmbivalent

-- ---- for proofs

-- a term accepts a symbol, and gives it a class
pub record Noted : Type 0 where
  pub term : ℕ
  pub symbol : ℕ
  pub class : ℕ

abbrev pub noted : ℕ → Entry → Noted
noted term e = record { term = term; symbol = e.symbol; class = e.class }

-- the first term of those noted for a symbol
abbrev pub IsFirstNoted : List Noted → ℕ → ℕ → Type 0
IsFirstNoted notes n first =
    ((class : ℕ) × Contains notes (record { term = first; symbol = n; class = class })) ×
    ((k class : ℕ) → Contains notes (record { term = k; symbol = n; class = class }) → first ≤ k)

-- what is noted of a symbol
abbrev pub IsNoted : List Noted → ℕ → Attribution → Type 0
IsNoted notes n Nothing = (k class : ℕ) → Contains notes (record { term = k; symbol = n; class = class }) → ⊥
IsNoted notes n (OneClass first class) =
    IsFirstNoted notes n first × ((k c : ℕ) → Contains notes (record { term = k; symbol = n; class = c }) → c ≡ class)
IsNoted notes n (Ambivalent first) =
    IsFirstNoted notes n first ×
    ((i j c d : ℕ) × Contains notes (record { term = i; symbol = n; class = c }) × Contains notes (record { term = j; symbol = n; class = d }) × (c ≢ d))

-- what is noted of each symbol
abbrev pub AreNoted : List Noted → List Attribution → Type 0
AreNoted notes list = (n : ℕ) (a : Attribution) → n < length list → IsNoted notes n (slice_index_or list n a)

-- the notes are of terms up to this one
abbrev pub AreUpTo : List Noted → ℕ → Type 0
AreUpTo notes term = (x : Noted) → Contains notes x → x.term ≤ term

-- with one more term of a class
abbrev pub with_term : Attribution → ℕ → ℕ → Attribution
with_term Nothing term class = OneClass term class
with_term (OneClass first one) term class = if one == class then OneClass first one else Ambivalent first
with_term (Ambivalent first) term class = Ambivalent first
