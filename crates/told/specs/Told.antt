-- What is told of a stream, piece by piece. What schema documents come to is asked, what is found of a document is looked at, and how names fit at a place
-- among child elements is tried, since relations say these.
use Rattle.std.specs.Prelude.{◌≡◌, ◌≤◌, ◌⊎◌, ℕ, ◌+◌, List, [], ◌++◌, take, Option}
use Rattle.tree_rows.specs.Forest.{Document}
use Rattle.assessment.specs.Attribution.{SchemaSet}
use Rattle.assessment.specs.Assessment.{Entry}
use Rattle.what_is_found.specs.IsFound.{IsFound}
use Rattle.kept_next.specs.Answers.{PlaceQuestion, Answer, AreAnswers}
use Rattle.told.specs.Outcomes.{Question, SetOutcome, IsOutcomeOf}
use Rattle.told.specs.declared.break_off.BreakOff.{BreakOff}
use Rattle.told.specs.declared.break_off.BreakOff.TheVariants.{Memory, WriteFault}
use Rattle.told.specs.declared.ending.Ending.{Ending}

-- a text that is written, and how many steps it costs at most
pub record Said : Type 0 where
  pub text : List ℕ
  pub cost : ℕ

-- a text that costs no step
abbrev pub free : List ℕ → Said
free text = record { text = text; cost = 0 }

abbrev pub silent : Said
silent = free []

-- one text, and another behind it
abbrev pub joined : Said → Said → Said
joined one two = record { text = one.text ++ two.text; cost = one.cost + two.cost }

-- It is over, and the stream has ended so, or goes on if no ending is there; or this is said, and more is told behind it; or what is told depends on
-- what schema documents come to; or on what is found of a document by a schema set; or on which names fit at a place.
pub data Told : Type 0 where
  over : (ending : Option Ending) → Told
  says : (said : Said) (more : Told) → Told
  asks : (question : Question) (next : SetOutcome → Told) → Told
  looks : (set : SchemaSet) (document : Document) (next : List Entry → Told) → Told
  tries : (question : PlaceQuestion) (next : List Answer → Told) → Told

-- some way through what is told says this, and then that is told
abbrev pub Leads : Told → Said → Told → Type 0
Leads (over ending) said rest = (said ≡ silent) × (rest ≡ over ending)
Leads (says first more) said rest =
    ((said ≡ silent) × (rest ≡ says first more)) ⊎ ((later : Said) × Leads more later rest × (said ≡ joined first later))
Leads (asks question next) said rest =
    ((said ≡ silent) × (rest ≡ asks question next)) ⊎ ((o : SetOutcome) × IsOutcomeOf question o × Leads (next o) said rest)
Leads (looks set document next) said rest =
    ((said ≡ silent) × (rest ≡ looks set document next)) ⊎ ((found : List Entry) × IsFound set document found × Leads (next found) said rest)
Leads (tries question next) said rest =
    ((said ≡ silent) × (rest ≡ tries question next)) ⊎ ((answers : List Answer) × AreAnswers question answers × Leads (next answers) said rest)

-- what is said next costs so many steps at least
abbrev pub CostsNow : Told → ℕ → Type 0
CostsNow (over ending) n = n ≡ 0
CostsNow (says said more) n = n ≤ said.cost
CostsNow (asks question next) n = n ≡ 0
CostsNow (looks set document next) n = n ≡ 0
CostsNow (tries question next) n = n ≡ 0

-- the same, and whatever is found where what is said next depends on what is found
abbrev pub CostsNext : Told → ℕ → Type 0
CostsNext (over ending) n = n ≡ 0
CostsNext (says said more) n = n ≤ said.cost
CostsNext (asks question next) n = n ≡ 0
CostsNext (looks set document next) n = (found : List Entry) → IsFound set document found → CostsNow (next found) n
CostsNext (tries question next) n = n ≡ 0

-- this is a front of the text that is said next
abbrev pub IsFront : Told → List ℕ → Type 0
IsFront (over ending) part = part ≡ []
IsFront (says said more) part = (n : ℕ) × (part ≡ take n said.text)
IsFront (asks question next) part = part ≡ []
IsFront (looks set document next) part = part ≡ []
IsFront (tries question next) part = part ≡ []

-- so much of what is said next was written, where memory was wanting or a write failed
abbrev pub IsBegun : BreakOff → Told → List ℕ → Type 0
IsBegun Memory t part = part ≡ []
IsBegun WriteFault t part = IsFront t part
