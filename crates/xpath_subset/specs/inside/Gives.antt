-- What the functions of the reader answer.
use Rattle.std.specs.Prelude.{◌≡◌, ℕ, List, [], ◌∷◌, ◌++◌, Option, None, Some, Result, Ok, Err}
use Rattle.xpath_subset.specs.declared.reading.Refusal.{Refusal}
use Rattle.xpath_subset.specs.declared.reading.Refusal.TheVariants.{Memory, Syntax}
use Rattle.xpath_subset.specs.declared.reading.XPathFault.{XPathFault}
use Rattle.xpath_subset.specs.declared.reading.XPathFault.TheVariants as faults
use Rattle.xpath_subset.specs.inside.Trims.{trim_front}

-- the meaning of each way in which a text is written, and there is one; or there is none
abbrev pub Gives : {W V : Type 0} → (W → Type 0) → (W → Option V) → Result (Option V) Refusal → Type 0
Gives {W = W} IsWritten meaning (Ok read) = ((written : W) × IsWritten written) × ((written : W) → IsWritten written → meaning written ≡ read)
Gives {W = W} IsWritten meaning (Err Syntax) = (written : W) → ¬ (IsWritten written)
Gives {W = W} IsWritten meaning (Err Memory) = Unit {0}

-- the text does not begin with the token; it does, and this is what follows, without the white space before it
abbrev pub LacksToken : List ℕ → List ℕ → Type 0
LacksToken token text = (rest : List ℕ) → ¬ (text ≡ token ++ rest)

abbrev pub IsAfter : List ℕ → List ℕ → List ℕ → Type 0
IsAfter token text rest = (more : List ℕ) × (text ≡ token ++ more) × (rest ≡ trim_front more)

-- texts that are written so, one by one
abbrev pub AreWritten : {W : Type 0} → (W → List ℕ → Type 0) → List W → List (List ℕ) → Type 0
AreWritten IsWritten [] [] = Unit {0}
AreWritten IsWritten [] (text ∷ texts) = ⊥
AreWritten IsWritten (written ∷ more) [] = ⊥
AreWritten IsWritten (written ∷ more) (text ∷ texts) = IsWritten written text × AreWritten IsWritten more texts

-- texts that are written so, one by one, and a last one that is written otherwise
abbrev pub AreWrittenAndLast : {A B : Type 0} → (A → List ℕ → Type 0) → (B → List ℕ → Type 0) → List A → B → List (List ℕ) → Type 0
AreWrittenAndLast IsItem IsLast items last [] = ⊥
AreWrittenAndLast IsItem IsLast [] last (text ∷ []) = IsLast last text
AreWrittenAndLast IsItem IsLast [] last (text ∷ next ∷ texts) = ⊥
AreWrittenAndLast IsItem IsLast (item ∷ items) last (text ∷ texts) = IsItem item text × AreWrittenAndLast IsItem IsLast items last texts

-- the values so far and one more
abbrev pub with_one : {V : Type 0} → Option (List V) → Option V → Option (List V)
with_one None read = None
with_one (Some values) None = None
with_one (Some values) (Some value) = Some (values ++ value ∷ [])

-- the answer of a public call; none where memory was refused
abbrev pub answer_of : {V : Type 0} → Result (Option V) Refusal → Option (Result V XPathFault)
answer_of (Ok (Some value)) = Some (Ok value)
answer_of (Ok None) = Some (Err faults.Unbound)
answer_of (Err Syntax) = Some (Err faults.Syntax)
answer_of (Err Memory) = None
