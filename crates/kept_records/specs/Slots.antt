-- What is kept of the elements of a document, by their numbers.
use Rattle.std.specs.Prelude.{◌≡◌, ℕ, List, [], Option, None, Some, unwrap_or}
use Rattle.assess_records.specs.Counts.{no_children}
use Rattle.assess_records.specs.declared.outcome.Attempted.TheVariants.{Untried}
use Rattle.assess_records.specs.declared.outcome.Validity.TheVariants.{NotKnown}
use Rattle.assess_records.specs.declared.outcome.ValueSource.TheVariants.{Given}
use Rattle.assess_records.specs.declared.record.ElementRecord.{ElementRecord}
use Rattle.elem_governing.specs.Governing.{skipped}
use Rattle.elem_governing.specs.declared.pairs.Governing.{Governing}
use Rattle.assessment.specs.Assessment.{Entry}
use Rattle.tree_assess.specs.Entries.{entry_of}
use Rattle.kept_slots.specs.Slots.{at}
use Rattle.kept_records.specs.declared.element.KeptElement.{KeptElement}

abbrev pub KeptSlots : Type 0
KeptSlots = List (Option KeptElement)

-- this is kept of the element of the number
abbrev pub IsKept : KeptSlots → ℕ → KeptElement → Type 0
IsKept ks n k = at ks n ≡ Some k

-- something is kept of it
abbrev pub IsMade : KeptSlots → ℕ → Type 0
IsMade ks n = (k : KeptElement) × IsKept ks n k

-- what is read where nothing is kept
abbrev pub blank : KeptElement
blank = record {
  found = record {
    number = 0;
    bearer = 0;
    below = 0;
    governing = skipped;
    element = record { name = 0; of = None; validity = NotKnown; attempted = Untried; source = Given; codes = [] };
    value = None;
    attrs = [];
    attr_values = [];
  };
  text = [];
  stuck = None;
  counts = no_children;
  list = None;
  identity = [];
}

abbrev pub kept_at : KeptSlots → ℕ → KeptElement
kept_at ks n = unwrap_or (at ks n) blank

-- what is found out about the element, what governs it, and its record
abbrev pub entry_at : KeptSlots → ℕ → Entry
entry_at ks n = entry_of (kept_at ks n).found

abbrev pub pair_at : KeptSlots → ℕ → Governing
pair_at ks n = (kept_at ks n).found.governing

abbrev pub record_at : KeptSlots → ℕ → ElementRecord
record_at ks n = (kept_at ks n).found.element
