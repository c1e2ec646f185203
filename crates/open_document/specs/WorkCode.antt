-- What a stream works on is stored as its cases.
use Rattle.std.specs.Prelude.{◌≡◌, ◌⊎◌, ℕ, List, Option, Bool, true, refl}
use Rattle.std.proofs.Common.{inl, inr}
use Rattle.std.specs.Coded.{Coded, code_by, coded×, coded⊎, coded_ℕ, coded_bool, coded_list, coded_option}
use Rattle.tree_rows.specs.Code.{document_code}
use Rattle.tree_rows.specs.Forest.{Forest, Document}
use Rattle.tree_rows.specs.SiblingCode.{forest_code}
use Rattle.tree_rows.specs.declared.name.Expanded.{Expanded}
use Rattle.tree_rows.specs.contracts.name.Expanded as expanded
use Rattle.tree_edits.specs.Inverses.{Change, put_back, take_out, rename, write, reword}
use Rattle.edit_history.specs.History.{History}
use Rattle.edit_history.specs.Log.{Log}
use Rattle.edit_history.specs.declared.log.Taken.{Taken}
use Rattle.edit_history.specs.contracts.log.Taken as taken
use Rattle.edit_history.specs.declared.turn.Turn.{Turn}
use Rattle.edit_history.specs.contracts.turn.Turn as turn_row
use Rattle.assessment.specs.Attribution.{SchemaSet}
use Rattle.schema_set.specs.declared.inputs.SchemaInput.{SchemaInput}
use Rattle.session_model.specs.State.{State}
use Rattle.session_model.specs.StateCode.{set_code, state_code}
use Rattle.open_document.specs.State.{Basis, OpenState, WorkState, empty, ready, working}

abbrev input_code : Coded SchemaInput
input_code =
    code_by (Document × List (List ℕ)) (coded× document_code (coded_list (coded_list coded_ℕ))) (λ i. (i.tree, i.locations))
    (λ p. record { tree = p.0; locations = p.1 }) (λ _. refl)

abbrev basis_code : Coded Basis
basis_code =
    code_by (SchemaSet × List SchemaInput) (coded× set_code (coded_list input_code)) (λ b. (b.set, b.documents)) (λ p. record { set = p.0; documents = p.1 })
    (λ _. refl)

abbrev history_code : Coded (History Forest)
history_code =
    code_by (List Forest × (Forest × List Forest)) (coded× (coded_list forest_code) (coded× forest_code (coded_list forest_code))) (λ h. (h.past, (h.present, h.future)))
    (λ p. record { past = p.0; present = p.1.0; future = p.1.1 }) (λ _. refl)

-- a change is put back, taken out, named, written or reworded
abbrev Parts : Type 0
Parts = (ℕ × (ℕ × Forest)) ⊎ (ℕ ⊎ ((ℕ × Expanded) ⊎ ((ℕ × (Expanded × (ℕ × Option (List ℕ)))) ⊎ (ℕ × List ℕ))))

abbrev parts_of : Change → Parts
parts_of (put_back parent place part) = inl (parent, (place, part))
parts_of (take_out key) = inr (inl key)
parts_of (rename key name) = inr (inr (inl (key, name)))
parts_of (write key name place value) = inr (inr (inr (inl (key, (name, (place, value))))))
parts_of (reword key chars) = inr (inr (inr (inr (key, chars))))

abbrev of_parts : Parts → Change
of_parts (inl p) = put_back p.0 p.1.0 p.1.1
of_parts (inr (inl key)) = take_out key
of_parts (inr (inr (inl p))) = rename p.0 p.1
of_parts (inr (inr (inr (inl p)))) = write p.0 p.1.0 p.1.1.0 p.1.1.1
of_parts (inr (inr (inr (inr p)))) = reword p.0 p.1

abbrev of_parts_of : (c : Change) → of_parts (parts_of c) ≡ c
of_parts_of (put_back parent place part) = refl
of_parts_of (take_out key) = refl
of_parts_of (rename key name) = refl
of_parts_of (write key name place value) = refl
of_parts_of (reword key chars) = refl

abbrev change_code : Coded Change
change_code =
    code_by Parts
    (coded⊎ (coded× coded_ℕ (coded× coded_ℕ forest_code)) (coded⊎ coded_ℕ (coded⊎ (coded× coded_ℕ expanded.the_row.coded)
    (coded⊎ (coded× coded_ℕ (coded× expanded.the_row.coded (coded× coded_ℕ (coded_option (coded_list coded_ℕ))))) (coded× coded_ℕ (coded_list coded_ℕ))))))
    parts_of of_parts of_parts_of

abbrev log_code : Coded (Log Change)
log_code =
    code_by (ℕ × (List Change × (List Change × Taken))) (coded× coded_ℕ (coded× (coded_list change_code) (coded× (coded_list change_code) taken.the_row.coded)))
    (λ l. (l.depth, (l.past, (l.future, l.taken)))) (λ p. record { depth = p.0; past = p.1.0; future = p.1.1.0; taken = p.1.1.1 }) (λ _. refl)

abbrev open_code : Coded OpenState
open_code =
    code_by (State × (List SchemaInput × (ℕ × (History Forest × (Log Change × List Turn)))))
    (coded× state_code (coded× (coded_list input_code) (coded× coded_ℕ (coded× history_code (coded× log_code (coded_list turn_row.the_row.coded))))))
    (λ s. (s.session, (s.documents, (s.most, (s.history, (s.log, s.turns))))))
    (λ p. record { session = p.0; documents = p.1.0; most = p.1.1.0; history = p.1.1.1.0; log = p.1.1.1.1.0; turns = p.1.1.1.1.1 }) (λ _. refl)

abbrev cases : WorkState → Bool ⊎ (Basis ⊎ OpenState)
cases empty = inl true
cases (ready basis) = inr (inl basis)
cases (working s) = inr (inr s)

abbrev from_cases : Bool ⊎ (Basis ⊎ OpenState) → WorkState
from_cases (inl nothing) = empty
from_cases (inr (inl basis)) = ready basis
from_cases (inr (inr s)) = working s

abbrev from_cases_cases : (w : WorkState) → from_cases (cases w) ≡ w
from_cases_cases empty = refl
from_cases_cases (ready basis) = refl
from_cases_cases (working s) = refl

abbrev pub work_code : Coded WorkState
work_code = code_by (Bool ⊎ (Basis ⊎ OpenState)) (coded⊎ coded_bool (coded⊎ basis_code open_code)) cases from_cases from_cases_cases
