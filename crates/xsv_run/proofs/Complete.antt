-- Streams of which no line is refused, and that there is one output.
use Rattle.std.proofs.Common.{◌≡◌, inl, inr, ℕ, ◌+◌, List, Bool, true, Option, Some, None, sym, ap, ◌∙◌, subst, arith}
use Rattle.item_listing.specs.Listed.{listed}
use Rattle.item_listing.specs.State.{unread}
use Rattle.item_listing.specs.declared.item.Item.{Item}
use Rattle.tree_rows.specs.Forest.{Document}
use Rattle.assessment.specs.Attribution.{SchemaSet}
use Rattle.assessment.specs.Assessment.{Entry}
use Rattle.what_is_found.specs.IsFound.{IsFound}
use Rattle.kept_next.specs.Answers.{PlaceQuestion, Answer, AreAnswers}
use Rattle.session_model.specs.State.{with_names}
use Rattle.schema_set.specs.declared.inputs.SchemaInput.{SchemaInput}
use Rattle.schema_compile.specs.Outcomes.{IsOutcome}
use Rattle.schema_compile.specs.declared.outcome.Outcome.{Outcome}
use Rattle.schema_compile.specs.declared.outcome.Outcome.TheVariants as outcomes
use Rattle.told.specs.Same.{IsSameOutcome}
use Rattle.told.specs.Outcomes.{told_of as outcome_told, Question, SetOutcome, accepted, broken, IsOutcomeOf}
use Rattle.told.specs.Told.{Said, free, joined, Told, over, asks, Leads}
use Rattle.told.specs.declared.ending.Ending.{Ending}
use Rattle.told.specs.declared.ending.Ending.TheVariants as endings
use Rattle.told.proofs.Leading.{IsOver, leads_says, leads_to_one}
use Rattle.stream_answers.specs.from_open_document.Answers.{opened, opening_cost}
use Rattle.stream_answers.specs.from_open_document.State.{Basis, OpenState, with_documents}
use Rattle.stream_sections.specs.Sections as sections
use Rattle.stream_sections.specs.Spelled.{whole, given, has_document, Order, SpellsCheck, SpellsStream}
use Rattle.stream_sections.specs.declared.asked.Asked.{Asked}
use Rattle.stream_sections.specs.declared.asked.Asked.TheVariants.{Check, Assess, Session}
use Rattle.stream_sections.specs.declared.schemas.SchemaSection.{SchemaSection}
use Rattle.stream_answers.specs.Faults.{fault_line, fault_ending}
use Rattle.stream_answers.specs.Output.{ends, schema_ok, inputs, question_of, compiled_told, check_told, opening, opened_told, commands_told, stream_told, sections_told}
use Rattle.stream_answers.specs.declared.wanted.Wanted.{Wanted}
use Rattle.generated_stream.specs.Lines.{stream_text}
use Rattle.command_words.specs.declared.request.Request.{Request}
use Rattle.command_words.specs.declared.request.Request.TheVariants.{Read, Generate, Trial}
use Rattle.xsv_run.specs.Statuses.{status_of}
use Rattle.xsv_run.specs.Output.{wanted_of as wanted, Output, ComesTo, IsAnswer, IsOutput, IsTrial, output_of, usual_session, told_of, trial_of}
use Rattle.xsv_run.specs.Complete.{IsByOutcome, IsCheckOutput, IsStreamOutput, answer, answered_output}
use Rattle.xsv_run.proofs.Replies.{says_back, says_on, last_back, last_said, last_ending, commands_back, commands_on}

-- ---- one output

same_told : (a b : Outcome) → IsSameOutcome a b → outcome_told a ≡ outcome_told b
same_told (outcomes.Accepted a) (outcomes.Accepted b) h = ap accepted h.0
same_told (outcomes.Accepted a) (outcomes.Broken g) h = absurd h
same_told (outcomes.Broken f) (outcomes.Accepted b) h = absurd h
same_told (outcomes.Broken f) (outcomes.Broken g) h = ap broken h

pub one_outcome : ((documents : List SchemaInput) (start : ℕ) (a b : Outcome) → IsOutcome documents start a → IsOutcome documents start b → IsSameOutcome a b)
    → (question : Question) (x y : SetOutcome) → IsOutcomeOf question x → IsOutcomeOf question y → x ≡ y
one_outcome law question x y h l =
    h.told_is ∙ (same_told h.outcome l.outcome (law question.documents question.start h.outcome l.outcome h.is_outcome l.is_outcome) ∙ sym l.told_is)

module _ (found_is : (s : SchemaSet) (d : Document) (x y : List Entry) → IsFound s d x → IsFound s d y → x ≡ y)
    (outcome_is : (question : Question) (x y : SetOutcome) → IsOutcomeOf question x → IsOutcomeOf question y → x ≡ y)
    (answers_are : (question : PlaceQuestion) (x y : List Answer) → AreAnswers question x → AreAnswers question y → x ≡ y) where
  comes_to_one : (t : Told) (x y : Output) → ComesTo t x → ComesTo t y → x ≡ y
  comes_to_one t x y h l =
      let one = leads_to_one found_is outcome_is answers_are t h.said l.said h.ending l.ending h.leads l.leads in
      h.output_is ∙ (ap (λ (s : Said). output_of s h.ending) one.0 ∙ (ap (output_of l.said) one.1 ∙ sym l.output_is))

  one_tried : (start items : ℕ) (x y : Output) → IsTrial start items x → IsTrial start items y → x ≡ y
  one_tried start items x y h l = h.2 ∙ (ap (trial_of start items) (comes_to_one (told_of usual_session (stream_text start items) true) h.0 l.0 h.1 l.1) ∙ sym l.2)

  pub one_output : (asked : Option Request) (bytes : List ℕ) (closed : Bool) (x y : Output) → IsOutput asked bytes closed x → IsOutput asked bytes closed y → x ≡ y
  one_output None bytes closed x y h l = h ∙ sym l
  one_output (Some (Read task most)) bytes closed x y h l = comes_to_one (told_of (wanted task most) bytes closed) x y h l
  one_output (Some (Generate start items)) bytes closed x y h l = h ∙ sym l
  one_output (Some (Trial start items)) bytes closed x y h l = one_tried start items x y h l

-- ---- what is asked is answered

module _ (question : Question) (next : SetOutcome → Told) (out : Output) where
  known_by : (said : Said) (ending : Option Ending) → Leads (asks question next) said (over ending) → out ≡ output_of said ending
      → (o : SetOutcome) × IsOutcomeOf question o × ComesTo (next o) out
  known_by said ending (inl h) is = absurd (subst IsOver h.1 tt)
  known_by said ending (inr h) is = (h.0, h.1, record { said = said; ending = ending; leads = h.2; output_is = is })

  known : ComesTo (asks question next) out → (o : SetOutcome) × IsOutcomeOf question o × ComesTo (next o) out
  known h = known_by h.said h.ending h.leads h.output_is

  asked : (o : SetOutcome) → IsOutcomeOf question o → ComesTo (next o) out → ComesTo (asks question next) out
  asked o is h = record { said = h.said; ending = h.ending; leads = inr (o, is, h.leads); output_is = h.output_is }

-- ---- one text

module _ (text : List ℕ) (ending : Ending) where
  last_is : (out : Output) → ComesTo (ends text ending) out → out ≡ answer text 0 (status_of ending)
  last_is out h =
      let one = last_back text ending h.said h.ending h.leads in
      h.output_is ∙ (ap (λ (x : Said). output_of x h.ending) one.0 ∙ ap (output_of (free text)) one.1)

  last_comes : (out : Output) → out ≡ answer text 0 (status_of ending) → ComesTo (ends text ending) out
  last_comes out is = record { said = free text; ending = Some ending; leads = leads_says (free text) (over (Some ending)); output_is = is }

-- ---- a stream for `check`

abbrev check_next : SetOutcome → Told
check_next = compiled_told (λ set. over (Some endings.Valid))

check_is : (o : SetOutcome) (out : Output) → ComesTo (check_next o) out → IsCheckOutput o out
check_is (accepted set) out h = last_is schema_ok endings.Valid out h
check_is (broken fault) out h = last_is (fault_line fault) (fault_ending fault) out h

check_comes_by : (o : SetOutcome) (out : Output) → IsCheckOutput o out → ComesTo (check_next o) out
check_comes_by (accepted set) out h = last_comes schema_ok endings.Valid out h
check_comes_by (broken fault) out h = last_comes (fault_line fault) (fault_ending fault) out h

abbrev wanted_of : Asked → ℕ → Wanted
wanted_of a most = record { asked = a; most = most }

-- what is asked for is told of the items of the bytes
told_is : (w : Wanted) (bytes : List ℕ) (its : List Item) (t : Told) → listed unread bytes true ≡ whole its → sections_told w (whole its) ≡ t
    → told_of w bytes true ≡ t
told_is w bytes its t reads tells = ap (sections_told w) reads ∙ tells

module _ (law : (all : List SchemaSection) (its : List Item) → SpellsCheck all its → sections.schemas_alone Check (whole its) ≡ sections.schemas all sections.ended)
    (most : ℕ) (bytes : List ℕ) (its : List Item) (all : List SchemaSection) (out : Output) (reads : listed unread bytes true ≡ whole its)
    (spells : SpellsCheck all its) where
  check_told_is : told_of (wanted_of Check most) bytes true ≡ asks (question_of all) check_next
  check_told_is = told_is (wanted_of Check most) bytes its (asks (question_of all) check_next) reads (ap (stream_told check_told) (law all its spells))

  pub check_answered : IsAnswer (wanted_of Check most) bytes true out → IsByOutcome all IsCheckOutput out
  check_answered h =
      let o = known (question_of all) check_next out (subst (λ (t : Told). ComesTo t out) check_told_is h) in
      (o.0, o.1, check_is o.0 out o.2)

  pub check_comes : IsByOutcome all IsCheckOutput out → IsAnswer (wanted_of Check most) bytes true out
  check_comes h = subst (λ (t : Told). ComesTo t out) (sym check_told_is) (asked (question_of all) check_next out h.0 h.1 (check_comes_by h.0 out h.2))

-- ---- a stream with a document

module _ (w : Wanted) (all : List SchemaSection) (d : Document) (orders : List Order) where
  abbrev stream_next : SetOutcome → Told
  stream_next = compiled_told (λ set. opened_told w (with_documents (inputs all) set) (sections.document d (given orders)))

  module _ (set : SchemaSet) where
    abbrev basis : Basis
    basis = with_documents (inputs all) set

    abbrev said_of : OpenState → Said
    said_of s = record { text = opening w.asked s; cost = opening_cost d }

    -- all that is said of a document that was opened
    abbrev whole_said : OpenState → Said → OpenState → Said
    whole_said s replies last = joined (free schema_ok) (joined (said_of s) (joined replies (last_said last)))

    cost_is : (x y : ℕ) → 0 + (x + (y + 0)) ≡ x + y
    cost_is x y = omega arith

    output_is : (s : OpenState) (replies : Said) (last : OpenState) → output_of (whole_said s replies last) (Some (last_ending last)) ≡ answered_output w.asked d s replies last
    output_is s replies last = ap (λ (n : ℕ). answer (whole_said s replies last).text n (status_of (last_ending last))) (cost_is (opening_cost d) replies.cost)

    looked_back : (said : Said) (e : Option Ending) → Leads (opened_told w basis (sections.document d (given orders))) said (over e)
        → (found : List Entry) × IsFound (with_names set d.forest) d found × (rest : Said)
        × Leads (commands_told (opened w.most basis d found) (given orders)) rest (over e) × (said ≡ joined (said_of (opened w.most basis d found)) rest)
    looked_back said e (inl h) = absurd (subst IsOver h.1 tt)
    looked_back said e (inr h) =
        let s = opened w.most basis d h.0 in
        let one = says_back (said_of s) (commands_told s (given orders)) said e h.2 in
        (h.0, h.1, one.0, one.1, one.2)

    opened_answered : (out : Output) → ComesTo (stream_next (accepted set)) out → IsStreamOutput w all d orders (accepted set) out
    opened_answered out h =
        let one = says_back (free schema_ok) (opened_told w basis (sections.document d (given orders))) h.said h.ending h.leads in
        let two = looked_back one.0 h.ending one.1 in
        let s = opened w.most basis d two.0 in
        let replied = commands_back s orders two.2 h.ending two.3 in
        let said_is : h.said ≡ whole_said s replied.0 replied.1 = one.2 ∙ ap (joined (free schema_ok)) (two.4 ∙ ap (joined (said_of s)) replied.3) in (
          two.0,
          two.1,
          replied.0,
          replied.1,
          replied.2,
          h.output_is ∙ (ap (λ (x : Said). output_of x h.ending) said_is ∙ (ap (output_of (whole_said s replied.0 replied.1)) replied.4 ∙ output_is s replied.0 replied.1)),
        )

    opened_comes : (out : Output) → IsStreamOutput w all d orders (accepted set) out → ComesTo (stream_next (accepted set)) out
    opened_comes out h =
        let s = opened w.most basis d h.0 in
        let behind = commands_on s orders h.2 h.3 h.4 in
        let to : Told = over (Some (last_ending h.3)) in
        let looked : Leads (opened_told w basis (sections.document d (given orders))) (joined (said_of s) (joined h.2 (last_said h.3))) to =
        inr (h.0, h.1, says_on (said_of s) (commands_told s (given orders)) (joined h.2 (last_said h.3)) to behind) in
        record {
          said = whole_said s h.2 h.3;
          ending = Some (last_ending h.3);
          leads = says_on (free schema_ok) (opened_told w basis (sections.document d (given orders))) (joined (said_of s) (joined h.2 (last_said h.3))) to looked;
          output_is = h.5 ∙ sym (output_is s h.2 h.3);
        }

  stream_is : (o : SetOutcome) (out : Output) → ComesTo (stream_next o) out → IsStreamOutput w all d orders o out
  stream_is (accepted set) out h = opened_answered set out h
  stream_is (broken fault) out h = last_is (fault_line fault) (fault_ending fault) out h

  stream_comes_by : (o : SetOutcome) (out : Output) → IsStreamOutput w all d orders o out → ComesTo (stream_next o) out
  stream_comes_by (accepted set) out h = opened_comes set out h
  stream_comes_by (broken fault) out h = last_comes (fault_line fault) (fault_ending fault) out h

module _ (law : (a : Asked) (all : List SchemaSection) (d : Document) (orders : List Order) (its : List Item) → SpellsStream a all d orders its
    → sections.with_document a (whole its) ≡ sections.schemas all (sections.document d (given orders))) where
  -- `check` has no document
  sections_for : (a : Asked) (most : ℕ) (all : List SchemaSection) (d : Document) (orders : List Order) (its : List Item) → has_document a ≡ true
      → SpellsStream a all d orders its → sections_told (wanted_of a most) (whole its) ≡ asks (question_of all) (stream_next (wanted_of a most) all d orders)
  sections_for Check most all d orders its asks_for spells = cc
  sections_for Assess most all d orders its asks_for spells = ap (stream_told (opened_told (wanted_of Assess most))) (law Assess all d orders its spells)
  sections_for Session most all d orders its asks_for spells = ap (stream_told (opened_told (wanted_of Session most))) (law Session all d orders its spells)

  module _ (w : Wanted) (bytes : List ℕ) (its : List Item) (all : List SchemaSection) (d : Document) (orders : List Order) (out : Output)
      (reads : listed unread bytes true ≡ whole its) (spells : SpellsStream w.asked all d orders its) where
    stream_told_is : told_of w bytes true ≡ asks (question_of all) (stream_next w all d orders)
    stream_told_is =
        told_is w bytes its (asks (question_of all) (stream_next w all d orders)) reads (sections_for w.asked w.most all d orders its spells.asks spells)

    pub stream_answered : IsAnswer w bytes true out → IsByOutcome all (IsStreamOutput w all d orders) out
    stream_answered h =
        let o = known (question_of all) (stream_next w all d orders) out (subst (λ (t : Told). ComesTo t out) stream_told_is h) in
        (o.0, o.1, stream_is w all d orders o.0 out o.2)

    pub stream_comes : IsByOutcome all (IsStreamOutput w all d orders) out → IsAnswer w bytes true out
    stream_comes h =
        subst (λ (t : Told). ComesTo t out) (sym stream_told_is)
        (asked (question_of all) (stream_next w all d orders) out h.0 h.1 (stream_comes_by w all d orders h.0 out h.2))
