-- What is told leads on, and to one output.
use Rattle.std.proofs.Common.{◌≡◌, inl, inr, ℕ, ◌+◌, List, ◌++◌, Option, refl, sym, ap, ◌∙◌, subst, append_assoc, append-nil, zero-add, add-zero, add_assoc}
use Rattle.tree_rows.specs.Forest.{Document}
use Rattle.assessment.specs.Attribution.{SchemaSet}
use Rattle.assessment.specs.Assessment.{Entry}
use Rattle.what_is_found.specs.IsFound.{IsFound}
use Rattle.told.specs.Outcomes.{Question, SetOutcome, IsOutcomeOf}
use Rattle.kept_next.specs.Answers.{PlaceQuestion, Answer, AreAnswers}
use Rattle.told.specs.Told.{Said, silent, joined, Told, over, says, asks, looks, tries, Leads}
use Rattle.told.specs.declared.ending.Ending.{Ending}

-- ---- texts one behind another

pub silent_first : (y : Said) → joined silent y ≡ y
silent_first y = ap (λ (n : ℕ). record { text = y.text; cost = n }) (zero-add y.cost)

pub silent_last : (x : Said) → joined x silent ≡ x
silent_last x = ap (λ (t : List ℕ). record { text = t; cost = x.cost + 0 }) (append-nil x.text) ∙ ap (λ (n : ℕ). record { text = x.text; cost = n }) (add-zero x.cost)

pub joined_assoc : (x y z : Said) → joined (joined x y) z ≡ joined x (joined y z)
joined_assoc x y z =
    ap (λ (t : List ℕ). record { text = t; cost = (x.cost + y.cost) + z.cost }) (append_assoc x.text y.text z.text)
    ∙ ap (λ (n : ℕ). record { text = x.text ++ (y.text ++ z.text); cost = n }) (add_assoc x.cost y.cost z.cost)

-- ---- leading on

pub leads_here : (t : Told) → Leads t silent t
leads_here (over ending) = (refl, refl)
leads_here (says first more) = inl (refl, refl)
leads_here (asks question next) = inl (refl, refl)
leads_here (looks set document next) = inl (refl, refl)
leads_here (tries question next) = inl (refl, refl)

pub leads_same : (t u : Told) → t ≡ u → Leads t silent u
leads_same t u is = subst (Leads t silent) is (leads_here t)

pub leads_says : (said : Said) (more : Told) → Leads (says said more) said more
leads_says said more = inr (silent, leads_here more, sym (silent_last said))

module _ (y : Said) (v : Told) where
  from_here : (t : Told) (x : Said) (u : Told) → x ≡ silent → u ≡ t → Leads u y v → Leads t (joined x y) v
  from_here t x u is at l = subst (λ (s : Said). Leads t s v) (sym (ap (λ (s : Said). joined s y) is ∙ silent_first y)) (subst (λ (w : Told). Leads w y v) at l)

  pub leads_then : (t : Told) (x : Said) (u : Told) → Leads t x u → Leads u y v → Leads t (joined x y) v
  leads_then (over ending) x u h l = from_here (over ending) x u h.0 h.1 l
  leads_then (says first more) x u (inl h) l = from_here (says first more) x u h.0 h.1 l
  leads_then (says first more) x u (inr h) l =
      inr (joined h.0 y, leads_then more h.0 u h.1 l, ap (λ (s : Said). joined s y) h.2 ∙ joined_assoc first h.0 y)
  leads_then (asks question next) x u (inl h) l = from_here (asks question next) x u h.0 h.1 l
  leads_then (asks question next) x u (inr h) l = inr (h.0, h.1, leads_then (next h.0) x u h.2 l)
  leads_then (looks set document next) x u (inl h) l = from_here (looks set document next) x u h.0 h.1 l
  leads_then (looks set document next) x u (inr h) l = inr (h.0, h.1, leads_then (next h.0) x u h.2 l)
  leads_then (tries question next) x u (inl h) l = from_here (tries question next) x u h.0 h.1 l
  leads_then (tries question next) x u (inr h) l = inr (h.0, h.1, leads_then (next h.0) x u h.2 l)

-- what schema documents come to is known
pub leads_asked : (question : Question) (next : SetOutcome → Told) (o : SetOutcome) → IsOutcomeOf question o → Leads (asks question next) silent (next o)
leads_asked question next o is = inr (o, is, leads_here (next o))

-- what is found of the document is known
pub leads_looked : (set : SchemaSet) (document : Document) (next : List Entry → Told) (found : List Entry) → IsFound set document found
    → Leads (looks set document next) silent (next found)
leads_looked set document next found is = inr (found, is, leads_here (next found))

-- which names fit at the place is known
pub leads_tried : (question : PlaceQuestion) (next : List Answer → Told) (answers : List Answer) → AreAnswers question answers → Leads (tries question next) silent (next answers)
leads_tried question next answers are = inr (answers, are, leads_here (next answers))

-- ---- to one output

abbrev pub IsOver : Told → Type 0
IsOver (over ending) = Unit {0}
IsOver (says first more) = ⊥
IsOver (asks question next) = ⊥
IsOver (looks set document next) = ⊥
IsOver (tries question next) = ⊥

module _ (found_is : (s : SchemaSet) (d : Document) (x y : List Entry) → IsFound s d x → IsFound s d y → x ≡ y)
    (outcome_is : (question : Question) (x y : SetOutcome) → IsOutcomeOf question x → IsOutcomeOf question y → x ≡ y)
    (answers_are : (question : PlaceQuestion) (x y : List Answer) → AreAnswers question x → AreAnswers question y → x ≡ y) where
  pub leads_to_one : (t : Told) (x y : Said) (a b : Option Ending) → Leads t x (over a) → Leads t y (over b) → (x ≡ y) × (a ≡ b)
  leads_to_one (over ending) x y a b h l =
      let same : over a ≡ over b = h.1 ∙ sym l.1 in
      let ended : a ≡ b = cc in
      (h.0 ∙ sym l.0, ended)
  leads_to_one (says first more) x y a b (inl h) l = absurd (subst IsOver h.1 tt)
  leads_to_one (says first more) x y a b (inr h) (inl l) = absurd (subst IsOver l.1 tt)
  leads_to_one (says first more) x y a b (inr h) (inr l) =
      let one = leads_to_one more h.0 l.0 a b h.1 l.1 in
      (h.2 ∙ (ap (joined first) one.0 ∙ sym l.2), one.1)
  leads_to_one (asks question next) x y a b (inl h) l = absurd (subst IsOver h.1 tt)
  leads_to_one (asks question next) x y a b (inr h) (inl l) = absurd (subst IsOver l.1 tt)
  leads_to_one (asks question next) x y a b (inr h) (inr l) =
      leads_to_one (next h.0) x y a b h.2 (subst (λ (o : SetOutcome). Leads (next o) y (over b)) (outcome_is question l.0 h.0 l.1 h.1) l.2)
  leads_to_one (looks set document next) x y a b (inl h) l = absurd (subst IsOver h.1 tt)
  leads_to_one (looks set document next) x y a b (inr h) (inl l) = absurd (subst IsOver l.1 tt)
  leads_to_one (looks set document next) x y a b (inr h) (inr l) =
      leads_to_one (next h.0) x y a b h.2 (subst (λ (found : List Entry). Leads (next found) y (over b)) (found_is set document l.0 h.0 l.1 h.1) l.2)
  leads_to_one (tries question next) x y a b (inl h) l = absurd (subst IsOver h.1 tt)
  leads_to_one (tries question next) x y a b (inr h) (inl l) = absurd (subst IsOver l.1 tt)
  leads_to_one (tries question next) x y a b (inr h) (inr l) =
      leads_to_one (next h.0) x y a b h.2 (subst (λ (answers : List Answer). Leads (next answers) y (over b)) (answers_are question l.0 h.0 l.1 h.1) l.2)
