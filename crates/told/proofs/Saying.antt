-- One text that is said.
use Rattle.std.proofs.Common.{◌≡◌, ◌≤◌, ◌+◌, ◌-◌, ℕ, List, [], take, Option, Some, Result, Ok, Err, IfOk, refl, sym, ap, subst, arith}
use Rattle.std.specs.Io.KnownBytes.{Appends}
use Rattle.std.proofs.KnownBytes.{Appends-nil}
use Rattle.tree_rows.specs.Forest.{Document}
use Rattle.assessment.specs.Attribution.{SchemaSet}
use Rattle.assessment.specs.Assessment.{Entry}
use Rattle.what_is_found.specs.IsFound.{IsFound}
use Rattle.told.specs.Outcomes.{Question, SetOutcome, IsOutcomeOf}
use Rattle.kept_next.specs.Answers.{PlaceQuestion, Answer, AreAnswers}
use Rattle.told.specs.Told.{Said, free, silent, Told, over, says, asks, looks, tries, Leads, CostsNow, CostsNext}
use Rattle.told.specs.Going.{Trace, trace, Breaks, Answers, Ends}
use Rattle.told.specs.Tells.{Wrote}
use Rattle.told.specs.declared.break_off.BreakOff.{BreakOff}
use Rattle.told.specs.declared.break_off.BreakOff.TheVariants.{Memory, WriteFault}
use Rattle.told.specs.declared.ending.Ending.{Ending}
use Rattle.told.proofs.Leading.{leads_here, leads_says, leads_asked, leads_looked, leads_tried}
use Rattle.told.proofs.Going.{answers_behind}

within_next : (n m k : ℕ) → m ≤ n + k → m ≤ n + (0 + k)
within_next n m k h = omega arith

no_more : (n m : ℕ) → m ≡ n → m ≤ n + 0
no_more n m h = omega arith

none_less : (n m : ℕ) → m ≡ n → n ≤ m
none_less n m h = omega arith

none_below : (n : ℕ) → 0 ≤ n
none_below n = omega arith

own_cost : (n : ℕ) → n ≤ n
own_cost n = omega arith

stays : (a b : Option (List ℕ)) → b ≡ a → Appends a b []
stays a b is = subst (λ (x : Option (List ℕ)). Appends a x []) (sym is) (Appends-nil a)

-- a text was said, or memory was wanting for it, or a front of it was written; and steps were counted for it
pub said_where : {T : Type 0} (said : Said) (after : T → Told) (u : Told) (r : Result T BreakOff) (old new : Option (List ℕ)) (n m : ℕ)
    → IfOk r (λ x. after x ≡ u) → Wrote r old new said.text → n ≤ m → m ≤ n + said.cost → Answers (says said u) r (trace old n) (trace new m) after
said_where said after u (Ok x) old new n m is w later few =
    record { said = said; leads = subst (Leads (says said u) said) (sym is) (leads_says said u); wrote = w; later = later; few = few }
said_where said after u (Err Memory) old new n m is w later few = record {
  said = silent;
  rest = says said u;
  part = [];
  next = said.cost;
  leads = leads_here (says said u);
  begun = refl;
  costs = own_cost said.cost;
  wrote = stays old new w;
  later = later;
  few = within_next n m said.cost few;
}
said_where said after u (Err WriteFault) old new n m is w later few = record {
  said = silent;
  rest = says said u;
  part = take w.0 said.text;
  next = said.cost;
  leads = leads_here (says said u);
  begun = (w.0, refl);
  costs = own_cost said.cost;
  wrote = w.1;
  later = later;
  few = within_next n m said.cost few;
}

-- a text that costs no step
pub free_where : {T : Type 0} (text : List ℕ) (after : T → Told) (u : Told) (r : Result T BreakOff) (old new : Option (List ℕ)) (n : ℕ)
    → IfOk r (λ x. after x ≡ u) → Wrote r old new text → Answers (says (free text) u) r (trace old n) (trace new n) after
free_where text after u r old new n is w = said_where (free text) after u r old new n n is w (none_less n n refl) (no_more n n refl)

if_always : {T : Type 0} (after : T → Told) (u : Told) (r : Result T BreakOff) → ((x : T) → after x ≡ u) → IfOk r (λ x. after x ≡ u)
if_always after u (Ok x) h = h x
if_always after u (Err why) h = tt

-- the same is told behind each answer
pub said_answers : {T : Type 0} (said : Said) (after : T → Told) (u : Told) (r : Result T BreakOff) (old new : Option (List ℕ)) (n m : ℕ)
    → ((x : T) → after x ≡ u) → Wrote r old new said.text → n ≤ m → m ≤ n + said.cost → Answers (says said u) r (trace old n) (trace new m) after
said_answers said after u r old new n m is w later few = said_where said after u r old new n m (if_always after u r is) w later few

pub free_answers : {T : Type 0} (text : List ℕ) (after : T → Told) (u : Told) (r : Result T BreakOff) (old new : Option (List ℕ)) (n : ℕ)
    → ((x : T) → after x ≡ u) → Wrote r old new text → Answers (says (free text) u) r (trace old n) (trace new n) after
free_answers text after u r old new n is w = free_where text after u r old new n (if_always after u r is) w

-- the last text
pub free_ends : (text : List ℕ) (ending : Ending) (r : Result Ending BreakOff) (old new : Option (List ℕ)) (n : ℕ)
    → IfOk r (λ given. given ≡ ending) → Wrote r old new text → Ends (says (free text) (over (Some ending))) r (trace old n) (trace new n)
free_ends text ending (Ok given) old new n is w =
    free_where text (λ e. over (Some e)) (over (Some ending)) (Ok given) old new n (ap (λ e. over (Some e)) is) w
free_ends text ending (Err why) old new n is w = free_where text (λ e. over (Some e)) (over (Some ending)) (Err why) old new n tt w

-- memory was wanting before anything was said, and nothing was counted
pub none_breaks : (t u : Told) (a : Trace) → Leads t silent u → CostsNext u 0 → Breaks t Memory a a
none_breaks t u a l costs = record {
  said = silent;
  rest = u;
  part = [];
  next = 0;
  leads = l;
  begun = refl;
  costs = costs;
  wrote = Appends-nil a.taken;
  later = none_less a.steps a.steps refl;
  few = within_next a.steps a.steps 0 (no_more a.steps a.steps refl);
}

costs_nothing_now : (t : Told) → CostsNow t 0
costs_nothing_now (over ending) = refl
costs_nothing_now (says said more) = none_below said.cost
costs_nothing_now (asks question next) = refl
costs_nothing_now (looks set document next) = refl
costs_nothing_now (tries question next) = refl

pub costs_nothing : (t : Told) → CostsNext t 0
costs_nothing (over ending) = refl
costs_nothing (says said more) = none_below said.cost
costs_nothing (asks question next) = refl
costs_nothing (looks set document next) = λ found is. costs_nothing_now (next found)
costs_nothing (tries question next) = refl

pub memory_breaks : (t : Told) (a : Trace) → Breaks t Memory a a
memory_breaks t a = none_breaks t t a (leads_here t) (costs_nothing t)

up_to : (n m k : ℕ) → m ≤ n + k → m - n ≤ k
up_to n m k h = omega arith

gone_up : (n m : ℕ) → n ≤ m → m ≤ n + (0 + (m - n))
gone_up n m h = omega arith

-- Memory was wanting where what is found was to be looked at, behind steps that what is said next pays for whatever is found.
pub looks_breaks : (set : SchemaSet) (document : Document) (next : List Entry → Told) (cost : List Entry → ℕ) (old new : Option (List ℕ)) (n m : ℕ)
    → ((found : List Entry) (k : ℕ) → k ≤ cost found → CostsNow (next found) k) → new ≡ old → n ≤ m
    → ((found : List Entry) → IsFound set document found → m ≤ n + cost found)
    → Breaks (looks set document next) Memory (trace old n) (trace new m)
looks_breaks set document next cost old new n m pays same later few = record {
  said = silent;
  rest = looks set document next;
  part = [];
  next = m - n;
  leads = leads_here (looks set document next);
  begun = refl;
  costs = λ found is. pays found (m - n) (up_to n m (cost found) (few found is));
  wrote = stays old new same;
  later = later;
  few = gone_up n m later;
}

-- what is found was looked at, and is known
pub looked_answers : {T : Type 0} (set : SchemaSet) (document : Document) (next : List Entry → Told) (found : List Entry) (r : Result T BreakOff) (a b : Trace) (after : T → Told)
    → IsFound set document found → Answers (next found) r a b after → Answers (looks set document next) r a b after
looked_answers set document next found r a b after is h =
    answers_behind (looks set document next) (next found) r a b after (leads_looked set document next found is) h

-- what schema documents come to was asked, and is known
pub asked_answers : {T : Type 0} (question : Question) (next : SetOutcome → Told) (o : SetOutcome) (r : Result T BreakOff) (a b : Trace) (after : T → Told)
    → IsOutcomeOf question o → Answers (next o) r a b after → Answers (asks question next) r a b after
asked_answers question next o r a b after is h =
    answers_behind (asks question next) (next o) r a b after (leads_asked question next o is) h

-- which names fit at the place was tried, and is known
pub tried_answers : {T : Type 0} (question : PlaceQuestion) (next : List Answer → Told) (answers : List Answer) (r : Result T BreakOff) (a b : Trace) (after : T → Told)
    → AreAnswers question answers → Answers (next answers) r a b after → Answers (tries question next) r a b after
tried_answers question next answers r a b after are h =
    answers_behind (tries question next) (next answers) r a b after (leads_tried question next answers are) h
