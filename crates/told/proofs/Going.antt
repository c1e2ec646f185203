-- One step of a run behind another.
use Rattle.std.proofs.Common.{◌≡◌, ◌≤◌, ◌+◌, ℕ, ◌++◌, Some, Result, Ok, Err, sym, subst, append_assoc, arith}
use Rattle.std.specs.Io.KnownBytes.{Appends}
use Rattle.std.proofs.KnownBytes.{Appends-nil, Appends-trans}
use Rattle.told.specs.Told.{silent, joined, Told, over, Leads}
use Rattle.told.specs.Going.{Trace, Goes, Breaks, Answers, Ends}
use Rattle.told.specs.declared.break_off.BreakOff.{BreakOff}
use Rattle.told.specs.declared.ending.Ending.{Ending}
use Rattle.told.proofs.Leading.{leads_here, leads_same, leads_then}

few_then : (x y z a b : ℕ) → y ≤ x + a → z ≤ y + b → z ≤ x + (a + b)
few_then x y z a b h l = omega arith

few_breaks : (x y z a b n : ℕ) → y ≤ x + a → z ≤ y + (b + n) → z ≤ x + ((a + b) + n)
few_breaks x y z a b n h l = omega arith

later_then : (x y z : ℕ) → x ≤ y → y ≤ z → x ≤ z
later_then x y z h l = omega arith

pub goes_then : (t : Told) (a b c : Trace) (u v : Told) → Goes t a b u → Goes u b c v → Goes t a c v
goes_then t a b c u v g h = record {
  said = joined g.said h.said;
  leads = leads_then h.said v t g.said u g.leads h.leads;
  wrote = Appends-trans a.taken b.taken c.taken g.said.text h.said.text g.wrote h.wrote;
  later = later_then a.steps b.steps c.steps g.later h.later;
  few = few_then a.steps b.steps c.steps g.said.cost h.said.cost g.few h.few;
}

pub goes_breaks : (t : Told) (why : BreakOff) (a b c : Trace) (u : Told) → Goes t a b u → Breaks u why b c → Breaks t why a c
goes_breaks t why a b c u g h = record {
  said = joined g.said h.said;
  rest = h.rest;
  part = h.part;
  next = h.next;
  leads = leads_then h.said h.rest t g.said u g.leads h.leads;
  begun = h.begun;
  costs = h.costs;
  wrote = subst (Appends a.taken c.taken) (sym (append_assoc g.said.text h.said.text h.part))
      (Appends-trans a.taken b.taken c.taken g.said.text (h.said.text ++ h.part) g.wrote h.wrote);
  later = later_then a.steps b.steps c.steps g.later h.later;
  few = few_breaks a.steps b.steps c.steps g.said.cost h.said.cost h.next g.few h.few;
}

pub goes_answers : {T : Type 0} (t : Told) (r : Result T BreakOff) (a b c : Trace) (u : Told) (after : T → Told) → Goes t a b u → Answers u r b c after
    → Answers t r a c after
goes_answers t (Ok x) a b c u after g h = goes_then t a b c u (after x) g h
goes_answers t (Err why) a b c u after g h = goes_breaks t why a b c u g h

-- nothing was said on the way
nothing_counted : (n : ℕ) → n ≤ n + 0
nothing_counted n = omega arith

same_later : (n : ℕ) → n ≤ n
same_later n = omega arith

pub goes_from : (t u : Told) (a : Trace) → Leads t silent u → Goes t a a u
goes_from t u a l = record { said = silent; leads = l; wrote = Appends-nil a.taken; later = same_later a.steps; few = nothing_counted a.steps }

pub goes_nowhere : (t : Told) (a : Trace) → Goes t a a t
goes_nowhere t a = goes_from t t a (leads_here t)

pub answers_behind : {T : Type 0} (t u : Told) (r : Result T BreakOff) (a b : Trace) (after : T → Told) → Leads t silent u → Answers u r a b after
    → Answers t r a b after
answers_behind t u r a b after l h = goes_answers t r a a b u after (goes_from t u a l) h

-- the same is told
pub answers_as : {T : Type 0} (t u : Told) (r : Result T BreakOff) (a b : Trace) (after : T → Told) → t ≡ u → Answers u r a b after → Answers t r a b after
answers_as t u r a b after is h = subst (λ (x : Told). Answers x r a b after) (sym is) h

pub ends_as : (t u : Told) (e : Result Ending BreakOff) (a b : Trace) → t ≡ u → Ends u e a b → Ends t e a b
ends_as t u e a b is h = answers_as t u e a b (λ ending. over (Some ending)) is h

pub goes_ends : (t : Told) (e : Result Ending BreakOff) (a b c : Trace) (u : Told) → Goes t a b u → Ends u e b c → Ends t e a c
goes_ends t e a b c u g h = goes_answers t e a b c u (λ ending. over (Some ending)) g h

pub goes_same : (t u : Told) (a : Trace) → t ≡ u → Goes t a a u
goes_same t u a is = goes_from t u a (leads_same t u is)
