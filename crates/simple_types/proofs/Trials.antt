-- A trial of members that are laid out flat is that of each member in turn.
use Rattle.std.proofs.Common.{◌≡◌, ℕ, ◌+◌, ◌<◌, ◌≤◌, Bool, true, false, ◌||◌, List, [], ◌∷◌, ◌++◌, length, Option, None, Some, Result, Ok, Err, refl, sym, ap, subst, ◌∙◌, arith, rules}
use Rattle.std.specs.Prelude.{nat_lt, nat_le, if◌then◌else◌}
use Rattle.std.proofs.lemmas.Bool.{false≢true}
use Rattle.simple_types.proofs.Codes.{IsNoLimit, checked-no_limit}
use Rattle.xs_codes.specs.declared.code.Code.{Code}
use Rattle.xs_codes.specs.declared.code.Code.TheVariants.{CvcDatatypeValid1}
use Rattle.simple_values.specs.declared.value.Value.{Value}
use Rattle.facet_checks.specs.declared.list.FacetList.{FacetList}
use Rattle.facet_checks.specs.Check.{IsChecked}
use Rattle.facets.specs.declared.atomic.Accepted.{Accepted}
use Rattle.facets.specs.declared.members.Gate.{Gate}
use Rattle.facets.specs.declared.trying.Turn.{Turn}
use Rattle.facets.specs.declared.trying.Turn.TheVariants.{Ends, From}
use Rattle.facets.specs.Members.{moved_gate, moved_on}
use Rattle.facets.specs.Trying.{is_limit, IsShutIf, IsShutAt, IsShutBy, IsShut, IsTurn, IsTurned, turn_by, end_if, AreTried, IsTriedIf}
use Rattle.facets.specs.Source.{IsUnionJudged}
use Rattle.simple_types.specs.SimpleValidity.{IsTrialIf, IsTrialThen}

-- gates that end by an index, and that start from one
abbrev pub EndBy : ℕ → List Gate → Type 0
EndBy n [] = Unit {0}
EndBy n (g ∷ gs) = (g.to ≤ n) × EndBy n gs

abbrev pub StartFrom : ℕ → List Gate → Type 0
StartFrom n [] = Unit {0}
StartFrom n (g ∷ gs) = (n ≤ g.from) × StartFrom n gs

abbrev Outcome : Type 0
Outcome = Result Accepted Code

or_true : (a b : Bool) → b ≡ true → (a || b) ≡ true
or_true true b e = refl
or_true false b e = e

true_or : (a b : Bool) → a ≡ true → (a || b) ≡ true
true_or true b e = refl
true_or false b e = absurd (false≢true e)

false_or : (a b : Bool) → a ≡ false → b ≡ false → (a || b) ≡ false
false_or a b ea eb = rw (ea, eb) refl

same_or : (a b c d : Bool) → a ≡ c → b ≡ d → (a || b) ≡ (c || d)
same_or a b c d e f = rw (e, f) refl

-- a gate that has not the index
out_of_gate : (g : Gate) (k : ℕ) (acc : Accepted) (first : Option ℕ) → (nat_lt k g.from || nat_le g.to k) ≡ true → IsShutAt g k acc first → first ≡ None
out_of_gate g k acc first e s = subst (λ b. IsShutIf b g acc first) e s

-- gates that end before the index
past : (n k : ℕ) → n ≤ k → (front back : List Gate) → EndBy n front → (acc : Accepted) (next : Option ℕ) → IsShut (front ++ back) k acc next → IsShut back k acc next
past n k h [] back e acc next s = s
past n k h (g ∷ gs) back e acc next s =
    let test : nat_le g.to k ≡ true = search rules in
    let none : s.0 ≡ None = out_of_gate g k acc s.0 (or_true (nat_lt k g.from) (nat_le g.to k) test) s.1 in
    past n k h gs back e.1 acc next (subst (λ first. IsShutBy first (IsShut (gs ++ back) k acc next) next) none s.2)

-- gates that start behind the index
ahead : (n k : ℕ) → k < n → (back : List Gate) → StartFrom n back → (acc : Accepted) (next : Option ℕ) → IsShut back k acc next → next ≡ None
ahead n k h [] e acc next s = s
ahead n k h (g ∷ gs) e acc next s =
    let test : nat_lt k g.from ≡ true = search rules in
    let none : s.0 ≡ None = out_of_gate g k acc s.0 (true_or (nat_lt k g.from) (nat_le g.to k) test) s.1 in
    ahead n k h gs e.1 acc next (subst (λ first. IsShutBy first (IsShut gs k acc next) next) none s.2)

-- where the trial goes on behind gates that were moved
abbrev IsMoved : ℕ → Option ℕ → Type 0 → Option ℕ → Type 0
IsMoved n None Rest next = Rest
IsMoved n (Some e) Rest next = next ≡ Some (n + e)

same_test : (n k from to : ℕ) → (nat_lt (n + k) (n + from) || nat_le (n + to) (n + k)) ≡ (nat_lt k from || nat_le to k)
same_test n k from to = same_or (nat_lt (n + k) (n + from)) (nat_le (n + to) (n + k)) (nat_lt k from) (nat_le to k) (lt-moved n k from) (le-moved n to k)
  where
    lt-moved : (n a b : ℕ) → nat_lt (n + a) (n + b) ≡ nat_lt a b
    lt-moved n a b = grind arith

    le-moved : (n a b : ℕ) → nat_le (n + a) (n + b) ≡ nat_le a b
    le-moved n a b = grind arith

-- what gates that were moved, and others behind them, do at an index is what they do before they were moved, and then the others
abbrev IsShutMoved : ℕ → ℕ → List Gate → List Gate → Accepted → Option ℕ → Type 0
IsShutMoved n k gates back acc next = (inner : Option ℕ) × IsShut gates k acc inner × IsMoved n inner (IsShut back (n + k) acc next) next

module _ (n k : ℕ) (g : Gate) (gs back : List Gate) (acc : Accepted) (next first : Option ℕ)
    (then_shut : IsShutBy first (IsShut (moved_on n gs ++ back) (n + k) acc next) next)
    (rec : first ≡ None → IsShutMoved n k gs back acc next) where
  open_gate : IsShutAt g k acc None → first ≡ None → IsShutMoved n k (g ∷ gs) back acc next
  open_gate at none = let a = rec none in (a.0, (None, at, a.1), a.2)

  by_code : (code : Option Code) → (nat_lt k g.from || nat_le g.to k) ≡ false → IsChecked g.list acc.value acc.text code → first ≡ end_if code (n + g.to) → IsShutMoved n k (g ∷ gs) back acc next
  by_code None e checked is = open_gate (subst (λ b. IsShutIf b g acc None) (sym e) (None, checked, refl)) is
  by_code (Some code) e checked is = (
    Some g.to,
    (Some g.to, subst (λ b. IsShutIf b g acc (Some g.to)) (sym e) (Some code, checked, refl), refl),
    subst (λ first. IsShutBy first (IsShut (moved_on n gs ++ back) (n + k) acc next) next) is then_shut,
  )

  by_test : (b : Bool) → (nat_lt k g.from || nat_le g.to k) ≡ b → IsShutIf b (moved_gate n g) acc first → IsShutMoved n k (g ∷ gs) back acc next
  by_test true e at = open_gate (subst (λ b. IsShutIf b g acc None) (sym e) refl) at
  by_test false e at = by_code at.0 e at.1 at.2

pub shut_moved : (n k : ℕ) (gates back : List Gate) (acc : Accepted) (next : Option ℕ) → IsShut (moved_on n gates ++ back) (n + k) acc next → IsShutMoved n k gates back acc next
shut_moved n k [] back acc next s = (None, refl, s)
shut_moved n k (g ∷ gs) back acc next s =
    by_test n k g gs back acc next s.0 s.2
    (λ none. shut_moved n k gs back acc next (subst (λ first. IsShutBy first (IsShut (moved_on n gs ++ back) (n + k) acc next) next) none s.2))
    (nat_lt k g.from || nat_le g.to k) refl (subst (λ b. IsShutIf b (moved_gate n g) acc s.0) (same_test n k g.from g.to) s.1)

-- where a union ends that is shut
abbrev IsWithin : ℕ → Option ℕ → Type 0
IsWithin most None = Unit {0}
IsWithin most (Some e) = e ≤ most

module _ (most : ℕ) (g : Gate) (ends : g.to ≤ most) (acc : Accepted) where
  within_if : (code : Option Code) (next : Option ℕ) → next ≡ end_if code g.to → IsWithin most next
  within_if None next is = subst (IsWithin most) (sym is) tt
  within_if (Some code) next is = subst (IsWithin most) (sym is) ends

  within_at : (b : Bool) (next : Option ℕ) → IsShutIf b g acc next → IsWithin most next
  within_at true next at = subst (IsWithin most) (sym at) tt
  within_at false next at = within_if at.0 next at.2

shut_within : (most k : ℕ) (gates : List Gate) → EndBy most gates → (acc : Accepted) (next : Option ℕ) → IsShut gates k acc next → IsWithin most next
shut_within most k [] ends acc next s = subst (IsWithin most) (sym s) tt
shut_within most k (g ∷ gs) ends acc next s = by s.0 (within_at most g ends.0 acc (nat_lt k g.from || nat_le g.to k) s.0 s.1) s.2 (shut_within most k gs ends.1 acc next)
  where
    by : (first : Option ℕ) → IsWithin most first → IsShutBy first (IsShut gs k acc next) next → (IsShut gs k acc next → IsWithin most next) → IsWithin most next
    by None within then' rec = rec then'
    by (Some e) within then' rec = subst (IsWithin most) (sym then') within

module _ {M : Type 0} (Reads : M → Outcome → Type 0) (gates : List Gate) where
  abbrev Tried : ℕ → ℕ → List M → Outcome → Type 0
  Tried index start members outcome = AreTried Reads gates index start members outcome

  -- where the trial starts does not matter, once it is past
  restart : (members : List M) (index a b : ℕ) (outcome : Outcome) → a ≤ index → b ≤ index → Tried index a members outcome → Tried index b members outcome
  restart [] index a b outcome ha hb t = t
  restart (m ∷ ms) index a b outcome ha hb t =
      let not_a : nat_lt index a ≡ false = search rules in
      let not_b : nat_lt index b ≡ false = search rules in
      let t' = subst (λ test. IsTriedIf Reads gates test m index a (λ next. Tried (index + 1) next ms outcome) outcome) not_a t in
      subst (λ test. IsTriedIf Reads gates test m index b (λ next. Tried (index + 1) next ms outcome) outcome) (sym not_b)
      (by t'.0 t'.1 t'.2 t'.3 t'.4 (restart ms (index + 1) a b outcome (omega arith) (omega arith)))
    where
      by_limit : (code : Code) (turn : Turn) (l : Bool) → is_limit code ≡ l → Reads m (Err code) → turn ≡ (if l then Ends (Err code) else From a) → IsTurned turn (λ next. Tried (index + 1) next ms outcome) outcome
          → (Tried (index + 1) a ms outcome → Tried (index + 1) b ms outcome) → IsTriedIf Reads gates false m index b (λ next. Tried (index + 1) next ms outcome) outcome
      by_limit code turn true e reads is turned rec = (Err code, turn, reads, rw e is, turned)
      by_limit code turn false e reads is turned rec =
          (Err code, From b, reads, rw e refl, rec (subst (λ turn. IsTurned turn (λ next. Tried (index + 1) next ms outcome) outcome) is turned))

      by : (first : Outcome) (turn : Turn) → Reads m first → IsTurn gates index a first turn → IsTurned turn (λ next. Tried (index + 1) next ms outcome) outcome
          → (Tried (index + 1) a ms outcome → Tried (index + 1) b ms outcome) → IsTriedIf Reads gates false m index b (λ next. Tried (index + 1) next ms outcome) outcome
      by (Ok acc) turn reads is turned rec = (Ok acc, turn, reads, is, turned)
      by (Err code) turn reads is turned rec = by_limit code turn (is_limit code) refl reads is turned rec

  -- members before the one to start with
  skip_over : (front back : List M) (index end start : ℕ) (outcome : Outcome) → index + length front ≡ end → end ≤ start → Tried index start (front ++ back) outcome → Tried end start back outcome
  skip_over [] back index end start outcome is h t = let same : index ≡ end = omega arith in subst (λ i. Tried i start back outcome) same t
  skip_over (m ∷ ms) back index end start outcome is h t =
      let before : nat_lt index start ≡ true = search (rules, lt) in
      skip_over ms back (index + 1) end start outcome (omega arith) h
      (subst (λ test. IsTriedIf Reads gates test m index start (λ next. Tried (index + 1) next (ms ++ back) outcome) outcome) before t)
    where
      lt : index < start
      lt = omega arith

module _ {M : Type 0} (Reads : M → Outcome → Type 0) (n most : ℕ) (front inner back : List Gate) (rest : List M)
    (before : EndBy n front) (within : EndBy most inner) where
  abbrev all_gates : List Gate
  all_gates = front ++ (moved_on n inner ++ back)

  -- the trial behind the members of the union
  abbrev Behind : ℕ → Outcome → Type 0
  Behind start outcome = AreTried Reads all_gates (n + most) start rest outcome

  -- what the trial does once the members of the union have come to an answer, the union's own facets among those behind
  abbrev IsOn : Outcome → Outcome → Type 0
  IsOn (Err code) outcome = IsTrialIf (is_limit code) code (Behind (n + most) outcome) outcome
  IsOn (Ok acc) outcome = (k : ℕ) × (k < most) × (next : Option ℕ) × IsShut back (n + k) acc next
      × IsTurned (turn_by next acc) (λ start. n + most ≤ start → Behind start outcome) outcome

  abbrev Segment : ℕ → ℕ → List M → Outcome → Type 0
  Segment i s members outcome = (answer : Outcome) × AreTried Reads inner i s members answer × IsOn answer outcome

  module _ (m : M) (ms : List M) (i s index start : ℕ) (outcome : Outcome) (at : index ≡ n + i) (from : start ≡ n + s) (there : i < most) (covered : (index + 1) + length ms ≡ n + most)
      (rec : (s' start' : ℕ) → start' ≡ n + s' → s' ≤ most → AreTried Reads all_gates (index + 1) start' (ms ++ rest) outcome → Segment (i + 1) s' ms outcome)
      (small : s ≤ most) where
    abbrev Rest : ℕ → Type 0
    Rest next = AreTried Reads all_gates (index + 1) next (ms ++ rest) outcome

    abbrev Answer : Type 0
    Answer = (answer : Outcome) × IsTriedIf Reads inner false m i s (λ next. AreTried Reads inner (i + 1) next ms answer) answer × IsOn answer outcome

    by_limit : (code : Code) (turn : Turn) (l : Bool) → is_limit code ≡ l → Reads m (Err code) → turn ≡ (if l then Ends (Err code) else From start) → IsTurned turn Rest outcome → Answer
    by_limit code turn true e reads is turned =
        (Err code, (Err code, Ends (Err code), reads, rw e refl, refl), subst (λ l. IsTrialIf l code (Behind (n + most) outcome) outcome) (sym e) (subst (λ turn. IsTurned turn Rest outcome) is turned))
    by_limit code turn false e reads is turned =
        let more = rec s start from small (subst (λ turn. IsTurned turn Rest outcome) is turned) in
        (more.0, (Err code, From s, reads, rw e refl, more.1), more.2)

    leave : (next : Option ℕ) (acc : Accepted) → IsTurned (turn_by next acc) Rest outcome → IsTurned (turn_by next acc) (λ start. n + most ≤ start → Behind start outcome) outcome
    leave None acc t = t
    leave (Some start') acc t = λ h. skip_over Reads all_gates ms rest (index + 1) (n + most) start' outcome covered h t

    by_inner : (acc : Accepted) (next : Option ℕ) (shut : Option ℕ) → Reads m (Ok acc) → IsShut inner i acc shut → IsMoved n shut (IsShut back (n + i) acc next) next → IsTurned (turn_by next acc) Rest outcome → Answer
    by_inner acc next None reads is moved turned = (Ok acc, (Ok acc, Ends (Ok acc), reads, (None, is, refl), refl), (i, there, next, moved, leave next acc turned))
    by_inner acc next (Some e) reads is moved turned =
        let more = rec e (n + e) refl (shut_within most i inner within acc (Some e) is) (subst (λ next. IsTurned (turn_by next acc) Rest outcome) moved turned) in
        (more.0, (Ok acc, From e, reads, (Some e, is, refl), more.1), more.2)

    by_turn : (first : Outcome) (turn : Turn) → Reads m first → IsTurn all_gates index start first turn → IsTurned turn Rest outcome → Answer
    by_turn (Err code) turn reads is turned = by_limit code turn (is_limit code) refl reads is turned
    by_turn (Ok acc) turn reads is turned =
        let shut = subst (λ k. IsShut (moved_on n inner ++ back) k acc is.0) at (past n index (omega arith) front (moved_on n inner ++ back) before acc is.0 is.1) in
        let moved = shut_moved n i inner back acc is.0 shut in
        by_inner acc is.0 moved.0 reads moved.1 moved.2 (subst (λ turn. IsTurned turn Rest outcome) is.2 turned)

    same_start : nat_lt index start ≡ nat_lt i s
    same_start = grind (arith, at, from)

    by_start : (b : Bool) → nat_lt i s ≡ b → IsTriedIf Reads all_gates b m index start Rest outcome → Segment i s (m ∷ ms) outcome
    by_start true e t = let more = rec s start from small t in
        (more.0, subst (λ b. IsTriedIf Reads inner b m i s (λ next. AreTried Reads inner (i + 1) next ms more.0) more.0) (sym e) more.1, more.2)
    by_start false e t = let a = by_turn t.0 t.1 t.2 t.3 t.4 in
        (a.0, subst (λ b. IsTriedIf Reads inner b m i s (λ next. AreTried Reads inner (i + 1) next ms a.0) a.0) (sym e) a.1, a.2)

  -- the members of a union, tried where it stands among others, come to the answer that they come to alone
  segment : (members : List M) (i s index start : ℕ) (outcome : Outcome) → index ≡ n + i → start ≡ n + s → i + length members ≡ most → s ≤ most → AreTried Reads all_gates index start (members ++ rest) outcome → Segment i s members outcome
  segment [] i s index start outcome at from whole small t = (
    Err CvcDatatypeValid1,
    refl,
    restart Reads all_gates rest (n + most) start (n + most) outcome (omega arith) (omega arith)
        (let same : index ≡ n + most = omega arith in subst (λ i. AreTried Reads all_gates i start rest outcome) same t),
  )
  segment (m ∷ ms) i s index start outcome at from whole small t =
      by_start m ms i s index start outcome at from (omega arith) (omega arith)
      (λ s' start' from' small' t'. segment ms (i + 1) s' (index + 1) start' outcome (omega arith) from' (omega arith) small' t') small
      (nat_lt i s) refl (subst (λ b. IsTriedIf Reads all_gates b m index start (λ next. AreTried Reads all_gates (index + 1) next (ms ++ rest) outcome) outcome)
      (same_start m ms i s index start outcome at from (omega arith) (omega arith)
      (λ s' start' from' small' t'. segment ms (i + 1) s' (index + 1) start' outcome (omega arith) from' (omega arith) small' t') small) t)

-- the code of a facet is no limit
checked_code : (facets : FacetList) (value : Value) (text : List ℕ) (code : Code) → IsChecked facets value text (Some code) → is_limit code ≡ false
checked_code facets value text code checked = subst IsNoLimit (sym checked.2) (checked-no_limit checked.0 facets value)

module _ {M : Type 0} (Reads : M → Outcome → Type 0) (n : ℕ) (front inner later : List Gate) (own : FacetList) (members rest : List M) (outcome : Outcome)
    (before : EndBy n front) (within : EndBy (length members) inner) (behind : StartFrom (n + length members) later) where
  abbrev own_gate : Gate
  own_gate = record { from = n; to = n + length members; list = own }

  abbrev union_gates : List Gate
  union_gates = front ++ (moved_on n inner ++ own_gate ∷ later)

  abbrev Next : Type 0
  Next = AreTried Reads union_gates (n + length members) (n + length members) rest outcome

  abbrev Alone : Outcome → Type 0
  Alone answer = (first : Outcome) × AreTried Reads inner 0 0 members first × IsUnionJudged own first answer

  abbrev InTurn : Type 0
  InTurn = (answer : Outcome) × Alone answer × IsTrialThen answer Next outcome

  abbrev Turns : Option ℕ → Accepted → Type 0
  Turns next acc = IsTurned (turn_by next acc) (λ start. n + length members ≤ start → AreTried Reads union_gates (n + length members) start rest outcome) outcome

  by_judged : (acc : Accepted) (k : ℕ) → k < length members → AreTried Reads inner 0 0 members (Ok acc) → (code : Option Code) (next first : Option ℕ) → IsChecked own acc.value acc.text code → first ≡ end_if code (n + length members)
      → IsShutBy first (IsShut later (n + k) acc next) next → Turns next acc → InTurn
  by_judged acc k small tried None next first checked is shut turns =
      let none : next ≡ None = ahead (n + length members) (n + k) (omega arith) later behind acc next (subst (λ first. IsShutBy first (IsShut later (n + k) acc next) next) is shut) in
      (Ok acc, (Ok acc, tried, (None, checked, refl)), subst (λ next. Turns next acc) none turns)
  by_judged acc k small tried (Some code) next first checked is shut turns =
      let some : next ≡ Some (n + length members) = subst (λ first. IsShutBy first (IsShut later (n + k) acc next) next) is shut in (
        Err code,
        (Ok acc, tried, (Some code, checked, refl)),
        subst (λ l. IsTrialIf l code Next outcome) (sym (checked_code own acc.value acc.text code checked)) (subst (λ next. Turns next acc) some turns (omega arith)),
      )

  in_gate : (k : ℕ) → k < length members → (nat_lt (n + k) n || nat_le (n + length members) (n + k)) ≡ false
  in_gate k small = false_or (nat_lt (n + k) n) (nat_le (n + length members) (n + k)) (grind arith) (grind (arith, small))

  by_first : (first : Outcome) → AreTried Reads inner 0 0 members first → IsOn Reads n (length members) front inner (own_gate ∷ later) rest before within first outcome → InTurn
  by_first (Err code) tried on = (Err code, (Err code, tried, refl), on)
  by_first (Ok acc) tried on =
      let at = subst (λ b. IsShutIf b own_gate acc on.3.0) (in_gate on.0 on.1) on.3.1 in
      by_judged acc on.0 on.1 tried at.0 on.2 on.3.0 at.1 at.2 on.3.2 on.4

  -- a union among the members of another comes to what it comes to alone
  pub union_in_turn : AreTried Reads union_gates n n (members ++ rest) outcome → InTurn
  union_in_turn t =
      let s = segment Reads n (length members) front inner (own_gate ∷ later) rest before within members 0 0 n n outcome (omega arith) (omega arith) (omega arith) (omega arith) t in
      by_first s.0 s.1 s.2

module _ {M : Type 0} (Reads : M → Outcome → Type 0) (n : ℕ) (front later : List Gate) (m : M) (rest : List M) (outcome : Outcome) (before : EndBy n front) (behind : StartFrom (n + 1) later) where
  abbrev Single : Type 0
  Single = (answer : Outcome) × Reads m answer × IsTrialThen answer (AreTried Reads (front ++ later) (n + 1) (n + 1) rest outcome) outcome

  abbrev Then : ℕ → Type 0
  Then next = AreTried Reads (front ++ later) (n + 1) next rest outcome

  one_limit : (code : Code) (turn : Turn) (l : Bool) → is_limit code ≡ l → Reads m (Err code) → turn ≡ (if l then Ends (Err code) else From n) → IsTurned turn Then outcome → Single
  one_limit code turn true e reads is turned = (Err code, reads, subst (λ l. IsTrialIf l code (Then (n + 1)) outcome) (sym e) (subst (λ turn. IsTurned turn Then outcome) is turned))
  one_limit code turn false e reads is turned = (
    Err code,
    reads,
    subst (λ l. IsTrialIf l code (Then (n + 1)) outcome) (sym e)
        (restart Reads (front ++ later) rest (n + 1) n (n + 1) outcome (omega arith) (omega arith) (subst (λ turn. IsTurned turn Then outcome) is turned)),
  )

  one_turn : (first : Outcome) (turn : Turn) → Reads m first → IsTurn (front ++ later) n n first turn → IsTurned turn Then outcome → Single
  one_turn (Err code) turn reads is turned = one_limit code turn (is_limit code) refl reads is turned
  one_turn (Ok acc) turn reads is turned =
      let none : is.0 ≡ None = ahead (n + 1) n (omega arith) later behind acc is.0 (past n n (omega arith) front later before acc is.0 is.1) in
      (Ok acc, reads, subst (λ turn. IsTurned turn Then outcome) (is.2 ∙ ap (λ next. turn_by next acc) none) turned)

  -- a member that is no union
  pub one_in_turn : AreTried Reads (front ++ later) n n (m ∷ rest) outcome → Single
  one_in_turn t =
      let not_before : nat_lt n n ≡ false = search rules in
      let t' = subst (λ b. IsTriedIf Reads (front ++ later) b m n n Then outcome) not_before t in
      one_turn t'.0 t'.1 t'.2 t'.3 t'.4
