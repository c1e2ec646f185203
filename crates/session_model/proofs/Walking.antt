-- From element to element, in document order.
use Rattle.std.proofs.Common.{◌≡◌, ◌≤◌, ◌<◌, ◌==◌, ◌+◌, ℕ, suc, List, [], ◌∷◌, ◌++◌, Bool, true, false, length, Option, Some, None, refl, sym, ap, ◌∙◌, subst, append_assoc, arith}
use Rattle.std.specs.Prelude.{if◌then◌else◌}
use Rattle.std.proofs.lemmas.Bool.Decides.{nat_tests}
use Rattle.xsv_io.proofs.Sequence.{IsBegun, nothing_yet}
use Rattle.assessment.specs.Assessment.{Entry}
use Rattle.what_is_found.specs.IsFound.{times_found}
use Rattle.what_is_found.proofs.Numbers.{append-times}
use Rattle.session_model.specs.Asking.{entry_at, first_number, number_after}
use Rattle.session_model.specs.Reports.{entry_lines, record_lines, report}
use Rattle.session_model.specs.State.{State}
use Rattle.session_model.specs.inside.Telling.{left_all, text_of}
use Rattle.session_model.proofs.Telling.{lines-then}

-- ---- entries behind others

-- how many entries there are from the first with the number on
abbrev pub count_from : Option ℕ → List Entry → ℕ
count_from None es = 0
count_from (Some key) [] = 0
count_from (Some key) (e ∷ more) = if e.number == key then suc (length more) else count_from (Some key) more

is-own : (n : ℕ) → (n == n) ≡ true
is-own n = grind (arith, nat_tests)

apart : (same : Bool) (n : ℕ) → (if same then 1 else 0) + n ≡ 0 → same ≡ false
apart true n h = absurd (omega (arith, h))
apart false n h = refl

none-more : (same : Bool) (n : ℕ) → (if same then 1 else 0) + n ≡ 0 → n ≡ 0
none-more true n h = absurd (omega (arith, h))
none-more false n h = omega (arith, h)

module _ (key : ℕ) where
  entry-behind : (seen later : List Entry) → times_found key seen ≡ 0 → entry_at key (seen ++ later) ≡ entry_at key later
  entry-behind [] later h = refl
  entry-behind (x ∷ seen) later h =
      ap (λ (same : Bool). if same then Some x else entry_at key (seen ++ later)) (apart (x.number == key) (times_found key seen) h)
      ∙ entry-behind seen later (none-more (x.number == key) (times_found key seen) h)

  after-behind : (seen later : List Entry) → times_found key seen ≡ 0 → number_after key (seen ++ later) ≡ number_after key later
  after-behind [] later h = refl
  after-behind (x ∷ seen) later h =
      ap (λ (same : Bool). if same then first_number (seen ++ later) else number_after key (seen ++ later)) (apart (x.number == key) (times_found key seen) h)
      ∙ after-behind seen later (none-more (x.number == key) (times_found key seen) h)

  count-behind : (seen later : List Entry) → times_found key seen ≡ 0 → count_from (Some key) (seen ++ later) ≡ count_from (Some key) later
  count-behind [] later h = refl
  count-behind (x ∷ seen) later h =
      ap (λ (same : Bool). if same then suc (length (seen ++ later)) else count_from (Some key) (seen ++ later)) (apart (x.number == key) (times_found key seen) h)
      ∙ count-behind seen later (none-more (x.number == key) (times_found key seen) h)

-- of entries with different numbers, the one that stands behind some of them
module _ (es : List Entry) (once : (key : ℕ) → times_found key es ≤ 1) (seen : List Entry) (e : Entry) (later : List Entry) (parts : seen ++ e ∷ later ≡ es) where
  own-once : times_found e.number (e ∷ later) ≡ 1 + times_found e.number later
  own-once = ap (λ (same : Bool). (if same then 1 else 0) + times_found e.number later) (is-own e.number)

  unseen : times_found e.number seen ≡ 0
  unseen = omega (arith, once e.number, ap (times_found e.number) parts, append-times e.number seen (e ∷ later), own-once)

  pub entry-there : entry_at e.number es ≡ Some e
  entry-there =
      ap (entry_at e.number) (sym parts) ∙ (entry-behind e.number seen (e ∷ later) unseen
      ∙ ap (λ (same : Bool). if same then Some e else entry_at e.number later) (is-own e.number))

  pub after-there : number_after e.number es ≡ first_number later
  after-there =
      ap (number_after e.number) (sym parts) ∙ (after-behind e.number seen (e ∷ later) unseen
      ∙ ap (λ (same : Bool). if same then first_number later else number_after e.number later) (is-own e.number))

  pub count-there : count_from (Some e.number) es ≡ suc (length later)
  count-there =
      ap (count_from (Some e.number)) (sym parts) ∙ (count-behind e.number seen (e ∷ later) unseen
      ∙ ap (λ (same : Bool). if same then suc (length later) else count_from (Some e.number) later) (is-own e.number))

-- the entries behind that one
one-behind : (seen : List Entry) (e : Entry) (later es : List Entry) → seen ++ e ∷ later ≡ es → (seen ++ e ∷ []) ++ later ≡ es
one-behind seen e later es parts = append_assoc seen (e ∷ []) later ∙ parts

count-next : (es : List Entry) → ((key : ℕ) → times_found key es ≤ 1) → (seen later : List Entry) → seen ++ later ≡ es → count_from (first_number later) es ≡ length later
count-next es once seen [] parts = refl
count-next es once seen (x ∷ later) parts = count-there es once seen x later parts

-- ---- a walk

module _ (s : State) (most : Option ℕ) where
  -- some elements were told, and the next is the first of the others
  pub record Walks (old now : Option (List ℕ)) (left next : Option ℕ) : Type 0 where
    pub seen : List Entry
    pub later : List Entry
    pub parts : seen ++ later ≡ s.found
    pub next_is : next ≡ first_number later
    pub begun : IsBegun old now (text_of left (record_lines s.set later)) (report most s)

  pub walks-first : (old : Option (List ℕ)) (own : Entry) (more : List Entry) → s.found ≡ own ∷ more → own.number ≡ 1 → Walks old old most (Some 1)
  walks-first old own more is first = record {
    seen = [];
    later = s.found;
    parts = refl;
    next_is = ap (λ (n : ℕ). Some n) (sym first) ∙ ap first_number (sym is);
    begun = nothing_yet old (report most s);
  }

  -- the element that is next
  pub record Next (old now : Option (List ℕ)) (left : Option ℕ) (node : ℕ) : Type 0 where
    pub seen : List Entry
    pub own : Entry
    pub later : List Entry
    pub parts : seen ++ own ∷ later ≡ s.found
    pub number_is : own.number ≡ node
    pub begun : IsBegun old now (text_of left (entry_lines s.set own) ++ text_of (left_all left (entry_lines s.set own)) (record_lines s.set later)) (report most s)

  module _ (old now : Option (List ℕ)) (left : Option ℕ) where
    next-of : (node : ℕ) (seen later : List Entry) → seen ++ later ≡ s.found → Some node ≡ first_number later
        → IsBegun old now (text_of left (record_lines s.set later)) (report most s) → Next old now left node
    next-of node seen [] parts is begun = cc
    next-of node seen (e ∷ later) parts is begun =
        let number : e.number ≡ node = cc in
        record {
          seen = seen;
          own = e;
          later = later;
          parts = parts;
          number_is = number;
          begun = subst (λ (t : List ℕ). IsBegun old now t (report most s)) (lines-then left (entry_lines s.set e) (record_lines s.set later)) begun;
        }

    pub walks-on : (next : Option ℕ) (node : ℕ) → next ≡ Some node → Walks old now left next → Next old now left node
    walks-on next node is w = next-of node w.seen w.later w.parts (sym is ∙ w.next_is) w.begun

    ended-by : (seen later : List Entry) → None ≡ first_number later → IsBegun old now (text_of left (record_lines s.set later)) (report most s)
        → IsBegun old now (text_of left []) (report most s)
    ended-by seen [] is begun = begun
    ended-by seen (e ∷ later) is begun = cc

    pub walks-end : (next : Option ℕ) → next ≡ None → Walks old now left next → IsBegun old now (text_of left []) (report most s)
    walks-end next is w = ended-by w.seen w.later (sym is ∙ w.next_is) w.begun

    module _ (once : (key : ℕ) → times_found key s.found ≤ 1) (node : ℕ) (n : Next old now left node) where
      pub entry-next : entry_at node s.found ≡ Some n.own
      entry-next = subst (λ (k : ℕ). entry_at k s.found ≡ Some n.own) n.number_is (entry-there s.found once n.seen n.own n.later n.parts)

      after-next : number_after node s.found ≡ first_number n.later
      after-next = subst (λ (k : ℕ). number_after k s.found ≡ first_number n.later) n.number_is (after-there s.found once n.seen n.own n.later n.parts)

      pub walks-next : (told : Option (List ℕ)) (left' next : Option ℕ) → next ≡ number_after node s.found → left' ≡ left_all left (entry_lines s.set n.own)
          → IsBegun old told (text_of (left_all left (entry_lines s.set n.own)) (record_lines s.set n.later)) (report most s) → Walks old told left' next
      walks-next told left' next is behind begun = record {
        seen = n.seen ++ n.own ∷ [];
        later = n.later;
        parts = one-behind n.seen n.own n.later s.found n.parts;
        next_is = is ∙ after-next;
        begun = subst (λ (l : Option ℕ). IsBegun old told (text_of l (record_lines s.set n.later)) (report most s)) (sym behind) begun;
      }

      pub walks-smaller : (next : Option ℕ) → next ≡ number_after node s.found → count_from next s.found < count_from (Some node) s.found
      walks-smaller next is =
          let here : count_from (Some node) s.found ≡ suc (length n.later) =
          subst (λ (k : ℕ). count_from (Some k) s.found ≡ suc (length n.later)) n.number_is (count-there s.found once n.seen n.own n.later n.parts) in
          let there : count_from next s.found ≡ length n.later =
          ap (λ (k : Option ℕ). count_from k s.found) (is ∙ after-next) ∙ count-next s.found once (n.seen ++ n.own ∷ []) n.later (one-behind n.seen n.own n.later s.found n.parts) in
          omega (arith, here, there)
