-- The entries of an assessment, found by their numbers.
use Rattle.std.proofs.Common.{◌≡◌, ℕ, ◌+◌, ◌≤◌, Bool, true, false, ◌==◌, List, [], ◌∷◌, ◌++◌, if◌then◌else◌, refl, sym, ap, ◌∙◌, subst, arith, append_assoc, append-nil}
use Rattle.tree_rows.specs.Forest.{Forest, none, text, element}
use Rattle.tree_rows.specs.Whole.{times}
use Rattle.elem_governing.specs.declared.pairs.Governing.{Governing}
use Rattle.assess_records.specs.Numbered.{Scope, scope_in}
use Rattle.assessment.specs.Attribution.{SchemaSet}
use Rattle.assessment.specs.Assessment.{Beside, Entry, Assessed, nothing, entry, entries, other_pairs, AreAssessed}
use Rattle.assessment_laws.specs.Governed.{governing_at}

abbrev has_number : ℕ → Entry → ℕ
has_number n e = if e.number == n then 1 else 0

-- how many entries have the number
abbrev pub times_in : ℕ → List Entry → ℕ
times_in n [] = 0
times_in n (e ∷ more) = has_number n e + times_in n more

times-append : (n : ℕ) (es fs : List Entry) → times_in n (es ++ fs) ≡ times_in n es + times_in n fs
times-append n [] fs = omega arith
times-append n (e ∷ es) fs = let i = times-append n es fs in omega (arith, i)

-- an entry whose number no other has is the one that is found
module _ (e : Entry) (back : List Entry) where
  own-number : has_number e.number e ≡ 1
  own-number = own e.number
    where
      own : (n : ℕ) → (let m : ℕ = if n == n then 1 else 0 in m) ≡ 1
      own n = grind arith

  own-governing : governing_at (e ∷ back) e.number ≡ e.governing
  own-governing = own e.number
    where
      own : (n : ℕ) → (if n == n then e.governing else governing_at back e.number) ≡ e.governing
      own n = grind arith

  found-behind : (front : List Entry) → times_in e.number (front ++ e ∷ back) ≤ 1 → governing_at (front ++ e ∷ back) e.number ≡ e.governing
  found-behind [] few = own-governing
  found-behind (x ∷ front) few = by (x.number == e.number) refl (found-behind front (let m = few in omega (arith, m)))
    where
      more : 1 ≤ times_in e.number (front ++ e ∷ back)
      more = let a = times-append e.number front (e ∷ back) in let o = own-number in omega (arith, a, o)

      by : (b : Bool) → (x.number == e.number) ≡ b → governing_at (front ++ e ∷ back) e.number ≡ e.governing → (if b then x.governing else governing_at (front ++ e ∷ back) e.number) ≡ e.governing
      by true is rest =
          let one : has_number e.number x ≡ 1 = ap (λ (c : Bool). let m : ℕ = if c then 1 else 0 in m) is in
          absurd (omega (arith, one, more, few))
      by false is rest = rest

-- ---- all of them

-- each entry says what governs by its number
abbrev pub Agree : (ℕ → Governing) → Assessed → Type 0
Agree governs nothing = Unit {0}
Agree governs (entry own below next) = (governs own.number ≡ own.governing) × Agree governs below × Agree governs next

entries-agree : (es front back : List Entry) (found : Assessed) → es ≡ front ++ (entries found ++ back) → ((n : ℕ) → times_in n es ≤ 1) → Agree (governing_at es) found
entries-agree es front back nothing is few = tt
entries-agree es front back (entry own below next) is few =
    let rest : List Entry = entries below ++ (entries next ++ back) in
    let all : es ≡ front ++ own ∷ rest = is ∙ ap (λ (l : List Entry). front ++ own ∷ l) (append_assoc (entries below) (entries next) back) in
    let first : es ≡ (front ++ own ∷ []) ++ rest = all ∙ sym (append_assoc front (own ∷ []) rest) in
    let second : es ≡ ((front ++ own ∷ []) ++ entries below) ++ (entries next ++ back) = first ∙ sym (append_assoc (front ++ own ∷ []) (entries below) (entries next ++ back)) in (
      subst (λ (l : List Entry). governing_at l own.number ≡ own.governing) (sym all)
          (found-behind own rest front (subst (λ (l : List Entry). times_in own.number l ≤ 1) all (few own.number))),
      entries-agree es (front ++ own ∷ []) (entries next ++ back) below first few,
      entries-agree es ((front ++ own ∷ []) ++ entries below) back next second few,
    )

module _ (s : SchemaSet) (b : Beside) where
  -- an entry has the number of a node
  found-times : (n : ℕ) (f : Forest) (scope : Scope) (pairs : List Governing) (found : Assessed) → AreAssessed s b scope pairs f found → times_in n (entries found) ≤ times n f
  found-times n none scope pairs found h = rw h (omega arith)
  found-times n (text number chars next) scope pairs found h = let i = found-times n next scope pairs found h in omega (arith, i)
  found-times n (element number name bindings attributes children next) scope pairs found h =
      let below = found-times n children (scope_in s.names bindings scope) h.1 h.2 h.6 in
      let after = found-times n next scope (other_pairs pairs) h.3 h.7 in
      let both = times-append n (entries h.2) (entries h.3) in
      let own : has_number n h.0 ≡ (if number == n then 1 else 0) = ap (λ (m : ℕ). let k : ℕ = if m == n then 1 else 0 in k) h.5.number_is in
      let all : times_in n (entries found) ≡ has_number n h.0 + times_in n (entries h.2 ++ entries h.3) = ap (λ (a : Assessed). times_in n (entries a)) h.4 in
      omega (arith, below, after, both, own, all)

  pub found-agrees : (f : Forest) (scope : Scope) (pairs : List Governing) (found : Assessed) → ((n : ℕ) → times n f ≤ 1) → AreAssessed s b scope pairs f found → Agree (governing_at (entries found)) found
  found-agrees f scope pairs found differ h =
      entries-agree (entries found) [] [] found (sym (append-nil (entries found)))
      (λ n. let few = differ n in let more = found-times n f scope pairs found h in omega (arith, few, more))
