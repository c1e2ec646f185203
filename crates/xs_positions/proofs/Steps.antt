-- One part more in a sequence, a choice or a repeat: what the walk's loops keep.
use Rattle.std.proofs.Common.{◌≡◌, ℕ, zero, suc, ◌+◌, ◌-◌, ◌*◌, ◌^◌, ◌<◌, ◌≤◌, max, ◌⊎◌, ◌↔◌, Bool, true, false, ◌&&◌, ◌||◌, ◌==◌, IsTrue, if◌then◌else◌, List, [], ◌∷◌, ◌++◌, Option, Some, None, length, get_or, take, replicate, All, Contains, sym, refl, ap, ◌∙◌, inl, inr, arith, suc-mul, zero-mul, one-mul, Result, Ok, Err, IfOk, Vec, Global, ne_eqb, leb-true}
use Rattle.std.specs.List.Sorted.{IsStrictlyIncreasing}
use Rattle.std.proofs.lemmas.Bool.{and_parts, false≢true}
use Rattle.std.proofs.lemmas.List.{length-map, take_more, take_all}
use Rattle.std.proofs.lemmas.List.Elements.{Contains-get_or}
use Rattle.xs_positions.specs.Tree.{Tree, nothing, repeat, copies, size, sequence_of, choice_of}
use Rattle.xs_positions.specs.PositionWords.{IsWord, Rounds, place, Ends, Passes}
use Rattle.xs_positions.specs.Measures.{has_rounds, has_empty, has_word, measure_of}
use Rattle.xs_positions.specs.Sets.{Describes, AreLinkedIn}
use Rattle.xs_positions.specs.Parts.{sets_of, unused, beside, IsJoined, IsLooped, IsPartOf, AreParts}
use Rattle.xs_positions.specs.Copies.{AreCopies, AreJoined}
use Rattle.xs_positions.specs.Walk.{CopyOf, WithinRounds}
use Rattle.xs_positions.specs.declared.sets.Part.{Part}
use Rattle.xs_positions.specs.declared.measures.Measure.{Measure}
use Rattle.xs_positions.proofs.Languages.{Joins}
use Rattle.xs_positions.proofs.Rounds.{rounds_last, last_round, some_rounds, Plus, plus_one, empty_plus}
use Rattle.xs_positions.proofs.Rising.{rises-nil, rises-append, Contains-none, Contains-both}
use Rattle.xs_positions.proofs.Parting.{parts_length, part_at, copy_part, copies_count}
use Rattle.xs_positions.proofs.Describing.{Describes-same, Describes-none, Describes-or, Describes-join, Describes-plus, Or, begins_passes, ends_passes}
use Rattle.xs_positions.proofs.Measuring.{size-choice_of, has_empty-choice_of}
use Rattle.xs_positions.proofs.Worded.{empty_is, word_is, words_within, passes_at, choice_words}
use Rattle.xs_positions.proofs.Repeating.{copy_words, rounds_empty, ends_go_on, ends_last, ends_before, ends_more, more_ends, Describes-within, Describes-once, Describes-unbounded}

-- ---- what the sets of a part say of its vectors
module _ (L : List ℕ → Type 0) (base n : ℕ) (part : Part) (d : Describes L base n (sets_of part)) where
  pub row_count : length part.follow.items ≡ n
  row_count = sym (length-map part.follow.items (λ row. row.items)) ∙ d.follow_count

  pub last_within : (k e : ℕ) → k < length part.last.items → (base ≤ get_or part.last.items k e) × (get_or part.last.items k e < base + length part.follow.items)
  last_within k e l =
      let p : ℕ = get_or part.last.items k e in
      let w = d.within p (ends_passes L p ((d.last p).0 (Contains-get_or part.last.items k e l))) in
      let c = row_count in
      (w.0, let u : p < base + n = w.1 in omega arith)

-- ---- a front of the parts
pub has_word_front : (ts : List Tree) (k : ℕ) → IsTrue (has_word (sequence_of ts)) → IsTrue (has_word (sequence_of (take k ts)))
has_word_front ts zero h = refl
has_word_front [] (suc k) h = refl
has_word_front (t ∷ ts) (suc k) h =
    let p = and_parts (has_word t) (has_word (sequence_of ts)) h in
    let a : has_word t ≡ true = p.0 in
    rw a (has_word_front ts k p.1)

pub choice_size : (ts : List Tree) → size (choice_of ts) ≡ size (sequence_of ts)
choice_size [] = refl
choice_size (t ∷ ts) = let e = choice_size ts in omega arith

module _ (ts : List Tree) (i : ℕ) (t : Tree) (taken : take (i + 1) ts ≡ take i ts ++ t ∷ []) (base : ℕ) (whole next new : Part)
    (dn : IsPartOf t (base + size (sequence_of (take i ts))) next) where
  pub choice_next : IsPartOf (choice_of (take i ts)) base whole → sets_of new ≡ beside (sets_of whole) (sets_of next) → new.nullable ≡ (whole.nullable || next.nullable) →
      IsPartOf (choice_of (take (i + 1) ts)) base new
  choice_next dw made either = record {
    sets =
        let S : List Tree = take i ts in
        let both = Describes-or (IsWord (choice_of S) base) (IsWord t (base + size (choice_of S))) base (size (choice_of S)) (size t) (sets_of whole) (sets_of next) dw.sets (rw (choice_size S) dn.sets) in
        rw (taken, size-choice_of S t, made)
        (Describes-same (Or (IsWord (choice_of S) base) (IsWord t (base + size (choice_of S)))) (IsWord (choice_of (S ++ t ∷ [])) base) base (size (choice_of S) + size t) (beside (sets_of whole) (sets_of next))
        (λ w. (choice_words S t base w).1) (λ w. (choice_words S t base w).0) both);
    nullable = either ∙ (rw (dw.nullable, dn.nullable, taken) (sym (has_empty-choice_of (take i ts) t)));
  }

-- ---- the words of one expression, each with a word of another behind it
module _ (s t u : Tree) (base : ℕ) (whole next new : Part)
    (words : (w : List ℕ) → IsWord u base w ↔ Joins (IsWord s base) (IsWord t (base + size s)) w)
    (count : size u ≡ size s + size t) (empty : has_empty u ≡ (has_empty s && has_empty t))
    (dw : IsPartOf s base whole) (dn : IsPartOf t (base + size s) next) where
  pub joined_next : IsTrue (has_word s) → IsTrue (has_word t) → IsJoined base (sets_of whole) whole.nullable (sets_of next) next.nullable (sets_of new) →
      new.nullable ≡ (whole.nullable && next.nullable) → IsPartOf u base new
  joined_next some other made both_empty = record {
    sets =
        let both = Describes-join (IsWord s base) (IsWord t (base + size s)) base (size s) (size t) (sets_of whole) (sets_of next) dw.sets dn.sets
        whole.nullable next.nullable (sets_of new) made (rw dw.nullable (empty_is s base)) (rw dn.nullable (empty_is t (base + size s)))
        ((word_is s base).0 some) ((word_is t (base + size s)).0 other) in
        rw count
        (Describes-same (Joins (IsWord s base) (IsWord t (base + size s))) (IsWord u base) base (size s + size t) (sets_of new)
        (λ w. (words w).1) (λ w. (words w).0) both);
    nullable = both_empty ∙ (rw (dw.nullable, dn.nullable) (sym empty));
  }

-- ---- no part, no copy
no_word_passes : (w v : List ℕ) (p : ℕ) → w ++ p ∷ v ≡ [] → ⊥
no_word_passes [] v p e = cc
no_word_passes (x ∷ w) v p e = cc

pub nothing_sets : (t : Tree) (base : ℕ) → (size t ≡ 0) ⊎ (has_word t ≡ false) → Describes (IsWord t base) base (size t) (unused (size t))
nothing_sets t base h = Describes-none (IsWord t base) base (size t) (λ p g. elim h [
  | inl e ↦ (let w = words_within t base p g in omega arith)
  | inr e ↦ false≢true (sym e ∙ (word_is t base).1 (g.0 ++ p ∷ g.1, g.2))
])

-- ---- a copy more
module _ (t : Tree) (base k : ℕ) (whole next new : Part) (some : IsTrue (has_word t))
    (dw : Describes (Rounds (CopyOf t base) k 0) base (k * size t) (sets_of whole))
    (dn : Describes (IsWord t (base + k * size t)) (base + k * size t) (size t) (sets_of next)) where
  pub copies_next : (x y : Bool) → x ≡ (k == 0 || has_empty t) → y ≡ has_empty t → IsJoined base (sets_of whole) x (sets_of next) y (sets_of new) →
      Describes (Rounds (CopyOf t base) (k + 1) 0) base ((k + 1) * size t) (sets_of new)
  copies_next x y ex ey made =
      let both = Describes-join (Rounds (CopyOf t base) k 0) (CopyOf t base k) base (k * size t) (size t) (sets_of whole) (sets_of next) dw dn
      x y (sets_of new) made (rw ex (rounds_empty t base k)) (rw ey (empty_is t (base + k * size t)))
      (some_rounds (CopyOf t base) (copy_words t base some) k 0) (copy_words t base some k) in
      let e : (k + 1) * size t ≡ k * size t + size t = (let a : k + 1 ≡ suc k = omega arith in rw a (suc-mul k (size t))) in
      rw e (Describes-same (Joins (Rounds (CopyOf t base) k 0) (CopyOf t base k)) (Rounds (CopyOf t base) (k + 1) 0) base (k * size t + size t) (sets_of new)
      (last_round (CopyOf t base) k) (rounds_last (CopyOf t base) k) both)

  -- ---- the copies of a repeat with no upper bound, of which the last comes over and over
  pub unbounded_sets : (n : ℕ) (looped : Part) (x y : Bool) → max n 1 ≡ k + 1 → x ≡ (k == 0 || has_empty t) → y ≡ has_empty t →
      IsLooped (base + k * size t) (sets_of next) (sets_of looped) → IsJoined base (sets_of whole) x (sets_of looped) y (sets_of new) →
      Describes (IsWord (repeat t n None) base) base (size (repeat t n None)) (sets_of new)
  unbounded_sets n looped x y top ex ey round made =
      let N : List ℕ → Type 0 = CopyOf t base k in
      let dl = Describes-plus N (base + k * size t) (size t) (sets_of next) (sets_of looped) round dn in
      let both = Describes-join (Rounds (CopyOf t base) k 0) (Plus N) base (k * size t) (size t) (sets_of whole) (sets_of looped) dw dl
      x y (sets_of new) made (rw ex (rounds_empty t base k))
      (rw ey ((λ h. plus_one N [] ((empty_is t (base + k * size t)).0 h)), (λ h. (empty_is t (base + k * size t)).1 (empty_plus N h))))
      (some_rounds (CopyOf t base) (copy_words t base some) k 0) (let w = copy_words t base some k in (w.0, plus_one N w.0 w.1)) in
      let e : max n 1 * size t ≡ k * size t + size t = (let a : max n 1 ≡ suc k = omega arith in rw a (suc-mul k (size t))) in
      rw e (Describes-unbounded t base n k top (k * size t + size t) (sets_of new) both)

-- ---- where words of enough copies may end
module _ (t : Tree) (base n k : ℕ) (ends lasts new : List ℕ)
    (before : (p : ℕ) → Contains ends p ↔ Ends (WithinRounds t base n k) p)
    (latest : (p : ℕ) → Contains lasts p ↔ Ends (Rounds (CopyOf t base) (k + 1) 0) p)
    (ends_rise : IsStrictlyIncreasing ends) (lasts_rise : IsStrictlyIncreasing lasts) where
  ends_added : (nullable : Bool) → nullable ≡ has_empty t → n ≤ k + 1 → new ≡ (if nullable then lasts else ends ++ lasts) →
      ((p : ℕ) → Contains new p ↔ Ends (WithinRounds t base n (k + 1)) p) × IsStrictlyIncreasing new
  ends_added true e l made = (
    (λ p. rw made (
      (λ h. ends_more t base n k p l (inr ((latest p).0 h))),
      (λ h. elim (more_ends t base n k p h).1 [
        | inl g ↦ (latest p).1 (further p (ends_go_on t base (sym e) n k p g))
        | inr g ↦ (latest p).1 g
      ]),
    )),
    rw made lasts_rise,
  )
    where
      further : (p : ℕ) → Ends (Rounds (CopyOf t base) k 0) p → Ends (Rounds (CopyOf t base) (k + 1) 0) p
      further p g = ends_go_on t base (sym e) k (k + 1) p (g.0, (k, (omega arith, omega arith), g.1))
  ends_added false e l made = (
    (λ p. rw made (
      (λ h. ends_more t base n k p l (elim ((Contains-both ends lasts p).0 h) [ inl g ↦ inl ((before p).0 g) | inr g ↦ inr ((latest p).0 g) ])),
      (λ h. (Contains-both ends lasts p).1 (elim (more_ends t base n k p h).1 [ inl g ↦ inl ((before p).1 g) | inr g ↦ inr ((latest p).1 g) ])),
    )),
    rw made (rises-append ends lasts (base + k * size t) ends_rise lasts_rise
        (λ p h. ends_before t base n k p ((before p).0 h))
        (λ p h. ends_last t base (λ z. false≢true (e ∙ z)) k p ((latest p).0 h))),
  )

  pub ends_next : (nullable : Bool) → nullable ≡ has_empty t → n ≤ k + 1 → new ≡ (if nullable then lasts else ends ++ lasts) →
      ((p : ℕ) → Contains new p ↔ Ends (WithinRounds t base n (k + 1)) p) × IsStrictlyIncreasing new
  ends_next nullable e l made = ends_added nullable e l made

-- too few copies yet: no end
pub no_ends_next : (t : Tree) (base n k : ℕ) (ends : List ℕ) → ((p : ℕ) → Contains ends p ↔ Ends (WithinRounds t base n k) p) → k + 1 < n →
    (p : ℕ) → Contains ends p ↔ Ends (WithinRounds t base n (k + 1)) p
no_ends_next t base n k ends before l p = (
  (λ h. let g = (before p).0 h in let a : n ≤ g.1.0 = g.1.1.0 in let b : g.1.0 ≤ k = g.1.1.1 in absurd (omega arith)),
  (λ h. let g = more_ends t base n k p h in let a : n ≤ k + 1 = g.0 in absurd (omega arith)),
)

-- ---- answers that may be no memory
pub if_ok : {T E : Type 0} (P Q : T → Type 0) (r : Result T E) → ((x : T) → P x → Q x) → IfOk r P → IfOk r Q
if_ok P Q (Ok x) f h = f x h
if_ok P Q (Err e) f h = h

pub if_both : {T E : Type 0} (P Q R : T → Type 0) (r : Result T E) → ((x : T) → P x → Q x → R x) → IfOk r P → IfOk r Q → IfOk r R
if_both P Q R (Ok x) f g h = f x g h
if_both P Q R (Err e) f g h = g

-- ---- positions that no word goes through
pub unused_sets : (t : Tree) (base : ℕ) (m : Measure) (part : Part) → m ≡ measure_of t → size t < 2 ^ 32 → ((p : ℕ) → Passes (IsWord t base) p → ⊥) →
    sets_of part ≡ unused m.size → Describes (IsWord t base) base (size t) (sets_of part)
unused_sets t base m part e l none made =
    let s : m.size ≡ size t = (let a = ap (λ x. x.size) e in omega arith) in
    rw (made, s) (Describes-none (IsWord t base) base (size t) none)

pub no_size : (t : Tree) (base : ℕ) (m : Measure) → m ≡ measure_of t → m.size ≡ 0 → (p : ℕ) → Passes (IsWord t base) p → ⊥
no_size t base m e z p g = let a = ap (λ x. x.size) e in let w = words_within t base p g in omega arith

pub no_words : (t : Tree) (base : ℕ) (m : Measure) → m ≡ measure_of t → m.inhabited ≡ false → (p : ℕ) → Passes (IsWord t base) p → ⊥
no_words t base m e z p g =
    false≢true (sym z ∙ (ap (λ x. x.inhabited) e ∙ (word_is t base).1 (g.0 ++ p ∷ g.1, g.2)))

pub no_rounds : (t : Tree) (n : ℕ) (m : Option ℕ) (base : ℕ) (k : Measure) → k ≡ measure_of t → k.inhabited ≡ false → (p : ℕ) → Passes (IsWord (repeat t n m) base) p → ⊥
no_rounds t n m base k e z p g =
    let r = passes_at (λ j u. IsWord t (place base (copies n m) (size t) j) u) p g.2.0 0 (g.0, g.1, g.2.2) in
    no_words t (place base (copies n m) (size t) r.0) k e z p r.3

-- ---- a repeat with an upper bound, as the walk builds it
pub bounded_sets : (t : Tree) (base n most : ℕ) (m : Option ℕ) (whole part : Part) (ends : Vec ℕ Global) → m ≡ Some most → IsTrue (has_rounds n m) → IsTrue (has_word t) →
    Describes (Rounds (CopyOf t base) most 0) base (most * size t) (sets_of whole) →
    ((p : ℕ) → Contains ends.items p ↔ Ends (WithinRounds t base n most) p) → IsStrictlyIncreasing ends.items → sets_of part ≡ record (sets_of whole) { last = ends.items; loops = [] } →
    Describes (IsWord (repeat t n m) base) base (size (repeat t n m)) (sets_of part)
bounded_sets t base n most m whole part ends e rounds some d last rises made =
    let l : n ≤ most = leb-true n most (rw e at rounds) in
    rw (e, made) (Describes-within t base n most l some (sets_of whole) ends.items d last rises)

pub once_sets : (t : Tree) (base n : ℕ) (m : Option ℕ) (parts : List Part) (part : Part) → m ≡ Some 1 → AreCopies t base n m parts → part ≡ get_or parts 0 part →
    Describes (IsWord (repeat t n m) base) base (size (repeat t n m)) (sets_of part)
once_sets t base n m parts part e are is =
    let one : copies n m ≡ 1 = ap (copies n) e in
    let many : length parts ≡ 1 = copies_count base (copies n m) t parts are.parts ∙ one in
    let place : base + 0 * size t ≡ base = (let z = zero-mul (size t) in omega arith) in
    let d = copy_part base (copies n m) t parts 0 part are.parts (omega arith) is in
    let l : n ≤ 1 = leb-true n 1 (rw e at are.rounds) in
    let s : 1 * size t ≡ size t = one-mul (size t) in
    rw (e, s) (Describes-once t base n l (size t) (sets_of part) (rw place at d.sets))

-- ---- where positions are linked already, as the sets say
module _ (L : List ℕ → Type 0) (base n : ℕ) (part : Part) (d : Describes L base n (sets_of part)) where
  pub first_within : (k e : ℕ) → k < length part.first.items → (base ≤ get_or part.first.items k e) × (get_or part.first.items k e < base + length part.follow.items)
  first_within k e l =
      let p : ℕ = get_or part.first.items k e in
      let w = d.within p (begins_passes L p ((d.first p).0 (Contains-get_or part.first.items k e l))) in
      let c = row_count L base n part d in
      (w.0, let u : p < base + n = w.1 in omega arith)

  pub linked_in : All (AreLinkedIn base part.last.items part.first.items (sets_of part).follow) part.loops.items
  linked_in k x l p q a b e f =
      let loop = d.loops k x l in
      let low : base ≤ p = (let u = loop.0 in let v = a.0 in omega arith) in
      let high : p - base < n = (let u = loop.1 in let v = a.1 in omega arith) in
      let place : base + (p - base) ≡ p = omega arith in
      let follows = loop.2 p q a b ((d.last p).0 e) ((d.first q).0 f) in
      (d.follow (p - base) q high).1 (rw place follows)

-- ---- parts so far
pub empty_sequence : (base : ℕ) (part : Part) → sets_of part ≡ unused 0 → part.nullable ≡ true → IsPartOf (sequence_of []) base part
empty_sequence base part e n = record { sets = rw e (nothing_sets (sequence_of []) base (inl refl)); nullable = n }

pub empty_choice : (base : ℕ) (part : Part) → sets_of part ≡ unused 0 → part.nullable ≡ false → IsPartOf (choice_of []) base part
empty_choice base part e n = record { sets = rw e (nothing_sets (choice_of []) base (inl refl)); nullable = n }

module _ (base : ℕ) (ts : List Tree) (parts : List Part) (are : AreParts base ts parts) (i : ℕ) (whole next new : Part) (l : i < length parts) (is : next ≡ get_or parts i next) where
  taken_part : take (i + 1) ts ≡ take i ts ++ get_or ts i nothing ∷ []
  taken_part = take_more ts i nothing (let e = parts_length base ts parts are in omega arith)

  pub choose_more : IsPartOf (choice_of (take i ts)) base whole → sets_of new ≡ beside (sets_of whole) (sets_of next) → new.nullable ≡ (whole.nullable || next.nullable) →
      IsPartOf (choice_of (take (i + 1) ts)) base new
  choose_more dw made either = choice_next ts i (get_or ts i nothing) taken_part base whole next new (part_at base ts parts i next are l is) dw made either

pub all_taken : (base : ℕ) (ts : List Tree) (parts : List Part) (n : ℕ) → AreParts base ts parts → n ≡ length parts → take n ts ≡ ts
all_taken base ts parts n are e = take_all n ts (let l = parts_length base ts parts are in omega arith)

-- ---- copies so far
none_ends : (W : ℕ → List ℕ → Type 0) (r p : ℕ) (front : List ℕ) → r ≤ 0 → Rounds W r 0 (front ++ p ∷ []) → ⊥
none_ends W zero p front l h = no_word_passes front [] p h
none_ends W (suc r) p front l h = absurd (omega arith)

pub first_copies : (t : Tree) (base least : ℕ) (whole : Part) → sets_of whole ≡ unused 0 → whole.nullable ≡ true → AreJoined t base least 0 whole []
first_copies t base least whole e n = record {
  sets = rw (e, zero-mul (size t)) (Describes-none (Rounds (CopyOf t base) 0 0) base 0 (λ p h. no_word_passes h.0 h.1 p h.2));
  nullable = n;
  ends = λ p. ((λ h. absurd (Contains-none p h)), (λ h. absurd (none_ends (CopyOf t base) h.1.0 p h.0 h.1.1.1 h.1.2)));
  ends_rise = rises-nil;
}

both_empty : (z e : Bool) → ((z || e) && e) ≡ e
both_empty true e = refl
both_empty false true = refl
both_empty false false = refl

pub more_copies : (t : Tree) (base least n k : ℕ) (parts : List Part) (whole next new : Part) (ends ends' : List ℕ) → AreParts base (replicate n t) parts → k < length parts → next ≡ get_or parts k next →
    IsTrue (has_word t) → AreJoined t base least k whole ends → IsJoined base (sets_of whole) whole.nullable (sets_of next) next.nullable (sets_of new) →
    new.nullable ≡ (whole.nullable && next.nullable) →
    ((least ≤ k + 1) × (ends' ≡ (if next.nullable then new.last.items else ends ++ new.last.items))) ⊎ ((k + 1 < least) × (ends' ≡ ends)) →
    AreJoined t base least (k + 1) new ends'
more_copies t base least n k parts whole next new ends ends' are l is some old made both e =
    let dn = copy_part base n t parts k next are l is in
    let sets = copies_next t base k whole next new some old.sets dn.sets whole.nullable next.nullable old.nullable dn.nullable made in
    let lasts : ((p : ℕ) → Contains ends' p ↔ Ends (WithinRounds t base least (k + 1)) p) × IsStrictlyIncreasing ends' = elim e [
      | inl h ↦ ends_next t base least k ends new.last.items ends' old.ends sets.last old.ends_rise sets.last_rises next.nullable dn.nullable h.0 h.1
      | inr h ↦ (rw h.1 (no_ends_next t base least k ends old.ends h.0), rw h.1 old.ends_rise)
    ] in
    record {
      sets = sets;
      nullable = (let z : (k + 1 == 0) ≡ false = ne_eqb (k + 1) 0 (λ h. omega arith) in both ∙ (rw (old.nullable, dn.nullable, z) (both_empty (k == 0) (has_empty t))));
      ends = lasts.0;
      ends_rise = lasts.1;
    }
