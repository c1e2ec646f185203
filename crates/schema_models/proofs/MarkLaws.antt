-- Marks of the particles that stand in a schema set.
use Rattle.std.proofs.Common.{◌≡◌, ◌⊎◌, ◌↔◌, inl, inr, ℕ, ◌+◌, ◌<◌, ◌≤◌, Bool, true, false, true≢false, List, [], ◌∷◌, ◌++◌, Option, None, Some, length, take, get_or, set, refl, sym, ◌∙◌, subst, ap, arith}
use Rattle.std.specs.Prelude.{Contains, IfSome, slice_get, slice_index, option_and_then}
use Rattle.std.specs.List.Sorted.{IsPermutation, IsNonDecreasingBy}
use Rattle.std.proofs.lemmas.Bool.{cases_eq}
use Rattle.std.proofs.lemmas.List.{length-set, length_push, get_or_default, get_or-set_same, get_or-set_other, get_or_append_left, take_more}
use Rattle.std.proofs.lemmas.List.Elements.{All-contains, All-from_get_or, All-get_or, Contains-get_or, Contains-append_left, Contains-push, Contains-push_cases}
use Rattle.std.proofs.lemmas.List.Sorted.{All-permutation, Contains-permutation}
use Rattle.std.proofs.lemmas.Option.{none-some, same_Some, slice_get_within, slice_get_read}
use Rattle.std.proofs.Math.Seq.{get_or-append_seam}
use Rattle.xs_components.specs.Tables.{Tables}
use Rattle.xs_components.specs.declared.group.GroupDef.{GroupDef}
use Rattle.xs_components.specs.declared.particle.Particle.{Particle as Part}
use Rattle.component_references.specs.Ranked.{held_particles, IsBelow, IsRanked}
use Rattle.particle_forms.specs.Models.{group_particle}
use Rattle.schema_models.specs.SetModels.{content_of}
use Rattle.schema_models.specs.AllLimits.{members_in, members_at, Stands, content, group, member}
use Rattle.schema_models.specs.inside.Marks.{AreCounted, marked, IsByRank, IsMarkedMore, IsRoot, AreStanding, IsLooked, IsStandingSoFar, IsContentBelow, IsGroupBelow}

-- ---- order
module _ (t : Tables) where
  pub by-rank : (numbers sorted : List ℕ) → length numbers ≡ length t.particles.parts → AreCounted numbers → IsPermutation numbers sorted → IsNonDecreasingBy (slice_index t.particles.ranks) sorted → IsByRank t sorted
  by-rank numbers sorted long counted moved rises = record {
    there = All-permutation (λ p. p < length t.particles.parts) numbers sorted moved
        (All-from_get_or (λ p. p < length t.particles.parts) numbers 0 (λ i l. let a = counted i l in omega (arith, a, l, long)));
    each = λ p l. Contains-permutation numbers sorted p moved (let l2 : p < length numbers = omega (arith, l, long) in subst (Contains numbers) (counted p l2) (Contains-get_or numbers p 0 l2));
    rises = rises;
  }

-- ---- marks
pub none-more : (P : ℕ → Type 0) (marks : List Bool) → ((k : ℕ) → P k → ⊥) → IsMarkedMore P marks marks
none-more P marks none = record { count = refl; marks = λ k. ((λ m. inl m), (λ e. elim e [ inl m ↦ m | inr p ↦ absurd (none k p) ])) }

pub one-more : (P : ℕ → Type 0) (marks : List Bool) (x : ℕ) → x < length marks → ((k : ℕ) → P k ↔ (x ≡ k)) → IsMarkedMore P marks (set marks x true)
one-more P marks x there is = record {
  count = length-set marks x true;
  marks = λ k. (
    (λ m. elim (cases_eq k x) [ inl same ↦ inr ((is k).1 (sym same)) | inr differ ↦ inl (sym (get_or-set_other marks x k true false differ) ∙ m) ]),
    (λ e. elim (cases_eq k x) [
      | inl same ↦ subst (λ j. marked (set marks x true) j ≡ true) (sym same) (get_or-set_same marks x true false there)
      | inr differ ↦ elim e [ inl m ↦ get_or-set_other marks x k true false differ ∙ m | inr p ↦ absurd (differ (sym ((is k).0 p))) ]
    ]),
  );
}

-- first some, and then others
pub both-more : (P Q R : ℕ → Type 0) (old mid new : List Bool) → IsMarkedMore P old mid → IsMarkedMore Q mid new → ((k : ℕ) → R k ↔ (P k ⊎ Q k)) → IsMarkedMore R old new
both-more P Q R old mid new a b is = record {
  count = b.count ∙ a.count;
  marks = λ k. (
    (λ m. elim ((b.marks k).0 m) [ inl before ↦ elim ((a.marks k).0 before) [ inl o ↦ inl o | inr p ↦ inr ((is k).1 (inl p)) ] | inr q ↦ inr ((is k).1 (inr q)) ]),
    (λ e. elim e [
      | inl o ↦ (b.marks k).1 (inl ((a.marks k).1 (inl o)))
      | inr r ↦ elim ((is k).0 r) [ inl p ↦ (b.marks k).1 (inl ((a.marks k).1 (inr p))) | inr q ↦ (b.marks k).1 (inr q) ]
    ]),
  );
}

-- the same ones
pub same-more : (P Q : ℕ → Type 0) (old new : List Bool) → IsMarkedMore P old new → ((k : ℕ) → Q k ↔ P k) → IsMarkedMore Q old new
same-more P Q old new a is = record {
  count = a.count;
  marks = λ k. ((λ m. elim ((a.marks k).0 m) [ inl o ↦ inl o | inr p ↦ inr ((is k).1 p) ]), (λ e. elim e [ inl o ↦ (a.marks k).1 (inl o) | inr q ↦ (a.marks k).1 (inr ((is k).0 q)) ]));
}

-- the next of a list
pub list-more : (ids : List ℕ) (i x : ℕ) (old mid : List Bool) → i < length ids → x ≡ get_or ids i x → IsMarkedMore (Contains (take i ids)) old mid → x < length mid → IsMarkedMore (Contains (take (i + 1) ids)) old (set mid x true)
list-more ids i x old mid l is before there =
    both-more (Contains (take i ids)) (λ k. x ≡ k) (Contains (take (i + 1) ids)) old mid (set mid x true) before (one-more (λ k. x ≡ k) mid x there (λ k. ((λ e. e), (λ e. e)))) (λ k. (
      (λ c. elim (Contains-push_cases (take i ids) x k (subst (λ xs. Contains xs k) longer c)) [ inl o ↦ inl o | inr e ↦ inr e ]),
      (λ e. subst (λ xs. Contains xs k) (sym longer) (elim e [ inl o ↦ Contains-append_left (take i ids) (x ∷ []) k o | inr same ↦ subst (Contains (take i ids ++ x ∷ [])) same (Contains-push (take i ids) x) ])),
    ))
  where
    longer : take (i + 1) ids ≡ take i ids ++ x ∷ []
    longer = take_more ids i x l ∙ ap (λ y. take i ids ++ y ∷ []) (sym is)

-- ---- roots
module _ (t : Tables) where
  -- the next content, or group
  pub next-below : (of : ℕ → Option ℕ) (i : ℕ) (P Q : ℕ → Type 0) (old mid new : List Bool) → ((k : ℕ) → P k ↔ ((n : ℕ) × (n < i) × (of n ≡ Some k))) → ((k : ℕ) → Q k ↔ ((n : ℕ) × (n < i + 1) × (of n ≡ Some k))) →
      IsMarkedMore P old mid → IsMarkedMore (λ k. of i ≡ Some k) mid new → IsMarkedMore Q old new
  next-below of i P Q old mid new p q a b =
      both-more P (λ k. of i ≡ Some k) Q old mid new a b (λ k. (
        (λ x. let y = (q k).0 x in elim (cases_eq y.0 i) [ inl same ↦ inr (subst (λ n. of n ≡ Some k) same y.2) | inr differ ↦ inl ((p k).1 (y.0, omega (arith, y.1, differ), y.2)) ]),
        (λ e. (q k).1 (elim e [ inl x ↦ (let y = (p k).0 x in (y.0, omega (arith, y.1), y.2)) | inr h ↦ (i, omega arith, h) ])),
      ))

  pub content-next : (i : ℕ) (old mid new : List Bool) → IsMarkedMore (IsContentBelow t i) old mid → IsMarkedMore (λ k. content_of t i ≡ Some k) mid new → IsMarkedMore (IsContentBelow t (i + 1)) old new
  content-next i old mid new = next-below (content_of t) i (IsContentBelow t i) (IsContentBelow t (i + 1)) old mid new (λ k. ((λ x. x), (λ x. x))) (λ k. ((λ x. x), (λ x. x)))

  pub group-next : (i : ℕ) (old mid new : List Bool) → IsMarkedMore (IsGroupBelow t i) old mid → IsMarkedMore (λ k. group_particle t i ≡ Some k) mid new → IsMarkedMore (IsGroupBelow t (i + 1)) old new
  group-next i old mid new = next-below (group_particle t) i (IsGroupBelow t i) (IsGroupBelow t (i + 1)) old mid new (λ k. ((λ x. x), (λ x. x))) (λ k. ((λ x. x), (λ x. x)))

  pub content-read : (items : List (Option ℕ)) (i : ℕ) (x : Option ℕ) → items ≡ t.contents → i < length items → x ≡ get_or items i x → content_of t i ≡ x
  content-read items i x e l is = ap (option_and_then (λ c. c)) (subst (λ xs. slice_get xs i ≡ Some x) e (slice_get_read items (length items) i x refl l is))

  pub group-read : (items : List GroupDef) (i : ℕ) (x : GroupDef) → items ≡ t.groups.parts → i < length items → x ≡ get_or items i x → group_particle t i ≡ x.particle
  group-read items i x e l is = ap (option_and_then (λ (part : GroupDef). part.particle)) (subst (λ xs. slice_get xs i ≡ Some x) e (slice_get_read items (length items) i x refl l is))

  content-within : (type k : ℕ) → content_of t type ≡ Some k → type < length t.contents
  content-within type k e = of (slice_get t.contents type) refl e
    where
      of : (o : Option (Option ℕ)) → slice_get t.contents type ≡ o → option_and_then (λ c. c) o ≡ Some k → type < length t.contents
      of None s f = absurd (none-some k f)
      of (Some c) s f = slice_get_within t.contents type c s

  group-within : (g k : ℕ) → group_particle t g ≡ Some k → g < length t.groups.parts
  group-within g k e = of (slice_get t.groups.parts g) refl e
    where
      of : (o : Option GroupDef) → slice_get t.groups.parts g ≡ o → option_and_then (λ part. part.particle) o ≡ Some k → g < length t.groups.parts
      of None s f = absurd (none-some k f)
      of (Some part) s f = slice_get_within t.groups.parts g part s

  pub group-there : IsRanked t → (g k : ℕ) → group_particle t g ≡ Some k → k < length t.particles.parts
  group-there ranked g k e = of (slice_get t.groups.parts g) refl e
    where
      there : (o : Option ℕ) → IfSome o (IsBelow t.particles (slice_index t.groups.ranks g)) → o ≡ Some k → k < length t.particles.parts
      there None h f = absurd (none-some k f)
      there (Some q) h f = subst (λ x. x < length t.particles.parts) (same_Some q k f) h.there

      of : (o : Option GroupDef) → slice_get t.groups.parts g ≡ o → option_and_then (λ part. part.particle) o ≡ Some k → k < length t.particles.parts
      of None s f = absurd (none-some k f)
      of (Some part) s f = there part.particle (ranked.groups g part s) f

  pub contents-all : (n : ℕ) (old new : List Bool) → length t.contents ≤ n → IsMarkedMore (IsContentBelow t n) old new → IsMarkedMore (λ k. (type : ℕ) × (content_of t type ≡ Some k)) old new
  contents-all n old new l m =
      same-more (IsContentBelow t n) (λ k. (type : ℕ) × (content_of t type ≡ Some k)) old new m
      (λ k. ((λ x. let a = content-within x.0 k x.1 in (x.0, omega (arith, a, l), x.1)), (λ x. (x.0, x.2))))

  pub groups-all : (n : ℕ) (old new : List Bool) → length t.groups.parts ≤ n → IsMarkedMore (IsGroupBelow t n) old new → IsMarkedMore (λ k. (g : ℕ) × (group_particle t g ≡ Some k)) old new
  groups-all n old new l m =
      same-more (IsGroupBelow t n) (λ k. (g : ℕ) × (group_particle t g ≡ Some k)) old new m
      (λ k. ((λ x. let a = group-within x.0 k x.1 in (x.0, omega (arith, a, l), x.1)), (λ x. (x.0, x.2))))

  -- ---- members
  module _ (ranked : IsRanked t) where
    -- a member is lower than its group
    pub member-below : (p k : ℕ) → Contains (members_at t p) k → (p < length t.particles.parts) × IsBelow t.particles (slice_index t.particles.ranks p) k
    member-below p k c = of (slice_get t.particles.parts p) refl c
      where
        of : (o : Option Part) → slice_get t.particles.parts p ≡ o → Contains (members_in o) k → (p < length t.particles.parts) × IsBelow t.particles (slice_index t.particles.ranks p) k
        of None s c = absurd (omega (arith, c.1))
        of (Some part) s c = (slice_get_within t.particles.parts p part s, All-contains (IsBelow t.particles (slice_index t.particles.ranks p)) (held_particles part.term) k (ranked.particles p part s) c)

    module _ (left : List ℕ) (id : ℕ) (old : List Bool) (s : IsStandingSoFar t (left ++ id ∷ []) old) where
      pub next-there : id < length t.particles.parts
      next-there = All-contains (λ p. p < length t.particles.parts) (left ++ id ∷ []) id s.there (Contains-push left id)

      id-last : (j : ℕ) → j < length (left ++ id ∷ []) → slice_index t.particles.ranks (get_or (left ++ id ∷ []) j 0) ≤ slice_index t.particles.ranks id
      id-last j l =
          let long : length (left ++ id ∷ []) ≡ length left + 1 = length_push left id in
          subst (λ x. slice_index t.particles.ranks (get_or (left ++ id ∷ []) j 0) ≤ slice_index t.particles.ranks x) (get_or-append_seam left id [] 0)
          (s.rises j (length left) 0 (omega (arith, l, long)) (omega (arith, long)))

      not-waiting : (p : ℕ) → slice_index t.particles.ranks id < slice_index t.particles.ranks p → Contains (left ++ id ∷ []) p → ⊥
      not-waiting p higher (j, l, e) =
          let same : get_or (left ++ id ∷ []) j 0 ≡ p = get_or_default (left ++ id ∷ []) j 0 p l ∙ e in
          let low = id-last j l in
          let low2 : slice_index t.particles.ranks p ≤ slice_index t.particles.ranks id = subst (λ x. slice_index t.particles.ranks x ≤ slice_index t.particles.ranks id) same low in
          omega (arith, higher, low2)

      -- what is next is marked, if it stands
      stand-marked : Stands t id → marked old id ≡ true
      stand-marked h = of id refl h
        where
          of : (q : ℕ) → q ≡ id → Stands t q → marked old q ≡ true
          of _ e (content type p is) = s.roots p (inl (type, is))
          of _ e (group g p is) = s.roots p (inr (g, is))
          of _ e (member p q h c) =
              let low = member-below p q c in
              elim (s.members p q low.0) [
                | inl waits ↦ absurd (not-waiting p (subst (λ x. slice_index t.particles.ranks x < slice_index t.particles.ranks p) e low.1.lower) waits)
                | inr done ↦ done h c
              ]

      pub looked : (new : List Bool) → IsLooked t id old new → IsStandingSoFar t left new
      looked new look = record {
        count = count look;
        there = All-from_get_or (λ p. p < length t.particles.parts) left 0 (λ i l.
            subst (λ p. p < length t.particles.parts) (get_or_append_left left (id ∷ []) 0 i l)
            (All-get_or (λ p. p < length t.particles.parts) (left ++ id ∷ []) i 0 (let long = length_push left id in omega (arith, l, long)) s.there));
        rises = λ i j d le l.
            let long : length (left ++ id ∷ []) ≡ length left + 1 = length_push left id in
            subst (λ x. slice_index t.particles.ranks x ≤ slice_index t.particles.ranks (get_or left j d)) (get_or_append_left left (id ∷ []) d i (omega (arith, le, l)))
            (subst (λ x. slice_index t.particles.ranks (get_or (left ++ id ∷ []) i d) ≤ slice_index t.particles.ranks x) (get_or_append_left left (id ∷ []) d j l)
            (s.rises i j d le (omega (arith, l, long))));
        sound = λ k m. sound look k m;
        roots = λ k r. kept look k (s.roots k r);
        members = λ p k l. elim (s.members p k l) [
          | inl waits ↦ elim (Contains-push_cases left id p waits) [
            | inl c ↦ inl c
            | inr same ↦ inr (subst (λ q. Stands t q → Contains (members_at t q) k → marked new k ≡ true) same (λ h c. done look k h c))
          ]
          | inr f ↦ inr (λ h c. kept look k (f h c))
        ];
      }
        where
          count : IsLooked t id old new → length new ≡ length t.particles.parts
          count (inl (m, more)) = more.count ∙ s.count
          count (inr (m, same)) = ap length same ∙ s.count

          kept : IsLooked t id old new → (k : ℕ) → marked old k ≡ true → marked new k ≡ true
          kept (inl (m, more)) k h = (more.marks k).1 (inl h)
          kept (inr (m, same)) k h = subst (λ ms. marked ms k ≡ true) (sym same) h

          sound : IsLooked t id old new → (k : ℕ) → marked new k ≡ true → Stands t k
          sound (inl (m, more)) k h = elim ((more.marks k).0 h) [ inl o ↦ s.sound k o | inr c ↦ member id k (s.sound id m) c ]
          sound (inr (m, same)) k h = s.sound k (subst (λ ms. marked ms k ≡ true) same h)

          done : IsLooked t id old new → (k : ℕ) → Stands t id → Contains (members_at t id) k → marked new k ≡ true
          done (inl (m, more)) k h c = (more.marks k).1 (inr c)
          done (inr (m, same)) k h c = absurd (true≢false (sym (stand-marked h) ∙ m))

    pub standing-begins : (order : List ℕ) (marks : List Bool) → IsByRank t order → length marks ≡ length t.particles.parts → ((k : ℕ) → (marked marks k ≡ true) ↔ IsRoot t k) → IsStandingSoFar t order marks
    standing-begins order marks by count roots = record {
      count = count;
      there = by.there;
      rises = by.rises;
      sound = λ k m. root k ((roots k).0 m);
      roots = λ k r. (roots k).1 r;
      members = λ p k l. inl (by.each p l);
    }
      where
        root : (k : ℕ) → IsRoot t k → Stands t k
        root k (inl (type, is)) = content type k is
        root k (inr (g, is)) = group g k is

    pub standing-ends : (left : List ℕ) (marks : List Bool) → length left ≤ 0 → IsStandingSoFar t left marks → AreStanding t marks
    standing-ends left marks none s = record { count = s.count; stand = λ k. (s.sound k, all k) }
      where
        all : (k : ℕ) → Stands t k → marked marks k ≡ true
        all _ (content type p is) = s.roots p (inl (type, is))
        all _ (group g p is) = s.roots p (inr (g, is))
        all _ (member p q h c) = elim (s.members p q (member-below p q c).0) [ inl waits ↦ absurd (omega (arith, waits.1, none)) | inr done ↦ done h c ]

-- one that there may be
pub some-more : (o : Option ℕ) (x : ℕ) (marks : List Bool) → o ≡ Some x → x < length marks → IsMarkedMore (λ k. o ≡ Some k) marks (set marks x true)
some-more o x marks is there = one-more (λ k. o ≡ Some k) marks x there (λ k. ((λ e. same_Some x k (sym is ∙ e)), (λ e. is ∙ ap (λ y. Some y) e)))

pub nothing-more : (o : Option ℕ) (marks : List Bool) → o ≡ None → IsMarkedMore (λ k. o ≡ Some k) marks marks
nothing-more o marks is = none-more (λ k. o ≡ Some k) marks (λ k e. none-some k (sym is ∙ e))
