-- What is found of child elements, one after another.
use Rattle.std.proofs.Common.{◌≡◌, ℕ, suc, ◌<◌, ◌≤◌, ◌↔◌, inl, inr, Bool, true, false, IsTrue, List, [], ◌∷◌, ◌++◌, Option, None, Some, take, drop, length, get_or, refl, sym, ap, subst, ◌∙◌, arith, length-append}
use Rattle.std.specs.Prelude.{MatchOption, slice_index, slice_index_or}
use Rattle.std.proofs.lemmas.Bool.{cases_lt, false≢true}
use Rattle.std.proofs.lemmas.List.{take_all, take-take, take-append-drop, take-append-le, get_or_append_left, map-append}
use Rattle.std.proofs.Math.Seq.{take-suc, get_or-append_seam}
use Rattle.particle_models.specs.Words.{BeginsWord}
use Rattle.particle_forms.specs.Models.{model_of}
use Rattle.particle_forms.specs.Accepted.{accepts}
use Rattle.content_automaton.specs.Terms.{ExpandedName, name_at}
use Rattle.assessment.specs.Attribution.{SchemaSet, expanded, IsWord, Begins, BeginUpTo, IsStuck, IsBefore, IsTermOf, AreTermsBy}
use Rattle.assessment.specs.inside.Found.{stuck_after, IsNextTerm, AreFound}
use Rattle.assessment.proofs.Prefixes.{begins-first, word-begins}

module _ (s : SchemaSet) (p : ℕ) where
  -- ---- fewer names begin a word too
  pub begins-take : (children : List ℕ) (k n : ℕ) → k ≤ n → Begins s p (take n children) → Begins s p (take k children)
  begins-take children k n l h =
      let whole : take k children ++ drop k (take n children) ≡ take n children = ap (λ xs. xs ++ drop k (take n children)) (sym (take-take k n children l)) ∙ take-append-drop k (take n children) in
      let same : expanded s (take n children) ≡ expanded s (take k children) ++ expanded s (drop k (take n children)) =
      ap (expanded s) (sym whole) ∙ map-append (name_at s.names) (take k children) (drop k (take n children)) in
      begins-first (accepts s.names s.members s.parts) (model_of s.parts p) (expanded s (take k children)) (expanded s (drop k (take n children)))
      (subst (λ names. BeginsWord (accepts s.names s.members s.parts) (model_of s.parts p) names) same h)

  pub word-take : (children : List ℕ) (k : ℕ) → IsWord s p children → Begins s p (take k children)
  word-take children k h =
      let same : expanded s children ≡ expanded s (take k children) ++ expanded s (drop k children) =
      ap (expanded s) (sym (take-append-drop k children)) ∙ map-append (name_at s.names) (take k children) (drop k children) in
      begins-first (accepts s.names s.members s.parts) (model_of s.parts p) (expanded s (take k children)) (expanded s (drop k children))
      (subst (λ names. BeginsWord (accepts s.names s.members s.parts) (model_of s.parts p) names) same
      (word-begins (accepts s.names s.members s.parts) (model_of s.parts p) (expanded s children) h))

  -- ---- before the stuck place the children begin a word, and nowhere else
  pub before-begins : (children : List ℕ) (stuck : Option ℕ) → IsStuck s p children stuck → (i : ℕ) → IsBefore s p stuck i → Begins s p (take (suc i) children)
  before-begins children None is i b = word-take children (suc i) is
  before-begins children (Some k) is i b = is.0 i b

  pub begins-before : (children : List ℕ) (stuck : Option ℕ) → IsStuck s p children stuck → (i : ℕ) → i < length children → Begins s p (take (suc i) children) → IsBefore s p stuck i
  begins-before children None is i l h = tt
  begins-before children (Some k) (upto, inl (there, ends)) i l h = elim (cases_lt i k) [
    | inl less ↦ less
    | inr more ↦ absurd (ends (begins-take children (suc k) (suc i) (omega arith) h))
  ]
  begins-before children (Some k) (upto, inr (all, nothing)) i l h = omega arith

  -- ---- one child more
  pub found-none : AreFound s p [] None []
  found-none = record {
    each = refl;
    are = λ i l. absurd (omega arith);
    stuck_is = λ k l. absurd (omega arith);
  }

  module _ (children : List ℕ) (name : ℕ) where
    abbrev more : List ℕ
    more = children ++ name ∷ []

    many : length more ≡ suc (length children)
    many = length-append children (name ∷ []) ∙ omega arith

    first-more : (k : ℕ) → k ≤ length children → take k more ≡ take k children
    first-more k l = take-append-le k children (name ∷ []) l

    begins-more : (k : ℕ) → k < length children → Begins s p (take (suc k) children) → Begins s p (take (suc k) more)
    begins-more k l h = subst (Begins s p) (sym (first-more (suc k) (omega arith))) h

    begins-less : (k : ℕ) → k < length children → Begins s p (take (suc k) more) → Begins s p (take (suc k) children)
    begins-less k l h = subst (Begins s p) (first-more (suc k) (omega arith)) h

    whole-more : (k : ℕ) → k ≡ length children → take (suc k) more ≡ more
    whole-more k e = take_all (suc k) more (let m = many in omega arith)

    up-to-more : (n : ℕ) → n ≤ length children → BeginUpTo s p children n → BeginUpTo s p more n
    up-to-more n l h = λ k less. begins-more k (omega arith) (h k less)

    module _ (goes_on : Bool) (answer : IsTrue goes_on ↔ Begins s p more) where
      stuck-more : (stuck : Option ℕ) (count : ℕ) → count ≡ length children →
          MatchOption stuck (BeginUpTo s p children (length children)) (λ i. (i < length children) × BeginUpTo s p children i × (Begins s p (take (suc i) children) → ⊥)) →
          (b : Bool) → goes_on ≡ b →
          MatchOption (stuck_after stuck b count) (BeginUpTo s p more (length more)) (λ i. (i < length more) × BeginUpTo s p more i × (Begins s p (take (suc i) more) → ⊥))
      stuck-more (Some i) count e (l, upto, ends) b is = (
        (let m = many in omega arith),
        up-to-more i (omega arith) upto,
        (λ h. ends (begins-less i l h)),
      )
      stuck-more None count e upto true is = each-begins
        where
          each-begins : BeginUpTo s p more (length more)
          each-begins k l = elim (cases_lt k (length children)) [
            | inl less ↦ begins-more k less (upto k less)
            | inr last ↦ subst (Begins s p) (sym (whole-more k (let m = many in omega arith))) (answer.0 is)
          ]
      stuck-more None count e upto false is = (
        (let m = many in omega arith),
        up-to-more count (omega arith) (λ k l. upto k (omega arith)),
        (λ h. false≢true (sym is ∙ answer.1 (subst (Begins s p) (whole-more count e) h))),
      )

      pub found-more : (stuck : Option ℕ) (terms : List (Option ℕ)) (term : Option ℕ) → AreFound s p children stuck terms →
          IsNextTerm s p (expanded s children) (name_at s.names name) term → AreFound s p more (stuck_after stuck goes_on (length terms)) (terms ++ term ∷ [])
      found-more stuck terms term found next = record {
        each = length-append terms (term ∷ []) ∙ (let m = many in let n = found.each in omega arith);
        are = each-term;
        stuck_is = stuck-more stuck (length terms) found.each found.stuck_is goes_on refl;
      }
        where
          Here : List ℕ → ℕ → Option ℕ → Type 0
          Here before n t = IsNextTerm s p (expanded s before) (name_at s.names n) t

          moved : (xs ys : List ℕ) (m n : ℕ) (t u : Option ℕ) → xs ≡ ys → m ≡ n → t ≡ u →
              IsNextTerm s p (expanded s xs) (name_at s.names m) t → IsNextTerm s p (expanded s ys) (name_at s.names n) u
          moved xs ys m n t u e f g h = subst (λ v. IsNextTerm s p (expanded s ys) (name_at s.names n) v) g
              (subst (λ k. IsNextTerm s p (expanded s ys) (name_at s.names k) t) f (subst (λ zs. IsNextTerm s p (expanded s zs) (name_at s.names m) t) e h))

          each-term : (i : ℕ) → i < length more → IsNextTerm s p (expanded s (take i more)) (name_at s.names (slice_index more i)) (slice_index_or (terms ++ term ∷ []) i None)
          each-term i l = elim (cases_lt i (length children)) [
            | inl less ↦
                moved (take i children) (take i more) (get_or children i 0) (get_or more i 0) (get_or terms i None) (get_or (terms ++ term ∷ []) i None)
                (sym (first-more i (omega arith))) (sym (get_or_append_left children (name ∷ []) 0 i less))
                (sym (get_or_append_left terms (term ∷ []) None i (let n = found.each in omega arith))) (found.are i less)
            | inr last ↦
                let is : i ≡ length children = (let m = many in omega arith) in
                moved children (take i more) name (get_or more i 0) term (get_or (terms ++ term ∷ []) i None)
                (sym (first-more i (omega arith) ∙ take_all i children (omega arith)))
                (sym (ap (λ k. get_or more k 0) is ∙ get_or-append_seam children name [] 0))
                (sym (ap (λ k. get_or (terms ++ term ∷ []) k None) (is ∙ sym found.each) ∙ get_or-append_seam terms term [] None))
                next
          ]

  -- ---- all children
  stuck-whole : (children : List ℕ) (is_word : Bool) → IsTrue is_word ↔ IsWord s p children → (stuck : Option ℕ) (count : ℕ) → count ≡ length children →
      MatchOption stuck (BeginUpTo s p children (length children)) (λ i. (i < length children) × BeginUpTo s p children i × (Begins s p (take (suc i) children) → ⊥)) →
      (b : Bool) → is_word ≡ b → IsStuck s p children (stuck_after stuck b count)
  stuck-whole children is_word answer (Some i) count e (l, upto, ends) b is = (upto, inl (l, ends))
  stuck-whole children is_word answer None count e upto true is = answer.0 is
  stuck-whole children is_word answer None count e upto false is = (
    (λ k l. upto k (omega arith)),
    inr (e, (λ h. false≢true (sym is ∙ answer.1 h))),
  )

  next-is : (children : List ℕ) (stuck : Option ℕ) → IsStuck s p children stuck → (i : ℕ) → i < length children → (term : Option ℕ) →
      IsNextTerm s p (expanded s (take i children)) (name_at s.names (slice_index children i)) term → IsTermOf s p children stuck i (slice_index children i) term
  next-is children stuck is i l term h = elim h [
    | inl (own, begins, at) ↦ inl (own, begins-before children stuck is i l (subst (BeginsAs) (sym same) begins), at)
    | inr (none, first) ↦ inr ((λ own before. none own (subst (BeginsAs) same (before-begins children stuck is i before))), first)
  ]
    where
      BeginsAs : List ExpandedName → Type 0
      BeginsAs names = BeginsWord (accepts s.names s.members s.parts) (model_of s.parts p) names

      same : expanded s (take (suc i) children) ≡ expanded s (take i children) ++ name_at s.names (slice_index children i) ∷ []
      same = ap (expanded s) (take-suc children i 0 l) ∙ map-append (name_at s.names) (take i children) (slice_index children i ∷ [])

  pub found-whole : (children : List ℕ) (stuck : Option ℕ) (terms : List (Option ℕ)) (is_word : Bool) → AreFound s p children stuck terms → IsTrue is_word ↔ IsWord s p children →
      AreTermsBy s p children (stuck_after stuck is_word (length terms)) terms
  found-whole children stuck terms is_word found answer =
      let place = stuck-whole children is_word answer stuck (length terms) found.each found.stuck_is is_word refl in
      record {
        each = found.each;
        are = λ i l. next-is children (stuck_after stuck is_word (length terms)) place i l (slice_index_or terms i None) (found.are i l);
        stuck_is = place;
      }
