-- The automaton of an all, of what was built.
use Rattle.std.proofs.Common.{◌≡◌, ◌≢◌, ℕ, zero, suc, ◌+◌, ◌-◌, ◌<◌, ◌≤◌, ◌==◌, ◌||◌, ◌⊎◌, ◌↔◌, not, Bool, true, false, IsTrue, List, [], ◌∷◌, ◌++◌, Option, Some, None, map, length, get_or, slice_get, refl, sym, ap, subst, ◌∙◌, inl, inr, arith, eq-eqb, eqb-true, if◌then◌else◌}
use Rattle.std.specs.Prelude.{MatchOption, All, slice_index}
use Rattle.std.specs.List.{list_any}
use Rattle.std.proofs.lemmas.Bool.{cases_eq, cases_lt, false≢true}
use Rattle.std.proofs.lemmas.List.{length-map, get_or-map, get_or_past}
use Rattle.std.proofs.lemmas.Option.{slice_get-get_or, slice_get_past}
use Rattle.std.proofs.lemmas.List.Elements.{All-nil, All-cons, All-head, All-tail, Contains-get_or}
use Rattle.xs_names.specs.Names.{NameTable}
use Rattle.xs_names.specs.Numbering.{HasNoRepeats}
use Rattle.xs_components.specs.declared.namespace_constraint.NsConstraint.TheVariants.{Any}
use Rattle.particle_models.specs.Particles.{Particle, Place, Mark}
use Rattle.particle_models.specs.Words.{Words, WordsOfEach, BeginsWord, EndsIn, IsAmbiguous, names_of}
use Rattle.content_automaton.specs.declared.symbol_terms.Accepts.{Accepts}
use Rattle.content_automaton.specs.declared.symbol_terms.Accepts.TheVariants.{Wildcard}
use Rattle.content_automaton.specs.declared.attribution.Attribution.{Attribution}
use Rattle.content_automaton.specs.Terms.{ExpandedName}
use Rattle.content_automaton.specs.Symbols.{SymbolTable, IsNamed, AreNamesOf, AreSymbolsOf, symbol_of, count_of}
use Rattle.content_automaton.specs.Listed.{IsListing}
use Rattle.content_automaton.proofs.Symboling.{symbol_below}
use Rattle.content_models.specs.Ambiguity.{IsUnambiguous, IsAmbiguousBy}
use Rattle.content_models.specs.declared.member.AllMember.{AllMember}
use Rattle.content_models.specs.declared.machine.AllMachine.{AllMachine}
use Rattle.content_models.specs.Shape.{no_member, particles_of, IsOnce, IsAllOf, HaveNames, AreLetters}
use Rattle.content_models.specs.States.{IsMachineOf, Recognizes}
use Rattle.content_models.proofs.Counting.{place_at, index, count_of as marks_of_member, count_same, count_other, IsOf, Fits, all_counts}
use Rattle.content_models.proofs.Filling.{at, Fit, NoneTwice, mark_at, fits_at, begins, word_has}
use Rattle.content_models.proofs.Recognizing.{model_words, words_model, recognizes_words, recognizes_empty}
use Rattle.content_models.proofs.Noting.{has_below}
use Rattle.content_models.specs.Letters.{has, has_at, is_filled, IsLetterOf, AreApart, Meet, AreLettersOf}
use Rattle.content_models.specs.Modelled.{AllModel, letter_of, IsAllModel, IsMemberFor, IsAllAutomatonOf, terms_at}

same_at : {X : Type 0} (xs : List X) (k : ℕ) (d e : X) → k < length xs → get_or xs k d ≡ get_or xs k e
same_at [] k d e l = absurd (omega arith)
same_at (x ∷ xs) zero d e l = refl
same_at (x ∷ xs) (suc k) d e l = same_at xs k d e (omega arith)

not_empty : {X : Type 0} (front : List X) (x : X) (rest : List X) → front ++ x ∷ rest ≡ [] → ⊥
not_empty [] x rest e = cc
not_empty (y ∷ front) x rest e = cc

middle : {X : Type 0} (P : X → Type 0) (front : List X) (x : X) (rest : List X) → All P (front ++ x ∷ rest) → P x
middle P [] x rest h = All-head P x rest h
middle P (y ∷ front) x rest h = middle P front x rest (All-tail P y (front ++ x ∷ rest) h)

-- a list that has a number is filled, and a filled list has one
has_filled : (row : List ℕ) (n : ℕ) → has row n ≡ true → is_filled row ≡ true
has_filled [] n t = absurd (false≢true t)
has_filled (x ∷ row) n t = by (length (x ∷ row)) (omega arith)
  where
    by : (k : ℕ) → 0 < k → not (k == 0) ≡ true
    by zero l = absurd (omega arith)
    by (suc k) l = by_test (suc k == 0) refl
      where
        by_test : (b : Bool) → (suc k == 0) ≡ b → not b ≡ true
        by_test true e = absurd (let z = eqb-true (suc k) 0 e in omega arith)
        by_test false e = refl

filled_has : (row : List ℕ) → is_filled row ≡ true → (n : ℕ) × (has row n ≡ true)
filled_has [] t = absurd (false≢true t)
filled_has (x ∷ row) t = (x, ap (λ b. b || list_any (λ m. m == x) row) (eq-eqb x x refl))

-- the table has the names of the symbols
pub within_of : (t : NameTable) (terms : List Accepts) (s : SymbolTable) → AreSymbolsOf terms s → ((n : ℕ) → IsNamed terms n → n < length t.names) → AreNamesOf t s.names
within_of t terms s are within k d l = within (get_or s.names k d) ((are.names (get_or s.names k d)).0 (Contains-get_or s.names k d l))

-- what was built, whatever the model
pub record IsBuilt (t : NameTable) (s : SymbolTable) (terms : List Accepts) (members : List AllMember) (accepted : List (List ℕ)) (attributions : List Attribution)
    (letters : List ℕ) (pair : Option (ℕ × ℕ)) (optional : Bool) (m : AllMachine) : Type 0 where
  pub listing : IsListing t s terms accepted attributions
  pub letters_are : AreLettersOf accepted (length accepted) (count_of s) letters pair
  pub machine : IsMachineOf (map is_filled accepted) members optional m
  pub count : length terms ≡ length members
  pub few : length members ≤ 64
  pub named : (n : ℕ) → n < count_of s → (name : ExpandedName) × (symbol_of t s name ≡ n)
  pub once : HasNoRepeats t.names

pub built_of : (t : NameTable) (s : SymbolTable) (terms : List Accepts) (members : List AllMember) (accepted : List (List ℕ)) (attributions : List Attribution)
    (letters : List ℕ) (pair : Option (ℕ × ℕ)) (optional : Bool) (m : AllMachine) →
    IsListing t s terms accepted attributions → (slice other : List (List ℕ)) (count : ℕ) (items flags : List Bool) → slice ≡ accepted → other ≡ accepted → count ≡ count_of s →
    AreLettersOf slice (length slice) count letters pair → items ≡ map is_filled other → flags ≡ items → IsMachineOf flags members optional m →
    length terms ≡ length members → length members ≤ 64 →
    ((t : NameTable) → AreNamesOf t s.names → HasNoRepeats t.names → (n : ℕ) → n < count_of s → (name : ExpandedName) × (symbol_of t s name ≡ n)) →
    AreNamesOf t s.names → HasNoRepeats t.names → IsBuilt t s terms members accepted attributions letters pair optional m
built_of t s terms members accepted attributions letters pair optional m listing slice other count items flags e f g are h k machine long few named within once = record {
  listing = listing;
  letters_are = subst (λ (xs : List (List ℕ)). AreLettersOf xs (length xs) (count_of s) letters pair) e (subst (λ (n : ℕ). AreLettersOf slice (length slice) n letters pair) g are);
  machine = subst (λ (xs : List Bool). IsMachineOf xs members optional m) (k ∙ (h ∙ ap (map is_filled) f)) machine;
  count = long;
  few = few;
  named = named t within once;
  once = once;
}

module _ (t : NameTable) (s : SymbolTable) (terms : List Accepts) (members : List AllMember) (accepted : List (List ℕ)) (attributions : List Attribution)
    (letters : List ℕ) (pair : Option (ℕ × ℕ)) (optional : Bool) (m : AllMachine) (built : IsBuilt t s terms members accepted attributions letters pair optional m)
    (kept : List ℕ) (kept_is : kept ≡ map (λ (a : AllMember). a.term) members)
    (accepts : ℕ → ExpandedName → Bool) (model : Particle) (of : IsAllModel t terms members optional accepts model) where
  abbrev automaton : AllModel
  automaton = record { machine = m; symbols = s; letters = letters; terms = kept; attributions = attributions; pair = pair }

  abbrev letter : ExpandedName → ℕ
  letter name = letter_of automaton (symbol_of t s name)

  many : length accepted ≡ length members
  many = built.listing.count ∙ built.count

  -- a member accepts a name exactly where it has the name's symbol
  accepts_at : (k : ℕ) → k < length members → (name : ExpandedName) → has_at accepted k (symbol_of t s name) ≡ accepts (at accepts members k).term name
  accepts_at k l name =
      let n = length-map members (λ (a : AllMember). a.term) in let c = built.count in
      built.listing.same built.once k (Wildcard Any 0) (omega arith) name ∙
      (sym (of.accept k (Wildcard Any 0) (omega arith) name) ∙
      ap (λ id. accepts id name) (get_or-map (λ (a : AllMember). a.term) members k no_member 0 l))

  filled_at : (k : ℕ) → k < length members → get_or (map is_filled accepted) k false ≡ is_filled (get_or accepted k [])
  filled_at k l = get_or-map is_filled accepted k [] false (let c = many in omega arith)

  below_at : (k n : ℕ) → k < length members → has_at accepted k n ≡ true → n < count_of s
  below_at k n l h = has_below (count_of s) (get_or accepted k []) (built.listing.below k [] (let c = many in omega arith)) n h

  -- ---- members that have to come accept names, or no word of the all is there
  has_name : (k : ℕ) → k < length members → is_filled (get_or accepted k []) ≡ true → (name : ExpandedName) × IsTrue (accepts (at accepts members k).term name)
  has_name k l f =
      let h = filled_has (get_or accepted k []) f in
      let n = built.named h.0 (below_at k h.0 l h.1) in
      (n.0, sym (accepts_at k l n.0) ∙ (ap (λ x. has_at accepted k x) n.1 ∙ h.1))

  all_have : m.has_words ≡ true → (j : ℕ) → j < length members → 0 < (at accepts members j).least → (name : ExpandedName) × IsTrue (accepts (at accepts members j).term name)
  all_have w j l p = has_name j l (sym (filled_at j l) ∙ built.machine.has_words.0 w j no_member l p)

  no_word : m.has_words ≡ false → (word : List (Mark ExpandedName)) → WordsOfEach accepts (particles_of members) [] 0 word → ⊥
  no_word w word h = false≢true (sym w ∙ built.machine.has_words.1 (λ j d l p.
      let q : 0 < (at accepts members j).least = subst (λ (a : AllMember). 0 < a.least) (same_at members j d no_member l) p in
      let n = word_has accepts members word h j l q in
      filled_at j l ∙ has_filled (get_or accepted j []) (symbol_of t s n.0) (accepts_at j l n.0 ∙ n.1)))

  -- ---- the place in which a word ends
  ends_fits : (names : List ExpandedName) (name : ExpandedName) (place : Place) → EndsIn accepts model names name place → Fits accepts 0 members (record { place = place; name = name })
  ends_fits names name place (front, rest, w, e) =
      elim (model_words accepts members optional model of.is_all (front ++ record { place = place; name = name } ∷ rest) w) [
        | inl o ↦ absurd (not_empty front (record { place = place; name = name }) rest o.1)
        | inr h ↦ middle (Fits accepts 0 members) front (record { place = place; name = name }) rest (all_counts accepts members 0 (front ++ record { place = place; name = name } ∷ rest) h).0
      ]

  ends_word : (names : List ExpandedName) (name : ExpandedName) (place : Place) → EndsIn accepts model names name place → (word : List (Mark ExpandedName)) × WordsOfEach accepts (particles_of members) [] 0 word
  ends_word names name place (front, rest, w, e) =
      elim (model_words accepts members optional model of.is_all (front ++ record { place = place; name = name } ∷ rest) w) [
        | inl o ↦ absurd (not_empty front (record { place = place; name = name }) rest o.1)
        | inr h ↦ (front ++ record { place = place; name = name } ∷ rest, h)
      ]

  pub wordless : m.has_words ≡ false → IsUnambiguous accepts model
  wordless w p q a = let h = ends_word a.names a.name p a.one in no_word w h.0 h.1

  last_mark : (name : ExpandedName) (names : List ExpandedName) (front : List (Mark ExpandedName)) → names_of front ≡ names ++ name ∷ [] →
      (first : List (Mark ExpandedName)) × (place : Place) × (front ≡ first ++ record { place = place; name = name } ∷ [])
  last_mark name [] [] e = absurd (cc)
  last_mark name [] (x ∷ []) e = let n : x.name ≡ name = cc in ([], x.place, (λ i. record { place = x.place; name = n i } ∷ []))
  last_mark name [] (x ∷ y ∷ front) e = absurd (cc)
  last_mark name (n ∷ names) [] e = absurd (cc)
  last_mark name (n ∷ names) (x ∷ front) e = let r = last_mark name names front (cc) in (x ∷ r.0, r.1, ap (λ z. x ∷ z) r.2)

  begins_fits : (names : List ExpandedName) (name : ExpandedName) → BeginsWord accepts model (names ++ name ∷ []) → (place : Place) × Fits accepts 0 members (record { place = place; name = name })
  begins_fits names name (front, rest, w, e) =
      let r = last_mark name names front e in
      let x : Mark ExpandedName = record { place = r.1; name = name } in
      let same : front ++ rest ≡ r.0 ++ x ∷ rest = ap (λ z. z ++ rest) r.2 ∙ after r.0 x rest in
      (r.1, ends_fits (names_of r.0) name r.1 (r.0, rest, subst (λ (z : List (Mark ExpandedName)). Words accepts model [] z) same w, refl))
    where
      after : {X : Type 0} (xs : List X) (x : X) (ys : List X) → (xs ++ x ∷ []) ++ ys ≡ xs ++ x ∷ ys
      after [] x ys = refl
      after (y ∷ xs) x ys = ap (λ z. y ∷ z) (after xs x ys)

  -- ---- each name is accepted by one member at most
  module _ (w : m.has_words ≡ true) where
    letter_is : (name : ExpandedName) → letter name ≡ get_or letters (symbol_of t s name) 64
    letter_is name = rw w refl

    letter_at : (name : ExpandedName) → IsLetterOf accepted (length accepted) (symbol_of t s name) (letter name)
    letter_at name = subst (IsLetterOf accepted (length accepted) (symbol_of t s name)) (sym (letter_is name)) (built.letters_are.each (symbol_of t s name) (symbol_below t s name))

    module _ (apart : AreApart accepted (length accepted)) where
      are_letters : AreLetters accepts members letter
      are_letters i d l name = (
        (λ a.
            let h : has_at accepted i (symbol_of t s name) ≡ true = accepts_at i l name ∙ subst (λ (x : AllMember). IsTrue (accepts x.term name)) (same_at members i d no_member l) a in
            let c = many in
            elim (letter_at name) [
              | inl z ↦ absurd (false≢true (sym (z.1 i (omega arith)) ∙ h))
              | inr z ↦ apart (symbol_of t s name) (letter name) i z.0 (omega arith) z.1 h
            ]),
        (λ e.
            let c = many in let f = built.few in
            elim (letter_at name) [
              | inl z ↦ absurd (let g = z.0 in omega arith)
              | inr z ↦ subst (λ (x : AllMember). IsTrue (accepts x.term name)) (sym (same_at members i d no_member l))
                  (sym (accepts_at i l name) ∙ (ap (λ k. has_at accepted k (symbol_of t s name)) (sym e) ∙ z.1))
            ]),
      )

      known_letter : (name : ExpandedName) → (letter name < length members) ⊎ (64 ≤ letter name)
      known_letter name = elim (letter_at name) [
        | inl z ↦ inr (let g = z.0 in omega arith)
        | inr z ↦ inl (let g = z.0 in let c = many in omega arith)
      ]

      -- a mark is of the member that accepts its name
      fits_place : (name : ExpandedName) (place : Place) → Fits accepts 0 members (record { place = place; name = name }) → (letter name < length members) × (place ≡ place_at (letter name) (at accepts members (letter name)))
      fits_place name place h =
          let x : Mark ExpandedName = record { place = place; name = name } in
          let i : ℕ = index x in
          let l : i < 0 + length members = h.1 in
          let z : i - 0 ≡ i = omega arith in
          let o : IsOf accepts (at accepts members i) i x = subst (λ (k : ℕ). IsOf accepts (at accepts members k) i x) z h.2 in
          let e : letter name ≡ i = (are_letters i no_member (omega arith) name).0 o.1 in
          (omega arith, subst (λ (k : ℕ). place ≡ place_at k (at accepts members k)) (sym e) o.0)

      pub unambiguous : IsUnambiguous accepts model
      unambiguous p q a =
          let x = (fits_place a.name p (ends_fits a.names a.name p a.one)).1 in
          let y = (fits_place a.name q (ends_fits a.names a.name q a.other)).1 in
          a.differ (x ∙ sym y)

      pub given_word : (name : ExpandedName) → IsMemberFor accepts model name (slice_get kept (letter name))
      given_word name = elim (cases_lt (letter name) (length members)) [
        | inl l ↦ subst (IsMemberFor accepts model name) (sym (kept_at (letter name) l)) (
          (are_letters (letter name) no_member l name).1 refl,
          λ names place ends. ap (λ (p : Place). p.number) (fits_place name place (ends_fits names name place ends)).1,
        )
        | inr l ↦ subst (IsMemberFor accepts model name) (sym (slice_get_past kept (letter name) (let n = kept_many in omega arith)))
            (λ names b. let f = begins_fits names name b in let k = (fits_place name f.0 f.1).0 in omega arith)
      ]
        where
          kept_many : length kept ≡ length members
          kept_many = ap length kept_is ∙ length-map members (λ (a : AllMember). a.term)

          kept_at : (k : ℕ) → k < length members → slice_get kept k ≡ Some (at accepts members k).term
          kept_at k l =
              slice_get-get_or kept k 0 (let n = kept_many in omega arith) ∙
              ap Some (ap (λ xs. get_or xs k 0) kept_is ∙ get_or-map (λ (a : AllMember). a.term) members k no_member 0 l)

      pub recognizes_all : Recognizes accepts model letter m
      recognizes_all = recognizes_words accepts members optional model of.is_all of.once built.few (map is_filled accepted) m built.machine letter w are_letters known_letter (all_have w)

    -- two members that accept one name
    two_ends : (i : ℕ) (name : ExpandedName) → i < length members → IsTrue (accepts (at accepts members i).term name) → EndsIn accepts model [] name (place_at i (at accepts members i))
    two_ends i name l a =
        let x : Mark ExpandedName = mark_at accepts members i name in
        let fit : Fit accepts members (x ∷ []) = All-cons (Fits accepts 0 members) x [] (fits_at accepts members i name l a) (All-nil (Fits accepts 0 members)) in
        let b = begins accepts members of.once (all_have w) (x ∷ []) fit (λ j k. twice j (cases_eq i j)) in
        ([], b.0, words_model accepts members optional model of.is_all (x ∷ b.0) (inr b.1), refl)
      where
        twice : (j : ℕ) → (i ≡ j) ⊎ (i ≢ j) → marks_of_member j (mark_at accepts members i name ∷ []) ≤ 1
        twice j (inl e) = let c = count_same j (mark_at accepts members i name) [] e in let n : marks_of_member {Name = ExpandedName} j [] ≡ 0 = refl in omega arith
        twice j (inr d) = let c = count_other j (mark_at accepts members i name) [] d in let n : marks_of_member {Name = ExpandedName} j [] ≡ 0 = refl in omega arith

    pub met_ambiguous : (p : ℕ × ℕ) → Meet accepted (length accepted) (count_of s) p → (p.0 < length kept) × (p.1 < length kept) × IsAmbiguousBy accepts model (Some (terms_at kept p))
    met_ambiguous p h =
        let c = many in
        let n = built.named h.3 h.4 in
        let a = p.0 in let b = p.1 in
        let la = h.0 in let lb = h.1 in
        let k : length kept ≡ length members = ap length kept_is ∙ length-map members (λ (a : AllMember). a.term) in
        let one : IsTrue (accepts (at accepts members p.0).term n.0) = sym (accepts_at p.0 (omega arith) n.0) ∙ (ap (λ x. has_at accepted p.0 x) n.1 ∙ h.5) in
        let other : IsTrue (accepts (at accepts members p.1).term n.0) = sym (accepts_at p.1 (omega arith) n.0) ∙ (ap (λ x. has_at accepted p.1 x) n.1 ∙ h.6) in (
          omega arith,
          omega arith,
          (
            place_at p.0 (at accepts members p.0),
            place_at p.1 (at accepts members p.1),
            record {
              names = [];
              name = n.0;
              one = two_ends p.0 n.0 (omega arith) one;
              other = two_ends p.1 n.0 (omega arith) other;
              differ = λ e. h.2 (ap (λ (q : Place). get_or q.path 0 0) e);
            },
            sym (term_at p.0 (omega arith)),
            sym (term_at p.1 (omega arith)),
          ),
        )
      where
        term_at : (k : ℕ) → k < length members → slice_index kept k ≡ (at accepts members k).term
        term_at k l = ap (λ xs. get_or xs k 0) kept_is ∙ get_or-map (λ (a : AllMember). a.term) members k no_member 0 l

    pub pair_is : (o : Option (ℕ × ℕ)) → MatchOption o (AreApart accepted (length accepted)) (Meet accepted (length accepted) (count_of s)) →
        MatchOption o (IsUnambiguous accepts model) (λ p. (p.0 < length kept) × (p.1 < length kept) × IsAmbiguousBy accepts model (Some (terms_at kept p)))
    pair_is None apart = unambiguous apart
    pair_is (Some p) meet = met_ambiguous p meet

    apart_of : (o : Option (ℕ × ℕ)) → MatchOption o (AreApart accepted (length accepted)) (Meet accepted (length accepted) (count_of s)) → IsUnambiguous accepts model → AreApart accepted (length accepted)
    apart_of None apart un = apart
    apart_of (Some p) meet un = let a = met_ambiguous p meet in absurd (un a.2.0 a.2.1 a.2.2)

  past_letter : m.has_words ≡ false → (name : ExpandedName) → letter name ≡ 64
  past_letter w name = rw w refl

  given_of : (b : Bool) → m.has_words ≡ b → IsUnambiguous accepts model → (name : ExpandedName) → IsMemberFor accepts model name (slice_get kept (letter name))
  given_of true w un name = given_word w (apart_of w pair built.letters_are.pair un) name
  given_of false w un name =
      let k : length kept ≡ length members = ap length kept_is ∙ length-map members (λ (a : AllMember). a.term) in
      let f = built.few in let e = past_letter w name in
      subst (IsMemberFor accepts model name) (sym (slice_get_past kept (letter name) (omega arith)))
      (λ names b. absurd (none_begins names b))
    where
      none_begins : (names : List ExpandedName) → BeginsWord accepts model (names ++ name ∷ []) → ⊥
      none_begins names (front, rest, h, e) = elim (model_words accepts members optional model of.is_all (front ++ rest) h) [
        | inl o ↦ empty names front e (no_front front rest o.1)
        | inr x ↦ no_word w (front ++ rest) x
      ]
        where
          no_front : {X : Type 0} (xs ys : List X) → xs ++ ys ≡ [] → xs ≡ []
          no_front [] ys e = refl
          no_front (x ∷ xs) ys e = absurd (cc)

          empty : (names : List ExpandedName) (front : List (Mark ExpandedName)) → names_of front ≡ names ++ name ∷ [] → front ≡ [] → ⊥
          empty names front e z = not_empty names name [] (sym e ∙ ap names_of z)

  recognizes_of : (b : Bool) → m.has_words ≡ b → IsUnambiguous accepts model → Recognizes accepts model letter m
  recognizes_of true w un = recognizes_all w (apart_of w pair built.letters_are.pair un)
  recognizes_of false w un =
      recognizes_empty accepts members optional model of.is_all of.once built.few (map is_filled accepted) m built.machine letter w
      (λ name. let e = past_letter w name in omega arith) (no_word w)

  pair_for : (b : Bool) → m.has_words ≡ b → MatchOption (if m.has_words then pair else None) (IsUnambiguous accepts model)
      (λ p. (p.0 < length kept) × (p.1 < length kept) × IsAmbiguousBy accepts model (Some (terms_at kept p)))
  pair_for true w = rw w (pair_is w pair built.letters_are.pair)
  pair_for false w = rw w (wordless w)

  pub automaton_of : IsAllAutomatonOf t terms accepts members model automaton
  automaton_of = record {
    recognizes = recognizes_of m.has_words refl;
    given = given_of m.has_words refl;
    pair = pair_for m.has_words refl;
    terms_are = kept_is;
    count = built.count;
    attributed = built.listing.attributed built.once;
  }
