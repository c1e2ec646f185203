-- Names that begin words of a content model, and the places in which marked prefixes end.
use Rattle.std.proofs.Common.{◌≡◌, ℕ, Bool, true, false, List, [], ◌∷◌, ◌++◌, refl, sym, ap, subst, ◌∙◌, append_assoc, append-nil}
use Rattle.std.proofs.lemmas.Bool.{false≢true}
use Rattle.std.proofs.lemmas.List.{map-append}
use Rattle.xs_names.specs.Names.{same_name}
use Rattle.xs_names.proofs.NumberingLaws.{same_name-Decides}
use Rattle.particle_models.specs.Particles.{Particle, Place, Mark}
use Rattle.particle_models.specs.Words.{Words, IsWordOfNames, BeginsWord, EndsIn, names_of}
use Rattle.content_automaton.specs.Terms.{ExpandedName}
use Rattle.content_automaton.specs.Recognized.{IsUnambiguous}

-- the marks of the first names
split : (names more : List ExpandedName) (word : List (Mark ExpandedName)) → names_of word ≡ names ++ more →
    (front back : List (Mark ExpandedName)) × (word ≡ front ++ back) × (names_of front ≡ names) × (names_of back ≡ more)
split [] more word e = ([], word, refl, refl, e)
split (n ∷ names) more [] e = absurd (cc)
split (n ∷ names) more (m ∷ word) e =
    let here : m.name ≡ n = cc in
    let rest = split names more word (cc) in
    let same : names_of rest.0 ≡ names = rest.3 in
    (m ∷ rest.0, rest.1, ap (λ z. m ∷ z) rest.2, (λ i. here i ∷ same i), rest.4)

-- a list with one name
single : (name : ExpandedName) (word : List (Mark ExpandedName)) → names_of word ≡ name ∷ [] → (place : Place) × (word ≡ record { place = place; name = name } ∷ [])
single name [] e = absurd (cc)
single name (m ∷ []) e = let here : m.name ≡ name = cc in (m.place, (λ i. record { place = m.place; name = here i } ∷ []))
single name (m ∷ k ∷ word) e = absurd (cc)

module _ (accepts : ℕ → ExpandedName → Bool) (model : Particle) where
  pub begins-first : (names more : List ExpandedName) → BeginsWord accepts model (names ++ more) → BeginsWord accepts model names
  begins-first names more (front, rest, word, e) =
      let cut = split names more front e in (
        cut.0,
        cut.1 ++ rest,
        subst (λ w. Words accepts model [] w) (ap (λ w. w ++ rest) cut.2 ∙ append_assoc cut.0 cut.1 rest) word,
        cut.3,
      )

  pub word-begins : (names : List ExpandedName) → IsWordOfNames accepts model names → BeginsWord accepts model names
  word-begins names (word, is, e) = (word, [], subst (λ w. Words accepts model [] w) (sym (append-nil word)) is, e)

  pub ends-begins : (before : List ExpandedName) (name : ExpandedName) (place : Place) → EndsIn accepts model before name place → BeginsWord accepts model (before ++ name ∷ [])
  ends-begins before name place (front, rest, word, e) = (
    front ++ record { place = place; name = name } ∷ [],
    rest,
    subst (λ w. Words accepts model [] w) (sym (append_assoc front (record { place = place; name = name } ∷ []) rest)) word,
    map-append (λ (m : Mark ExpandedName). m.name) front (record { place = place; name = name } ∷ []) ∙ ap (λ names. names ++ name ∷ []) e,
  )

  pub begins-ends : (before : List ExpandedName) (name : ExpandedName) → BeginsWord accepts model (before ++ name ∷ []) → (place : Place) × EndsIn accepts model before name place
  begins-ends before name (front, rest, word, e) =
      let cut = split before (name ∷ []) front e in
      let last = single name cut.1 cut.4 in
      let same : front ++ rest ≡ cut.0 ++ record { place = last.0; name = name } ∷ rest =
      ap (λ w. w ++ rest) (cut.2 ∙ ap (λ w. cut.0 ++ w) last.1) ∙ append_assoc cut.0 (record { place = last.0; name = name } ∷ []) rest in
      (last.0, (cut.0, rest, subst (λ w. Words accepts model [] w) same word, cut.3))

  -- where the model is not ambiguous, they end in one place
  pub one-place : IsUnambiguous accepts model → (before : List ExpandedName) (name : ExpandedName) (x y : Place) → EndsIn accepts model before name x → EndsIn accepts model before name y → x ≡ y
  one-place un before name x y here there = by (same_name (x.number, x.path) (y.number, y.path)) refl
    where
      by : (b : Bool) → same_name (x.number, x.path) (y.number, y.path) ≡ b → x ≡ y
      by true e = let q = (same_name-Decides (x.number, x.path) (y.number, y.path)).0 e in λ i. record { path = (q i).1; number = (q i).0 }
      by false e = absurd (un x y (record {
        names = before;
        name = name;
        one = here;
        other = there;
        differ = λ q. false≢true (sym e ∙ (same_name-Decides (x.number, x.path) (y.number, y.path)).1 (ap (λ (z : Place). (z.number, z.path)) q));
      }))
