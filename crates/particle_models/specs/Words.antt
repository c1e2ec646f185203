-- The words of a content model, as lists of marked names: Structures 3.8.4 and 3.9.4.
use Rattle.std.specs.Prelude.{◌≡◌, ℕ, zero, suc, ◌≢◌, Bool, IsTrue, List, [], ◌∷◌, ◌++◌, map, ◌⊎◌}
use Rattle.xs_positions.specs.PositionWords.{Allows}
use Rattle.particle_models.specs.Particles.{Particle, Particles, term, sequence, choice, all_of, occurs, none, member, Path, Place, Mark}

module _ {Name : Type 0} where
  -- a word of the one and then a word of the other
  abbrev pub OneThenOther : (List (Mark Name) → Type 0) → (List (Mark Name) → Type 0) → List (Mark Name) → Type 0
  OneThenOther F G word = (front back : List (Mark Name)) × (word ≡ front ++ back) × F front × G back

  -- so many words, one after the other
  abbrev pub Times : (List (Mark Name) → Type 0) → ℕ → List (Mark Name) → Type 0
  Times F zero word = word ≡ []
  Times F (suc more) word = OneThenOther F (Times F more) word

  -- the word goes through the one and the other, each in its order
  abbrev pub Interleaves : List (Mark Name) → List (Mark Name) → List (Mark Name) → Type 0
  Interleaves own others [] = (own ≡ []) × (others ≡ [])
  Interleaves own others (mark ∷ word) =
      ((rest : List (Mark Name)) × (own ≡ mark ∷ rest) × Interleaves rest others word) ⊎
      ((rest : List (Mark Name)) × (others ≡ mark ∷ rest) × Interleaves own rest word)

  -- the names of a marked word
  abbrev pub names_of : List (Mark Name) → List Name
  names_of word = map (λ mark. mark.name) word

  module _ (accepts : ℕ → Name → Bool) where
    abbrev mutual
      -- An element or wildcard gives each list of one name that it accepts. A sequence gives one word of each member, in order,
      -- a choice the words of its members, an all one word of each member, in any order, and an occurrence n to m gives k
      -- words, one after the other, for each k from n to m.
      pub Words : Particle → Path → List (Mark Name) → Type 0
      Words (term number) path word =
          (name : Name) × IsTrue (accepts number name) × (word ≡ record { place = record { path = path; number = number }; name = name } ∷ [])
      Words (sequence members) path word = WordsInOrder members path 0 word
      Words (choice members) path word = WordsOfOne members path 0 word
      Words (all_of members) path word = WordsOfEach members path 0 word
      Words (occurs least most part) path word = (count : ℕ) × Allows least most count × Times (Words part path) count word

      pub WordsInOrder : Particles → Path → ℕ → List (Mark Name) → Type 0
      WordsInOrder none path i word = word ≡ []
      WordsInOrder (member first rest) path i word = OneThenOther (Words first (path ++ i ∷ [])) (WordsInOrder rest path (suc i)) word

      pub WordsOfOne : Particles → Path → ℕ → List (Mark Name) → Type 0
      WordsOfOne none path i word = ⊥
      WordsOfOne (member first rest) path i word = Words first (path ++ i ∷ []) word ⊎ WordsOfOne rest path (suc i) word

      -- the parts of the word that are of the members lie in it in any order (Structures 3.8.4, clause 2.3)
      pub WordsOfEach : Particles → Path → ℕ → List (Mark Name) → Type 0
      WordsOfEach none path i word = word ≡ []
      WordsOfEach (member first rest) path i word =
          (own others : List (Mark Name)) × Interleaves own others word × Words first (path ++ i ∷ []) own × WordsOfEach rest path (suc i) others

    -- the names are those of a word of the model
    abbrev pub IsWordOfNames : Particle → List Name → Type 0
    IsWordOfNames model names = (word : List (Mark Name)) × Words model [] word × (names_of word ≡ names)

    -- the names begin a word
    abbrev pub BeginsWord : Particle → List Name → Type 0
    BeginsWord model names = (front rest : List (Mark Name)) × Words model [] (front ++ rest) × (names_of front ≡ names)

    -- a prefix of some word has these names, and after them ends with this name in this place
    abbrev pub EndsIn : Particle → List Name → Name → Place → Type 0
    EndsIn model names name place =
        (front rest : List (Mark Name)) × Words model [] (front ++ record { place = place; name = name } ∷ rest) × (names_of front ≡ names)

    -- cos-nonambig (Structures 3.8.6): two prefixes of marked words have the same names and end in different places.
    pub record IsAmbiguous (model : Particle) (p q : Place) : Type 0 where
      pub names : List Name
      pub name : Name
      pub one : EndsIn model names name p
      pub other : EndsIn model names name q
      pub differ : p ≢ q
