-- The marked words of a model are the texts of its unrolled expression, with a name for each number.
use Rattle.std.proofs.Common.{◌≡◌, ℕ, zero, suc, ◌+◌, ◌≤◌, ◌⊎◌, Bool, true, false, IsTrue, List, [], ◌∷◌, ◌++◌, Option, None, Some, refl, sym, ap, ◌∙◌, inl, inr, arith, if◌then◌else◌}
use Rattle.std.proofs.lemmas.Bool.{false≢true}
use Rattle.xs_positions.specs.Tree.{Tree, one, chain, either, repeat}
use Rattle.xs_positions.specs.PositionWords.{Spells, Rounds, Allows}
use Rattle.particle_models.specs.Particles.{Particle, Particles, term, sequence, choice, all_of, occurs, none, member, Path, Place, Mark}
use Rattle.particle_models.specs.Words.{OneThenOther, Times, Words, WordsInOrder, WordsOfOne}
use Rattle.particle_models.specs.Unrolled.{count, wordless, unrolled, unrolled_chain, unrolled_either, HasNoAll, HaveNoAll}
use Rattle.particle_models.specs.Numbered.{AreNumbered, AreNumberedIn, Marks}

module _ {Name : Type 0} (place_of : ℕ → Place) (accepts : ℕ → Name → Bool) where
  pub marks_append : (s t : List ℕ) (u v : List (Mark Name)) → Marks place_of accepts s u → Marks place_of accepts t v → Marks place_of accepts (s ++ t) (u ++ v)
  marks_append [] t [] v a b = b
  marks_append [] t (m ∷ u) v a b = absurd a
  marks_append (k ∷ s) t [] v a b = absurd a
  marks_append (k ∷ s) t (m ∷ u) v a b = (a.0, a.1, marks_append s t u v a.2 b)

  pub marks_split : (s t : List ℕ) (w : List (Mark Name)) → Marks place_of accepts (s ++ t) w →
      (u v : List (Mark Name)) × (w ≡ u ++ v) × Marks place_of accepts s u × Marks place_of accepts t v
  marks_split [] t w h = ([], w, refl, tt, h)
  marks_split (k ∷ s) t [] h = absurd h
  marks_split (k ∷ s) t (m ∷ w) h = let r = marks_split s t w h.2 in (m ∷ r.0, r.1, ap (λ z. m ∷ z) r.2, (h.0, h.1, r.3), r.4)

  -- each text of the tree, marked, is a word
  abbrev Gives : Tree → (List (Mark Name) → Type 0) → Type 0
  Gives tree F = (text : List ℕ) (word : List (Mark Name)) → Spells tree text → Marks place_of accepts text word → F word

  -- each word is a text of the tree, marked
  abbrev Spelled : (List ℕ → Type 0) → (List (Mark Name) → Type 0) → Type 0
  Spelled T F = (word : List (Mark Name)) → F word → (text : List ℕ) × T text × Marks place_of accepts text word

  chain_gives : (s t : Tree) (F G : List (Mark Name) → Type 0) → Gives s F → Gives t G → Gives (chain s t) (OneThenOther F G)
  chain_gives s t F G a b text word h m =
      let r = marks_split h.0 h.1 word (rw h.2 at m) in
      (r.0, r.1, r.2, a h.0 r.0 h.3 r.3, b h.1 r.1 h.4 r.4)

  chain_spelled : (S T : List ℕ → Type 0) (F G : List (Mark Name) → Type 0) → Spelled S F → Spelled T G →
      Spelled (λ text. (front back : List ℕ) × (text ≡ front ++ back) × S front × T back) (OneThenOther F G)
  chain_spelled S T F G a b word h =
      let x = a h.0 h.3 in let y = b h.1 h.4 in
      (x.0 ++ y.0, (x.0, y.0, refl, x.1, y.1), rw h.2 (marks_append x.0 y.0 h.0 h.1 x.2 y.2))

  no_mark : (text : List ℕ) (word : List (Mark Name)) → text ≡ [] → Marks place_of accepts text word → word ≡ []
  no_mark [] [] e m = refl
  no_mark [] (x ∷ word) e m = absurd m
  no_mark (k ∷ text) word e m = cc

  either_gives : (s t : Tree) (F G : List (Mark Name) → Type 0) → Gives s F → Gives t G → Gives (either s t) (λ word. F word ⊎ G word)
  either_gives s t F G a b text word (inl h) m = inl (a text word h m)
  either_gives s t F G a b text word (inr h) m = inr (b text word h m)

  either_spelled : (S T : List ℕ → Type 0) (F G : List (Mark Name) → Type 0) → Spelled S F → Spelled T G →
      Spelled (λ text. S text ⊎ T text) (λ word. F word ⊎ G word)
  either_spelled S T F G a b word (inl h) = let r = a word h in (r.0, inl r.1, r.2)
  either_spelled S T F G a b word (inr h) = let r = b word h in (r.0, inr r.1, r.2)

  rounds_give : (part : Tree) (F : List (Mark Name) → Type 0) → Gives part F → (k j : ℕ) (text : List ℕ) (word : List (Mark Name)) →
      Rounds (λ round front. Spells part front) k j text → Marks place_of accepts text word → Times F k word
  rounds_give part F a zero j text word h m = no_mark text word h m
  rounds_give part F a (suc k) j text word h m =
      let r = marks_split h.0 h.1 word (rw h.2 at m) in
      (r.0, r.1, r.2, a h.0 r.0 h.3 r.3, rounds_give part F a k (suc j) h.1 r.1 h.4 r.4)

  rounds_spelled : (part : Tree) (F : List (Mark Name) → Type 0) → Spelled (Spells part) F → (k j : ℕ) →
      Spelled (Rounds (λ round front. Spells part front) k j) (Times F k)
  rounds_spelled part F a zero j = λ word h. ([], refl, rw h tt)
  rounds_spelled part F a (suc k) j =
      chain_spelled (Spells part) (Rounds (λ round front. Spells part front) k (suc j)) F (Times F k) a (rounds_spelled part F a k (suc j))

  -- occurrences
  abbrev InBounds : ℕ → Option ℕ → (List (Mark Name) → Type 0) → List (Mark Name) → Type 0
  InBounds least most F word = (k : ℕ) × Allows least most k × Times F k word

  occurs_give : (least : ℕ) (most : Option ℕ) (part : Tree) (F : List (Mark Name) → Type 0) → Gives part F →
      Gives (repeat part least most) (InBounds least most F)
  occurs_give least most part F a text word h m = (h.0, h.1, rounds_give part F a h.0 0 text word h.2 m)

  occurs_spelled : (least : ℕ) (most : Option ℕ) (part : Tree) (F : List (Mark Name) → Type 0) → Spelled (Spells part) F →
      Spelled (Spells (repeat part least most)) (InBounds least most F)
  occurs_spelled least most part F a word h = let r = rounds_spelled part F a h.0 0 word h.2 in (r.0, (h.0, h.1, r.1), r.2)

  -- no occurrence at all
  no_rounds : (part : Tree) (k : ℕ) (text : List ℕ) → k ≤ 0 → Rounds (λ round front. Spells part front) k 0 text → text ≡ []
  no_rounds part zero text l h = h
  no_rounds part (suc k) text l h = absurd (omega arith)

  no_times : (F : List (Mark Name) → Type 0) (k : ℕ) (word : List (Mark Name)) → k ≤ 0 → Times F k word → word ≡ []
  no_times F zero word l h = h
  no_times F (suc k) word l h = absurd (omega arith)

  never_gives : (least : ℕ) (part : Tree) (F : List (Mark Name) → Type 0) → Gives (repeat part least (Some 0)) (InBounds least (Some 0) F)
  never_gives least part F text word h m =
      let l : least ≤ 0 = (let a = h.1.0 in let b = h.1.1 in omega arith) in
      (0, (l, omega arith), no_mark text word (no_rounds part h.0 text h.1.1 h.2) m)

  never_spelled : (least : ℕ) (part : Tree) (F : List (Mark Name) → Type 0) →
      Spelled (Spells (repeat part least (Some 0))) (InBounds least (Some 0) F)
  never_spelled least part F word h =
      let l : least ≤ 0 = (let a = h.1.0 in let b = h.1.1 in omega arith) in
      ([], (0, (l, omega arith), refl), rw (no_times F h.0 word h.1.1 h.2) tt)

  -- a term
  module _ (path : Path) (number next : ℕ) (is : place_of next ≡ record { path = path; number = number }) where
    one_text : (b : Bool) (text : List ℕ) → Spells (if b then one next else wordless next) text → text ≡ next ∷ []
    one_text true text h = h.1 ∙ ap (λ (k : ℕ). k ∷ []) h.2
    one_text false text h = absurd h.4.3

    one_mark : (text : List ℕ) (word : List (Mark Name)) → text ≡ next ∷ [] → Marks place_of accepts text word →
        (name : Name) × IsTrue (accepts number name) × (word ≡ record { place = record { path = path; number = number }; name = name } ∷ [])
    one_mark text word e m = at_one word (rw e at m)
      where
        at_one : (word : List (Mark Name)) → Marks place_of accepts (next ∷ []) word →
            (name : Name) × IsTrue (accepts number name) × (word ≡ record { place = record { path = path; number = number }; name = name } ∷ [])
        at_one [] m = absurd m
        at_one (x ∷ []) m =
            (x.name, rw is at m.1, (let e : x.place ≡ record { path = path; number = number } = m.0 ∙ is in ap (λ (p : Place). record { place = p; name = x.name } ∷ []) e))
        at_one (x ∷ y ∷ word) m = absurd m.2

    mark_one : (name : Name) (word : List (Mark Name)) → IsTrue (accepts number name) → word ≡ record { place = record { path = path; number = number }; name = name } ∷ [] →
        Marks place_of accepts (next ∷ []) word
    mark_one name word a e = rw e (sym is, rw is a, tt)

  module _ (inhabited : ℕ → Bool) where
    one_spelled : (number next : ℕ) → (b : Bool) → b ≡ true → Spells (if b then one next else wordless next) (next ∷ [])
    one_spelled number next true e = (next, refl, refl)
    one_spelled number next false e = absurd (false≢true e)

    mutual
      pub gives : (model : Particle) (path : Path) (next : ℕ) → AreNumbered place_of model path next →
          Gives (unrolled inhabited model next) (Words accepts model path)
      gives (term number) path next is = λ text word h m.
          one_mark path number next is text word (one_text path number next is (inhabited number) text h) m
      gives (sequence members) path next is = gives_in members path 0 next is
      gives (choice members) path next is = gives_one members path 0 next is
      gives (all_of members) path next is = λ text word h m. absurd h
      gives (occurs least None part) path next is =
          occurs_give least None (unrolled inhabited part next) (Words accepts part path) (gives part path next is)
      gives (occurs least (Some zero) part) path next is = never_gives least (unrolled inhabited part next) (Words accepts part path)
      gives (occurs least (Some (suc most)) part) path next is =
          occurs_give least (Some (suc most)) (unrolled inhabited part next) (Words accepts part path) (gives part path next is)

      gives_in : (members : Particles) (path : Path) (i next : ℕ) → AreNumberedIn place_of members path i next →
          Gives (unrolled_chain inhabited members next) (WordsInOrder accepts members path i)
      gives_in none path i next is = λ text word h m. no_mark text word h m
      gives_in (member first rest) path i next is =
          chain_gives (unrolled inhabited first next) (unrolled_chain inhabited rest (next + count first))
          (Words accepts first (path ++ i ∷ [])) (WordsInOrder accepts rest path (suc i))
          (gives first (path ++ i ∷ []) next is.0) (gives_in rest path (suc i) (next + count first) is.1)

      gives_one : (members : Particles) (path : Path) (i next : ℕ) → AreNumberedIn place_of members path i next →
          Gives (unrolled_either inhabited members next) (WordsOfOne accepts members path i)
      gives_one none path i next is = λ text word h m. absurd h
      gives_one (member first rest) path i next is =
          either_gives (unrolled inhabited first next) (unrolled_either inhabited rest (next + count first))
          (Words accepts first (path ++ i ∷ [])) (WordsOfOne accepts rest path (suc i))
          (gives first (path ++ i ∷ []) next is.0) (gives_one rest path (suc i) (next + count first) is.1)

    module _ (lives : (number : ℕ) (name : Name) → IsTrue (accepts number name) → IsTrue (inhabited number)) where
      mutual
        pub spelled : (model : Particle) (path : Path) (next : ℕ) → AreNumbered place_of model path next → HasNoAll model →
            Spelled (Spells (unrolled inhabited model next)) (Words accepts model path)
        spelled (term number) path next is free = λ word h.
            (next ∷ [], one_spelled number next (inhabited number) (lives number h.0 h.1), mark_one path number next is h.0 word h.1 h.2)
        spelled (sequence members) path next is free = spelled_in members path 0 next is free
        spelled (choice members) path next is free = spelled_one members path 0 next is free
        spelled (all_of members) path next is free = absurd free
        spelled (occurs least None part) path next is free =
            occurs_spelled least None (unrolled inhabited part next) (Words accepts part path) (spelled part path next is free)
        spelled (occurs least (Some zero) part) path next is free = never_spelled least (unrolled inhabited part next) (Words accepts part path)
        spelled (occurs least (Some (suc most)) part) path next is free =
            occurs_spelled least (Some (suc most)) (unrolled inhabited part next) (Words accepts part path) (spelled part path next is free)

        spelled_in : (members : Particles) (path : Path) (i next : ℕ) → AreNumberedIn place_of members path i next → HaveNoAll members →
            Spelled (Spells (unrolled_chain inhabited members next)) (WordsInOrder accepts members path i)
        spelled_in none path i next is free = λ word h. ([], refl, rw h tt)
        spelled_in (member first rest) path i next is free =
            chain_spelled (Spells (unrolled inhabited first next)) (Spells (unrolled_chain inhabited rest (next + count first)))
            (Words accepts first (path ++ i ∷ [])) (WordsInOrder accepts rest path (suc i))
            (spelled first (path ++ i ∷ []) next is.0 free.0) (spelled_in rest path (suc i) (next + count first) is.1 free.1)

        spelled_one : (members : Particles) (path : Path) (i next : ℕ) → AreNumberedIn place_of members path i next → HaveNoAll members →
            Spelled (Spells (unrolled_either inhabited members next)) (WordsOfOne accepts members path i)
        spelled_one none path i next is free = λ word h. absurd h
        spelled_one (member first rest) path i next is free =
            either_spelled (Spells (unrolled inhabited first next)) (Spells (unrolled_either inhabited rest (next + count first)))
            (Words accepts first (path ++ i ∷ [])) (WordsOfOne accepts rest path (suc i))
            (spelled first (path ++ i ∷ []) next is.0 free.0) (spelled_one rest path (suc i) (next + count first) is.1 free.1)
