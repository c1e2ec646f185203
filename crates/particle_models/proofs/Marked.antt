-- The marked words of a model against the words of its positions.
use Rattle.std.proofs.Common.{◌≡◌, ℕ, ◌+◌, ◌<◌, ◌↔◌, Bool, List, [], ◌∷◌, ◌++◌, map, length, get_or, refl, sym, ap, subst, arith, append-nil}
use Rattle.std.specs.Prelude.{slice_index}
use Rattle.xs_positions.specs.Tree.{size, symbols}
use Rattle.xs_positions.specs.PositionWords.{IsWord}
use Rattle.xs_positions.specs.Positions.{Table, ArePositionsOf}
use Rattle.particle_models.specs.Particles.{Particle, Place, Mark}
use Rattle.particle_models.specs.Words.{Words, names_of, IsWordOfNames, BeginsWord, EndsIn}
use Rattle.particle_models.specs.Unrolled.{places, unrolled, count, HasNoAll}
use Rattle.particle_models.specs.Numbered.{AreNumbered, Marks}
use Rattle.particle_models.specs.Reach.{Reads, Reach}
use Rattle.particle_models.specs.Model.{blank, place_of, Accepts, IsInhabitedBy}
use Rattle.std.proofs.lemmas.List.Elements.{Contains-get_or}
use Rattle.particle_models.proofs.Ranging.{symbols_within}
use Rattle.particle_models.proofs.Unrolling.{gives, spelled, marks_append, marks_split}
use Rattle.particle_models.proofs.Living.{lives}
use Rattle.particle_models.proofs.Reaching.{reads_push, reads_last}
use Rattle.particle_models.proofs.Placing.{numbered, differ}

module _ {Name : Type 0} (at_number : ℕ → Place) (accepts : ℕ → Name → Bool) where
  pub marks_cut : (text : List ℕ) (u v : List (Mark Name)) → Marks at_number accepts text (u ++ v) →
      (s t : List ℕ) × (text ≡ s ++ t) × Marks at_number accepts s u × Marks at_number accepts t v
  marks_cut text [] v h = ([], text, refl, tt, h)
  marks_cut [] (x ∷ u) v h = absurd h
  marks_cut (k ∷ text) (x ∷ u) v h = let r = marks_cut text u v h.2 in (k ∷ r.0, r.1, ap (λ z. k ∷ z) r.2, (h.0, h.1, r.3), r.4)

  module _ (symbol : ℕ → ℕ) where
    marks_along : (ps : List ℕ) (word : List (Mark Name)) → Marks at_number accepts (map symbol ps) word → Marks (λ p. at_number (symbol p)) accepts ps word
    marks_along [] [] h = h
    marks_along [] (x ∷ word) h = absurd h
    marks_along (p ∷ ps) [] h = absurd h
    marks_along (p ∷ ps) (x ∷ word) h = (h.0, h.1, marks_along ps word h.2)

    along_marks : (ps : List ℕ) (word : List (Mark Name)) → Marks (λ p. at_number (symbol p)) accepts ps word → Marks at_number accepts (map symbol ps) word
    along_marks [] [] h = h
    along_marks [] (x ∷ word) h = absurd h
    along_marks (p ∷ ps) [] h = absurd h
    along_marks (p ∷ ps) (x ∷ word) h = (h.0, h.1, along_marks ps word h.2)

module _ {Name : Type 0} (accepts : ℕ → Name → Bool) (inhabited : ℕ → Bool) (model : Particle) (table : Table)
    (no_all : HasNoAll model) (are : ArePositionsOf (unrolled inhabited model 0) table) (by : IsInhabitedBy accepts inhabited) where
  abbrev Word : List ℕ → Type 0
  Word = IsWord (unrolled inhabited model 0) 0

  -- the positions, marked with names
  abbrev Along : List ℕ → List (Mark Name) → Type 0
  Along = Marks (place_of model table) accepts

  abbrev at_number : ℕ → Place
  at_number k = get_or (places model []) k blank

  are_numbered : AreNumbered at_number model [] 0
  are_numbered =
      let e : places model [] ++ [] ≡ places model [] = append-nil (places model []) in
      subst (λ (xs : List Place). AreNumbered (λ k. get_or xs k blank) model [] 0) e (numbered blank model [] [] [])

  pub word_positions : (word : List (Mark Name)) → Words accepts model [] word → (ps : List ℕ) × Word ps × Along ps word
  word_positions word h =
      let s = spelled at_number accepts inhabited by.lives model [] 0 are_numbered no_all word h in
      let k = (are.spelling s.0).0 s.1 in
      (k.0, k.1, marks_along at_number accepts (λ p. slice_index table.symbols p) k.0 word (rw k.2 s.2))

  pub positions_word : (ps : List ℕ) (word : List (Mark Name)) → Word ps → Along ps word → Words accepts model [] word
  positions_word ps word w a =
      let symbol : ℕ → ℕ = λ p. slice_index table.symbols p in
      gives at_number accepts inhabited model [] 0 are_numbered (map symbol ps) word
      ((are.spelling (map symbol ps)).1 (ps, w, refl)) (along_marks at_number accepts symbol ps word a)

  pub positions_live : (ps : List ℕ) → Word ps → (word : List (Mark Name)) × Along ps word
  positions_live ps w =
      let symbol : ℕ → ℕ = λ p. slice_index table.symbols p in
      let r = lives at_number accepts inhabited by.has model [] 0 are_numbered (map symbol ps) ((are.spelling (map symbol ps)).1 (ps, w, refl)) in
      (r.0, marks_along at_number accepts symbol ps r.0 r.1)

  -- names along positions
  abbrev Takes : List Name → ℕ → Name → Type 0
  Takes = Accepts accepts model table

  reads : (before : List Name) (ps : List ℕ) (word : List (Mark Name)) → Along ps word → Reads Takes before ps (names_of word)
  reads before [] [] h = tt
  reads before [] (x ∷ word) h = absurd h
  reads before (p ∷ ps) [] h = absurd h
  reads before (p ∷ ps) (x ∷ word) h = (h.1, reads (before ++ x.name ∷ []) ps word h.2)

  marked : (before : List Name) (ps : List ℕ) (names : List Name) → Reads Takes before ps names → (word : List (Mark Name)) × Along ps word × (names_of word ≡ names)
  marked before [] [] h = ([], tt, refl)
  marked before [] (n ∷ names) h = absurd h
  marked before (p ∷ ps) [] h = absurd h
  marked before (p ∷ ps) (n ∷ names) h =
      let r = marked (before ++ n ∷ []) ps names h.1 in
      (record { place = place_of model table p; name = n } ∷ r.0, (refl, h.0, r.1), ap (λ z. n ∷ z) r.2)

  -- the words of names
  pub names_word : (names : List Name) → IsWordOfNames accepts model names ↔ ((ps : List ℕ) × Word ps × Reads Takes [] ps names)
  names_word names = (
    (λ h. let r = word_positions h.0 h.1 in (r.0, r.1, rw h.2 at (reads [] r.0 h.0 r.2))),
    (λ h. let r = marked [] h.0 names h.2 in (r.0, positions_word h.0 r.0 h.1 r.1, r.2)),
  )

  -- the names that begin a word
  pub names_begin : (names : List Name) → BeginsWord accepts model names ↔ ((front rest : List ℕ) × Word (front ++ rest) × Reads Takes [] front names)
  names_begin names = (
    (λ h.
        let r = word_positions (h.0 ++ h.1) h.2 in
        let c = marks_cut (place_of model table) accepts r.0 h.0 h.1 r.2 in
        (c.0, c.1, rw c.2 at r.1, rw h.3 at (reads [] c.0 h.0 c.3))),
    (λ h.
        let l = positions_live (h.0 ++ h.1) h.2 in
        let c = marks_split (place_of model table) accepts h.0 h.1 l.0 l.1 in
        let m = marked [] h.0 names h.3 in
        (m.0, c.1, positions_word (h.0 ++ h.1) (m.0 ++ c.1) h.2 (marks_append (place_of model table) accepts h.0 h.1 m.0 c.1 m.1 c.4), m.2)),
  )

  ending : (front rest : List (Mark Name)) (place : Place) (name : Name) (ps s t : List ℕ) → Word ps → ps ≡ s ++ t → Along s front → Along t (record { place = place; name = name } ∷ rest) →
      (p : ℕ) × Reach Takes Word (names_of front ++ name ∷ []) p × (place_of model table p ≡ place)
  ending front rest place name ps s [] w e a b = absurd b
  ending front rest place name ps s (p ∷ t) w e a b =
      (p, (s, t, rw e at w, reads_push Takes [] s (names_of front) p name (reads [] s front a) b.1), sym b.0)

  behind : (p : ℕ) (ps : List ℕ) (word : List (Mark Name)) → Along (p ∷ ps) word → (rest : List (Mark Name)) × Along ps rest
  behind p ps [] a = absurd a
  behind p ps (x ∷ rest) a = (rest, a.2)

  -- a prefix of a marked word that ends in a place, and a prefix of a word of positions that ends in a position of it
  pub ends_reach : (names : List Name) (name : Name) (place : Place) → EndsIn accepts model names name place →
      (p : ℕ) × Reach Takes Word (names ++ name ∷ []) p × (place_of model table p ≡ place)
  ends_reach names name place (front, rest, h, same) =
      let x : Mark Name = record { place = place; name = name } in
      let r = word_positions (front ++ x ∷ rest) h in
      let c = marks_cut (place_of model table) accepts r.0 front (x ∷ rest) r.2 in
      let k = ending front rest place name r.0 c.0 c.1 r.1 c.2 c.3 c.4 in
      (k.0, rw same at k.1, k.2)

  pub reach_ends : (names : List Name) (name : Name) (p : ℕ) → Reach Takes Word (names ++ name ∷ []) p → EndsIn accepts model names name (place_of model table p)
  reach_ends names name p h =
      let x : Mark Name = record { place = place_of model table p; name = name } in
      let l = positions_live (h.0 ++ p ∷ h.1) h.2 in
      let c = marks_split (place_of model table) accepts h.0 (p ∷ h.1) l.0 l.1 in
      let r = reads_last Takes [] h.0 names p name h.3 in
      let m = marked [] h.0 names r.0 in
      let b = behind p h.1 c.1 c.4 in (
        m.0,
        b.0,
        positions_word (h.0 ++ p ∷ h.1) (m.0 ++ x ∷ b.0) h.2
            (marks_append (place_of model table) accepts h.0 (p ∷ h.1) m.0 (x ∷ b.0) m.1 (refl, r.1, b.1)),
        m.2,
      )

  -- positions of two terms have two places
  pub places_differ : (i j : ℕ) → i < size (unrolled inhabited model 0) → j < size (unrolled inhabited model 0) →
      place_of model table i ≡ place_of model table j → slice_index table.symbols i ≡ slice_index table.symbols j
  places_differ i j a b e =
      let s : (k : ℕ) → k < size (unrolled inhabited model 0) → slice_index table.symbols k < 0 + count model = λ k l.
      (let n = are.count in
      (symbols_within inhabited model 0 (slice_index table.symbols k) (rw are.symbols (Contains-get_or (symbols (unrolled inhabited model 0)) k 0 (let m = ap length are.symbols in omega arith)))).1) in
      differ at_number model [] 0 are_numbered (slice_index table.symbols i) (slice_index table.symbols j) (omega arith) (s i a) (omega arith) (s j b) (ap (λ x. x.path) e)
