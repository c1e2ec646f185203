-- The automaton of a content model, of what was read.
use Rattle.std.proofs.Common.{◌≡◌, ℕ, ◌<◌, ◌≤◌, inl, inr, Bool, false, List, [], ◌∷◌, Option, None, Some, map, length, get_or, slice_index, refl, sym, ap, subst, ◌∙◌, arith}
use Rattle.std.specs.Prelude.{All as Each, Result, Ok, IfOk, slice_index_or, option_and_then}
use Rattle.std.specs.List.{flat_map}
use Rattle.std.proofs.lemmas.Bool.{cases_lt}
use Rattle.std.proofs.lemmas.List.{length-map, get_or-map}
use Rattle.std.proofs.lemmas.List.Elements.{All-weaker}
use Rattle.std.proofs.lemmas.Option.{slice_get_past}
use Rattle.xs_names.specs.Names.{NameTable}
use Rattle.xs_names.specs.Numbering.{HasNoRepeats}
use Rattle.xs_positions.specs.Tree.{Tree}
use Rattle.xs_positions.specs.Positions.{ArePositionsOf}
use Rattle.xs_components.specs.Tables.{Tables}
use Rattle.xs_components.specs.Terms.{term_of}
use Rattle.xs_components.specs.declared.particle.Particle.{Particle as Part}
use Rattle.particle_models.specs.Particles.{Particle, Place}
use Rattle.particle_models.specs.Nodes.{members_of}
use Rattle.particle_models.specs.Unrolled.{unrolled, places, positions_of, HasNoAll}
use Rattle.particle_models.specs.Model.{UnrolledModel, IsUnrolled, blank}
use Rattle.particle_forms.specs.Models.{model_of}
use Rattle.particle_forms.specs.Accepted.{accepts, is_inhabited}
use Rattle.particle_forms.proofs.AcceptedLaws.{inhabited-by}
use Rattle.component_tables.specs.Types.{DeclarationTable}
use Rattle.content_automaton.specs.declared.symbol_terms.Accepts.{Accepts}
use Rattle.content_automaton.specs.Terms.{ExpandedName, accepts_name}
use Rattle.content_automaton.specs.Symbols.{IsNamed, AreSymbolsOf, count_of}
use Rattle.content_automaton.specs.Attribution.{IsFirstTerm}
use Rattle.content_automaton.specs.Counted.{IsStateCountOf}
use Rattle.content_automaton.specs.Modelled.{IsModelOf, ModelAutomaton, IsAutomatonOf, IsFirstTermOf, HasRoom as HasRoomFor, HasTooManyStates as PassesStates, HasTooLargeTable as PassesCells}
use Rattle.content_models.specs.declared.member.AllMember.{AllMember}
use Rattle.content_models.specs.Shape.{no_member, particles_of, all_within}
use Rattle.content_models.specs.Modelled.{AllModel, IsAllModel, IsAllAutomatonOf, IsFirstMember}
use Rattle.content_models.specs.Terms.{terms_of, accepts_of, model_terms, term_number}
use Rattle.content_models.specs.Ways.{some_optional, member_at, IsAllFound}
use Rattle.content_models.specs.Built.{IsSource, IsLimitedAll, IsLimited, IsStateTotal, HasTooManyStates, HasTooLargeTable, IsBuilt, HasRoom, IsFirstIn}
use Rattle.content_models.specs.declared.automaton.ContentAutomaton.TheVariants.{States, All}
use Rattle.content_models.proofs.AllLaws.{limited-all, own-members, all-terms, all-positions}
use Rattle.content_models.proofs.TermLaws.{accept-as, named-in, terms-are, places-terms}
use Rattle.content_models.proofs.StateLaws.{count-moved}

term-there : (t : Tables) (n : ℕ) → term_number t n ≡ Some n → n < length t.particles.parts
term-there t n e = elim (cases_lt n (length t.particles.parts)) [
  | inl l ↦ l
  | inr l ↦ absurd (let z : None ≡ Some n = sym (ap (option_and_then (λ (q : Part). term_of q.term n)) (slice_get_past t.particles.parts n l)) ∙ e in cc)
]

no-all-within : (outer : List ℕ) (own : List AllMember) → HasNoAll (all_within outer own) → ⊥
no-all-within [] own h = h
no-all-within (l ∷ outer) own h = no-all-within outer own h

not-both : (own : List AllMember) (optional : Bool) (model : Particle) → HasNoAll model → IsLimitedAll own optional model → ⊥
not-both own optional model none is = no-all-within is.is_all.outer own (subst HasNoAll is.is_all.model_is none)

module _ (names : NameTable) (t : Tables) (members : List (List ℕ)) (d : DeclarationTable) (flags : List Bool) (classes : List ℕ) (p : ℕ) (source : IsSource names t members d flags) where
  abbrev model : Particle
  model = model_of t p

  pub terms-there : Each (λ k. k < length t.particles.parts) (terms_of model)
  terms-there = All-weaker (λ k. term_number t k ≡ Some k) (λ k. k < length t.particles.parts) (term-there t) (terms_of model) (terms-are t source.ranked p)

  -- ---- without an all
  pub unrolled-is : {E : Type 0} (answer : Result UnrolledModel E) (u : UnrolledModel) → answer ≡ Ok u →
      ((inhabited : ℕ → Bool) → ((id : ℕ) → slice_index_or flags id false ≡ inhabited id) → IfOk answer (IsUnrolled inhabited model)) → IsUnrolled (is_inhabited members t) model u
  unrolled-is {E} answer u e h = subst (λ (r : Result UnrolledModel E). IfOk r (IsUnrolled (is_inhabited members t) model)) e (h (is_inhabited members t) source.inhabits)

  module _ (no_all : HasNoAll model) (u : UnrolledModel) (is : IsUnrolled (is_inhabited members t) model u) where
    pub unrolled-terms : u.terms ≡ terms_of model
    unrolled-terms = is.terms ∙ places-terms model no_all

    pub numbers-are : Each (λ k. term_number t k ≡ Some k) u.terms
    numbers-are = subst (Each (λ k. term_number t k ≡ Some k)) (sym unrolled-terms) (terms-are t source.ranked p)

    pub positions-there : (tree : Tree) × ArePositionsOf tree u.table
    positions-there = (unrolled (is_inhabited members t) model 0, is.positions)

    module _ (ids : List ℕ) (ids_are : ids ≡ u.terms) where
      pub ids-there : Each (λ k. k < length t.particles.parts) ids
      ids-there = subst (Each (λ k. k < length t.particles.parts)) (sym (ids_are ∙ unrolled-terms)) terms-there

      module _ (terms : List Accepts) (terms_are : terms ≡ map (accepts_of members t classes) ids) where
        pub terms-count : length terms ≡ length u.terms
        terms-count = ap length terms_are ∙ (length-map ids (accepts_of members t classes) ∙ ap length ids_are)

        pub terms-within : (n : ℕ) → IsNamed terms n → n < length names.names
        terms-within = named-in names members t classes source.named ids terms terms_are

        pub terms-model : terms ≡ model_terms members t classes p
        terms-model = terms_are ∙ ap (map (accepts_of members t classes)) (ids_are ∙ unrolled-terms)

        pub model-is : IsModelOf names terms u (accepts names members t) (is_inhabited members t) model
        model-is = record {
          no_all = no_all;
          unrolled = is;
          inhabits = inhabited-by names members t;
          accept = subst (λ xs. (k : ℕ) (a : Accepts) → k < length xs → (name : ExpandedName) → accepts names members t (slice_index xs k) name ≡ accepts_name names (slice_index_or terms k a) name) ids_are
              (accept-as names members t classes ids terms terms_are);
        }

        -- what is known of each model of these terms
        abbrev OfModels : ((ℕ → ExpandedName → Bool) → (ℕ → Bool) → Particle → Type 0) → Type 0
        OfModels P =
            HasNoRepeats names.names → (f : ℕ → ExpandedName → Bool) (g : ℕ → Bool) (m : Particle) → IsModelOf names terms u f g m → P f g m

        of-model : (P : (ℕ → ExpandedName → Bool) → (ℕ → Bool) → Particle → Type 0) → OfModels P → P (accepts names members t) (is_inhabited members t) model
        of-model P h = h source.once (accepts names members t) (is_inhabited members t) model model-is

        pub states-built : (a : ModelAutomaton) → OfModels (λ f g m. IsAutomatonOf names terms f m a) → AreSymbolsOf terms a.symbols → IsBuilt names t members classes p (States a)
        states-built a automaton symbols = (
          no_all,
          subst (λ xs. IsAutomatonOf names xs (accepts names members t) model a) terms-model (of-model (λ f g m. IsAutomatonOf names terms f m a) automaton),
          subst (λ xs. AreSymbolsOf xs a.symbols) terms-model symbols,
        )

        module _ (few : positions_of model ≤ 2048) (cells : ℕ) where
          total : (count : ℕ) → IsStateCountOf (accepts names members t) (is_inhabited members t) model u.table count → IsStateTotal names t members p count
          total count h = inl (no_all, (u, is, h))

          pub states-room : (a : ModelAutomaton) → OfModels (λ f g m. HasRoomFor a.symbols cells f g m u.table a.machine.count) → HasRoom names t members p cells (States a)
          states-room a room =
              let h = of-model (λ f g m. HasRoomFor a.symbols cells f g m u.table a.machine.count) room in
              (few, total a.machine.count h.0, h.1, h.2)

          pub states-passed : OfModels (λ f g m. PassesStates f g m u.table) → HasTooManyStates names t members p
          states-passed passes = (few, passed)
            where
              passed : (count : ℕ) → IsStateTotal names t members p count → 2048 < count
              passed count (inl (without, (v, other, c))) =
                  of-model (λ f g m. PassesStates f g m u.table) passes count
                  (count-moved (accepts names members t) (is_inhabited members t) model v.table u.table (other.positions.symbols ∙ sym is.positions.symbols) count c)
              passed count (inr ((own, optional, all), e)) = absurd (not-both own optional model no_all all)

          pub cells-passed : OfModels (λ f g m. PassesCells terms cells f g m u.table) → HasTooLargeTable names t members classes p cells
          cells-passed passes =
              let h = of-model (λ f g m. PassesCells terms cells f g m u.table) passes in
              (few, h.0, h.1, total h.0 h.2, subst (λ xs. AreSymbolsOf xs h.1) terms-model h.3, h.4, h.5)

  -- ---- an all
  module _ (held : List ℕ) (optional : Bool) (found : IsAllFound t p held optional) (limited : IsLimited model) where
    abbrev limits : (own : List AllMember) × (may : Bool) × IsLimitedAll own may model × (members_of (map (model_of t) held) ≡ particles_of own) × (may ≡ some_optional found.0)
    limits = limited-all found.0 (members_of (map (model_of t) held)) model found.1 limited

    module _ (read : List AllMember) (read_is : read ≡ flat_map (member_at t) held) where
      own-is : limits.0 ≡ read
      own-is = sym (read_is ∙ own-members t source.ranked held limits.0 limits.3)

      pub all-limited : IsLimitedAll read optional model
      all-limited = subst (λ o. IsLimitedAll read o model) (limits.4 ∙ sym found.2) (subst (λ ms. IsLimitedAll ms limits.1 model) own-is limits.2)

      pub all-few : length read ≤ 64
      all-few = all-limited.few

      module _ (ids : List ℕ) (ids_are : ids ≡ map (λ (m : AllMember). m.term) read) where
        all-ids : ids ≡ terms_of model
        all-ids = ids_are ∙ sym (all-terms read optional model all-limited)

        pub all-there : Each (λ k. k < length t.particles.parts) ids
        all-there = subst (Each (λ k. k < length t.particles.parts)) (sym all-ids) terms-there

        module _ (terms : List Accepts) (terms_are : terms ≡ map (accepts_of members t classes) ids) where
          pub all-count : length terms ≡ length read
          all-count = ap length terms_are ∙ (length-map ids (accepts_of members t classes) ∙ (ap length ids_are ∙ length-map read (λ (m : AllMember). m.term)))

          pub all-within : (n : ℕ) → IsNamed terms n → n < length names.names
          all-within = named-in names members t classes source.named ids terms terms_are

          terms-all : terms ≡ model_terms members t classes p
          terms-all = terms_are ∙ ap (map (accepts_of members t classes)) all-ids

          pub all-model : IsAllModel names terms read optional (accepts names members t) model
          all-model = record {
            is_all = all-limited.is_all;
            once = all-limited.once;
            accept = subst (λ xs. (k : ℕ) (a : Accepts) → k < length xs → (name : ExpandedName) → accepts names members t (slice_index xs k) name ≡ accepts_name names (slice_index_or terms k a) name) ids_are
                (accept-as names members t classes ids terms terms_are);
          }

          pub all-built : (a : AllModel) → (HasNoRepeats names.names → (f : ℕ → ExpandedName → Bool) (m : Particle) → IsAllModel names terms read optional f m → IsAllAutomatonOf names terms f read m a) → AreSymbolsOf terms a.symbols → IsBuilt names t members classes p (All a)
          all-built a automaton symbols = (
            (read, optional, all-limited, subst (λ xs. IsAllAutomatonOf names xs (accepts names members t) read model a) terms-all (automaton source.once (accepts names members t) model all-model)),
            subst (λ xs. AreSymbolsOf xs a.symbols) terms-all symbols,
          )

          one-state : IsStateTotal names t members p 1
          one-state = inr ((read, optional, all-limited), refl)

          module _ (cells count : ℕ) (a : AllModel) (count_is : count ≡ count_of a.symbols) where
            pub all-room : count ≤ cells → HasRoom names t members p cells (All a)
            all-room l = (all-positions read optional model all-limited, one-state, omega arith, omega arith)

            pub all-passed : cells < count → AreSymbolsOf terms a.symbols → HasTooLargeTable names t members classes p cells
            all-passed l symbols = (
              all-positions read optional model all-limited,
              1,
              a.symbols,
              one-state,
              subst (λ xs. AreSymbolsOf xs a.symbols) terms-all symbols,
              omega arith,
              omega arith,
            )

-- ---- the first term
module _ (names : NameTable) (t : Tables) (members : List (List ℕ)) (classes : List ℕ) (p : ℕ) (name : ExpandedName) where
  abbrev terms : List Accepts
  terms = model_terms members t classes p

  first-below : (k : ℕ) → IsFirstTerm names terms name k → k < length (terms_of (model_of t p))
  first-below k h = let l = h.0.1.0 in let e = length-map (terms_of (model_of t p)) (accepts_of members t classes) in omega arith

  pub first-of-states : HasNoAll (model_of t p) → (r : Option ℕ) → IsFirstTermOf names terms (model_of t p) name r → IsFirstIn names t members classes p name r
  first-of-states none None h = h
  first-of-states none (Some id) (k, first, e) =
      let same : map (λ (place : Place). place.number) (places (model_of t p) []) ≡ terms_of (model_of t p) = places-terms (model_of t p) none in
      let l = first-below k first in
      let m = length-map (places (model_of t p) []) (λ (place : Place). place.number) in
      let n = ap length same in
      (k, first, sym (ap (λ xs. get_or xs k 0) same) ∙ (get_or-map (λ (place : Place). place.number) (places (model_of t p) []) k blank 0 (omega arith) ∙ e))

  pub first-of-all : (own : List AllMember) (optional : Bool) → IsLimitedAll own optional (model_of t p) → (r : Option ℕ) → IsFirstMember names terms own name r → IsFirstIn names t members classes p name r
  first-of-all own optional is None h = h
  first-of-all own optional is (Some id) (k, first, e) =
      let same : terms_of (model_of t p) ≡ map (λ (m : AllMember). m.term) own = all-terms own optional (model_of t p) is in
      let l = first-below k first in
      let m = length-map own (λ (m : AllMember). m.term) in
      let n = ap length same in
      (k, first, ap (λ xs. get_or xs k 0) same ∙ (get_or-map (λ (m : AllMember). m.term) own k no_member 0 (omega arith) ∙ e))
