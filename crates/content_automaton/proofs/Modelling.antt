-- The automaton of a model, of what was built.
use Rattle.std.proofs.Common.{◌≡◌, ℕ, ◌*◌, ◌<◌, ◌≤◌, ◌↔◌, Bool, true, false, IsTrue, inl, inr, List, Option, Some, None, length, get_or, ap, subst, sym, ◌∙◌, arith}
use Rattle.std.specs.Prelude.{All, MatchOption}
use Rattle.std.proofs.lemmas.Bool.{cases_lt, false≢true}
use Rattle.std.proofs.lemmas.List.Elements.{Contains-get_or}
use Rattle.content_automaton.specs.Outcome.{WhereTooMany}
use Rattle.content_automaton.specs.declared.stop.Stop.{Stop}
use Rattle.content_automaton.specs.declared.stop.Stop.TheVariants.{Memory, TooManyStates}
use Rattle.xs_positions.specs.Tree.{Tree}
use Rattle.xs_positions.specs.PositionWords.{IsWord}
use Rattle.xs_names.specs.Names.{NameTable}
use Rattle.xs_names.specs.Numbering.{HasNoRepeats}
use Rattle.xs_components.specs.declared.namespace_constraint.NsConstraint.TheVariants.{Any}
use Rattle.particle_models.specs.Particles.{Particle}
use Rattle.particle_models.specs.Unrolled.{unrolled}
use Rattle.particle_models.specs.Model.{UnrolledModel}
use Rattle.particle_models.specs.Reach.{Reach}
use Rattle.content_automaton.specs.declared.symbol_terms.Accepts.{Accepts}
use Rattle.content_automaton.specs.declared.symbol_terms.Accepts.TheVariants.{Wildcard}
use Rattle.content_automaton.specs.declared.attribution.Attribution.{Attribution}
use Rattle.content_automaton.specs.Terms.{ExpandedName}
use Rattle.content_automaton.specs.Symbols.{SymbolTable, IsNamed, AreNamesOf, AreSymbolsOf, symbol_of, count_of}
use Rattle.content_automaton.specs.Listed.{IsListing}
use Rattle.content_automaton.proofs.Symboling.{symbol_below}
use Rattle.content_automaton.specs.Moves.{symbol_at}
use Rattle.content_automaton.specs.Automaton.{Automaton, Accepts as BySymbol, Speaks, run, term_of}
use Rattle.content_automaton.specs.Ambiguity.{AreReachedTogether, AreReachedApart}
use Rattle.content_automaton.specs.Count.{IsStateCount}
use Rattle.content_automaton.proofs.Pairing.{cases_then}
use Rattle.content_automaton.specs.Recognized.{AreSymbols, IsUnambiguous}
use Rattle.content_automaton.specs.Counted.{IsStateCountOf}
use Rattle.content_automaton.specs.Modelled.{IsModelOf, IsAutomatonOf}
use Rattle.content_automaton.proofs.Recognizing.{recognizes, apart, together, together_within, gives_terms, counted}

-- what is known of the symbols, whatever the model
pub record AreListed (t : NameTable) (s : SymbolTable) (terms : List Accepts) (ids : List ℕ) (accepted : List (List ℕ)) (attributions : List Attribution) (many : ℕ) : Type 0 where
  pub many_is : many ≡ count_of s
  pub listing : IsListing t s terms accepted attributions
  pub count : length terms ≡ length ids
  pub named : (n : ℕ) → n < count_of s → (name : ExpandedName) × (symbol_of t s name ≡ n)
  pub once : HasNoRepeats t.names

module _ (t : NameTable) (s : SymbolTable) (terms : List Accepts) (u : UnrolledModel) (accepted : List (List ℕ)) (attributions : List Attribution) (many : ℕ)
    (l : AreListed t s terms u.terms accepted attributions many) (accepts : ℕ → ExpandedName → Bool) (inhabited : ℕ → Bool) (model : Particle) (m : IsModelOf t terms u accepts inhabited model) where
  abbrev tree : Tree
  tree = unrolled inhabited model 0

  are_symbols : AreSymbols accepts u.terms accepted many (symbol_of t s)
  are_symbols = subst (λ (n : ℕ). AreSymbols accepts u.terms accepted n (symbol_of t s)) (sym l.many_is) (record {
    below = symbol_below t s;
    some = l.named;
    same = λ k b name. l.listing.same l.once k (Wildcard Any 0) (let c = l.count in omega arith) name ∙ sym (m.accept k (Wildcard Any 0) b name);
  })

  pub states_counted : (count : ℕ) → IsStateCount tree u.table accepted many count ↔ IsStateCountOf accepts inhabited model u.table count
  states_counted count = counted accepts inhabited model u accepted (symbol_of t s) many m.no_all m.unrolled m.inhabits are_symbols count

  module _ (a : Automaton) (symbols : a.symbols ≡ many)
      (language : Speaks tree u.table accepted a)
      (pair : MatchOption a.pair (AreReachedApart tree u.table accepted many) (λ pair. AreReachedTogether tree u.table accepted many pair.0 pair.1))
      (gives : AreReachedApart tree u.table accepted many → (names : List ℕ) → All (λ n. n < many) names → (p : ℕ) → Reach (BySymbol u.table accepted) (IsWord tree 0) names p →
      term_of a (run a 0 names) ≡ Some (symbol_at u.table p))
      (kept : List ℕ) (kept_is : kept ≡ u.terms) where
    own : AreSymbols accepts u.terms accepted a.symbols (symbol_of t s)
    own = subst (λ (n : ℕ). AreSymbols accepts u.terms accepted n (symbol_of t s)) (sym symbols) are_symbols

    reached_apart : (p : Option (ℕ × ℕ)) → MatchOption p (AreReachedApart tree u.table accepted many) (λ pair. AreReachedTogether tree u.table accepted many pair.0 pair.1) → IsUnambiguous accepts model →
        AreReachedApart tree u.table accepted many
    reached_apart None h un = h
    reached_apart (Some p) h un = absurd (un _ _ (together accepts inhabited model u accepted (symbol_of t s) many m.no_all m.unrolled m.inhabits are_symbols p.0 p.1 h))

    pub automaton_of : IsAutomatonOf t terms accepts model (record { machine = a; symbols = s; terms = kept; attributions = attributions })
    automaton_of = record {
      recognizes = recognizes accepts inhabited model u accepted (symbol_of t s) a m.no_all m.unrolled m.inhabits own language;
      pair = cases_then a.pair _ _ _ _
          (λ h. apart accepts inhabited model u accepted (symbol_of t s) many m.no_all m.unrolled m.inhabits are_symbols h)
          (λ p h. let w = together_within accepts inhabited model u accepted (symbol_of t s) many m.no_all m.unrolled m.inhabits are_symbols p.0 p.1 h in
          (w.0, w.1, together accepts inhabited model u accepted (symbol_of t s) many m.no_all m.unrolled m.inhabits are_symbols p.0 p.1 h))
          pair;
      gives = λ un. gives_terms accepts inhabited model u accepted (symbol_of t s) a m.no_all m.unrolled m.inhabits own
          (λ names below p r. gives (reached_apart a.pair pair un) names (subst (λ (n : ℕ). All (λ k. k < n) names) symbols below) p r);
      terms_are = kept_is ∙ m.unrolled.terms;
      count = l.count ∙ sym (ap length kept_is);
      attributed = l.listing.attributed l.once;
    }

-- the table has the names of the symbols
pub within_of : (t : NameTable) (terms : List Accepts) (s : SymbolTable) → AreSymbolsOf terms s → ((n : ℕ) → IsNamed terms n → n < length t.names) → AreNamesOf t s.names
within_of t terms s are within k d l = within (get_or s.names k d) ((are.names (get_or s.names k d)).0 (Contains-get_or s.names k d l))

pub listed_of : (t : NameTable) (s : SymbolTable) (terms : List Accepts) (ids : List ℕ) (accepted listed : List (List ℕ)) (attributions : List Attribution) (many : ℕ) →
    many ≡ count_of s → IsListing t s terms accepted attributions → listed ≡ accepted → length terms ≡ length ids →
    ((t : NameTable) → AreNamesOf t s.names → HasNoRepeats t.names → (n : ℕ) → n < count_of s → (name : ExpandedName) × (symbol_of t s name ≡ n)) →
    AreSymbolsOf terms s → ((n : ℕ) → IsNamed terms n → n < length t.names) → HasNoRepeats t.names → AreListed t s terms ids listed attributions many
listed_of t s terms ids accepted listed attributions many e listing same count named are within once = record {
  many_is = e;
  listing = subst (λ (xs : List (List ℕ)). IsListing t s terms xs attributions) (sym same) listing;
  count = count;
  named = named t (within_of t terms s are within) once;
  once = once;
}

pub too_many_then : (stop : Stop) (P : Type 0) → stop ≡ TooManyStates → WhereTooMany stop P → P
too_many_then Memory P e h = absurd (let z : Memory ≡ TooManyStates = e in cc)
too_many_then TooManyStates P e h = h

-- more cells than are left, or not
pub too_large : (b : Bool) (cells states many count symbols : ℕ) → IsTrue b ↔ (cells < states * many) → b ≡ true → states ≡ count → many ≡ symbols → cells < count * symbols
too_large b cells states many count symbols h t e f = subst (λ (n : ℕ). cells < n * symbols) e (subst (λ (n : ℕ). cells < states * n) f (h.0 t))

pub not_too_large : (b : Bool) (cells states many count symbols : ℕ) → IsTrue b ↔ (cells < states * many) → b ≡ false → states ≡ count → many ≡ symbols → count * symbols ≤ cells
not_too_large b cells states many count symbols h t e f = elim (cases_lt cells (count * symbols)) [
  | inl l ↦ absurd (false≢true (sym t ∙ h.1 (subst (λ (n : ℕ). cells < states * n) (sym f) (subst (λ (n : ℕ). cells < n * symbols) (sym e) l))))
  | inr l ↦ l
]
