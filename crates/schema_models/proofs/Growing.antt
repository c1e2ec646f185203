-- Content models and their automata, as names are added to the table.
use Rattle.std.proofs.Common.{◌≡◌, ℕ, ◌<◌, ◌⊎◌, ◌↔◌, Bool, List, Option, None, Some, length, slice_get, refl, sym, subst}
use Rattle.std.specs.Prelude.{MatchOption, slice_index_or}
use Rattle.xs_names.specs.Names.{NameTable, Grown}
use Rattle.xs_components.specs.Tables.{Tables}
use Rattle.particle_models.specs.Particles.{Particle, Place}
use Rattle.particle_models.specs.Words.{IsWordOfNames, BeginsWord, IsAmbiguous}
use Rattle.particle_models.specs.Unrolled.{HasNoAll}
use Rattle.particle_models.specs.Model.{UnrolledModel, IsUnrolled}
use Rattle.particle_forms.specs.Models.{model_of}
use Rattle.particle_forms.specs.Accepted.{accepts, is_inhabited}
use Rattle.content_automaton.specs.declared.symbol_terms.Accepts.{Accepts}
use Rattle.content_automaton.specs.declared.attribution.Attribution.{Attribution}
use Rattle.content_automaton.specs.Terms.{ExpandedName}
use Rattle.content_automaton.specs.Symbols.{SymbolTable, IsNamed, AreSymbolsOf, symbol_of}
use Rattle.content_automaton.specs.Attribution.{IsAmbivalent, IsAttributed}
use Rattle.content_automaton.specs.Listed.{AreAttributed}
use Rattle.content_automaton.proofs.Symboling.{symbol_grown}
use Rattle.content_automaton.specs.Recognized.{Recognizes, IsUnambiguous, GivesTerms}
use Rattle.content_automaton.specs.Counted.{IsStateCountOf}
use Rattle.content_automaton.specs.Modelled.{ModelAutomaton, IsAutomatonOf, AreAmbiguous}
use Rattle.content_automaton.proofs.Modelling.{within_of}
use Rattle.content_models.specs.declared.member.AllMember.{AllMember}
use Rattle.content_models.specs.States.{Recognizes as RecognizesAll}
use Rattle.content_models.specs.Ambiguity.{IsAmbiguousBy}
use Rattle.content_models.specs.Modelled.{AllModel, IsAllAutomatonOf, IsMemberFor, letter_of, pair_of, terms_at}
use Rattle.content_models.specs.Terms.{terms_of, model_terms}
use Rattle.content_models.specs.Built.{IsLimitedAll, IsBuilt, IsFirstIn}
use Rattle.content_models.specs.declared.automaton.ContentAutomaton.{ContentAutomaton}
use Rattle.content_models.specs.declared.automaton.ContentAutomaton.TheVariants.{States, All}
use Rattle.content_models.proofs.TermLaws.{named-in}
use Rattle.schema_models.specs.Checks.{KeepsLimits, IsChecked}
use Rattle.schema_models.specs.Named.{AreNamed}
use Rattle.schema_models.proofs.Accepting.{same-accepts}
use Rattle.schema_models.proofs.Giving.{stranger-new, stranger-old, first-new, first-old, ambivalent-new, ambivalent-old, attributed-new}

-- along what particles accept
carried : (P : (ℕ → ExpandedName → Bool) → Type 0) (f g : ℕ → ExpandedName → Bool) → f ≡ g → P f ↔ P g
carried P f g e = (subst P e, subst P (sym e))

module _ (old new : NameTable) (t : Tables) (members : List (List ℕ)) (grown : Grown old new) (named : AreNamed old members) where
  abbrev same : accepts old members t ≡ accepts new members t
  same = same-accepts old new grown members named t

  pub words-same : (p : ℕ) (names : List ExpandedName) → IsWordOfNames (accepts old members t) (model_of t p) names ↔ IsWordOfNames (accepts new members t) (model_of t p) names
  words-same p names = carried (λ f. IsWordOfNames f (model_of t p) names) (accepts old members t) (accepts new members t) same

  pub beginnings-same : (p : ℕ) (names : List ExpandedName) → BeginsWord (accepts old members t) (model_of t p) names ↔ BeginsWord (accepts new members t) (model_of t p) names
  beginnings-same p names = carried (λ f. BeginsWord f (model_of t p) names) (accepts old members t) (accepts new members t) same

  module _ (classes : List ℕ) (p : ℕ) where
    abbrev terms : List Accepts
    terms = model_terms members t classes p

    abbrev model : Particle
    model = model_of t p

    within : (n : ℕ) → IsNamed terms n → n < length old.names
    within n h = named-in old members t classes named (terms_of (model_of t p)) terms refl n h

    pub ambivalent-same : (name : ExpandedName) → IsAmbivalent old terms name ↔ IsAmbivalent new terms name
    ambivalent-same name = (ambivalent-new old new grown terms within name, ambivalent-old old new grown terms within name)

    pub first-same : (name : ExpandedName) (first : Option ℕ) → IsFirstIn old t members classes p name first ↔ IsFirstIn new t members classes p name first
    first-same name None = (stranger-new old new grown terms within name, stranger-old old new grown terms within name)
    first-same name (Some id) = (
      (λ h. (h.0, first-new old new grown terms within name h.0 h.1, h.2)),
      (λ h. (h.0, first-old old new grown terms within name h.0 h.1, h.2)),
    )

    -- ---- symbols keep their names
    module _ (s : SymbolTable) (are : AreSymbolsOf terms s) where
      same-symbols : symbol_of old s ≡ symbol_of new s
      same-symbols = λ i name. sym (symbol_grown old new s grown (within_of old terms s are within) name) i

      along-both : (P : (ℕ → ExpandedName → Bool) → (ExpandedName → ℕ) → Type 0) → P (accepts old members t) (symbol_of old s) → P (accepts new members t) (symbol_of new s)
      along-both P h = subst (P (accepts new members t)) same-symbols (subst (λ f. P f (symbol_of old s)) same h)

      attributed-kept : (attributions : List Attribution) → AreAttributed old s terms attributions → AreAttributed new s terms attributions
      attributed-kept attributions h name x =
          subst (λ (symbol : ExpandedName → ℕ). IsAttributed new terms name (slice_index_or attributions (symbol name) x)) same-symbols
          (attributed-new old new grown terms within name (slice_index_or attributions (symbol_of old s name) x) (h name x))

    -- ---- automata stay built
    module _ (a : ModelAutomaton) (are : AreSymbolsOf terms a.symbols) where
      states-kept : IsAutomatonOf old terms (accepts old members t) model a → IsAutomatonOf new terms (accepts new members t) model a
      states-kept is = record {
        recognizes = along-both a.symbols are (λ f symbol. Recognizes f model symbol a.machine) is.recognizes;
        pair = subst (λ f. MatchOption a.machine.pair (IsUnambiguous f model) (λ pair. AreAmbiguous f model pair.0 pair.1)) same is.pair;
        gives = along-both a.symbols are (λ f symbol. IsUnambiguous f model → GivesTerms f model symbol a.machine) is.gives;
        terms_are = is.terms_are;
        count = is.count;
        attributed = attributed-kept a.symbols are a.attributions is.attributed;
      }

    module _ (own : List AllMember) (a : AllModel) (are : AreSymbolsOf terms a.symbols) where
      all-kept : IsAllAutomatonOf old terms (accepts old members t) own model a → IsAllAutomatonOf new terms (accepts new members t) own model a
      all-kept is = record {
        recognizes = along-both a.symbols are (λ f symbol. IsUnambiguous f model → RecognizesAll f model (λ name. letter_of a (symbol name)) a.machine) is.recognizes;
        given = along-both a.symbols are (λ f symbol. IsUnambiguous f model → (name : ExpandedName) → IsMemberFor f model name (slice_get a.terms (letter_of a (symbol name)))) is.given;
        pair = subst (λ f. MatchOption (pair_of a) (IsUnambiguous f model)
            (λ pair. (pair.0 < length a.terms) × (pair.1 < length a.terms) × IsAmbiguousBy f model (Some (terms_at a.terms pair)))) same is.pair;
        terms_are = is.terms_are;
        count = is.count;
        attributed = attributed-kept a.symbols are a.attributions is.attributed;
      }

    pub built-kept : (a : ContentAutomaton) → IsBuilt old t members classes p a → IsBuilt new t members classes p a
    built-kept (States a) (none, is, are) = (none, states-kept a are is, are)
    built-kept (All a) ((own, optional, limited, is), are) = ((own, optional, limited, all-kept own a are is), are)

    -- so many states the model has, by what particles accept
    abbrev Total : ℕ → (ℕ → ExpandedName → Bool) → Type 0
    Total count f =
        (HasNoAll model × ((u : UnrolledModel) × IsUnrolled (is_inhabited members t) model u × IsStateCountOf f (is_inhabited members t) model u.table count)) ⊎
        (((own : List AllMember) × (optional : Bool) × IsLimitedAll own optional model) × (count ≡ 1))

    limits-kept : (cells_left : ℕ) → KeepsLimits old t members classes p cells_left → KeepsLimits new t members classes p cells_left
    limits-kept cells_left (few, count, s, total, are, low, room) = (few, count, s, subst (Total count) same total, are, low, room)

    pub checked-kept : (cells_left : ℕ) (a : ContentAutomaton) → IsChecked old t members classes p cells_left a → IsChecked new t members classes p cells_left a
    checked-kept cells_left a is = record {
      built = built-kept a is.built;
      limits = limits-kept cells_left is.limits;
      consistent = is.consistent;
      unambiguous = subst (λ f. (x : Place) × (y : Place) × IsAmbiguous f model x y → ⊥) same is.unambiguous;
    }
