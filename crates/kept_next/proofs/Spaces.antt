-- The table of a schema set has what the symbols of its content models stand for.
use Rattle.std.proofs.Common.{◌≡◌, ℕ, ◌<◌, List, Option, None, Some, length, get_or, refl, sym, subst, arith}
use Rattle.std.specs.Prelude.{All, Contains, slice_get}
use Rattle.std.proofs.lemmas.List.Elements.{All-nil, All-contains, All-contains_itself, All-weaker}
use Rattle.xs_names.specs.Names.{NameTable, Grown}
use Rattle.xs_components.specs.declared.particle.Particle.{Particle}
use Rattle.xs_components.specs.declared.particle.Term.{Term}
use Rattle.xs_components.specs.declared.particle.Term.TheVariants as terms
use Rattle.particle_forms.specs.Models.{model_of}
use Rattle.content_automaton.specs.Terms.{ExpandedName, spaces_of}
use Rattle.content_automaton.specs.Symbols.{AreNamesOf, IsSpaceNamed}
use Rattle.content_automaton.proofs.Items.{contains_map}
use Rattle.content_models.specs.Built.{symbols_of}
use Rattle.content_models.specs.Terms.{model_terms, accepts_of, part_accepts, term_accepts, terms_of}
use Rattle.assessment.specs.Attribution.{SchemaSet}
use Rattle.content_models.specs.declared.automaton.ContentAutomaton.{ContentAutomaton}
use Rattle.assessment.specs.Fitting.{IsAutomatonFor}
use Rattle.assessment.proofs.Walking.{kept-now, symbols-known}
use Rattle.kept_next.specs.Next.{IsNamed}
use Rattle.kept_next.specs.declared.order.Symbol.{Symbol}
use Rattle.kept_next.specs.declared.symbol.SymbolName.TheVariants.{Other}
use Rattle.kept_next.specs.Spaces.{AreSpacesOf, HasSpacesNamed, named_spaces}
use Rattle.kept_next.specs.Place.{ListPlace, IsPlaceBy, name_at}
use Rattle.kept_next.proofs.Places.{table-of}
use Rattle.kept_next.proofs.Symbols.{all-symbols}

module _ (s : SchemaSet) (spaced : HasSpacesNamed s) where
  -- what a term is said to name is what it names
  term-named : (term : Term) → AreSpacesOf s.names (named_spaces term) → AreSpacesOf s.names (spaces_of (term_accepts s.members s.parts s.classes term))
  term-named (terms.Any wildcard) h = h
  term-named _ h = h

  part-named : (part : Option Particle) → ((x : Particle) → part ≡ Some x → AreSpacesOf s.names (named_spaces x.term)) → AreSpacesOf s.names (spaces_of (part_accepts s.members s.parts s.classes part))
  part-named None h = All-nil (λ (n : ℕ). n < length s.names.spaces)
  part-named (Some x) h = term-named x.term (h x refl)

  pub space-named : (p space : ℕ) → IsSpaceNamed (model_terms s.members s.parts s.classes p) space → space < length s.names.spaces
  space-named p space (a, among, has) =
      let at = contains_map (accepts_of s.members s.parts s.classes) (terms_of (model_of s.parts p)) a among in
      All-contains (λ (n : ℕ). n < length s.names.spaces) (spaces_of (accepts_of s.members s.parts s.classes at.0)) space
      (part-named (slice_get s.parts.particles.parts at.0) (λ x e. spaced at.0 x e))
      (subst (λ b. Contains (spaces_of b) space) (sym at.2) has)

-- a table that has grown from that of a set has them still
pub spaces-grown : (s : SchemaSet) (u : NameTable) → Grown s.names u → HasSpacesNamed s → HasSpacesNamed (record s { names = u })
spaces-grown s u grown spaced = λ n part at.
    All-weaker (λ (m : ℕ). m < length s.names.spaces) (λ (m : ℕ). m < length u.spaces) (λ m l. let more = grown.more_spaces in omega (arith, l, more)) (named_spaces part.term) (spaced n part at)

module _ (s : SchemaSet) (p : ℕ) (a : ContentAutomaton) (fits : IsAutomatonFor s p a) (spaced : HasSpacesNamed s) where
  -- the names and namespaces with symbols are those of the table
  pub names-known : AreNamesOf s.names (symbols_of a).names
  names-known = symbols-known s p a fits

  pub spaces-known : AreSpacesOf s.names (symbols_of a).spaces
  spaces-known = λ n d l.
      let space : ℕ = get_or (symbols_of a).spaces n d in
      space-named s spaced p space (((table-of s p a (kept-now s p a fits).built).spaces space).0 (All-contains_itself (symbols_of a).spaces n d l))

module _ (v : ListPlace) (s : SchemaSet) (p : ℕ) (names : List ExpandedName) (h : IsPlaceBy v s p names) where
  pub all-named : All (λ (x : Symbol). IsNamed s.names x.name) v.symbols
  all-named = λ n d l.
      all-symbols (λ (x : Symbol). IsNamed s.names x.name) s.names (symbols_of v.automaton) v.symbols h.ordered
      (λ k m. names-known s p v.automaton h.listed.fits h.listed.spaced k 0 m) (λ k m. spaces-known s p v.automaton h.listed.fits h.listed.spaced k 0 m) tt n d l

  pub place-named : (n : ℕ) → n < length v.symbols → IsNamed s.names (name_at v n)
  place-named n l = all-named n (record { number = 0; name = Other }) l
