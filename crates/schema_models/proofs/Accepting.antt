-- What particles accept, as names are added to the table.
use Rattle.std.proofs.Common.{◌≡◌, ℕ, ◌<◌, ◌||◌, List, [], ◌∷◌, Option, None, Some, length, get_or, slice_get, slice_index_or, refl, sym}
use Rattle.std.specs.Prelude.{All as Each}
use Rattle.std.specs.List.{list_any}
use Rattle.std.proofs.lemmas.List.Elements.{All-head, All-tail, Contains-get_or}
use Rattle.xs_names.specs.Names.{NameTable, Grown, same_name}
use Rattle.xs_components.specs.Tables.{Tables}
use Rattle.xs_components.specs.declared.particle.Particle.{Particle as Part}
use Rattle.xs_components.specs.declared.particle.Term.{Term}
use Rattle.xs_components.specs.declared.particle.Term.TheVariants.{Element, Any, Group, Sequence, Choice, All}
use Rattle.xs_components.specs.Heads.{names_of}
use Rattle.particle_forms.specs.Accepted.{term_accepts, part_accepts, accepts}
use Rattle.content_automaton.specs.Terms.{ExpandedName}
use Rattle.content_automaton.proofs.Symboling.{name_grown}
use Rattle.schema_models.specs.Named.{AreNamed}

module _ (old new : NameTable) (grown : Grown old new) where
  -- a name among some of the old table
  same-any : (ns : List ℕ) (name : ExpandedName) → Each (λ n. n < length old.names) ns →
      list_any (λ n. same_name (slice_index_or old.names n (0, [])) name) ns ≡ list_any (λ n. same_name (slice_index_or new.names n (0, [])) name) ns
  same-any [] name w = refl
  same-any (n ∷ ns) name w =
      let here = name_grown old new grown n (All-head (λ n. n < length old.names) n ns w) in
      let rest = same-any ns name (All-tail (λ n. n < length old.names) n ns w) in
      λ i. same_name (sym here i) name || rest i

  module _ (members : List (List ℕ)) (named : AreNamed old members) where
    pub each-named : (element : ℕ) → Each (λ n. n < length old.names) (names_of members element)
    each-named element k d l = named element (get_or (names_of members element) k d) (Contains-get_or (names_of members element) k d l)

    same-term : (kind : Term) (name : ExpandedName) → term_accepts old members kind name ≡ term_accepts new members kind name
    same-term (Element e) name = same-any (names_of members e) name (each-named e)
    same-term (Any w) name = refl
    same-term (Group g) name = refl
    same-term (Sequence ms) name = refl
    same-term (Choice ms) name = refl
    same-term (All ms) name = refl

    same-part : (o : Option Part) (name : ExpandedName) → part_accepts old members o name ≡ part_accepts new members o name
    same-part None name = refl
    same-part (Some part) name = same-term part.term name

    -- particles accept the names that they accepted
    pub same-accepts : (t : Tables) → accepts old members t ≡ accepts new members t
    same-accepts t = λ i id name. same-part (slice_get t.particles.parts id) name i
