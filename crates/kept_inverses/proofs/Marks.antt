-- How many child elements have names that are ambivalent, by the symbols of an automaton and by names.
use Rattle.std.proofs.Common.{◌≡◌, ℕ, suc, ◌+◌, List, [], ◌∷◌, length, map, Bool, true, false, Option, None, Some, refl, sym, ap, ◌∙◌, subst, inl, inr, arith}
use Rattle.std.specs.Prelude.{if◌then◌else◌}
use Rattle.tree_rows.specs.Forest.{Forest, none, text, element, Document}
use Rattle.assess_records.specs.Numbered.{name_in}
use Rattle.xs_components.specs.declared.common.TypeId.{TypeId}
use Rattle.content_automaton.specs.Terms.{name_at as expanded_at}
use Rattle.content_automaton.specs.Symbols.{symbol_of}
use Rattle.content_models.specs.Built.{symbols_of}
use Rattle.content_models.specs.declared.automaton.ContentAutomaton.{ContentAutomaton}
use Rattle.assessment.specs.Attribution.{SchemaSet, content_particle}
use Rattle.assessment.specs.Fitting.{Fits, IsAutomatonFor}
use Rattle.assessment.specs.Local.{AreRead, HasElement, element_numbers}
use Rattle.assessment.proofs.Walking.{kept-now}
use Rattle.assessment_laws.specs.Ambivalent.{is_ambivalent}
use Rattle.assessment_laws.proofs.Ambivalent.{ambivalent-told, told-ambivalent}
use Rattle.compiled_schema.specs.Usable.{IsUsable, set_of}
use Rattle.compiled_schema.specs.declared.compiled.Compiled.{Compiled}
use Rattle.model_terms.specs.Symbols.{child_symbols}
use Rattle.model_terms.specs.Terms.{is_ambivalent_symbol}
use Rattle.model_terms.proofs.Given.{ambivalent-is}
use Rattle.model_lists.specs.Lists.{places_from}
use Rattle.edit_budgets.specs.Budget.{ambivalent_among, ambivalent_by}
use Rattle.doc_nodes.specs.Nodes.{Nodes, element_children}
use Rattle.doc_changes.specs.Stands.{StandsFor}
use Rattle.doc_changes.specs.Readers.{name_at}
use Rattle.doc_readers.specs.Heads.{readers_of}
use Rattle.doc_readers.proofs.Showing.{name_shown}
use Rattle.kept_changes.specs.from_kept_records.Fit.{models_of}
use Rattle.kept_changes.proofs.from_kept_records.Modelled.{type-fits}
use Rattle.kept_changes.proofs.from_kept_records.Nodes.{shown}
use Rattle.kept_changes.specs.from_kept_judging.Judged.{symbols_by}
use Rattle.kept_changes.specs.from_child_lists.Family.{marked_places}

abbrev trues : List Bool → ℕ
trues [] = 0
trues (b ∷ bs) = (if b then 1 else 0) + trues bs

places-many : (bs : List Bool) (from : ℕ) → length (places_from from bs) ≡ trues bs
places-many [] from = refl
places-many (true ∷ bs) from = let r = places-many bs (suc from) in omega (arith, r)
places-many (false ∷ bs) from = let r = places-many bs (suc from) in omega (arith, r)

same-bool : (a b : Bool) → (a ≡ true → b ≡ true) → (b ≡ true → a ≡ true) → a ≡ b
same-bool true b there back = sym (there refl)
same-bool false true there back = back refl
same-bool false false there back = refl

module _ (c : Compiled) (usable : IsUsable c) (ns : Nodes) (d : Document) (z : StandsFor c.names ns d) where
  abbrev s : SchemaSet
  s = set_of c

  module _ (p : ℕ) (a : ContentAutomaton) (fits : IsAutomatonFor s p a) where
    mark-is : (n : ℕ) → is_ambivalent_symbol a (symbol_of c.names (symbols_of a) (expanded_at c.names n)) ≡ is_ambivalent s p n
    mark-is n =
        let told = ambivalent-is s p a (kept-now s p a fits) (expanded_at c.names n) in
        same-bool (is_ambivalent_symbol a (symbol_of c.names (symbols_of a) (expanded_at c.names n))) (is_ambivalent s p n) (λ h. told-ambivalent s p n (told.0 h)) (λ h. told.1 (ambivalent-told s p n h))

    marks-are : (f : Forest) → AreRead (readers_of c.names ns) f → ((m : ℕ) → HasElement m f → HasElement m d.forest) →
        trues (map (is_ambivalent_symbol a) (child_symbols c.names (Some a) (map (name_at ns) (element_numbers f)))) ≡ ambivalent_among s p f
    marks-are none r has = refl
    marks-are (text number chars next) r has = marks-are next r has
    marks-are (element number name bindings attributes children next) r has =
        let named : name_at ns number ≡ name_in c.names name =
        sym (ap (name_in c.names) (sym r.0.name_is) ∙ name_shown c.names ns d z number (shown c.names ns d.forest z.nodes number (has number (inl refl)))) in
        let own = mark-is (name_at ns number) ∙ ap (is_ambivalent s p) named in
        let rest = marks-are next r.2 (λ m h. has m (inr (inr h))) in
        let one = ap {B = ℕ} (λ (b : Bool). if b then 1 else 0) own in
        omega (arith, one, rest)

  pub marked-are : (of : Option TypeId) (n : ℕ) (f : Forest) → AreRead (readers_of c.names ns) f → ((m : ℕ) → HasElement m f → HasElement m d.forest) → element_children ns n ≡ element_numbers f →
      length (marked_places (models_of c of) (symbols_by c ns of n)) ≡ ambivalent_by s (content_particle c.parts of) f
  marked-are of n f r has numbers =
      ap (λ (xs : List ℕ). length (marked_places (models_of c of) (child_symbols c.names (models_of c of) (map (name_at ns) xs)))) numbers
      ∙ by (content_particle c.parts of) (models_of c of) (type-fits c usable.first usable.models_are of)
    where
      by : (particle : Option ℕ) (model : Option ContentAutomaton) → Fits s particle model →
          length (marked_places model (child_symbols c.names model (map (name_at ns) (element_numbers f)))) ≡ ambivalent_by s particle f
      by None None fits = refl
      by None (Some a) fits = absurd fits
      by (Some p) None fits = absurd fits
      by (Some p) (Some a) fits =
          places-many (map (is_ambivalent_symbol a) (child_symbols c.names (Some a) (map (name_at ns) (element_numbers f)))) 0 ∙ marks-are p a fits f r has
