-- What identity constraints and IDs see of an element does not depend on codes of theirs.
use Rattle.std.proofs.Common.{◌≡◌, ℕ, suc, ◌==◌, ◌||◌, Bool, true, false, List, [], ◌∷◌, map, Option, refl, sym, ap, ◌∙◌, subst, arith}
use Rattle.std.specs.Prelude.{not}
use Rattle.std.proofs.lemmas.Bool.{ne_eqb}
use Rattle.xs_names.specs.Names.{IsSound}
use Rattle.xs_codes.specs.declared.fault.Found.{Found}
use Rattle.assess_records.specs.Counts.{with_child, counts_of}
use Rattle.assess_records.specs.Numbered.{Head, shape_of}
use Rattle.assess_records.specs.declared.shape.NamedText.{NamedText}
use Rattle.assess_records.specs.declared.counts.ChildCounts.{ChildCounts}
use Rattle.assess_records.specs.declared.outcome.Attempted.{Attempted}
use Rattle.assess_records.specs.declared.outcome.Attempted.TheVariants.{Full, Partial, Untried}
use Rattle.assess_records.specs.declared.outcome.Validity.{Validity}
use Rattle.assess_records.specs.declared.outcome.Validity.TheVariants.{Valid, Invalid, NotKnown}
use Rattle.assess_records.specs.declared.record.ElementRecord.{ElementRecord}
use Rattle.assess_records.specs.declared.shape.ElementShape.{ElementShape}
use Rattle.elem_governing.specs.declared.pairs.Governing.{Governing}
use Rattle.elem_codes.specs.Facts.{has_children}
use Rattle.elem_assess.specs.Local.{IsLocal}
use Rattle.elem_assess.specs.declared.records.Judged.{Judged}
use Rattle.simple_types.specs.Determined.{HasOneOutcomeEach}
use Rattle.assessment.specs.Attribution.{SchemaSet}
use Rattle.assessment.specs.Assessment.{Entry, judged_of, AreJudged}
use Rattle.assessment_laws.proofs.Judged.{local-is}
use Rattle.attr_assess.specs.Added.{AreNamed}
use Rattle.what_is_found.specs.Identity.{seen_element, seen_attributes}
use Rattle.what_is_found.proofs.Shapes.{local-again}
use Rattle.model_terms.specs.Symbols.{child_symbols}
use Rattle.model_terms.specs.Terms.{stuck_in}
use Rattle.model_lists.specs.Lists.{ListsView}
use Rattle.doc_nodes.specs.Nodes.{Nodes, element_children}
use Rattle.doc_changes.specs.Readers.{name_at, own_chars}
use Rattle.doc_readers.specs.Heads.{texts_named}
use Rattle.child_lists.specs.from_kept_records.Slots.{KeptSlots, kept_at, entry_at, pair_at, record_at}
use Rattle.child_lists.specs.from_kept_records.Fit.{Models, root_codes, head_at, shape_at, IsFit}

-- ---- there are child elements, by how many there are of each validity

some : (n : ℕ) → not (suc n == 0) ≡ true
some n = ap not (ne_eqb (suc n) 0 (λ (e : suc n ≡ 0). omega (arith, e)))

or-end : (b : Bool) → (b || true) ≡ true
or-end true = refl
or-end false = refl

first-there : (n : ℕ) (b : Bool) → (not (suc n == 0) || b) ≡ true
first-there n b = ap (λ (x : Bool). x || b) (some n)

second-there : (a : Bool) (n : ℕ) (b : Bool) → (a || (not (suc n == 0) || b)) ≡ true
second-there a n b = ap (λ (x : Bool). a || x) (first-there n b) ∙ or-end a

third-there : (a b : Bool) (n : ℕ) → (a || (b || not (suc n == 0))) ≡ true
third-there a b n = ap (λ (x : Bool). a || (b || x)) (some n) ∙ (ap (λ (x : Bool). a || x) (or-end b) ∙ or-end a)

child-there : (v : Validity) (a : Attempted) (c : ChildCounts) → has_children (with_child v a c) ≡ true
child-there Valid Full c = first-there c.valid (not (c.invalid == 0) || not (c.not_known == 0))
child-there Valid Partial c = first-there c.valid (not (c.invalid == 0) || not (c.not_known == 0))
child-there Valid Untried c = first-there c.valid (not (c.invalid == 0) || not (c.not_known == 0))
child-there Invalid Full c = second-there (not (c.valid == 0)) c.invalid (not (c.not_known == 0))
child-there Invalid Partial c = second-there (not (c.valid == 0)) c.invalid (not (c.not_known == 0))
child-there Invalid Untried c = second-there (not (c.valid == 0)) c.invalid (not (c.not_known == 0))
child-there NotKnown Full c = third-there (not (c.valid == 0)) (not (c.invalid == 0)) c.not_known
child-there NotKnown Partial c = third-there (not (c.valid == 0)) (not (c.invalid == 0)) c.not_known
child-there NotKnown Untried c = third-there (not (c.valid == 0)) (not (c.invalid == 0)) c.not_known

as-there : (f g : ℕ → ElementRecord) (xs : List ℕ) → has_children (counts_of (map f xs)) ≡ has_children (counts_of (map g xs))
as-there f g [] = refl
as-there f g (x ∷ xs) = child-there (f x).validity (f x).attempted (counts_of (map f xs)) ∙ sym (child-there (g x).validity (g x).attempted (counts_of (map g xs)))

-- ---- one element that fits, before and after

-- what is seen of it stays
pub record IsSeenAlike (old new : Entry) : Type 0 where
  pub sight : seen_element new ≡ seen_element old
  pub number : new.number ≡ old.number
  pub value : new.value ≡ old.value
  pub attr_values : new.attr_values ≡ old.attr_values

module _ (s : SchemaSet) (one : HasOneOutcomeEach s.parts) (sound : IsSound s.names) (named : AreNamed s.names s.parts) where
  -- two records of an element that is governed alike, by shapes that differ in counts and codes
  judged-alike : (shape : ElementShape) (counts : ChildCounts) (identity ids : List Found) → has_children counts ≡ has_children shape.counts → (old new : Entry) → new.number ≡ old.number → new.governing ≡ old.governing →
      AreJudged s shape old → AreJudged s (record shape { identity = identity; ids = ids; counts = counts }) new → IsSeenAlike old new
  judged-alike shape counts identity ids there old new number governing was is =
      let g = old.governing in
      let after : IsLocal s.names s.parts g (record shape { identity = identity; ids = ids; counts = counts }) (judged_of new) =
      subst (λ (q : Governing). IsLocal s.names s.parts q (record shape { identity = identity; ids = ids; counts = counts }) (judged_of new)) governing is in
      let again = local-again shape counts identity ids there s.names s.parts g (judged_of old) was in
      let same = local-is s.names s.parts one g (record shape { identity = identity; ids = ids; counts = counts }) sound named _ (judged_of new) again after in
      let value : new.value ≡ old.value = sym (ap (λ (j : Judged). j.value) same) in
      let attrs : new.attrs ≡ old.attrs = sym (ap (λ (j : Judged). j.attrs) same) in
      let attr_values : new.attr_values ≡ old.attr_values = sym (ap (λ (j : Judged). j.attr_values) same) in
      let name : new.element.name ≡ old.element.name =
      ap (λ (r : ElementRecord). r.name) is.known.record_is ∙ sym (ap (λ (r : ElementRecord). r.name) was.known.record_is) in
      record {
        sight = λ i. record {
          number = number i;
          name = name i;
          declaration = (governing i).declaration;
          of = (governing i).of;
          value = value i;
          attributes = seen_attributes (attrs i) (attr_values i);
        };
        number = number;
        value = value;
        attr_values = attr_values;
      }

  module _ (models : Models) (ns : Nodes) (ks new : KeptSlots) (v w : ListsView) (codes others : List Found) (n : ℕ) (pairs : pair_at new n ≡ pair_at ks n)
      (was : IsFit s models ns ks v codes n) (is : IsFit s models ns new w others n) where
    stuck-stays : (kept_at new n).stuck ≡ (kept_at ks n).stuck
    stuck-stays =
        is.gathered.stuck_is
        ∙ ap (λ (g : Governing). stuck_in (models g.of) (child_symbols s.names (models g.of) (map (name_at ns) (element_children ns n)))) pairs
        ∙ sym was.gathered.stuck_is

    pub stays-seen : IsSeenAlike (entry_at ks n) (entry_at new n)
    stays-seen =
        let there = ap has_children is.gathered.counts_are ∙ as-there (record_at new) (record_at ks) (element_children ns n) ∙ sym (ap has_children was.gathered.counts_are) in
        judged-alike (shape_at s ns ks codes n) (kept_at new n).counts (kept_at new n).identity (root_codes others n) there (entry_at ks n) (entry_at new n)
        (is.gathered.number_is ∙ sym was.gathered.number_is) pairs was.known
        (subst (λ (stuck : Option ℕ). AreJudged s (shape_of (head_at s ns n) (texts_named ns n) (own_chars ns n) stuck (kept_at new n).counts (kept_at new n).identity (root_codes others n)) (entry_at new n)) stuck-stays is.known)

  -- in two documents, where what it is judged by is the same in both
  module _ (models : Models) (ns ms : Nodes) (ks new : KeptSlots) (v w : ListsView) (codes others : List Found) (n : ℕ) (pairs : pair_at new n ≡ pair_at ks n) (was : IsFit s models ns ks v codes n)
      (is : IsFit s models ms new w others n) (head : head_at s ms n ≡ head_at s ns n) (texts : texts_named ms n ≡ texts_named ns n) (chars : own_chars ms n ≡ own_chars ns n)
      (children : element_children ms n ≡ element_children ns n) (names : map (name_at ms) (element_children ms n) ≡ map (name_at ns) (element_children ns n)) where
    stuck-turned : (kept_at new n).stuck ≡ (kept_at ks n).stuck
    stuck-turned =
        is.gathered.stuck_is
        ∙ (λ i. stuck_in (models (pairs i).of) (child_symbols s.names (models (pairs i).of) (names i)))
        ∙ sym was.gathered.stuck_is

    pub turned-seen : IsSeenAlike (entry_at ks n) (entry_at new n)
    turned-seen =
        let counts = (kept_at new n).counts in
        let identity = (kept_at new n).identity in
        let ids = root_codes others n in
        let there =
        ap has_children is.gathered.counts_are ∙ as-there (record_at new) (record_at ks) (element_children ms n) ∙ ap (λ (xs : List ℕ). has_children (counts_of (map (record_at ks) xs))) children
        ∙ sym (ap has_children was.gathered.counts_are) in
        judged-alike (shape_at s ns ks codes n) counts identity ids there (entry_at ks n) (entry_at new n)
        (is.gathered.number_is ∙ sym was.gathered.number_is) pairs was.known
        (subst (λ (stuck : Option ℕ). AreJudged s (shape_of (head_at s ns n) (texts_named ns n) (own_chars ns n) stuck counts identity ids) (entry_at new n)) stuck-turned
        (subst (λ (own : List ℕ). AreJudged s (shape_of (head_at s ns n) (texts_named ns n) own (kept_at new n).stuck counts identity ids) (entry_at new n)) chars
        (subst (λ (own : List NamedText). AreJudged s (shape_of (head_at s ns n) own (own_chars ms n) (kept_at new n).stuck counts identity ids) (entry_at new n)) texts
        (subst (λ (own : Head). AreJudged s (shape_of own (texts_named ms n) (own_chars ms n) (kept_at new n).stuck counts identity ids) (entry_at new n)) head is.known))))
