-- The assessment of a document, where the table of names has grown.
use Rattle.std.proofs.Common.{◌≡◌, ℕ, ◌<◌, List, [], ◌∷◌, Option, length, refl, sym, ap, ◌∙◌, subst, arith}
use Rattle.std.specs.Prelude.{All, codes}
use Rattle.std.proofs.lemmas.List.Elements.{All-head, All-tail, All-cons, All-nil}
use Rattle.xs_names.specs.Names.{NameTable, Grown, IsSound}
use Rattle.xs_names.specs.Scope.{first_scope}
use Rattle.xs_names.proofs.GrownLaws.{two_spaces}
use Rattle.tree_rows.specs.Forest.{Forest, none, text, element}
use Rattle.tree_rows.specs.declared.name.Expanded.{Expanded}
use Rattle.tree_rows.specs.declared.row.Attribute.{Attribute}
use Rattle.tree_rows.specs.declared.row.Binding.{Binding}
use Rattle.plain_tree.specs.Found.{HasTag, HasNames}
use Rattle.plain_tree.proofs.Numbers.{name_within}
use Rattle.assess_records.specs.Counts.{counts_of}
use Rattle.assess_records.specs.Numbered.{Scope, Head, head_of, heads, names_of, named_texts, scope_in, characters, shape_of}
use Rattle.assess_records.specs.declared.shape.ElementShape.{ElementShape}
use Rattle.assess_records.specs.declared.shape.NamedText.{NamedText}
use Rattle.elem_governing.specs.View.{AreKnown}
use Rattle.elem_governing.specs.declared.pairs.Governing.{Governing}
use Rattle.schema_models.specs.Named.{AreNamed}
use Rattle.assessment.specs.Attribution.{SchemaSet, content_particle, AreTerms}
use Rattle.assessment.specs.Assessment.{Entry, Assessed, Beside, first_pair, other_pairs, sibling_records, judged_of, governed, root_pairs, AreJudged, IsEntry, AreAssessed, IsAssessment}
use Rattle.assessment_laws.specs.GrownThere.{ArePartsNamed}
use Rattle.assessment_laws.proofs.Heads.{texts-within, scope-known, texts-kept, scope-kept, head-kept, heads-kept}
use Rattle.assessment_laws.proofs.Types.{child-kept, root-kept}
use Rattle.assessment_laws.proofs.Elements.{local-kept}
use Rattle.assessment_laws.specs.Grown.{with_table}
use Rattle.assessment_laws.proofs.GrownTerms.{terms-kept}

-- ---- by one table

-- the scopes of elements among siblings
pub heads-known : (t : NameTable) (scope : Scope) (f : Forest) → HasNames t f → AreKnown t scope → All (λ (h : Head). AreKnown t h.scope) (heads t scope f)
heads-known t scope none h known = All-nil (λ (h : Head). AreKnown t h.scope)
heads-known t scope (text number chars next) h known = heads-known t scope next h known
heads-known t scope (element number name bindings attributes children next) h known =
    All-cons (λ (h : Head). AreKnown t h.scope) (head_of t scope name bindings attributes) (heads t scope next) (scope-known t bindings scope h.0.spaces known) (heads-known t scope next h.2 known)

-- the names of elements among siblings
pub names-within : (t : NameTable) (scope : Scope) (f : Forest) → HasNames t f → All (λ (n : ℕ). n < length t.names) (names_of (heads t scope f))
names-within t scope none h = All-nil (λ (n : ℕ). n < length t.names)
names-within t scope (text number chars next) h = names-within t scope next h
names-within t scope (element number name bindings attributes children next) h =
    All-cons (λ (n : ℕ). n < length t.names) (head_of t scope name bindings attributes).name (names_of (heads t scope next)) (name_within t name h.0.own) (names-within t scope next h.2)

pub first-known : (t : NameTable) → IsSound t → AreKnown t first_scope
first-known t sound =
    let two = two_spaces t sound in
    All-cons (λ (b : List ℕ × ℕ). b.1 < length t.spaces) (codes "xml", 1) [] (omega (arith, two)) (All-nil (λ (b : List ℕ × ℕ). b.1 < length t.spaces))

-- ---- by one that has grown

module _ (s : SchemaSet) (new : NameTable) (g : Grown s.names new) (sound : IsSound s.names) (parts : ArePartsNamed s.names s.parts) (members : AreNamed s.names s.members) where
  governed-kept : (pair : Governing) (terms : List (Option ℕ)) (hs : List Head) → All (λ (h : Head). AreKnown s.names h.scope) hs → governed (with_table s new) pair terms hs ≡ governed s pair terms hs
  governed-kept pair [] hs known = refl
  governed-kept pair (term ∷ terms) [] known = refl
  governed-kept pair (term ∷ terms) (h ∷ hs) known =
      let own = child-kept s.names new g s.parts parts sound h.scope (All-head (λ (x : Head). AreKnown s.names x.scope) h hs known) pair.mode term h.name h.xsi in
      let rest = governed-kept pair terms hs (All-tail (λ (x : Head). AreKnown s.names x.scope) h hs known) in
      λ i. own i ∷ rest i

  roots-kept : (hs : List Head) → All (λ (h : Head). AreKnown s.names h.scope) hs → root_pairs (with_table s new) hs ≡ root_pairs s hs
  roots-kept [] known = refl
  roots-kept (h ∷ hs) known =
      let own = root-kept s.names new g s.parts parts sound h.scope (All-head (λ (x : Head). AreKnown s.names x.scope) h hs known) h.name h.xsi in
      let rest = roots-kept hs (All-tail (λ (x : Head). AreKnown s.names x.scope) h hs known) in
      λ i. own i ∷ rest i

  module _ (b : Beside) where
    entry-kept : (pair : Governing) (scope : Scope) (number : ℕ) (name : Expanded) (bindings : List Binding) (attributes : List Attribute) (children : Forest) (inner : List Governing) (below : Assessed) (own : Entry) →
        HasTag s.names name bindings attributes → HasNames s.names children → AreKnown s.names scope →
        IsEntry s b pair (head_of s.names scope name bindings attributes) number attributes children inner below own →
        IsEntry (with_table s new) b pair (head_of new scope name bindings attributes) number attributes children inner below own
    entry-kept pair scope number name bindings attributes children inner below own tag names known e =
        let old : Head = head_of s.names scope name bindings attributes in
        let head : head_of new scope name bindings attributes ≡ old = head-kept s.names new g sound scope name bindings attributes tag in
        let deeper : AreKnown s.names old.scope = scope-known s.names bindings scope tag.spaces known in
        let hs : List Head = heads s.names old.scope children in
        let kids : heads new old.scope children ≡ hs = heads-kept s.names new g sound old.scope children names in
        let shape : ElementShape = shape_of old (named_texts s.names attributes) (characters children) e.stuck (counts_of (sibling_records below)) (b.identity number) (b.ids number) in
        subst (λ (h : Head). IsEntry (with_table s new) b pair h number attributes children inner below own) (sym head)
        (record {
          number_is = e.number_is;
          governing_is = e.governing_is;
          stuck = e.stuck;
          terms = e.terms;
          attributed = subst (λ (xs : List Head). AreTerms (with_table s new) (content_particle s.parts pair.of) (names_of xs) e.stuck e.terms) (sym kids)
              (terms-kept s new g members (content_particle s.parts pair.of) (names_of hs) e.stuck e.terms (names-within s.names old.scope children names) e.attributed);
          inner_is = e.inner_is ∙ (sym (governed-kept pair e.terms hs (heads-known s.names old.scope children names deeper)) ∙ ap (λ (xs : List Head). governed (with_table s new) pair e.terms xs) (sym kids));
          known = subst (λ (ts : List NamedText). AreJudged (with_table s new) (shape_of old ts (characters children) e.stuck (counts_of (sibling_records below)) (b.identity number) (b.ids number)) own)
              (sym (texts-kept s.names new g attributes tag.names))
              (local-kept s.names new g sound s.parts own.governing shape (record { attrs = texts-within s.names attributes tag.names; scope = deeper }) parts (judged_of own) e.known);
        })

    assessed-kept : (f : Forest) (scope : Scope) (pairs : List Governing) (found : Assessed) → HasNames s.names f → AreKnown s.names scope → AreAssessed s b scope pairs f found → AreAssessed (with_table s new) b scope pairs f found
    assessed-kept none scope pairs found names known h = h
    assessed-kept (text number chars next) scope pairs found names known h = assessed-kept next scope pairs found names known h
    assessed-kept (element number name bindings attributes children next) scope pairs found names known h =
        let deeper : AreKnown s.names (scope_in s.names bindings scope) = scope-known s.names bindings scope names.0.spaces known in (
          h.0,
          h.1,
          h.2,
          h.3,
          h.4,
          entry-kept (first_pair pairs) scope number name bindings attributes children h.1 h.2 h.0 names.0 names.1 known h.5,
          subst (λ (inner : Scope). AreAssessed (with_table s new) b inner h.1 children h.2) (sym (scope-kept s.names new g bindings scope names.0.spaces))
              (assessed-kept children (scope_in s.names bindings scope) h.1 h.2 names.1 deeper h.6),
          assessed-kept next scope (other_pairs pairs) h.3 names.2 known h.7,
        )

    pub assessment-kept : (f : Forest) (found : Assessed) → HasNames s.names f → IsAssessment s b f found → IsAssessment (with_table s new) b f found
    assessment-kept f found names h =
        let known = first-known s.names sound in
        let hs : List Head = heads s.names first_scope f in
        let roots : root_pairs (with_table s new) (heads new first_scope f) ≡ root_pairs s hs =
        ap (root_pairs (with_table s new)) (heads-kept s.names new g sound first_scope f names) ∙ roots-kept hs (heads-known s.names first_scope f names known) in
        subst (λ (pairs : List Governing). AreAssessed (with_table s new) b first_scope pairs f found) (sym roots)
        (assessed-kept f first_scope (root_pairs s hs) found names known h)
