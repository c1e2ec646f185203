-- Records that fit one another from each element to its child elements are the assessment.
use Rattle.std.proofs.Common.{◌≡◌, ℕ, inl, inr, List, ◌∷◌, refl, sym, ap, subst, ◌∙◌}
use Rattle.std.specs.Prelude.{All, map}
use Rattle.std.proofs.lemmas.List.Elements.{All-head, All-tail}
use Rattle.xs_names.specs.Scope.{first_scope}
use Rattle.tree_rows.specs.Forest.{Forest, none, text, element}
use Rattle.tree_rows.specs.declared.name.Expanded.{Expanded}
use Rattle.tree_rows.specs.declared.row.Attribute.{Attribute}
use Rattle.tree_rows.specs.declared.row.Binding.{Binding}
use Rattle.assess_records.specs.Counts.{counts_of}
use Rattle.assess_records.specs.declared.shape.ElementShape.{ElementShape}
use Rattle.assess_records.specs.Instance.{instance_text}
use Rattle.assess_records.specs.declared.instance_names.InstanceAttribute.TheVariants.{TypeName}
use Rattle.elem_governing.specs.declared.pairs.Governing.{Governing}
use Rattle.assess_records.specs.Numbered.{Scope, Head, head_of, heads, names_of, name_in, named_texts, scope_in, characters, shape_of}
use Rattle.assessment.specs.Attribution.{SchemaSet, content_particle, AreTerms}
use Rattle.assessment.specs.Assessment.{Beside, governed, sibling_records, AreJudged, IsEntry, AreAssessed, IsAssessment}
use Rattle.assessment.specs.Local.{Readers, element_numbers, IsRead, AreRead, HasElement, Kept, head_at, pair_at, record_at, shape_at, IsScoped, IsSettled, AreRoots, kept_entries}

module _ (s : SchemaSet) (b : Beside) (r : Readers) (ks : ℕ → Kept) where
  head-is : (scope : Scope) (number : ℕ) (name : Expanded) (bindings : List Binding) (attributes : List Attribute) (children : Forest) →
      IsRead r number name bindings attributes children → IsScoped s b r ks scope number → head_at s b r ks number ≡ head_of s.names scope name bindings attributes
  head-is scope number name bindings attributes children read scoped =
      ap (λ x. record { name = name_in s.names x; xsi = instance_text s.names (named_texts s.names (r.attributes number)) TypeName; scope = (ks number).scope }) read.name_is ∙
      (ap (λ x. record { name = name_in s.names name; xsi = instance_text s.names (named_texts s.names x) TypeName; scope = (ks number).scope }) read.attributes_are ∙
      ap (λ x. record { name = name_in s.names name; xsi = instance_text s.names (named_texts s.names attributes) TypeName; scope = x })
      (scoped ∙ ap (λ bs. scope_in s.names bs scope) read.bindings_are))

  heads-are : (scope : Scope) (f : Forest) → AreRead r f → All (IsScoped s b r ks scope) (element_numbers f) → map (head_at s b r ks) (element_numbers f) ≡ heads s.names scope f
  heads-are scope none read scoped = refl
  heads-are scope (text number chars next) read scoped = heads-are scope next read scoped
  heads-are scope (element number name bindings attributes children next) read scoped =
      ap (λ h. h ∷ map (head_at s b r ks) (element_numbers next)) (head-is scope number name bindings attributes children read.0 (All-head (IsScoped s b r ks scope) number (element_numbers next) scoped)) ∙
      ap (λ hs. head_of s.names scope name bindings attributes ∷ hs) (heads-are scope next read.2 (All-tail (IsScoped s b r ks scope) number (element_numbers next) scoped))

  records-are : (f : Forest) → map (record_at s b r ks) (element_numbers f) ≡ sibling_records (kept_entries ks f)
  records-are none = refl
  records-are (text number chars next) = records-are next
  records-are (element number name bindings attributes children next) = ap (λ rs. (ks number).found.element ∷ rs) (records-are next)

  module _ (scope : Scope) (number : ℕ) (name : Expanded) (bindings : List Binding) (attributes : List Attribute) (children : Forest)
      (read : IsRead r number name bindings attributes children) (scoped : IsScoped s b r ks scope number) (settled : IsSettled s b r ks number)
      (inner : map (head_at s b r ks) (element_numbers children) ≡ heads s.names (scope_in s.names bindings scope) children) where
    child-heads : map (head_at s b r ks) (r.children number) ≡ heads s.names (scope_in s.names bindings scope) children
    child-heads = ap (map (head_at s b r ks)) read.children_are ∙ inner

    shape-is : shape_at s b r ks number ≡
        shape_of (head_of s.names scope name bindings attributes) (named_texts s.names attributes) (characters children) (ks number).stuck
        (counts_of (sibling_records (kept_entries ks children))) (b.identity number) (b.ids number)
    shape-is =
        ap (λ h. shape_of h (named_texts s.names (r.attributes number)) (r.chars number) (ks number).stuck (ks number).counts (b.identity number) (b.ids number))
        (head-is scope number name bindings attributes children read scoped) ∙
        (ap (λ given. shape_of (head_of s.names scope name bindings attributes) (named_texts s.names given) (r.chars number) (ks number).stuck (ks number).counts (b.identity number) (b.ids number))
        read.attributes_are ∙
        (ap (λ cs. shape_of (head_of s.names scope name bindings attributes) (named_texts s.names attributes) cs (ks number).stuck (ks number).counts (b.identity number) (b.ids number))
        read.chars_are ∙
        ap (λ n. shape_of (head_of s.names scope name bindings attributes) (named_texts s.names attributes) (characters children) (ks number).stuck n (b.identity number) (b.ids number))
        (settled.counts_are ∙ (ap (λ ns. counts_of (map (record_at s b r ks) ns)) read.children_are ∙ ap counts_of (records-are children)))))

    entry-fits : IsEntry s b (pair_at s b r ks number) (head_of s.names scope name bindings attributes) number attributes children
        (map (pair_at s b r ks) (element_numbers children)) (kept_entries ks children) (ks number).found
    entry-fits = record {
      number_is = settled.number_is;
      governing_is = refl;
      stuck = (ks number).stuck;
      terms = settled.terms;
      attributed = subst (λ (hs : List Head). AreTerms s (content_particle s.parts (pair_at s b r ks number).of) (names_of hs) (ks number).stuck settled.terms) child-heads settled.attributed;
      inner_is = ap (map (pair_at s b r ks)) (sym read.children_are) ∙ (settled.pairs ∙ ap (governed s (pair_at s b r ks number) settled.terms) child-heads);
      known = subst (λ (shape : ElementShape). AreJudged s shape (ks number).found) shape-is settled.known;
    }

  inner-scoped : (scope : Scope) (number : ℕ) (name : Expanded) (bindings : List Binding) (attributes : List Attribute) (children : Forest) →
      IsRead r number name bindings attributes children → IsScoped s b r ks scope number → IsSettled s b r ks number →
      All (IsScoped s b r ks (scope_in s.names bindings scope)) (element_numbers children)
  inner-scoped scope number name bindings attributes children read scoped settled =
      subst (λ (outer : Scope). All (IsScoped s b r ks outer) (element_numbers children)) (scoped ∙ ap (λ bs. scope_in s.names bs scope) read.bindings_are)
      (subst (λ (ns : List ℕ). All (IsScoped s b r ks (ks number).scope) ns) read.children_are settled.scopes)

  pub assessed : (f : Forest) (scope : Scope) → AreRead r f → ((n : ℕ) → HasElement n f → IsSettled s b r ks n) → All (IsScoped s b r ks scope) (element_numbers f) →
      AreAssessed s b scope (map (pair_at s b r ks) (element_numbers f)) f (kept_entries ks f)
  assessed none scope read settled scoped = refl
  assessed (text number chars next) scope read settled scoped = assessed next scope read settled scoped
  assessed (element number name bindings attributes children next) scope read settled scoped =
      let own = settled number (inl refl) in
      let inner = inner-scoped scope number name bindings attributes children read.0 (All-head (IsScoped s b r ks scope) number (element_numbers next) scoped) own in (
        (ks number).found,
        map (pair_at s b r ks) (element_numbers children),
        kept_entries ks children,
        kept_entries ks next,
        refl,
        entry-fits scope number name bindings attributes children read.0 (All-head (IsScoped s b r ks scope) number (element_numbers next) scoped) own (heads-are (scope_in s.names bindings scope) children read.1 inner),
        assessed children (scope_in s.names bindings scope) read.1 (λ n has. settled n (inr (inl has))) inner,
        assessed next scope read.2 (λ n has. settled n (inr (inr has))) (All-tail (IsScoped s b r ks scope) number (element_numbers next) scoped),
      )

  pub assessment : (f : Forest) → AreRead r f → ((n : ℕ) → HasElement n f → IsSettled s b r ks n) → AreRoots s b r ks f → IsAssessment s b f (kept_entries ks f)
  assessment f read settled roots =
      subst (λ (pairs : List Governing). AreAssessed s b first_scope pairs f (kept_entries ks f)) roots.pairs
      (assessed f first_scope read settled roots.scopes)
