-- What governs child elements.
use Rattle.std.proofs.Common.{◌≡◌, ℕ, ◌+◌, ◌<◌, suc, List, [], ◌∷◌, ◌++◌, Option, Some, None, length, drop, get_or, refl, sym, ap, subst, ◌∙◌, arith, append_assoc, append-nil}
use Rattle.std.specs.Prelude.{All, MatchOption}
use Rattle.std.specs.Option.{option_copied}
use Rattle.std.specs.Borrow.{Bor}
use Rattle.std.proofs.lemmas.List.{length-map, length-append}
use Rattle.std.proofs.lemmas.List.Elements.{All-nil, All-cons}
use Rattle.xs_names.specs.Names.{NameTable}
use Rattle.xs_components.specs.declared.common.TypeId.{TypeId}
use Rattle.tree_rows.specs.Forest.{Forest, none}
use Rattle.tree_rows.specs.Rows.{node}
use Rattle.tree_rows.specs.declared.name.Expanded.{Expanded}
use Rattle.tree_rows.specs.declared.row.Content.TheVariants as contents
use Rattle.tree_rows.specs.declared.row.Row.{Row}
use Rattle.elem_governing.specs.View.{IsView}
use Rattle.elem_governing.specs.declared.pairs.Governing.{Governing}
use Rattle.component_tables.specs.Types.{DeclarationTable}
use Rattle.component_tables.specs.Named.{Spaces}
use Rattle.elem_governing.proofs.There.{child-there}
use Rattle.content_models.specs.declared.automaton.ContentAutomaton.{ContentAutomaton}
use Rattle.compiled_schema.specs.Usable.{IsUsable, AreModels, IsModelOver, set_of}
use Rattle.compiled_schema.specs.declared.compiled.Compiled.{Compiled}
use Rattle.assessment.specs.Fitting.{Fits}
use Rattle.plain_tree.proofs.RowLaws.{drop_next}
use Rattle.assess_records.specs.Numbered.{Scope, Head, head_of, heads, names_of}
use Rattle.assessment.specs.Attribution.{SchemaSet, content_particle, AreTerms}
use Rattle.assessment.specs.Assessment.{governed}
use Rattle.tree_assess.specs.inside.Steps.{IsThere, AreInner, pair_of}
use Rattle.tree_assess.proofs.Forests.{heads_here}

module _ (s : SchemaSet) (parent : Governing) where
  abbrev pub pairs_of : List (Option ℕ) → List Head → List Governing
  pairs_of = governed s parent

  pairs_there : (d : DeclarationTable) (named : Spaces) → IsView s.parts d named → (terms : List (Option ℕ)) (hs : List Head) → All (IsThere s.parts) (pairs_of terms hs)
  pairs_there d named view [] hs = All-nil (IsThere s.parts)
  pairs_there d named view (term ∷ terms) [] = All-nil (IsThere s.parts)
  pairs_there d named view (term ∷ terms) (h ∷ hs) =
      All-cons (IsThere s.parts) (pair_of s parent term h) (pairs_of terms hs) (child-there s.names s.parts d named view parent.mode term h.name h.xsi h.scope) (pairs_there d named view terms hs)

  pairs_each : (terms : List (Option ℕ)) (hs : List Head) → length terms ≡ length hs → length (pairs_of terms hs) ≡ length hs
  pairs_each [] hs e = e
  pairs_each (term ∷ terms) [] e = refl
  pairs_each (term ∷ terms) (h ∷ hs) e = ap suc (pairs_each terms hs (omega (arith, e)))

  -- one pair more
  pub pair_next : (terms : List (Option ℕ)) (h : Head) (hs : List Head) (term : Option ℕ) (pairs new : List Governing) (pair : Governing) → length pairs < length terms
      → term ≡ get_or terms (length pairs) term → pair ≡ pair_of s parent term h → new ≡ pairs ++ pair ∷ [] → new ++ pairs_of (drop (length new) terms) hs ≡ pairs ++ pairs_of (drop (length pairs) terms) (h ∷ hs)
  pair_next terms h hs term pairs new pair lt is e more =
      let size : length new ≡ length pairs + 1 = ap length more ∙ length-append pairs (pair ∷ []) in
      ap (λ n. new ++ pairs_of (drop n terms) hs) size
      ∙ ap (λ l. l ++ pairs_of (drop (length pairs + 1) terms) hs) more
      ∙ append_assoc pairs (pair ∷ []) (pairs_of (drop (length pairs + 1) terms) hs)
      ∙ ap (λ p. pairs ++ p ∷ pairs_of (drop (length pairs + 1) terms) hs) e
      ∙ ap (λ l. pairs ++ pairs_of l (h ∷ hs)) (sym (drop_next terms (length pairs) term lt is))

-- where no child element is left
pub pairs_end : (s : SchemaSet) (parent : Governing) (names : NameTable) (scope : Scope) (terms : List (Option ℕ)) (left : Forest) (pairs all : List Governing) → left ≡ none
    → pairs ++ pairs_of s parent terms (heads names scope left) ≡ all → pairs ≡ all
pairs_end s parent names scope terms left pairs all e so_far =
    sym (append-nil pairs) ∙ ap (λ l. pairs ++ l) (sym (by terms)) ∙ ap (λ f. pairs ++ pairs_of s parent terms (heads names scope f)) (sym e) ∙ so_far
  where
    by : (ts : List (Option ℕ)) → pairs_of s parent ts [] ≡ []
    by [] = refl
    by (t ∷ ts) = refl

-- past a child element
module _ (s : SchemaSet) (parent : Governing) (names : NameTable) (scope : Scope) (terms : List (Option ℕ)) (left children next : Forest) (row : Row)
    (first : left ≡ node row.number row.content row.bindings row.attributes children next) where
  module _ (name : Expanded) (is : row.content ≡ contents.Element name) (pairs : List Governing) (each : length pairs + length (heads names scope left) ≡ length terms) where
    pub term_there : length pairs < length terms
    term_there = let one = ap length (heads_here left children next row first name is names scope) in omega arith

    pub each_past : (new : List Governing) (pair : Governing) → new ≡ pairs ++ pair ∷ [] → length new + length (heads names scope next) ≡ length terms
    each_past new pair more =
        let one = ap length (heads_here left children next row first name is names scope) in
        let size = ap length more in
        let sum = length-append pairs (pair ∷ []) in omega arith

    pub pairs_past : (term : Option ℕ) (new : List Governing) (pair : Governing) (all : List Governing) → term ≡ get_or terms (length pairs) term
        → pair ≡ pair_of s parent term (head_of names scope name row.bindings row.attributes) → new ≡ pairs ++ pair ∷ []
        → pairs ++ pairs_of s parent (drop (length pairs) terms) (heads names scope left) ≡ all → new ++ pairs_of s parent (drop (length new) terms) (heads names scope next) ≡ all
    pairs_past term new pair all at e more so_far =
        pair_next s parent terms (head_of names scope name row.bindings row.attributes) (heads names scope next) term pairs new pair term_there at e more
        ∙ ap (λ hs. pairs ++ pairs_of s parent (drop (length pairs) terms) hs) (sym (heads_here left children next row first name is names scope)) ∙ so_far

-- each child has a term or none
pub terms_each : (s : SchemaSet) (p : Option ℕ) (hs : List Head) (stuck : Option ℕ) (terms : List (Option ℕ)) → AreTerms s p (names_of hs) stuck terms → length terms ≡ length hs
terms_each s None hs stuck terms are =
    ap length are.terms_are ∙ length-map (names_of hs) (λ name. None) ∙ length-map hs (λ (h : Head). h.name)
terms_each s (Some p) hs stuck terms are = are.each ∙ length-map hs (λ (h : Head). h.name)

pub inner : (c : Compiled) (parent : Governing) (scope : Scope) (f : Forest) (stuck : Option ℕ) (terms : List (Option ℕ)) (pairs : List Governing) → IsUsable c
    → AreTerms (set_of c) (content_particle c.parts parent.of) (names_of (heads c.names scope f)) stuck terms → pairs ≡ pairs_of (set_of c) parent terms (heads c.names scope f)
    → AreInner (set_of c) parent scope f stuck pairs
inner c parent scope f stuck terms pairs usable are e =
    let s = set_of c in
    let hs = heads c.names scope f in
    record {
      terms = terms;
      attributed = are;
      pairs_are = e;
      each = ap length e ∙ pairs_each s parent terms hs (terms_each s (content_particle c.parts parent.of) hs stuck terms are);
      there = subst (All (IsThere c.parts)) (sym e) (pairs_there s parent c.declarations c.named usable.view terms hs);
    }

-- the automaton of a type is that of its content model
pub fitting : (c : Compiled) (first : NameTable) (of : Option TypeId) (model : Option (Bor ContentAutomaton)) → AreModels c first
    → MatchOption model (content_particle c.parts of ≡ None) (λ a. (p : ℕ) × (content_particle c.parts of ≡ Some p) × IsModelOver first c p a.now)
    → Fits (set_of c) (content_particle c.parts of) (option_copied model)
fitting c first of None models is = subst (λ p. Fits (set_of c) p None) (sym is) tt
fitting c first of (Some a) models is =
    let k = is.2 in
    subst (λ p. Fits (set_of c) p (Some a.now)) (sym is.1) (record {
      old = first;
      grown = models.grown;
      named = models.named;
      built = k.built;
      unambiguous = λ x y h. k.unambiguous (x, y, h);
    })

-- the terms of the set's table are those of the same set
pub terms_alike : (c d : Compiled) (of : Option TypeId) (ids : List ℕ) (scope : Scope) (f : Forest) (stuck : Option ℕ) (terms : List (Option ℕ)) → d ≡ c → ids ≡ names_of (heads c.names scope f)
    → AreTerms (set_of d) (content_particle d.parts of) ids stuck terms → AreTerms (set_of c) (content_particle c.parts of) (names_of (heads c.names scope f)) stuck terms
terms_alike c d of ids scope f stuck terms same are h =
    subst (λ names. AreTerms (set_of c) (content_particle c.parts of) names stuck terms) are (subst (λ (e : Compiled). AreTerms (set_of e) (content_particle e.parts of) ids stuck terms) same h)

-- the pairs by the set's table are those by the same set
pub pairs_alike : (c d : Compiled) (parent : Governing) (scope : Scope) (f : Forest) (given terms : List (Option ℕ)) (pairs : List Governing) → d ≡ c → given ≡ terms
    → pairs ≡ pairs_of (set_of d) parent given (heads d.names scope f) → pairs ≡ pairs_of (set_of c) parent terms (heads c.names scope f)
pairs_alike c d parent scope f given terms pairs same is e =
    e ∙ ap (λ (k : Compiled). pairs_of (set_of k) parent given (heads k.names scope f)) same ∙ ap (λ l. pairs_of (set_of c) parent l (heads c.names scope f)) is
