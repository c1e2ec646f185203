-- An element with what is below it.
use Rattle.std.proofs.Common.{◌≡◌, ℕ, ◌+◌, ◌<◌, List, [], ◌∷◌, ◌++◌, length, map, refl, sym, ap, subst, ◌∙◌, arith, append_assoc, append-nil}
use Rattle.std.specs.Prelude.{slice_set, Result, IfOk}
use Rattle.std.proofs.lemmas.Result.{IfOk-weaker}
use Rattle.std.proofs.lemmas.List.{map-set, length-map, length-append, map-append}
use Rattle.std.proofs.Math.Seq.{set-append_seam}
use Rattle.xs_names.specs.Scope.{first_scope}
use Rattle.tree_rows.specs.Forest.{Forest}
use Rattle.tree_rows.specs.declared.name.Expanded.{Expanded}
use Rattle.tree_rows.specs.declared.row.Row.{Row}
use Rattle.assess_records.specs.Counts.{counts_of}
use Rattle.assess_records.specs.declared.counts.ChildCounts.{ChildCounts}
use Rattle.assess_records.specs.declared.shape.ElementShape.{ElementShape}
use Rattle.elem_governing.specs.declared.pairs.Governing.{Governing}
use Rattle.compiled_schema.specs.Usable.{set_of}
use Rattle.compiled_schema.specs.declared.compiled.Compiled.{Compiled}
use Rattle.assess_records.specs.Numbered.{Scope, Head, head_of, heads, names_of, named_texts, characters, scope_in, shape_of}
use Rattle.assessment.specs.Attribution.{SchemaSet, content_particle, AreTerms}
use Rattle.assessment.specs.Assessment.{Assessed, nothing, entry, entries, governed, sibling_records, AreAssessed, AreJudged, IsEntry}
use Rattle.assessment.specs.Plain.{plain_beside}
use Rattle.tree_assess.specs.Entries.{Placed, ArePlain, placed_below, all_placed, entry_of, placed_of}
use Rattle.tree_assess.specs.declared.entry.ElementEntry.{ElementEntry}
use Rattle.tree_assess.specs.declared.entry.ChildOutcome.{ChildOutcome}
use Rattle.tree_assess.specs.declared.elements.Entered.{Entered}
use Rattle.tree_assess.specs.inside.Steps.{AreDone, IsDone, alone, root_pair_of, pairs_in}
use Rattle.tree_assess.specs.inside.Entering.{IsEntered, IsFinished, shape_from}

-- an entry takes the place that was kept for it
pub placed : (old pushed mid new : List ElementEntry) (blank own : ElementEntry) (below : List Placed) (place : ℕ) → pushed ≡ old ++ blank ∷ [] → map placed_of mid ≡ map placed_of pushed ++ below → place ≡ length old
    → new ≡ slice_set mid place own → map placed_of new ≡ map placed_of old ++ placed_of own ∷ below
placed old pushed mid new blank own below place push more at set =
    let held : map placed_of mid ≡ map placed_of old ++ placed_of blank ∷ below =
    more ∙ ap (λ es. map placed_of es ++ below) push ∙ ap (λ es. es ++ below) (map-append placed_of old (blank ∷ []))
    ∙ append_assoc (map placed_of old) (placed_of blank ∷ []) below in
    let place_is : place ≡ length (map placed_of old) = at ∙ sym (length-map old placed_of) in
    ap (map placed_of) set ∙ map-set placed_of mid place own ∙ ap (λ es. slice_set es place (placed_of own)) held
    ∙ ap (λ n. slice_set (map placed_of old ++ placed_of blank ∷ below) n (placed_of own)) place_is
    ∙ set-append_seam (map placed_of old) (placed_of blank) below (placed_of own)

count_placed : (parent : ℕ) (found : Assessed) → length (placed_below parent found) ≡ length (entries found)
count_placed parent nothing = refl
count_placed parent (entry own below next) =
    let both = length-append (placed_below own.number below) (placed_below parent next) in
    let all = length-append (entries below) (entries next) in
    let first = count_placed own.number below in
    let others = count_placed parent next in
    omega arith

-- how many entries were put below the one whose place was kept
count_below : (old pushed mid : List ElementEntry) (blank : ElementEntry) (parent : ℕ) (found : Assessed) (place count : ℕ) → pushed ≡ old ++ blank ∷ [] → map placed_of mid ≡ map placed_of pushed ++ placed_below parent found → place ≡ length old
    → count + place + 1 ≡ length mid → count ≡ length (entries found)
count_below old pushed mid blank parent found place count push more at sum =
    let size = length-map mid placed_of in
    let all = ap length more in
    let both = length-append (map placed_of pushed) (placed_below parent found) in
    let held = length-map pushed placed_of in
    let first = ap length push in
    let one = length-append old (blank ∷ []) in
    let placed_count = count_placed parent found in
    omega arith

module _ (c : Compiled) (bearer : ℕ) (outer : Scope) (g : Governing) (name : Expanded) (row : Row) (children : Forest) (e : Entered) (is : IsEntered c bearer outer g name row children e) where
  abbrev own_head : Head
  own_head = head_of c.names outer name row.bindings row.attributes

  scope_is : e.head.scope ≡ scope_in c.names row.bindings outer
  scope_is = ap (λ (h : Head). h.scope) is.head_is.head_is

  abbrev own_shape : ChildCounts → ElementShape
  own_shape counts = shape_of own_head (named_texts c.names row.attributes) (characters children) e.inner.stuck counts [] []

  shape_is : (counts : ChildCounts) → shape_from e counts ≡ own_shape counts
  shape_is counts =
      ap (λ h. shape_of h e.head.attrs e.text e.inner.stuck counts [] []) is.head_is.head_is
      ∙ ap (λ attrs. shape_of own_head attrs e.text e.inner.stuck counts [] []) is.head_is.attrs_are
      ∙ ap (λ chars. shape_of own_head (named_texts c.names row.attributes) chars e.inner.stuck counts [] []) is.text_is

  module _ (counts : ChildCounts) (old pushed mid new : List ElementEntry) (blank : ElementEntry) (place : ℕ) (outcome : ChildOutcome)
      (below : AreDone (set_of c) e.number e.head.scope (pairs_in e.inner.begun.items) children pushed mid counts) (end : IsFinished (set_of c) g e.number e.bearer (shape_from e counts) place mid new outcome) where
    known : AreJudged (set_of c) (own_shape (counts_of (sibling_records below.found))) (entry_of end.own)
    known = subst (λ shape. AreJudged (set_of c) shape (entry_of end.own)) (shape_is counts ∙ ap own_shape below.counts_are) end.judged

    pub element_done : pushed ≡ old ++ blank ∷ [] → place ≡ length old → IsDone (set_of c) bearer outer g name row children old new outcome
    element_done push at = record {
      own = entry_of end.own;
      inner = pairs_in e.inner.begun.items;
      below = below.found;
      entry_is = record {
        number_is = end.number_is ∙ is.number_is;
        governing_is = end.governing_is;
        stuck = e.inner.stuck;
        terms = is.inner_are.terms;
        attributed = subst (λ scope. AreTerms (set_of c) (content_particle c.parts g.of) (names_of (heads c.names scope children)) e.inner.stuck is.inner_are.terms) scope_is is.inner_are.attributed;
        inner_is = is.inner_are.pairs_are ∙ ap (λ scope. governed (set_of c) g is.inner_are.terms (heads c.names scope children)) scope_is;
        known = known;
      };
      below_are = subst (λ scope. AreAssessed (set_of c) plain_beside scope (pairs_in e.inner.begun.items) children below.found) scope_is below.assessed;
      placed_are =
          placed old pushed mid new blank end.own (placed_below e.number below.found) place push below.placed_are at end.placed
          ∙ ap (λ n. map placed_of old ++ record { bearer = n; below = end.own.below; own = entry_of end.own } ∷ placed_below e.number below.found) (end.bearer_is ∙ is.bearer_is)
          ∙ ap (λ n. map placed_of old ++ record { bearer = bearer; below = n; own = entry_of end.own } ∷ placed_below e.number below.found)
          (count_below old pushed mid blank e.number below.found place end.own.below push below.placed_are at end.below_is)
          ∙ ap (λ n. map placed_of old ++ record { bearer = bearer; below = length (entries below.found); own = entry_of end.own } ∷ placed_below n below.found) (sym end.number_is);
      validity_is = end.validity_is;
      attempted_is = end.attempted_is;
    }

-- the place that was kept is there
pub place_there : (old pushed mid : List ElementEntry) (blank : ElementEntry) (below : List Placed) (place : ℕ) → pushed ≡ old ++ blank ∷ [] → map placed_of mid ≡ map placed_of pushed ++ below → place ≡ length old → place < length mid
place_there old pushed mid blank below place push more at =
    let size = length-map mid placed_of in
    let all = ap length more in
    let sum = length-append (map placed_of pushed) below in
    let held = length-map pushed placed_of in
    let first = ap length push in
    let one = length-append old (blank ∷ []) in
    omega arith

-- an element by the results of its calls, each of which leaves the set as it was
pub element_from : {E : Type 0} (k d b : Compiled) (bearer : ℕ) (outer : Scope) (g : Governing) (name : Expanded) (row : Row) (children : Forest) (e : Entered) → IsEntered k bearer outer g name row children e → d ≡ k → b ≡ k
    → (counts : ChildCounts) (old pushed mid new : List ElementEntry) (place : ℕ) (r : Result ChildOutcome E) → (blank : ElementEntry) × (pushed ≡ old ++ blank ∷ []) → place ≡ length old
    → AreDone (set_of d) e.number e.head.scope (pairs_in e.inner.begun.items) children pushed mid counts → IfOk r (IsFinished (set_of b) g e.number e.bearer (shape_from e counts) place mid new)
    → IfOk r (IsDone (set_of k) bearer outer g name row children old new)
element_from k d b bearer outer g name row children e is same later counts old pushed mid new place r kept at below =
    let done = subst (λ (c : Compiled). AreDone (set_of c) e.number e.head.scope (pairs_in e.inner.begun.items) children pushed mid counts) same below in
    IfOk-weaker r _ _ (λ outcome h. element_done k bearer outer g name row children e is counts old pushed mid new kept.0 place outcome done
    (subst (λ (c : Compiled). IsFinished (set_of c) g e.number e.bearer (shape_from e counts) place mid new outcome) later h) kept.1 at)

-- the place that was kept for an element is there when its child elements are assessed
pub kept_there : (s : SchemaSet) (parent : ℕ) (scope : Scope) (pairs : List Governing) (children : Forest) (counts : ChildCounts) (old pushed mid : List ElementEntry) (place : ℕ) → (blank : ElementEntry) × (pushed ≡ old ++ blank ∷ []) → place ≡ length old
    → AreDone s parent scope pairs children pushed mid counts → place < length mid
kept_there s parent scope pairs children counts old pushed mid place kept at below = place_there old pushed mid kept.0 (placed_below parent below.found) place kept.1 below.placed_are at

-- a document is its root
pub root_done : (s : SchemaSet) (g : Governing) (name : Expanded) (row : Row) (children : Forest) (new : List ElementEntry) (outcome : ChildOutcome)
    → g ≡ root_pair_of s (head_of s.names first_scope name row.bindings row.attributes) → IsDone s row.number first_scope g name row children [] new outcome → ArePlain s (alone name row children) new
root_done s g name row children new outcome e done = record {
  found = entry done.own done.below nothing;
  assessed = (
    done.own,
    done.inner,
    done.below,
    nothing,
    refl,
    subst (λ pair. IsEntry s plain_beside pair (head_of s.names first_scope name row.bindings row.attributes) row.number row.attributes children done.inner done.below done.own) e done.entry_is,
    done.below_are,
    refl,
  );
  placed_are =
      done.placed_are ∙ ap (λ n. record { bearer = n; below = length (entries done.below); own = done.own } ∷ placed_below done.own.number done.below) (sym done.entry_is.number_is)
      ∙ ap (λ bs. record { bearer = done.own.number; below = length (entries done.below); own = done.own } ∷ bs) (sym (append-nil (placed_below done.own.number done.below)));
}

pub root_from : (k d : Compiled) (outer : Scope) (g : Governing) (name : Expanded) (row : Row) (children : Forest) (old new : List ElementEntry) (outcome : ChildOutcome) → d ≡ k → outer ≡ first_scope
    → g ≡ root_pair_of (set_of k) (head_of k.names first_scope name row.bindings row.attributes) → old ≡ [] → IsDone (set_of d) row.number outer g name row children old new outcome
    → ArePlain (set_of k) (alone name row children) new
root_from k d outer g name row children old new outcome same first pair empty done =
    root_done (set_of k) g name row children new outcome pair
    (subst (λ es. IsDone (set_of k) row.number first_scope g name row children es new outcome) empty
    (subst (λ scope. IsDone (set_of k) row.number scope g name row children old new outcome) first (subst (λ (c : Compiled). IsDone (set_of c) row.number outer g name row children old new outcome) same done)))
