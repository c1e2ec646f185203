-- Siblings, assessed one by one.
use Rattle.std.proofs.Common.{◌≡◌, ℕ, zero, suc, ◌+◌, ◌<◌, List, [], ◌∷◌, ◌++◌, length, map, drop, get_or, refl, sym, ap, subst, ◌∙◌, append_assoc, append-nil, arith}
use Rattle.std.specs.Prelude.{All}
use Rattle.xs_components.specs.Tables.{Tables}
use Rattle.tree_rows.specs.Forest.{Forest, none, element}
use Rattle.tree_rows.specs.Rows.{node}
use Rattle.tree_rows.specs.declared.name.Expanded.{Expanded}
use Rattle.tree_rows.specs.declared.row.Content.TheVariants as contents
use Rattle.tree_rows.specs.declared.row.Row.{Row}
use Rattle.assess_records.specs.Counts.{no_children, with_child}
use Rattle.assess_records.specs.declared.counts.ChildCounts.{ChildCounts}
use Rattle.elem_governing.specs.declared.pairs.Governing.{Governing}
use Rattle.plain_tree.proofs.RowLaws.{drop_next}
use Rattle.assess_records.specs.Numbered.{Scope}
use Rattle.assessment.specs.Attribution.{SchemaSet}
use Rattle.assessment.specs.Assessment.{Assessed, nothing, entry, entries, sibling_records, AreAssessed}
use Rattle.assessment.specs.Plain.{plain_beside}
use Rattle.tree_assess.specs.Entries.{placed_below, placed_of}
use Rattle.tree_assess.specs.declared.entry.ElementEntry.{ElementEntry}
use Rattle.tree_assess.specs.declared.entry.ChildOutcome.{ChildOutcome}
use Rattle.tree_assess.specs.inside.Steps.{IsThere, IsSoFar, AreDone, IsDone, counted_onto, pairs_in}
use Rattle.tree_assess.proofs.Counting.{counted}
use Rattle.tree_assess.proofs.Forests.{here, here_text}

module _ (s : SchemaSet) (parent : ℕ) (scope : Scope) (pairs : List Governing) (all : Forest) (old : List ElementEntry) where
  pub begun : (counts : ChildCounts) → counts ≡ no_children → IsSoFar s parent scope pairs all all 0 old old counts
  begun counts e = record {
    whole = λ rest. rest;
    assessed = λ rest h. h;
    placed_are = λ rest. refl;
    counts_are = λ rest. sym (counted (sibling_records rest)) ∙ ap (counted_onto (sibling_records rest)) (sym e);
  }

  pub ended : (left : Forest) (place : ℕ) (new : List ElementEntry) (counts : ChildCounts) → IsSoFar s parent scope pairs all left place old new counts → left ≡ none → AreDone s parent scope pairs all old new counts
  ended left place new counts so e = record {
    found = so.whole nothing;
    assessed = so.assessed nothing (subst (λ f. AreAssessed s plain_beside scope (drop place pairs) f nothing) (sym e) refl);
    placed_are = sym (so.placed_are nothing ∙ append-nil (map placed_of new));
    counts_are = sym (so.counts_are nothing);
  }

  module _ (left children next : Forest) (row : Row) (place : ℕ) (first : left ≡ node row.number row.content row.bindings row.attributes children next) where
    pub past_text : (new : List ElementEntry) (counts : ChildCounts) (chars : List ℕ) → row.content ≡ contents.Chars chars → IsSoFar s parent scope pairs all left place old new counts → IsSoFar s parent scope pairs all next place old new counts
    past_text new counts chars is so = record {
      whole = so.whole;
      assessed = λ rest h. so.assessed rest (subst (λ f. AreAssessed s plain_beside scope (drop place pairs) f rest) (sym (here_text left children next row first chars is)) h);
      placed_are = so.placed_are;
      counts_are = so.counts_are;
    }

    module _ (name : Expanded) (is : row.content ≡ contents.Element name) (g : Governing) (within : place < length pairs) (at : g ≡ get_or pairs place g)
        (mid new : List ElementEntry) (outcome : ChildOutcome) (done : IsDone s parent scope g name row children mid new outcome) where
      one_more : (rest : Assessed) → AreAssessed s plain_beside scope (drop (place + 1) pairs) next rest → AreAssessed s plain_beside scope (drop place pairs) left (entry done.own done.below rest)
      one_more rest h =
          subst (λ f. AreAssessed s plain_beside scope (drop place pairs) f (entry done.own done.below rest)) (sym (here left children next row first name is))
          (subst (λ ps. AreAssessed s plain_beside scope ps (element row.number name row.bindings row.attributes children next) (entry done.own done.below rest)) (sym (drop_next pairs place g within at))
          (done.own, done.inner, done.below, rest, refl, done.entry_is, done.below_are, h))

      pub past_element : (counts more : ChildCounts) → IsSoFar s parent scope pairs all left place old mid counts → more ≡ with_child outcome.validity outcome.attempted counts → IsSoFar s parent scope pairs all next (place + 1) old new more
      past_element counts more so e =
          let own = done.own.element in
          let counted_own : with_child own.validity own.attempted counts ≡ more =
          sym (e ∙ ap (λ v. with_child v outcome.attempted counts) done.validity_is ∙ ap (λ a. with_child own.validity a counts) done.attempted_is) in
          record {
            whole = λ rest. so.whole (entry done.own done.below rest);
            assessed = λ rest h. so.assessed (entry done.own done.below rest) (one_more rest h);
            placed_are =
                λ rest. so.placed_are (entry done.own done.below rest)
                ∙ sym (ap (λ l. l ++ placed_below parent rest) done.placed_are ∙ append_assoc (map placed_of mid) (record { bearer = parent; below = length (entries done.below); own = done.own } ∷ placed_below done.own.number done.below) (placed_below parent rest));
            counts_are = λ rest. so.counts_are (entry done.own done.below rest) ∙ ap (counted_onto (sibling_records rest)) counted_own;
          }

-- what governs an element among siblings
pub pair_at : (pairs : List ElementEntry) (place : ℕ) (pair : ElementEntry) (g : Governing) → place < length (pairs_in pairs) → pair ≡ get_or pairs place pair → g ≡ pair.governing → g ≡ get_or (pairs_in pairs) place g
pair_at [] place pair g within at e = absurd (omega (arith, within))
pair_at (p ∷ pairs) zero pair g within at e = e ∙ ap (λ (q : ElementEntry). q.governing) at
pair_at (p ∷ pairs) (suc place) pair g within at e = pair_at pairs place pair g (omega (arith, within)) at e

pub there_at : (t : Tables) (pairs : List Governing) (place : ℕ) (g : Governing) → All (IsThere t) pairs → place < length pairs → g ≡ get_or pairs place g → IsThere t g
there_at t pairs place g there within at = subst (IsThere t) (sym at) (there place g within)

pub done_by : (s : SchemaSet) (parent : ℕ) (scope other : Scope) (pairs more : List Governing) (f : Forest) (old new : List ElementEntry) (counts : ChildCounts) → scope ≡ other → pairs ≡ more
    → AreDone s parent scope pairs f old new counts → AreDone s parent other more f old new counts
done_by s parent scope other pairs more f old new counts e d h =
    subst (λ ps. AreDone s parent other ps f old new counts) d (subst (λ sc. AreDone s parent sc pairs f old new counts) e h)
