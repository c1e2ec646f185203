-- The assessment goes by the codes that are said beside of the numbers of a document alone.
use Rattle.std.proofs.Common.{◌≡◌, inl, inr, ℕ, ◌≤◌, ◌==◌, cond, List, refl, subst, arith}
use Rattle.std.proofs.lemmas.Bool.{eq-eqb}
use Rattle.xs_codes.specs.declared.fault.Found.{Found}
use Rattle.tree_rows.specs.Forest.{Forest, none, text, element}
use Rattle.tree_rows.specs.Whole.{times}
use Rattle.tree_rows.specs.declared.row.Attribute.{Attribute}
use Rattle.assess_records.specs.Counts.{counts_of}
use Rattle.elem_governing.specs.declared.pairs.Governing.{Governing}
use Rattle.assess_records.specs.Numbered.{Scope, Head, head_of, named_texts, scope_in, characters, shape_of}
use Rattle.assessment.specs.Attribution.{SchemaSet}
use Rattle.assessment.specs.Assessment.{Entry, Assessed, Beside, first_pair, other_pairs, sibling_records, AreJudged, IsEntry, AreAssessed}
use Rattle.assessment.specs.Local.{HasElement}

-- a number that an element has is a number that a node has
pub element-counts : (n : ℕ) (f : Forest) → HasElement n f → 1 ≤ times n f
element-counts n none there = absurd there
element-counts n (text number chars next) there = let rest = element-counts n next there in omega arith
element-counts n (element number name bindings attributes children next) (inl same) =
    let one : cond {A = ℕ} (number == n) 1 0 ≡ 1 = rw (eq-eqb number n same) refl in
    omega arith
element-counts n (element number name bindings attributes children next) (inr (inl below)) = let rest = element-counts n children below in omega arith
element-counts n (element number name bindings attributes children next) (inr (inr beside)) = let rest = element-counts n next beside in omega arith

-- the same is said of the number
pub record SaidAlike (b c : Beside) (n : ℕ) : Type 0 where
  pub identity_is : b.identity n ≡ c.identity n
  pub ids_are : b.ids n ≡ c.ids n

module _ (s : SchemaSet) (b c : Beside) where
  pub entry-alike : (g : Governing) (h : Head) (number : ℕ) (attributes : List Attribute) (children : Forest) (inner : List Governing) (below : Assessed) (own : Entry) → SaidAlike b c number →
      IsEntry s b g h number attributes children inner below own → IsEntry s c g h number attributes children inner below own
  entry-alike g h number attributes children inner below own alike e = record {
    number_is = e.number_is;
    governing_is = e.governing_is;
    stuck = e.stuck;
    terms = e.terms;
    attributed = e.attributed;
    inner_is = e.inner_is;
    known =
        subst (λ (ids : List Found). AreJudged s (shape_of h (named_texts s.names attributes) (characters children) e.stuck (counts_of (sibling_records below)) (c.identity number) ids) own) alike.ids_are
        (subst (λ (ids : List Found). AreJudged s (shape_of h (named_texts s.names attributes) (characters children) e.stuck (counts_of (sibling_records below)) ids (b.ids number)) own) alike.identity_is e.known);
  }

  pub assessed-alike : (f : Forest) (scope : Scope) (pairs : List Governing) (found : Assessed) → ((n : ℕ) → HasElement n f → SaidAlike b c n) → AreAssessed s b scope pairs f found → AreAssessed s c scope pairs f found
  assessed-alike none scope pairs found alike a = a
  assessed-alike (text number chars next) scope pairs found alike a = assessed-alike next scope pairs found alike a
  assessed-alike (element number name bindings attributes children next) scope pairs found alike a = (
    a.0,
    a.1,
    a.2,
    a.3,
    a.4,
    entry-alike (first_pair pairs) (head_of s.names scope name bindings attributes) number attributes children a.1 a.2 a.0 (alike number (inl refl)) a.5,
    assessed-alike children (scope_in s.names bindings scope) a.1 a.2 (λ n has. alike n (inr (inl has))) a.6,
    assessed-alike next scope (other_pairs pairs) a.3 (λ n has. alike n (inr (inr has))) a.7,
  )
