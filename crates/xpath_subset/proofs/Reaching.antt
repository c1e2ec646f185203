-- The test of what a path reaches answers as the relation says.
use Rattle.std.proofs.Common.{◌≡◌, inl, inr, ◌⊎◌, ◌==◌, ◌&&◌, ◌||◌, Bool, true, false, List, [], ◌∷◌, ◌++◌, Option, None, Some, get_or, refl, sym, ap, ◌∙◌, subst, true≢false, ◌↔◌}
use Rattle.std.specs.Prelude.{bytes_eq, Any}
use Rattle.std.specs.List.{list_any}
use Rattle.std.proofs.lemmas.Bool.{and_from, and_parts, or_left, or_right, eqb-true, eq-eqb}
use Rattle.std.proofs.lemmas.List.Folds.{Any-from_list_any, list_any_at}
use Rattle.std.proofs.lemmas.Slice.Eq.{bytes_eq-Decides}
use Rattle.xpath_subset.specs.declared.path.NameTest.{NameTest}
use Rattle.xpath_subset.specs.declared.path.NameTest.TheVariants as tests
use Rattle.xpath_subset.specs.declared.path.Step.{Step}
use Rattle.xpath_subset.specs.declared.path.Step.TheVariants.{Itself, Child}
use Rattle.xpath_subset.specs.declared.path.Path.{Path}
use Rattle.xpath_subset.specs.Reaches.{ExpandedName, Admits, LeadsDown, AdmitsAttribute, Reaches, IsReached}
use Rattle.xpath_subset.specs.Reached.{admits, leads_down, leads_from_anywhere, admits_attribute, leads, path_reaches, reached}

or-cases : (a b : Bool) → (a || b) ≡ true → (a ≡ true) ⊎ (b ≡ true)
or-cases true b e = inl refl
or-cases false b e = inr e

admits-to : (test : NameTest) (name : ExpandedName) → admits test name ≡ true → Admits test name
admits-to tests.Any name e = tt
admits-to (tests.Namespace space) name e = eqb-true name.0 space e
admits-to (tests.Name space local) name e =
    let both = and_parts (name.0 == space) (bytes_eq name.1 local) e in
    (eqb-true name.0 space both.0, (bytes_eq-Decides name.1 local).0 both.1)

admits-from : (test : NameTest) (name : ExpandedName) → Admits test name → admits test name ≡ true
admits-from tests.Any name a = refl
admits-from (tests.Namespace space) name a = eq-eqb name.0 space a
admits-from (tests.Name space local) name a = and_from (name.0 == space) (bytes_eq name.1 local) (eq-eqb name.0 space a.0) ((bytes_eq-Decides name.1 local).1 a.1)

attribute-to : (test : Option NameTest) (name : Option ExpandedName) → admits_attribute test name ≡ true → AdmitsAttribute test name
attribute-to None None e = tt
attribute-to None (Some name) e = true≢false (sym e)
attribute-to (Some test) None e = true≢false (sym e)
attribute-to (Some test) (Some name) e = admits-to test name e

attribute-from : (test : Option NameTest) (name : Option ExpandedName) → AdmitsAttribute test name → admits_attribute test name ≡ true
attribute-from None None a = refl
attribute-from None (Some name) a = absurd a
attribute-from (Some test) None a = absurd a
attribute-from (Some test) (Some name) a = admits-from test name a

down-to : (steps : List Step) (names : List ExpandedName) → leads_down steps names ≡ true → LeadsDown steps names
down-to [] [] e = tt
down-to [] (name ∷ names) e = true≢false (sym e)
down-to (Itself ∷ steps) names e = down-to steps names e
down-to (Child test ∷ steps) [] e = true≢false (sym e)
down-to (Child test ∷ steps) (name ∷ names) e =
    let both = and_parts (admits test name) (leads_down steps names) e in
    (admits-to test name both.0, down-to steps names both.1)

down-from : (steps : List Step) (names : List ExpandedName) → LeadsDown steps names → leads_down steps names ≡ true
down-from [] [] l = refl
down-from [] (name ∷ names) l = absurd l
down-from (Itself ∷ steps) names l = down-from steps names l
down-from (Child test ∷ steps) [] l = absurd l
down-from (Child test ∷ steps) (name ∷ names) l = and_from (admits test name) (leads_down steps names) (admits-from test name l.0) (down-from steps names l.1)

-- a way in two parts, along the second of which the steps lead
abbrev Parted : List Step → List ExpandedName → Type 0
Parted steps names = (skipped : List ExpandedName) × (followed : List ExpandedName) × (names ≡ skipped ++ followed) × LeadsDown steps followed

anywhere-to : (steps : List Step) (names : List ExpandedName) → leads_from_anywhere steps names ≡ true → Parted steps names
anywhere-to steps [] e = ([], [], refl, down-to steps [] e)
anywhere-to steps (name ∷ names) e =
    elim (or-cases (leads_down steps (name ∷ names)) (leads_from_anywhere steps names) e) [
      | inl here ↦ ([], name ∷ names, refl, down-to steps (name ∷ names) here)
      | inr later ↦ let rest = anywhere-to steps names later in (name ∷ rest.0, rest.1, ap (λ more. name ∷ more) rest.2, rest.3)
    ]

anywhere-from : (steps : List Step) (skipped followed : List ExpandedName) → LeadsDown steps followed → leads_from_anywhere steps (skipped ++ followed) ≡ true
anywhere-from steps [] [] l = down-from steps [] l
anywhere-from steps [] (name ∷ names) l = or_left (leads_down steps (name ∷ names)) (leads_from_anywhere steps names) (down-from steps (name ∷ names) l)
anywhere-from steps (name ∷ skipped) followed l = or_right (leads_down steps (name ∷ (skipped ++ followed))) (leads_from_anywhere steps (skipped ++ followed)) (anywhere-from steps skipped followed l)

module _ (path : Path) (elements : List ExpandedName) (attribute : Option ExpandedName) where
  ways-to : (anywhere : Bool) → path.anywhere ≡ anywhere → leads anywhere path.steps elements ≡ true → AdmitsAttribute path.attribute attribute → Reaches path elements attribute
  ways-to true is e last =
      let parted = anywhere-to path.steps elements e in
      record { skipped = parted.0; followed = parted.1; way = parted.2; from_the_element = λ not. absurd (true≢false (sym is ∙ not)); steps = parted.3; last = last }
  ways-to false is e last = record { skipped = []; followed = elements; way = refl; from_the_element = λ _. refl; steps = down-to path.steps elements e; last = last }

  path-to : path_reaches path elements attribute ≡ true → Reaches path elements attribute
  path-to e =
      let both = and_parts (admits_attribute path.attribute attribute) (leads path.anywhere path.steps elements) e in
      ways-to path.anywhere refl both.1 (attribute-to path.attribute attribute both.0)

  ways-from : (anywhere : Bool) → path.anywhere ≡ anywhere → Reaches path elements attribute → leads anywhere path.steps elements ≡ true
  ways-from true is r = subst (λ names. leads_from_anywhere path.steps names ≡ true) (sym r.way) (anywhere-from path.steps r.skipped r.followed r.steps)
  ways-from false is r =
      let whole : elements ≡ r.followed = r.way ∙ ap (λ front. front ++ r.followed) (r.from_the_element is) in
      subst (λ names. leads_down path.steps names ≡ true) (sym whole) (down-from path.steps r.followed r.steps)

  path-from : Reaches path elements attribute → path_reaches path elements attribute ≡ true
  path-from r = and_from (admits_attribute path.attribute attribute) (leads path.anywhere path.steps elements) (attribute-from path.attribute attribute r.last) (ways-from path.anywhere refl r)

pub reached-to : (paths : List Path) (elements : List ExpandedName) (attribute : Option ExpandedName) → reached paths elements attribute ≡ true → IsReached paths elements attribute
unfolding reached
reached-to paths elements attribute e =
    let found = Any-from_list_any (λ (path : Path). path_reaches path elements attribute) paths e in
    (found.0, found.1, found.2, found.3, path-to found.1 elements attribute found.4)

pub reached-from : (paths : List Path) (elements : List ExpandedName) (attribute : Option ExpandedName) → IsReached paths elements attribute → reached paths elements attribute ≡ true
unfolding reached
reached-from paths elements attribute r =
    list_any_at (λ (path : Path). path_reaches path elements attribute) paths r.0 r.1 r.2
    (ap (λ (path : Path). path_reaches path elements attribute) r.3 ∙ path-from r.1 elements attribute r.4)
