-- Steps that lead down, one at a time and by their number.
use Rattle.std.proofs.Common.{◌≡◌, ℕ, ◌+◌, ◌-◌, ◌<◌, true, false, if◌then◌else◌, List, [], ◌∷◌, ◌++◌, length, take, drop, refl, sym, ◌∙◌, ap, subst, arith, Option, suc, length-append, length-drop, get_or, true≢false, ◌↔◌}
use Rattle.std.proofs.lemmas.List.{take-append-drop, take_all}
use Rattle.std.proofs.lemmas.List.Sums.{sum_by-cons}
use Rattle.std.proofs.Math.Seq.{drop-append_seam}
use Rattle.xpath_subset.specs.declared.path.Step.{Step}
use Rattle.xpath_subset.specs.declared.path.Step.TheVariants.{Itself, Child}
use Rattle.xpath_subset.specs.declared.path.Path.{Path}
use Rattle.xpath_subset.specs.Reaches.{ExpandedName, LeadsDown, AdmitsAttribute, Reaches}
use Rattle.xpath_subset.specs.inside.Steps.{child_count, is_child}

-- steps lead down along as many elements as they have name tests
pub length-from_leads : (steps : List Step) (names : List ExpandedName) → LeadsDown steps names → length names ≡ child_count steps
length-from_leads [] [] leads = refl
length-from_leads [] (name ∷ names) leads = absurd leads
length-from_leads (Itself ∷ steps) names leads = let rest = length-from_leads steps names leads in let all = sum_by-cons (λ step. if is_child step then 1 else 0) Itself steps in omega arith
length-from_leads (Child test ∷ steps) [] leads = absurd leads
length-from_leads (Child test ∷ steps) (name ∷ names) leads = let rest = length-from_leads steps names leads.1 in let all = sum_by-cons (λ step. if is_child step then 1 else 0) (Child test) steps in omega arith

-- a way with fewer elements than the path has name tests
pub Reaches-too_few : (path : Path) (elements : List ExpandedName) (attribute : Option ExpandedName) → length elements < child_count path.steps → Reaches path elements attribute → ⊥
Reaches-too_few path elements attribute few reaches =
    let followed = length-from_leads path.steps reaches.followed reaches.steps in
    let all = ap length reaches.way ∙ length-append reaches.skipped reaches.followed in
    omega arith

-- a way whose end has as many elements as the path has name tests
pub Reaches-anywhere : (path : Path) (elements : List ExpandedName) (attribute : Option ExpandedName) (n : ℕ) → path.anywhere ≡ true → n + child_count path.steps ≡ length elements → Reaches path elements attribute ↔ (AdmitsAttribute path.attribute attribute × LeadsDown path.steps (drop n elements))
Reaches-anywhere path elements attribute n anywhere same = (
  λ reaches. (reaches.last, to reaches),
  λ both. record {
    skipped = take n elements;
    followed = drop n elements;
    way = sym (take-append-drop n elements);
    from_the_element = λ here. absurd (true≢false (sym anywhere ∙ here));
    steps = both.1;
    last = both.0;
  },
)
  where
    to : Reaches path elements attribute → LeadsDown path.steps (drop n elements)
    to reaches =
        let followed = length-from_leads path.steps reaches.followed reaches.steps in
        let all = ap length reaches.way ∙ length-append reaches.skipped reaches.followed in
        let count : n ≡ length reaches.skipped = omega arith in
        let end : drop n elements ≡ reaches.followed = ap (λ m. drop m elements) count ∙ ap (drop (length reaches.skipped)) reaches.way ∙ drop-append_seam reaches.skipped reaches.followed in
        subst (LeadsDown path.steps) (sym end) reaches.steps

-- a path without `.//`
pub Reaches-here : (path : Path) (elements : List ExpandedName) (attribute : Option ExpandedName) → path.anywhere ≡ false → Reaches path elements attribute ↔ (AdmitsAttribute path.attribute attribute × LeadsDown path.steps elements)
Reaches-here path elements attribute here = (
  λ reaches. (reaches.last, to reaches),
  λ both. record {
    skipped = [];
    followed = elements;
    way = refl;
    from_the_element = λ _. refl;
    steps = both.1;
    last = both.0;
  },
)
  where
    to : Reaches path elements attribute → LeadsDown path.steps elements
    to reaches = subst (LeadsDown path.steps) (sym (reaches.way ∙ ap (λ front. front ++ reaches.followed) (reaches.from_the_element here))) reaches.steps

-- a slice up to the end
pub slice_to_end : (n : ℕ) (names : List ℕ) → take (length names - n) (drop n names) ≡ drop n names
slice_to_end n names = take_all (length names - n) (drop n names) (let all = length-drop n names in omega arith)

-- numbers below another, but for the first
pub tail_within : (n first : ℕ) (rest elements : List ℕ) → elements ≡ first ∷ rest → ((k d : ℕ) → k < length elements → get_or elements k d < n) → (k d : ℕ) → k < length rest → get_or rest k d < n
tail_within n first rest elements same within k d below =
    subst (λ names. (k d : ℕ) → k < length names → get_or names k d < n) same within (suc k) d (let shorter : k < length rest = below in omega arith)
