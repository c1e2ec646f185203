-- The leaves of child elements, one by one.
use Rattle.std.proofs.Common.{◌≡◌, ℕ, ◌+◌, ◌<◌, ◌≤◌, Bool, true, List, [], ◌∷◌, ◌++◌, Some, map, take, length, get_or, sym, ap, subst, ◌∙◌, add-one, arith, All}
use Rattle.std.specs.Prelude.{slice_index}
use Rattle.std.specs.Option.{ForSome}
use Rattle.std.proofs.Math.Seq.{take-suc}
use Rattle.std.proofs.lemmas.List.{length-map, get_or-map, get_or_default, take_all}
use Rattle.std.proofs.lemmas.List.Elements.{All-map}
use Rattle.child_trees.specs.declared.leaf.Leaf.{Leaf}
use Rattle.content_automaton.specs.Symbols.{count_of}
use Rattle.content_models.specs.declared.automaton.ContentAutomaton.{ContentAutomaton}
use Rattle.content_models.specs.declared.automaton.ContentAutomaton.TheVariants.{States}
use Rattle.content_automaton.specs.Modelled.{ModelAutomaton}
use Rattle.model_summaries.specs.Maps.{width_of}
use Rattle.model_terms.specs.Symbols.{AreSymbolsBy}
use Rattle.model_terms.specs.Terms.{is_ambivalent_symbol}
use Rattle.model_terms.proofs.Naming.{one-of, below-count}
use Rattle.model_lists.specs.Inside.{leaf_for}

image-next : {A B : Type 0} (f : A → B) (xs : List A) (k : ℕ) (x : A) (made : List B) (y : B) → k < length xs → x ≡ get_or xs k x → made ≡ take k (map f xs) → y ≡ f x →
    made ++ y ∷ [] ≡ take (k + 1) (map f xs)
image-next f xs k x made y lt at so is =
    let size = length-map xs f in
    (λ i. so i ++ is i ∷ []) ∙
    (ap (λ z. take k (map f xs) ++ z ∷ []) (ap f at ∙ sym (get_or-map f xs k x (f x) lt)) ∙
    (sym (take-suc (map f xs) k (f x) (omega (arith, lt, size))) ∙ ap (λ n. take n (map f xs)) (sym (add-one k))))

module _ {Letter : Type 0} (a : ContentAutomaton) (letter : ℕ → Letter) (symbols : List ℕ) where
  pub leaf-next : AreSymbolsBy a symbols → (k n : ℕ) (made : List (Leaf Letter)) (marked : Bool) (y : Leaf Letter) → k < length symbols → n ≡ get_or symbols k n →
      made ≡ take k (map (leaf_for letter (is_ambivalent_symbol a)) symbols) → (AreSymbolsBy a (n ∷ []) → marked ≡ is_ambivalent_symbol a n) →
      y ≡ record { letter = Some (letter n); element = true; marked = marked } → made ++ y ∷ [] ≡ take (k + 1) (map (leaf_for letter (is_ambivalent_symbol a)) symbols)
  leaf-next of k n made marked y lt at so mark is =
      let same : slice_index symbols k ≡ n = sym (at ∙ get_or_default symbols k n 0 lt) in
      let mixed : marked ≡ is_ambivalent_symbol a n = mark (subst (λ m. AreSymbolsBy a (m ∷ [])) same (one-of a symbols of k lt)) in
      image-next (leaf_for letter (is_ambivalent_symbol a)) symbols k n made y lt at so (is ∙ (λ i. record { letter = Some (letter n); element = true; marked = mixed i }))

  pub leaves-all : (k : ℕ) (made : List (Leaf Letter)) → made ≡ take k (map (leaf_for letter (is_ambivalent_symbol a)) symbols) → length symbols ≤ k → made ≡ map (leaf_for letter (is_ambivalent_symbol a)) symbols
  leaves-all k made so le = let size = length-map symbols (leaf_for letter (is_ambivalent_symbol a)) in so ∙ take_all k (map (leaf_for letter (is_ambivalent_symbol a)) symbols) (omega (arith, le, size))

-- the rows of these symbols are to be had
pub rows-fit : (a : ModelAutomaton) (ambivalent : ℕ → Bool) (symbols : List ℕ) → AreSymbolsBy (States a) symbols → (width : ℕ) → width_of a ≡ width →
    All (λ (l : Leaf ℕ). ForSome l.letter (λ n. (width_of a ≡ width) × (n < count_of a.symbols))) (map (leaf_for (λ n. n) ambivalent) symbols)
rows-fit a ambivalent symbols of width e = All-map (λ (l : Leaf ℕ). ForSome l.letter (λ n. (width_of a ≡ width) × (n < count_of a.symbols))) (leaf_for (λ n. n) ambivalent) symbols
    (λ k d lt n is. (e, subst (λ m. m < count_of a.symbols) (get_or_default symbols k 0 d lt ∙ same n (get_or symbols k d) is) (below-count a symbols of k lt)))
  where
    same : (n m : ℕ) → Some m ≡ Some n → m ≡ n
    same n m is = cc
