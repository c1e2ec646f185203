-- The first child of those from a place on.
use Rattle.std.proofs.Common.{◌≡◌, ℕ, zero, suc, List, [], ◌∷◌, drop, ap, ◌∙◌, Option, Some, None, Bool, true, false, if◌then◌else◌, refl, inl, inr}
use Rattle.std.specs.Prelude.{slice_get, find}
use Rattle.child_trees.specs.Lists.{Entry, acts_along}
use Rattle.doc_nodes.specs.declared.firsts.First.{First}
use Rattle.doc_nodes.specs.Nodes.{Has}
use Rattle.doc_nodes.specs.Firsts.{no_child, either, number_if, first_found}
use Rattle.doc_nodes.specs.Linked.{number_of, numbers}

either-first : (a : Option ℕ) (n : ℕ) (b : Option ℕ) → a ≡ Some n → either a b ≡ Some n
either-first a n b e = ap (λ x. either x b) e

stays : (es : List (Entry First)) (f : First) (n : ℕ) → f.child ≡ Some n → (acts_along first_found f es).child ≡ Some n
stays [] f n e = e
stays (x ∷ es) f n e = stays es (first_found x.act f) n (either-first f.child n x.act.child e)

pub first_child : (es : List (Entry First)) (place : ℕ) → ((e : Entry First) → Has e es → e.act.child ≡ Some (number_of e))
    → (acts_along first_found no_child (drop place es)).child ≡ slice_get (numbers es) place
first_child [] zero h = refl
first_child [] (suc place) h = refl
first_child (x ∷ es) zero h = stays es (first_found x.act no_child) (number_of x) (h x (inl refl))
first_child (x ∷ es) (suc place) h = first_child es place (λ e k. h e (inr k))

stays-element : (es : List (Entry First)) (f : First) (n : ℕ) → f.element ≡ Some n → (acts_along first_found f es).element ≡ Some n
stays-element [] f n e = e
stays-element (x ∷ es) f n e = stays-element es (first_found x.act f) n (either-first f.element n x.act.element e)

-- the first element among some children, where none was found before
pub first_element : (test : ℕ → Bool) (es : List (Entry First)) (f : First) → f.element ≡ None
    → ((e : Entry First) → Has e es → e.act.element ≡ number_if (test (number_of e)) (number_of e))
    → (acts_along first_found f es).element ≡ find test (numbers es)
first_element test [] f n h = n
first_element test (x ∷ es) f n h =
    let here : (first_found x.act f).element ≡ number_if (test (number_of x)) (number_of x) = ap (λ y. either y x.act.element) n ∙ h x (inl refl) in
    elim (test (number_of x)) as (λ b. test (number_of x) ≡ b → (acts_along first_found (first_found x.act f) es).element ≡ (if b then Some (number_of x) else find test (numbers es))) [
      | true ↦ λ q. stays-element es (first_found x.act f) (number_of x) (here ∙ ap (λ b. number_if b (number_of x)) q)
      | false ↦ λ q. first_element test es (first_found x.act f) (here ∙ ap (λ b. number_if b (number_of x)) q) (λ e k. h e (inr k))
    ] refl

pub has-drop : {A : Type 0} (n : ℕ) (xs : List A) (x : A) → Has x (drop n xs) → Has x xs
has-drop zero xs x h = h
has-drop (suc n) [] x h = h
has-drop (suc n) (y ∷ ys) x h = inr (has-drop n ys x h)
