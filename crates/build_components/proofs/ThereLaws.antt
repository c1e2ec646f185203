-- Numbers by place that are all below a count.
use Rattle.std.proofs.Common.{◌≡◌, ℕ, ◌<◌, List, [], ◌∷◌, Option, None, Some, refl}
use Rattle.std.specs.Prelude.{All, IfSome}
use Rattle.std.specs.Option.{option_or, option_and_then, option_to_list}
use Rattle.std.proofs.lemmas.Option.{none-some}
use Rattle.set_representations.specs.Numbers.{number_at, number_named, first_number, numbers_in}
use Rattle.build_components.proofs.ListLaws.{all-flat_map, all-option}
use Rattle.component_tables.specs.Symbols.{first_place}

pub if-some : {X : Type 0} (P : X → Type 0) (found : Option X) → ((x : X) → found ≡ Some x → P x) → IfSome found P
if-some P None one = tt
if-some P (Some x) one = one x refl

-- each number by place is below the count
abbrev pub AreBelow : ℕ → List (Option ℕ) → Type 0
AreBelow count numbers = (place n : ℕ) → number_at numbers place ≡ Some n → n < count

module _ (count : ℕ) (numbers : List (Option ℕ)) (below : AreBelow count numbers) where
  pub at-place : (place : Option ℕ) (n : ℕ) → option_and_then (number_at numbers) place ≡ Some n → n < count
  at-place None n is = absurd (none-some n is)
  at-place (Some place) n is = below place n is

  pub named-below : (symbols : List (Option ℕ)) (name n : ℕ) → number_named numbers symbols name ≡ Some n → n < count
  named-below symbols name n is = at-place (first_place symbols name) n is

  pub referred-below : (symbols : List (Option ℕ)) (to : Option ℕ) (n : ℕ) → option_and_then (number_named numbers symbols) to ≡ Some n → n < count
  referred-below symbols None n is = absurd (none-some n is)
  referred-below symbols (Some name) n is = named-below symbols name n is

  pub in-below : (places : List ℕ) → All (λ n. n < count) (numbers_in numbers places)
  in-below places = all-flat_map (λ n. n < count) (λ place. option_to_list (number_at numbers place)) (λ place. all-option (λ n. n < count) (number_at numbers place) (below place)) places

  pub either-below : (first second : Option ℕ) → ((n : ℕ) → first ≡ Some n → n < count) → ((n : ℕ) → second ≡ Some n → n < count) → (n : ℕ) → option_or first second ≡ Some n → n < count
  either-below None second a b n is = b n is
  either-below (Some m) second a b n is = a n is

  pub first-below : (places : List ℕ) (n : ℕ) → first_number numbers places ≡ Some n → n < count
  first-below [] n is = absurd (none-some n is)
  first-below (place ∷ places) n is = either-below (number_at numbers place) (first_number numbers places) (below place) (first-below places) n is
