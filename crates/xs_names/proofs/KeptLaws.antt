-- What the texts and pairs that a `Names` keeps say of its names.
use Rattle.std.proofs.Common.{◌≡◌, ℕ, ◌<◌, List, [], ◌∷◌, ◌++◌, length, map, Option, Some, None, slice_get, get_or, bytes_eq, refl, sym, ap, subst, ◌∙◌, arith, suc, inl, inr}
use Rattle.std.specs.Option.{option_map}
use Rattle.std.proofs.lemmas.List.{get_or_append_left, map_push}
use Rattle.std.proofs.lemmas.Option.{slice_get-map, slice_get-get_or, get_or_from_slice_get, slice_get_within}
use Rattle.std.proofs.lemmas.Slice.Eq.{bytes_eq-Decides}
use Rattle.xs_names.specs.Names.{IsKept, IsSound, name_in, same_name, first_spaces}
use Rattle.xs_names.specs.Numbering.{number_of, with_item, same_pair, HasNoRepeats, Begins}
use Rattle.xs_names.proofs.NumberingLaws.{same_pair-Decides, same_name-Decides, slice_get-number_of, absent-number_of, number_of-nowhere, number_of-slice_get, with_item-old, with_item-new, Begins-trans, Begins-with_item, slice_get-Begins, length-Begins, HasNoRepeats-with_item, slice_get-push}

-- an item of a list of views is the view of the item at its place
from_map : {X Y : Type 0} (f : X → Y) (xs : List X) (n : ℕ) (y : Y) → slice_get (map f xs) n ≡ Some y → (x : X) × (slice_get xs n ≡ Some x) × (f x ≡ y)
from_map {X} {Y} f xs n y e = by (slice_get xs n) refl (sym (slice_get-map f xs n) ∙ e)
  where
    by : (r : Option X) → slice_get xs n ≡ r → option_map f r ≡ Some y → (x : X) × (slice_get xs n ≡ Some x) × (f x ≡ y)
    by None s t = cc
    by (Some x) s t = (x, s, cc)

to_map : {X Y : Type 0} (f : X → Y) (xs : List X) (n : ℕ) (x : X) → slice_get xs n ≡ Some x → slice_get (map f xs) n ≡ Some (f x)
to_map f xs n x s = slice_get-map f xs n ∙ ap (option_map f) s

-- views that agree on the items of a list give the same list
map_agree : {X Y : Type 0} (f g : X → Y) (xs : List X) → ((n : ℕ) (x : X) → slice_get xs n ≡ Some x → f x ≡ g x) → map f xs ≡ map g xs
map_agree f g [] same = refl
map_agree f g (x ∷ xs) same = ap (λ y. y ∷ map f xs) (same 0 x refl) ∙ ap (λ l. g x ∷ l) (map_agree f g xs (λ n y s. same (suc n) y s))

module _ (spaces locals : List (List ℕ)) (pairs : List (ℕ × ℕ)) where
  -- the names that a `Names` shows
  abbrev pub shown : List (ℕ × List ℕ)
  shown = map (name_in locals) pairs

  -- the local part of a pair that is kept
  pub local_at : IsKept spaces locals pairs → (n : ℕ) (pair : ℕ × ℕ) → slice_get pairs n ≡ Some pair → slice_get locals pair.1 ≡ Some (name_in locals pair).1
  local_at kept n pair s = slice_get-get_or locals pair.1 [] (kept.within n pair s).1

  -- a name has its pair: where its local part has the number l, its pair is with l
  pair_at : IsKept spaces locals pairs → (space : ℕ) (local : List ℕ) (l n : ℕ) → number_of bytes_eq locals local ≡ Some l → slice_get shown n ≡ Some (space, local) → slice_get pairs n ≡ Some (space, l)
  pair_at kept space local l n number s =
      let found = from_map (name_in locals) pairs n (space, local) s in
      let same_space : (found.0).0 ≡ space = ap (λ p. p.0) found.2 in
      let here : slice_get locals (found.0).1 ≡ Some local = local_at kept n found.0 found.1 ∙ ap (λ p. Some p.1) found.2 in
      let same_local : (found.0).1 ≡ l = kept.locals_once (found.0).1 l local here (slice_get-number_of bytes_eq bytes_eq-Decides locals local l number) in
      found.1 ∙ (λ i. Some (same_space i, same_local i))

  -- a name whose local part is not known is not there
  pub unknown_local : IsKept spaces locals pairs → (space : ℕ) (local : List ℕ) → number_of bytes_eq locals local ≡ None → (n : ℕ) → slice_get shown n ≡ Some (space, local) → ⊥
  unknown_local kept space local none n s =
      let found = from_map (name_in locals) pairs n (space, local) s in
      absent-number_of bytes_eq bytes_eq-Decides locals local none (found.0).1 (local_at kept n found.0 found.1 ∙ ap (λ p. Some p.1) found.2)

  -- nor is one whose pair is not known
  pub unknown_pair : IsKept spaces locals pairs → (space : ℕ) (local : List ℕ) (l : ℕ) → number_of bytes_eq locals local ≡ Some l → number_of same_pair pairs (space, l) ≡ None → (n : ℕ) → slice_get shown n ≡ Some (space, local) → ⊥
  unknown_pair kept space local l number none n s = absent-number_of same_pair same_pair-Decides pairs (space, l) none n (pair_at kept space local l n number s)

  -- the name of a pair that is known
  pub name_at : (space : ℕ) (local : List ℕ) (l n : ℕ) → number_of bytes_eq locals local ≡ Some l → number_of same_pair pairs (space, l) ≡ Some n → slice_get shown n ≡ Some (space, local)
  name_at space local l n number known =
      let text : (name_in locals (space, l)).1 ≡ local = get_or_from_slice_get locals l local [] (slice_get-number_of bytes_eq bytes_eq-Decides locals local l number) in
      to_map (name_in locals) pairs n (space, l) (slice_get-number_of same_pair same_pair-Decides pairs (space, l) n known) ∙ (λ i. Some (space, text i))

  pub IsSound-IsKept : IsKept spaces locals pairs → IsSound (record { spaces = spaces; names = shown })
  IsSound-IsKept kept = record {
    begins = kept.begins;
    spaces_once = kept.spaces_once;
    names_once = once;
    within = λ n space local s. let found = from_map (name_in locals) pairs n (space, local) s in subst (λ k. k < length spaces) (ap (λ p. p.0) found.2) (kept.within n found.0 found.1).0;
  }
    where
      once : HasNoRepeats shown
      once i j name s t =
          let one = from_map (name_in locals) pairs i name s in
          let two = from_map (name_in locals) pairs j name t in
          let same = one.2 ∙ sym two.2 in
          let same_space : (one.0).0 ≡ (two.0).0 = ap (λ p. p.0) same in
          let same_local : (one.0).1 ≡ (two.0).1 =
          kept.locals_once (one.0).1 (two.0).1 (name_in locals two.0).1 (local_at kept i one.0 one.1 ∙ ap (λ p. Some p.1) same) (local_at kept j two.0 two.1) in
          kept.pairs_once i j two.0 (one.1 ∙ (λ k. Some (same_space k, same_local k))) two.1

  -- the number of a name that is there, and of one that is not
  pub number-known : IsKept spaces locals pairs → (space : ℕ) (local : List ℕ) (l n : ℕ) → number_of bytes_eq locals local ≡ Some l → number_of same_pair pairs (space, l) ≡ Some n → number_of same_name shown (space, local) ≡ Some n
  number-known kept space local l n number known =
      let sound = IsSound-IsKept kept in
      number_of-slice_get same_name same_name-Decides shown sound.names_once (space, local) n (name_at space local l n number known)

  pub number-unknown_local : IsKept spaces locals pairs → (space : ℕ) (local : List ℕ) → number_of bytes_eq locals local ≡ None → number_of same_name shown (space, local) ≡ None
  number-unknown_local kept space local none = number_of-nowhere same_name same_name-Decides shown (space, local) (unknown_local kept space local none)

  pub number-unknown_pair : IsKept spaces locals pairs → (space : ℕ) (local : List ℕ) (l : ℕ) → number_of bytes_eq locals local ≡ Some l → number_of same_pair pairs (space, l) ≡ None → number_of same_name shown (space, local) ≡ None
  number-unknown_pair kept space local l number none = number_of-nowhere same_name same_name-Decides shown (space, local) (unknown_pair kept space local l number none)

  -- a namespace, a text or a pair more
  pub IsKept-space : IsKept spaces locals pairs → (name : List ℕ) → IsKept (with_item bytes_eq spaces name) locals pairs
  IsKept-space kept name =
      let longer = Begins-with_item bytes_eq bytes_eq-Decides spaces name in
      record {
        begins = Begins-trans first_spaces spaces (with_item bytes_eq spaces name) kept.begins longer;
        spaces_once = HasNoRepeats-with_item bytes_eq bytes_eq-Decides spaces name kept.spaces_once;
        locals_once = kept.locals_once;
        pairs_once = kept.pairs_once;
        within = λ n pair s. (omega (arith, kept.within n pair s, length-Begins spaces (with_item bytes_eq spaces name) longer), (kept.within n pair s).1);
      }

  pub IsKept-local : IsKept spaces locals pairs → (local : List ℕ) → IsKept spaces (with_item bytes_eq locals local) pairs
  IsKept-local kept local =
      let longer = Begins-with_item bytes_eq bytes_eq-Decides locals local in
      record {
        begins = kept.begins;
        spaces_once = kept.spaces_once;
        locals_once = HasNoRepeats-with_item bytes_eq bytes_eq-Decides locals local kept.locals_once;
        pairs_once = kept.pairs_once;
        within = λ n pair s. ((kept.within n pair s).0, omega (arith, kept.within n pair s, length-Begins locals (with_item bytes_eq locals local) longer));
      }

  -- a text more leaves the names
  pub shown-local : IsKept spaces locals pairs → (local : List ℕ) → map (name_in (with_item bytes_eq locals local)) pairs ≡ shown
  shown-local kept local =
      let longer = Begins-with_item bytes_eq bytes_eq-Decides locals local in
      map_agree (name_in (with_item bytes_eq locals local)) (name_in locals) pairs
      (λ n pair s. let same : get_or (with_item bytes_eq locals local) pair.1 [] ≡ get_or locals pair.1 [] =
      ap (λ l. get_or l pair.1 []) longer.1 ∙ get_or_append_left locals longer.0 [] pair.1 (kept.within n pair s).1 in λ i. (pair.0, same i))

  pub IsKept-pair : IsKept spaces locals pairs → (space : ℕ) (local : List ℕ) (l : ℕ) → space < length spaces → number_of bytes_eq locals local ≡ Some l → IsKept spaces locals (with_item same_pair pairs (space, l))
  IsKept-pair kept space local l inside number = by (number_of same_pair pairs (space, l)) refl
    where
      known_local : l < length locals
      known_local = slice_get_within locals l local (slice_get-number_of bytes_eq bytes_eq-Decides locals local l number)

      by : (r : Option ℕ) → number_of same_pair pairs (space, l) ≡ r → IsKept spaces locals (with_item same_pair pairs (space, l))
      by (Some n) e = subst (IsKept spaces locals) (sym (with_item-old same_pair same_pair-Decides pairs (space, l) n e)) kept
      by None e = record {
        begins = kept.begins;
        spaces_once = kept.spaces_once;
        locals_once = kept.locals_once;
        pairs_once = HasNoRepeats-with_item same_pair same_pair-Decides pairs (space, l) kept.pairs_once;
        within = λ n pair s.
            elim (slice_get-push pairs (space, l) n pair (ap (λ ps. slice_get ps n) (sym (with_item-new same_pair same_pair-Decides pairs (space, l) e)) ∙ s))
            [ inl f ↦ kept.within n pair f | inr f ↦ (subst (λ k. k < length spaces) (sym (ap (λ p. p.0) f.1)) inside, subst (λ k. k < length locals) (sym (ap (λ p. p.1) f.1)) known_local) ];
      }

  -- a pair more is a name more
  pub shown-pair : IsKept spaces locals pairs → (space : ℕ) (local : List ℕ) (l : ℕ) → number_of bytes_eq locals local ≡ Some l
      → map (name_in locals) (with_item same_pair pairs (space, l)) ≡ with_item same_name shown (space, local)
  shown-pair kept space local l number = by (number_of same_pair pairs (space, l)) refl
    where
      text : (name_in locals (space, l)).1 ≡ local
      text = get_or_from_slice_get locals l local [] (slice_get-number_of bytes_eq bytes_eq-Decides locals local l number)

      by : (r : Option ℕ) → number_of same_pair pairs (space, l) ≡ r → map (name_in locals) (with_item same_pair pairs (space, l)) ≡ with_item same_name shown (space, local)
      by (Some n) e =
          ap (map (name_in locals)) (with_item-old same_pair same_pair-Decides pairs (space, l) n e)
          ∙ sym (with_item-old same_name same_name-Decides shown (space, local) n (number-known kept space local l n number e))
      by None e =
          ap (map (name_in locals)) (with_item-new same_pair same_pair-Decides pairs (space, l) e)
          ∙ map_push (name_in locals) pairs (space, l)
          ∙ (λ i. shown ++ (space, text i) ∷ [])
          ∙ sym (with_item-new same_name same_name-Decides shown (space, local) (number-unknown_pair kept space local l number e))

-- the number of a namespace that is in every table
pub first_number : (spaces : List (List ℕ)) → Begins first_spaces spaces → HasNoRepeats spaces → (name known : List ℕ) (k n : ℕ)
    → slice_get first_spaces k ≡ Some known → number_of bytes_eq spaces name ≡ Some n → (n ≡ k → name ≡ known) × (name ≡ known → n ≡ k)
first_number spaces begins once name known k n at_k number =
    let here : slice_get spaces n ≡ Some name = slice_get-number_of bytes_eq bytes_eq-Decides spaces name n number in
    let there : slice_get spaces k ≡ Some known = slice_get-Begins first_spaces spaces begins k known at_k in (
      λ e. let same : slice_get spaces k ≡ Some name = subst (λ m. slice_get spaces m ≡ Some name) e here in cc,
      λ e. once n k known (here ∙ ap Some e) there,
    )

-- what a table is after its names came in: with more texts, and with a pair too
module _ (spaces locals more : List (List ℕ)) (pairs : List (ℕ × ℕ)) (kept : IsKept spaces locals pairs) (local : List ℕ) (grown : more ≡ with_item bytes_eq locals local) where
  pub IsKept-more : IsKept spaces more pairs
  IsKept-more = rw grown (IsKept-local spaces locals pairs kept local)

  pub shown-more : map (name_in more) pairs ≡ map (name_in locals) pairs
  shown-more = rw grown (shown-local spaces locals pairs kept local)

  module _ (space l : ℕ) (number : number_of bytes_eq more local ≡ Some l) (after : List (ℕ × ℕ)) (put : after ≡ with_item same_pair pairs (space, l)) (inside : space < length spaces) where
    pub IsKept-after : IsKept spaces more after
    IsKept-after = rw put (IsKept-pair spaces more pairs IsKept-more space local l inside number)

    pub shown-after : map (name_in more) after ≡ with_item same_name (map (name_in locals) pairs) (space, local)
    shown-after = ap (map (name_in more)) put ∙ shown-pair spaces more pairs IsKept-more space local l number ∙ ap (λ names. with_item same_name names (space, local)) shown-more

    pub number-after : (n : ℕ) → number_of same_pair after (space, l) ≡ Some n → number_of same_name (map (name_in more) after) (space, local) ≡ Some n
    number-after n known = number-known spaces more after IsKept-after space local l n number known
