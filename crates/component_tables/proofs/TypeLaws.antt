-- The type of a declaration by those of lower rank, and the declarations at the top one after another.
use Rattle.std.proofs.Common.{◌≡◌, ℕ, suc, ◌+◌, ◌<◌, ◌≤◌, inl, inr, List, [], ◌∷◌, ◌++◌, Option, None, Some, length, take, get_or, slice_get, slice_index, refl, sym, ap, subst, ◌∙◌, arith}
use Rattle.std.specs.Prelude.{⊤, IfSome, slice_index_or}
use Rattle.std.specs.Option.{option_or}
use Rattle.std.proofs.lemmas.Option.{slice_get-get_or, get_or_from_slice_get, slice_get_past}
use Rattle.std.proofs.lemmas.Bool.{cases_lt}
use Rattle.std.proofs.lemmas.List.{take_more, length-take-le, get_or_past}
use Rattle.xs_components.specs.Tables.{Tables}
use Rattle.xs_components.specs.declared.element.ElementDecl.{ElementDecl}
use Rattle.xs_components.specs.declared.common.TypeId.{TypeId}
use Rattle.xs_components.specs.declared.common.TypeId.TheVariants.{AnyType}
use Rattle.component_references.specs.Descent.{after_turns, AsksLower}
use Rattle.component_references.specs.Order.{IsFilledBelow}
use Rattle.component_references.specs.Ranked.{IsBelow, IsRanked}
use Rattle.component_references.proofs.DescentLaws.{along-is}
use Rattle.component_tables.specs.Types.{head_type, own_type, declared_type, type_step, type_of, if_named, global_from, known}
use Rattle.component_tables.specs.Found.{IsAdded, AreTypesOf}

module _ (t : Tables) (ranked : IsRanked t) where
  module _ (f g : ℕ → TypeId) (rank : ℕ) (same : (y : ℕ) → IsBelow t.elements rank y → f y ≡ g y) where
    head-same : (head : Option ℕ) → IfSome head (IsBelow t.elements rank) → head_type f head ≡ head_type g head
    head-same None low = refl
    head-same (Some x) low = same x low

    own-same : (of : Option TypeId) (head : Option ℕ) → IfSome head (IsBelow t.elements rank) → own_type f of head ≡ own_type g of head
    own-same None head low = head-same head low
    own-same (Some own) head low = refl

  step-asks : AsksLower (slice_index t.elements.ranks) AnyType (λ type. type_step type t) (λ x. ⊤)
  step-asks x f g is same = of (slice_get t.elements.parts x) refl
    where
      of : (o : Option ElementDecl) → slice_get t.elements.parts x ≡ o → declared_type f o ≡ declared_type g o
      of None e = refl
      of (Some part) e = own-same f g (slice_index t.elements.ranks x) (λ y low. same y tt low.lower) part.of part.head (ranked.elements x part e)

  pub type_of_is : (x : ℕ) → type_of t x ≡ type_step (type_of t) t x
  unfolding type_of
  type_of_is x = along-is (slice_index t.elements.ranks) AnyType (λ type. type_step type t) (λ x. ⊤) step-asks x tt

  module _ (x : ℕ) (part : ElementDecl) (is : slice_get t.elements.parts x ≡ Some part) (table : List TypeId) where
    -- the type by a table that has those of lower rank
    pub rule-type : IsFilledBelow (length t.elements.parts) t.elements.ranks (type_of t) (slice_index t.elements.ranks x) table → own_type (known table) part.of part.head ≡ type_of t x
    rule-type filled =
        own-same (known table) (type_of t) (slice_index t.elements.ranks x)
        (λ y low. get_or_from_slice_get table y (type_of t y) AnyType (filled y low.there low.lower))
        part.of part.head (ranked.elements x part is) ∙
        sym (type_of_is x ∙ ap (declared_type (type_of t)) is)

    pub head-there : length table ≡ length t.elements.parts → IfSome part.head (λ h. h < length table)
    head-there e = of part.head (ranked.elements x part is)
      where
        of : (head : Option ℕ) → IfSome head (IsBelow t.elements (slice_index t.elements.ranks x)) → IfSome head (λ h. h < length table)
        of None low = tt
        of (Some h) low = let l = low.there in omega arith

option_or-none : {T : Type 0} (a : Option T) → option_or a None ≡ a
option_or-none None = refl
option_or-none (Some x) = refl

option_or-assoc : {T : Type 0} (a b c : Option T) → option_or a (option_or b c) ≡ option_or (option_or a b) c
option_or-assoc None b c = refl
option_or-assoc (Some x) b c = refl

global-push : (parts : List ElementDecl) (part : ElementDecl) (i name : ℕ) → global_from (parts ++ part ∷ []) i name ≡ option_or (global_from parts i name) (if_named part (i + length parts) name)
global-push [] part i name =
    let z : i ≡ i + 0 = omega arith in
    option_or-none (if_named part i name) ∙ ap (λ k. if_named part k name) z
global-push (first ∷ parts) part i name =
    let z : suc i + length parts ≡ i + suc (length parts) = omega arith in
    ap (option_or (if_named first i name)) (global-push parts part (suc i) name ∙ ap (λ k. option_or (global_from parts (suc i) name) (if_named part k name)) z) ∙
    option_or-assoc (if_named first i name) (global_from parts (suc i) name) (if_named part (i + suc (length parts)) name)

-- with one declaration more
pub globals-more : (parts : List ElementDecl) (number : ℕ) (part : ElementDecl) (old new : List (Option ℕ)) → number < length parts → part ≡ get_or parts number part →
    ((name : ℕ) → slice_index_or old name None ≡ global_from (take number parts) 0 name) → IsAdded old number part new →
    (name : ℕ) → slice_index_or new name None ≡ global_from (take (number + 1) parts) 0 name
globals-more parts number part old new l is before added name =
    let long : length (take number parts) ≡ number = length-take-le number parts (omega arith) in
    let many : 0 + length (take number parts) ≡ number = omega arith in
    added name ∙
    (ap (λ o. option_or o (if_named part number name)) (before name) ∙
    (ap (λ k. option_or (global_from (take number parts) 0 name) (if_named part k name)) (sym many) ∙
    (sym (global-push (take number parts) part 0 name) ∙
    ap (λ xs. global_from xs 0 name) (ap (λ x. take number parts ++ x ∷ []) is ∙ sym (take_more parts number part l)))))

-- a part that was read by its number
pub part-read : {T : Type 0} (read parts : List T) (x : ℕ) (part : T) → read ≡ parts → part ≡ get_or read x part → x < length parts → slice_get parts x ≡ Some part
part-read read parts x part same is there =
    slice_get-get_or parts x part there ∙ ap Some (sym (is ∙ ap (λ ps. get_or ps x part) same))

pub globals-read : (parts read : List ElementDecl) (number : ℕ) (part : ElementDecl) (old new : List (Option ℕ)) → read ≡ parts → number < length read → part ≡ get_or read number part →
    ((name : ℕ) → slice_index_or old name None ≡ global_from (take number parts) 0 name) → IsAdded old number part new →
    (name : ℕ) → slice_index_or new name None ≡ global_from (take (number + 1) parts) 0 name
globals-read parts read number part old new same l is =
    globals-more parts number part old new (subst (λ (xs : List ElementDecl). number < length xs) same l) (subst (λ (xs : List ElementDecl). part ≡ get_or xs number part) same is)

-- past the last there is no declaration
type-past : (t : Tables) (x : ℕ) → length t.elements.parts ≤ x → type_of t x ≡ AnyType
unfolding type_of
type-past t x l = ap (declared_type (after_turns (slice_index t.elements.ranks) AnyType (λ type. type_step type t) (slice_index t.elements.ranks x))) (slice_get_past t.elements.parts x l)

pub types-known : (t : Tables) (types : List TypeId) → AreTypesOf t types → (element : ℕ) → known types element ≡ type_of t element
types-known t types are element = elim (cases_lt element (length types)) [
  | inl l ↦ are.are element l
  | inr l ↦ get_or_past types element AnyType l ∙ sym (type-past t element (let e = are.each in omega arith))
]
