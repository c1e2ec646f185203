-- What the use of one name says.
use Rattle.std.proofs.Common.{◌≡◌, ℕ, Bool, true, false, ◌&&◌, ◌==◌, not, List, [], ◌∷◌, ◌++◌, Option, None, Some, refl, sym, ap, ◌∙◌, subst, append-nil}
use Rattle.std.specs.Prelude.{is_some, slice_get}
use Rattle.std.specs.List.{list_any}
use Rattle.std.specs.Option.{option_and_then, option_or, IsSomeAnd}
use Rattle.std.proofs.Math.Bool.{and-false}
use Rattle.xs_names.specs.Names.{NameTable}
use Rattle.xs_components.specs.Tables.{Tables}
use Rattle.xs_components.specs.declared.common.ValueConstraint.{ValueConstraint}
use Rattle.attr_uses.specs.declared.entry.UseAt.{UseAt}
use Rattle.attr_uses.specs.Written.{use_at}
use Rattle.attr_uses.specs.Uses.{use_named}
use Rattle.assess_records.specs.declared.shape.NamedText.{NamedText}
use Rattle.attr_assess.specs.Lacking.{declared_constraint, effective_constraint, requires_one, gives_one, is_lacking, part_named, is_missing, is_added}
use Rattle.attr_assess.specs.Added.{IsAddedUse}
use Rattle.attr_assess.specs.inside.Uses.{constraint_of, IsFoundUse, IsAddedOf, picked, IsNotedIf, IsNoted}
use Rattle.attr_assess.specs.declared.added.AddedUse.{AddedUse}
use Rattle.attr_assess.specs.declared.found.FoundUse.{FoundUse}

pub not-picked : (b : Bool) (n : ℕ) (xs : List ℕ) → b ≡ false → xs ≡ xs ++ picked b n
not-picked b n xs e = sym (ap (λ c. xs ++ picked c n) e ∙ append-nil xs)

pub one-picked : (b : Bool) (n m : ℕ) (xs ys : List ℕ) → b ≡ true → m ≡ n → ys ≡ xs ++ m ∷ [] → ys ≡ xs ++ picked b n
one-picked b n m xs ys e same is = is ∙ (ap (λ k. xs ++ k ∷ []) same ∙ sym (ap (λ c. xs ++ picked c n) e))

-- an element has the name, or does not
pub lacking-by : (given : List NamedText) (n m : ℕ) (b : Bool) → m ≡ n → b ≡ list_any (λ (attr : NamedText). attr.name == m) given → is_lacking given n ≡ not b
lacking-by given n m b same e = ap (λ k. not (list_any (λ (attr : NamedText). attr.name == k) given)) (sym same) ∙ ap not (sym e)

module _ (names : NameTable) (t : Tables) (uses : List UseAt) (given : List NamedText) (n : ℕ) where
  pub not-noted : (xs : List AddedUse) → is_added t uses given n ≡ false → IsNoted names t uses given n xs xs
  not-noted xs e = subst (λ b. IsNotedIf names t uses given b n xs xs) (sym e) refl

  pub one-noted : (added : AddedUse) (xs ys : List AddedUse) → is_added t uses given n ≡ true → IsAddedUse names t uses added → added.name ≡ n → ys ≡ xs ++ added ∷ [] → IsNoted names t uses given n xs ys
  one-noted added xs ys e is same more = subst (λ b. IsNotedIf names t uses given b n xs ys) (sym e) (added, is, same, more)

  module _ (found : FoundUse) (is : IsFoundUse t uses n found) where
    part-is : part_named t uses n ≡ Some found.part.now
    part-is = ap (option_and_then (use_at t)) is.named ∙ is.part

    effective-is : effective_constraint t found.part.now ≡ constraint_of found
    effective-is = ap (λ o. option_or found.part.now.value (option_and_then (λ decl. decl.value) o)) is.decl

    missing-is : is_missing t uses given n ≡ (is_lacking given n && found.part.now.required)
    missing-is = ap (λ p. is_lacking given n && requires_one p) part-is

    added-is : is_added t uses given n ≡ (is_lacking given n && (not found.part.now.required && is_some (constraint_of found)))
    added-is =
        ap (λ p. is_lacking given n && gives_one t p) part-is
        ∙ ap (λ o. is_lacking given n && (not found.part.now.required && is_some o)) effective-is

    pub present-missing : is_lacking given n ≡ false → is_missing t uses given n ≡ false
    present-missing e = missing-is ∙ ap (λ b. b && found.part.now.required) e

    pub present-added : is_lacking given n ≡ false → is_added t uses given n ≡ false
    present-added e = added-is ∙ ap (λ b. b && (not found.part.now.required && is_some (constraint_of found))) e

    pub required-missing : is_lacking given n ≡ true → found.part.now.required ≡ true → is_missing t uses given n ≡ true
    required-missing e r = missing-is ∙ (λ i. e i && r i)

    pub required-added : found.part.now.required ≡ true → is_added t uses given n ≡ false
    required-added r = added-is ∙ (ap (λ b. is_lacking given n && (not b && is_some (constraint_of found))) r ∙ and-false (is_lacking given n))

    pub optional-missing : found.part.now.required ≡ false → is_missing t uses given n ≡ false
    optional-missing r = missing-is ∙ (ap (λ b. is_lacking given n && b) r ∙ and-false (is_lacking given n))

    pub optional-added : is_lacking given n ≡ true → found.part.now.required ≡ false → is_added t uses given n ≡ is_some (constraint_of found)
    optional-added e r = added-is ∙ (λ i. e i && (not (r i) && is_some (constraint_of found)))

    -- what is added, by the use that was found
    pub added-use : (added : AddedUse) → IsAddedOf names found added → IsAddedUse names t uses added
    added-use added of = record {
      named = ap (use_named t uses) (of.name ∙ is.name) ∙ (is.named ∙ ap Some (sym of.at));
      part = subst (λ at. IsSomeAnd (use_at t at) (λ part. (part.attribute ≡ added.attribute) × (effective_constraint t part ≡ Some added.constraint.now))) (sym of.at)
          (subst (λ o. IsSomeAnd o (λ part. (part.attribute ≡ added.attribute) × (effective_constraint t part ≡ Some added.constraint.now))) (sym is.part)
          (sym of.attribute, effective-is ∙ of.constraint));
      space = of.space;
      local = of.local;
    }
