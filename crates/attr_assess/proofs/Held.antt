-- Records and values that are written one after another.
use Rattle.std.proofs.Common.{◌≡◌, ℕ, ◌+◌, ◌<◌, List, [], ◌∷◌, ◌++◌, Option, None, Some, length, map, take, get_or, refl, sym, ap, ◌∙◌, subst, append_assoc, append-nil}
use Rattle.std.specs.Prelude.{All}
use Rattle.std.specs.List.{AllZip}
use Rattle.std.specs.Option.{IsSomeAnd}
use Rattle.std.proofs.lemmas.List.{map-append}
use Rattle.std.proofs.lemmas.List.Elements.{All-head, All-tail}
use Rattle.xs_names.specs.Names.{NameTable}
use Rattle.xs_components.specs.Tables.{Tables}
use Rattle.xs_components.specs.declared.attribute.AttrUse.{AttrUse}
use Rattle.attr_uses.specs.declared.entry.UseAt.{UseAt}
use Rattle.attr_uses.specs.Written.{use_at}
use Rattle.attr_uses.specs.Uses.{use_named}
use Rattle.assess_records.specs.declared.outcome.ValueSource.TheVariants.{Schema}
use Rattle.attr_assess.specs.declared.governing.AttrGoverning.TheVariants.{Declared}
use Rattle.attr_assess.specs.Lacking.{effective_constraint}
use Rattle.attr_assess.specs.Added.{IsAddedUse}
use Rattle.attr_assess.specs.declared.added.AddedUse.{AddedUse}
use Rattle.attr_assess.specs.Records.{IsAttrJudged}
use Rattle.attr_assess.specs.declared.judged.JudgedAttr.{JudgedAttr}
use Rattle.attr_assess.specs.Assessed.{record_of, value_of, IsAddedJudged}
use Rattle.attr_assess.specs.inside.Lists.{Holds, HoldsEach, IsUseJudged}
use Rattle.attr_assess.specs.declared.assessed.AssessedAttrs.{AssessedAttrs}
use Rattle.attr_assess.proofs.Zips.{zip-none, zip-more}

pub joins : {A B : Type 0} (f : A → B) (front middle back : List B) (xs ys : List A) → middle ≡ front ++ map f xs → back ≡ middle ++ map f ys → back ≡ front ++ map f (xs ++ ys)
joins f front middle back xs ys e g =
    g ∙ (ap (λ zs. zs ++ map f ys) e ∙ (append_assoc front (map f xs) (map f ys) ∙ ap (λ zs. front ++ zs) (sym (map-append f xs ys))))

pub holds-more : (old middle new : AssessedAttrs) (xs ys : List JudgedAttr) → Holds old xs middle → Holds middle ys new → Holds old (xs ++ ys) new
holds-more old middle new xs ys a b = record {
  records = joins record_of old.records middle.records new.records xs ys a.records b.records;
  values = joins value_of old.values middle.values new.values xs ys a.values b.values;
  missing = b.missing ∙ a.missing;
}

module _ {A : Type 0} (Is : A → JudgedAttr → Type 0) (xs : List A) where
  pub each-none : (old : AssessedAttrs) → HoldsEach Is [] old old
  each-none old = ([], zip-none Is, record { records = sym (append-nil old.records); values = sym (append-nil old.values); missing = refl })

  -- one more
  pub each-more : (i : ℕ) (d : A) (old middle new : AssessedAttrs) (judged : JudgedAttr) → i < length xs → HoldsEach Is (take i xs) old middle →
      Is (get_or xs i d) judged → Holds middle (judged ∷ []) new → HoldsEach Is (take (i + 1) xs) old new
  each-more i d old middle new judged within before one after =
      (before.0 ++ judged ∷ [], zip-more Is xs i d before.0 judged within before.1 one, holds-more old middle new before.0 (judged ∷ []) before.2 after)

  -- one more, which is the item of a place
  pub each-next : (i : ℕ) (x : A) (old middle new : AssessedAttrs) (judged : JudgedAttr) → i < length xs → x ≡ get_or xs i x → HoldsEach Is (take i xs) old middle →
      Is x judged → Holds middle (judged ∷ []) new → HoldsEach Is (take (i + 1) xs) old new
  each-next i x old middle new judged within is before one after =
      each-more i x old middle new judged within before (subst (λ y. Is y judged) is one) after

module _ (names : NameTable) (t : Tables) (uses : List UseAt) where
  at-some : {X : Type 0} (o : Option X) (x : X) (P : X → Type 0) → o ≡ Some x → P x → IsSomeAnd o P
  at-some o x P e p = subst (λ z. IsSomeAnd z P) (sym e) p

  by-part : (added : AddedUse) (judged : JudgedAttr) (o : Option AttrUse) → IsSomeAnd o (λ part. (part.attribute ≡ added.attribute) × (effective_constraint t part ≡ Some added.constraint.now)) →
      IsUseJudged t added judged →
      IsSomeAnd o (λ part. IsSomeAnd (effective_constraint t part) (λ constraint. IsAttrJudged t added.name Schema constraint.scope constraint.text (Declared part.attribute (Some added.at)) judged))
  by-part added judged None is one = is
  by-part added judged (Some part) is one =
      at-some (effective_constraint t part) added.constraint.now
      (λ constraint. IsAttrJudged t added.name Schema constraint.scope constraint.text (Declared part.attribute (Some added.at)) judged)
      is.1
      (subst (λ attribute. IsAttrJudged t added.name Schema added.constraint.now.scope added.constraint.now.text (Declared attribute (Some added.at)) judged) (sym is.0) one)

  -- an attribute that is added, by its use
  use-judged : (added : AddedUse) (judged : JudgedAttr) → IsAddedUse names t uses added → IsUseJudged t added judged → IsAddedJudged t uses added.name judged
  use-judged added judged is one =
      at-some (use_named t uses added.name) added.at
      (λ at. IsSomeAnd (use_at t at) (λ part. IsSomeAnd (effective_constraint t part) (λ constraint. IsAttrJudged t added.name Schema constraint.scope constraint.text (Declared part.attribute (Some at)) judged)))
      is.named
      (by-part added judged (use_at t added.at) is.part one)

  pub uses-judged : (xs : List AddedUse) (judged : List JudgedAttr) → All (IsAddedUse names t uses) xs → AllZip (IsUseJudged t) xs judged → AllZip (IsAddedJudged t uses) (map (λ a. a.name) xs) judged
  uses-judged [] [] all zip = tt
  uses-judged [] (j ∷ js) all zip = absurd zip
  uses-judged (x ∷ xs) [] all zip = absurd zip
  uses-judged (x ∷ xs) (j ∷ js) all zip =
      (use-judged x j (All-head (IsAddedUse names t uses) x xs all) zip.0, uses-judged xs js (All-tail (IsAddedUse names t uses) x xs all) zip.1)
