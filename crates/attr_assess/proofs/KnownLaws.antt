-- What is known of attribute uses.
use Rattle.std.proofs.Common.{◌≡◌, ℕ, zero, suc, ◌+◌, Bool, List, [], ◌∷◌, ◌++◌, Option, None, Some, Result, Ok, Err, length, refl, sym, ap, ◌∙◌, subst, arith}
use Rattle.std.specs.Prelude.{slice_get, IfSome, IfOk, All}
use Rattle.std.specs.Option.{option_and_then, option_map, option_or, IsSomeAnd}
use Rattle.std.proofs.lemmas.List.Elements.{All-weaker}
use Rattle.std.proofs.lemmas.Option.{same_Some}
use Rattle.xs_names.specs.Names.{NameTable}
use Rattle.xs_components.specs.Tables.{Tables}
use Rattle.xs_components.specs.declared.attribute.AttributeDecl.{AttributeDecl}
use Rattle.xs_components.specs.declared.attribute.AttrUse.{AttrUse}
use Rattle.xs_components.specs.declared.common.ValueConstraint.{ValueConstraint}
use Rattle.attr_uses.specs.declared.entry.UseAt.{UseAt}
use Rattle.attr_uses.specs.declared.entry.UseHolder.{UseHolder}
use Rattle.attr_uses.specs.declared.entry.UseHolder.TheVariants.{Complex, AttrGroup}
use Rattle.attr_uses.specs.Written.{use_at, use_name}
use Rattle.assess_records.specs.declared.outcome.ValueSource.TheVariants.{Schema}
use Rattle.attr_assess.specs.declared.governing.AttrGoverning.TheVariants.{Declared}
use Rattle.attr_assess.specs.declared.judged.JudgedAttr.{JudgedAttr}
use Rattle.attr_assess.specs.declared.added.AddedUse.{AddedUse}
use Rattle.attr_assess.specs.declared.found.FoundUse.{FoundUse}
use Rattle.attr_assess.specs.Added.{IsAddedUse}
use Rattle.attr_assess.specs.Lacking.{effective_constraint}
use Rattle.attr_assess.specs.Records.{IsAttrJudged}
use Rattle.attr_assess.specs.Known.{joined, known_in, uses_in, known_at, holder_of, IsKnownUse, AreKnownIn, AreKnownOf, AreKnownUses}
use Rattle.attr_assess.specs.declared.known.KnownUses.{KnownUses}
use Rattle.attr_assess.specs.inside.Lists.{IsUse, IsUseJudged}
use Rattle.attr_assess.specs.inside.Uses.{constraint_of, IsWritten, IsJudgedWith}
use Rattle.attr_assess.proofs.Needs.{use-name-is}

-- what stands in a list with one more
get-more : {X : Type 0} (xs : List X) (x : X) (P : ℕ → X → Type 0) → ((n : ℕ) → IfSome (slice_get xs n) (P n)) → P (length xs) x → (n : ℕ) → IfSome (slice_get (xs ++ x ∷ []) n) (P n)
get-more [] x P all one zero = one
get-more [] x P all one (suc n) = tt
get-more (y ∷ ys) x P all one zero = all zero
get-more (y ∷ ys) x P all one (suc n) = get-more ys x (λ k. P (suc k)) (λ k. all (suc k)) one n

pub one-longer : {X : Type 0} (xs : List X) (x : X) (n : ℕ) → length xs ≡ n → length (xs ++ x ∷ []) ≡ n + 1
one-longer [] x n e = omega (arith, e)
one-longer (y ∷ ys) x n e = omega (arith, one-longer ys x (length ys) refl, e)

abbrev pub written_at : UseHolder → ℕ → UseAt
written_at holder place = record { holder = holder; place = place }

pub ok-same : {A E : Type 0} (r : Result A E) (x : A) (P : A → Type 0) → IfOk r (λ y. y ≡ x) → P x → IfOk r P
ok-same (Ok y) x P e p = subst P (sym e) p
ok-same (Err e) x P h p = tt

module _ (t : Tables) where
  -- the uses of one component
  pub none-known : (holder : UseHolder) → AreKnownIn t holder []
  none-known holder place = tt

  pub one-known : (holder : UseHolder) (known : List (Option JudgedAttr)) (one : Option JudgedAttr) → AreKnownIn t holder known →
      IfSome one (IsKnownUse t (written_at holder (length known))) → AreKnownIn t holder (known ++ one ∷ [])
  one-known holder known one all is = get-more known one (λ place known. IfSome known (IsKnownUse t (written_at holder place))) all is

  -- those of the complex types, or of the attribute groups
  pub none-of : (in_types : Bool) → AreKnownOf t in_types []
  none-of in_types n = tt

  pub one-of : (in_types : Bool) (known : List (List (Option JudgedAttr))) (uses : List (Option JudgedAttr)) (n : ℕ) → length known ≡ n → AreKnownOf t in_types known →
      AreKnownIn t (holder_of in_types n) uses → AreKnownOf t in_types (known ++ uses ∷ [])
  one-of in_types known uses n long all is =
      get-more known uses (λ n uses. AreKnownIn t (holder_of in_types n) uses) all (subst (λ n. AreKnownIn t (holder_of in_types n) uses) (sym long) is)

  -- what is known of the use in a place
  joined-is : (o : Option (Option JudgedAttr)) (Is : JudgedAttr → Type 0) → IfSome o (λ one. IfSome one Is) → IfSome (joined o) Is
  joined-is None Is h = tt
  joined-is (Some one) Is h = h

  in-place : (o : Option (List (Option JudgedAttr))) (holder : UseHolder) (place : ℕ) → IfSome o (AreKnownIn t holder) → IfSome (known_in o place) (IsKnownUse t (written_at holder place))
  in-place None holder place all = tt
  in-place (Some uses) holder place all = joined-is (slice_get uses place) (IsKnownUse t (written_at holder place)) (all place)

  by-holder : (k : KnownUses) → AreKnownUses t k → (holder : UseHolder) (place : ℕ) → IfSome (known_in (uses_in k holder) place) (IsKnownUse t (written_at holder place))
  by-holder k all (Complex n) place = in-place (slice_get k.types n) (Complex n) place (all.types n)
  by-holder k all (AttrGroup n) place = in-place (slice_get k.groups n) (AttrGroup n) place (all.groups n)

  pub known-there : (k : KnownUses) → AreKnownUses t k → (at : UseAt) (judged : JudgedAttr) → Some judged ≡ known_at k at → IsKnownUse t at judged
  known-there k all at judged is = subst (λ (o : Option JudgedAttr). IfSome o (IsKnownUse t at)) (sym is) (by-holder k all at.holder at.place)

  -- a use that was found, with its constraint
  effective-is : (found : FoundUse) → IsWritten t found.at found → effective_constraint t found.part.now ≡ constraint_of found
  effective-is found w = ap (λ (o : Option AttributeDecl). option_or found.part.now.value (option_and_then (λ (decl : AttributeDecl). decl.value) o)) w.decl

  pub use-known : (found : FoundUse) (constraint : ValueConstraint) (judged : JudgedAttr) → IsWritten t found.at found → Some constraint ≡ constraint_of found → IsJudgedWith t found constraint judged →
      IsKnownUse t found.at judged
  use-known found constraint judged w is one = record {
    part = found.part.now;
    decl = found.decl.now;
    constraint = constraint;
    is_part = w.part;
    is_decl = w.decl;
    is_constraint = effective-is found w ∙ sym is;
    is_judged = one;
  }

  -- what is written in a place is written in its own place
  pub written-here : (at : UseAt) (found : FoundUse) → IsWritten t at found → IsWritten t found.at found
  written-here at found w = record { place = refl; part = ap (use_at t) w.place ∙ w.part; decl = w.decl }

  -- the uses that are added are written in their places
  pub added-written : (names : NameTable) (uses : List UseAt) (xs : List AddedUse) → All (IsAddedUse names t uses) xs → All (IsUse t) xs
  added-written names uses xs all =
      All-weaker (IsAddedUse names t uses) (IsUse t) (λ added is. record { name = use-name-is t uses added.name added.at is.named; part = is.part }) xs all

  -- what is known of a use that is added is its attribute
  pub known-judged : (added : AddedUse) (judged : JudgedAttr) → IsUse t added → IsKnownUse t added.at judged → IsUseJudged t added judged
  known-judged added judged written known =
      let part = subst (λ (o : Option AttrUse). IsSomeAnd o (λ part. (part.attribute ≡ added.attribute) × (effective_constraint t part ≡ Some added.constraint.now))) known.is_part written.part in
      let own : use_name t added.at ≡ Some known.decl.name =
      ap (λ (o : Option AttrUse). option_and_then (λ (part : AttrUse). option_map (λ (decl : AttributeDecl). decl.name) (slice_get t.attributes.parts part.attribute)) o) known.is_part
      ∙ ap (λ (o : Option AttributeDecl). option_map (λ (decl : AttributeDecl). decl.name) o) known.is_decl in
      let name : known.decl.name ≡ added.name = same_Some known.decl.name added.name (sym own ∙ written.name) in
      let constraint : known.constraint ≡ added.constraint.now = same_Some known.constraint added.constraint.now (sym known.is_constraint ∙ part.1) in
      subst (λ (n : ℕ). IsAttrJudged t n Schema added.constraint.now.scope added.constraint.now.text (Declared added.attribute (Some added.at)) judged) name
      (subst (λ (a : ℕ). IsAttrJudged t known.decl.name Schema added.constraint.now.scope added.constraint.now.text (Declared a (Some added.at)) judged) part.0
      (subst (λ (c : ValueConstraint). IsAttrJudged t known.decl.name Schema c.scope c.text (Declared known.part.attribute (Some added.at)) judged) constraint known.is_judged))
