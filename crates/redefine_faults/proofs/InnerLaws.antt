-- What is in an element and below it, where the elements are found by their numbers.
use Rattle.std.proofs.Common.{◌≡◌, ◌&&◌, ◌||◌, List, [], ◌∷◌, Bool, true, false, Option, ℕ, refl, sym, ap, ◌∙◌, subst}
use Rattle.std.specs.Prelude.{Contains}
use Rattle.std.specs.List.{list_any, filter}
use Rattle.std.specs.List.Sorted.{IsPermutation}
use Rattle.std.proofs.lemmas.List.Sorted.{IsPermutation-sym, Contains-permutation}
use Rattle.schema_shape.specs.declared.forms.Shape.{Shape}
use Rattle.redefine_originals.specs.declared.versions.Redefinable.{Redefinable}
use Rattle.redefine_originals.specs.Versions.{inside}
use Rattle.redefine_originals.proofs.InsideLaws.{filter-from, filter-has, inside-has, inside-from}
use Rattle.redefine_faults.specs.Redefinitions.{IsBelow, child, deeper, is_self_reference, is_content, restricts, derives, content_derives, derives_from_itself}
use Rattle.redefine_faults.specs.inside.Below.{AreBelow}
use Rattle.redefine_faults.specs.inside.Numbers.{of_number, any_inside}
use Rattle.redefine_faults.specs.inside.Selves.{is_derivation, AreSelves}
use Rattle.redefine_faults.proofs.NumberLaws.{number-has, number-from}
use Rattle.redefine_faults.proofs.OwnLaws.{any-one, any-has}

any-alike : {X : Type 0} (p q : X → Bool) (xs : List X) → ((x : X) → p x ≡ q x) → list_any p xs ≡ list_any q xs
any-alike p q [] e = refl
any-alike p q (x ∷ xs) e = rw (e x) (ap (λ b. q x || b) (any-alike p q xs e))

both-ways : (a b : Bool) → (a ≡ true → b ≡ true) → (b ≡ true → a ≡ true) → a ≡ b
both-ways true b f g = sym (f refl)
both-ways false true f g = g refl
both-ways false false f g = refl

below-moved : (xs ys : List Shape) → ((s : Shape) → Contains xs s → Contains ys s) → (version s : Shape) → IsBelow xs version s → IsBelow ys version s
below-moved xs ys move version _ (child s c) = let f = inside-from xs version s c in child s (inside-has ys version s (move s f.0) f.1)
below-moved xs ys move version _ (deeper t s b c) = let f = inside-from xs t s c in deeper t s (below-moved xs ys move version t b) (inside-has ys t s (move s f.0) f.1)

module _ (shapes numbered : List Shape) (same : IsPermutation shapes numbered) where
  there : (s : Shape) → Contains shapes s → Contains numbered s
  there s c = Contains-permutation shapes numbered s same c

  back : (s : Shape) → Contains numbered s → Contains shapes s
  back s c = Contains-permutation numbered shapes s (IsPermutation-sym shapes numbered same) c

  inside-any : (p : Shape → Bool) (parent : Shape) → any_inside numbered p parent ≡ list_any p (inside shapes parent)
  inside-any p parent = both-ways (any_inside numbered p parent) (list_any p (inside shapes parent)) onto from
    where
      onto : any_inside numbered p parent ≡ true → list_any p (inside shapes parent) ≡ true
      onto e =
          let m = any-one (λ item. list_any p (of_number numbered item)) parent.members e in
          let s = any-one p (of_number numbered m.0) m.2 in
          let n = number-from numbered m.0 s.0 s.1 in
          any-has p (inside shapes parent) s.0 (inside-has shapes parent s.0 (back s.0 n.0) (subst (Contains parent.members) (sym n.1) m.1)) s.2

      from : list_any p (inside shapes parent) ≡ true → any_inside numbered p parent ≡ true
      from e =
          let s = any-one p (inside shapes parent) e in
          let f = inside-from shapes parent s.0 s.1 in
          any-has (λ item. list_any p (of_number numbered item)) parent.members s.0.item f.1 (any-has p (of_number numbered s.0.item) s.0 (number-has numbered s.0.item s.0 (there s.0 f.0) refl) s.2)

  pub itself-derives : (target : Option (List ℕ)) (name : List ℕ) (version : Shape) (r : Bool) → r ≡ any_inside numbered (is_derivation numbered shapes target name) version → r ≡ derives_from_itself shapes target name version
  itself-derives target name version r is =
      is ∙ inside-any (is_derivation numbered shapes target name) version
      ∙ any-alike (is_derivation numbered shapes target name) (λ s. restricts shapes target name s.form || content_derives shapes target name s) (inside shapes version)
      (λ s. ap (λ b. restricts shapes target name s.form || (is_content s.form && b)) (inside-any (λ d. derives shapes target name d.form) s))

  pub selves-all : (target : Option (List ℕ)) (of : Redefinable) (name : List ℕ) (version : Shape) (found references : List Shape) → AreBelow numbered version found
      → references ≡ filter (λ s. is_self_reference shapes target of name s.form) found → AreSelves shapes target of name version references
  selves-all target of name version found references are e s = (
    λ c. (
        let f = filter-from (λ (t : Shape). is_self_reference shapes target of name t.form) found s (subst (λ (l : List Shape). Contains l s) e c) in
        record { below = below-moved numbered shapes back version s ((are s).0 f.0); to = f.1 }
        ),
    λ i. subst (λ (l : List Shape). Contains l s) (sym e) (filter-has (λ (t : Shape). is_self_reference shapes target of name t.form) found s ((are s).1 (below-moved shapes numbered there version s i.below)) i.to),
  )
