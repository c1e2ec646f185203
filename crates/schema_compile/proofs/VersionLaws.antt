-- The names of originals behind those of documents.
use Rattle.std.proofs.Common.{ℕ, suc, ◌<◌, ◌≤◌, List, [], ◌∷◌, Option, None, Some, arith}
use Rattle.std.specs.Prelude.{IfSome}
use Rattle.std.proofs.lemmas.List.Elements.{All-cons, All-head, All-tail}
use Rattle.xs_names.specs.Names.{NameTable, with_name, same_name, space_of, local_of}
use Rattle.xs_names.proofs.GrownLaws.{Grown-with_name}
use Rattle.xs_names.proofs.NumberingLaws.{same_name-Decides, HasNoRepeats-with_item}
use Rattle.representations.specs.declared.parts.Representation.{Representation}
use Rattle.representations.specs.declared.parts.Represented.{Represented}
use Rattle.representations.specs.declared.parts.Represented.TheVariants as parts
use Rattle.redefine_names.specs.declared.declared.Declared.{Declared}
use Rattle.redefine_names.specs.declared.redirections.Redirection.{Redirection}
use Rattle.redefine_names.specs.Components.{declared_at}
use Rattle.redefine_names.specs.VersionNames.{version_local, with_name_of, with_version, with_versions}
use Rattle.redefine_names.specs.Redirections.{redirected_by, redirected, redirection_at}
use Rattle.redefine_names.specs.Renamed.{named_by, named, is_original, original_name, renamed_as, renamed_from, renamed}
use Rattle.redefine_names.proofs.StayLaws.{name-if}
use Rattle.schema_compile.proofs.TableLaws.{IsMore, count, same, then-more}
use Rattle.schema_compile.proofs.FormLaws.{HasNumber, HaveNumbers}

name-more : (t : NameTable) (space : ℕ) (local : List ℕ) → IsMore t (with_name t space local)
name-more t space local = record {
  many = (Grown-with_name t space local).more_names;
  once = HasNoRepeats-with_item same_name same_name-Decides t.names (space, local);
}

declared-more : (t : NameTable) (place : ℕ) (declared : Option Declared) → IsMore t (with_name_of t place declared)
declared-more t place None = same t
declared-more t place (Some declared) = name-more t (space_of t declared.name) (version_local (local_of t declared.name) place)

version-more : (t : NameTable) (reps : List Representation) (original : Option ℕ) → IsMore t (with_version t reps original)
version-more t reps None = same t
version-more t reps (Some place) = declared-more t place (declared_at reps place)

pub versions-more : (t : NameTable) (reps : List Representation) (originals : List (Option ℕ)) → IsMore t (with_versions t reps originals)
versions-more t reps [] = same t
versions-more t reps (original ∷ originals) =
    then-more t (with_version t reps original) (with_versions (with_version t reps original) reps originals) (version-more t reps original) (versions-more (with_version t reps original) reps originals)

some-below : (name : Option ℕ) (m n : ℕ) → m ≤ n → IfSome name (λ k. k < m) → IfSome name (λ k. k < n)
some-below None m n l h = tt
some-below (Some k) m n l h = omega (arith, l, h)

form-below : (t u : NameTable) → count t ≤ count u → (form : Represented) → HasNumber t form → HasNumber u form
form-below t u l (parts.Element element) h = some-below element.name (count t) (count u) l h
form-below t u l (parts.Attribute attribute) h = some-below attribute.name (count t) (count u) l h
form-below t u l (parts.SimpleType name finals) h = some-below name (count t) (count u) l h
form-below t u l (parts.ComplexType head) h = some-below head.name (count t) (count u) l h
form-below t u l _ h = tt

module _ (u : NameTable) where
  by-numbered : (r : Redirection) (form : Represented) → HasNumber u form → HasNumber u (redirected_by r form)
  by-numbered r (parts.Element element) h = h
  by-numbered r (parts.Attribute attribute) h = h
  by-numbered r (parts.SimpleType name finals) h = h
  by-numbered r (parts.ComplexType head) h = h
  by-numbered r _ h = tt

  redirected-numbered : (r : Option Redirection) (form : Represented) → HasNumber u form → HasNumber u (redirected r form)
  redirected-numbered None form h = h
  redirected-numbered (Some r) form h = by-numbered r form h

  name-numbered : (name : ℕ) → name < count u → (form : Represented) → HasNumber u form → HasNumber u (named_by name form)
  name-numbered name l (parts.Element element) h = h
  name-numbered name l (parts.Attribute attribute) h = h
  name-numbered name l (parts.SimpleType own finals) h = l
  name-numbered name l (parts.ComplexType head) h = l
  name-numbered name l _ h = tt

  named-numbered : (name : Option ℕ) → IfSome name (λ n. n < count u) → (form : Represented) → HasNumber u form → HasNumber u (named name form)
  named-numbered None l form h = h
  named-numbered (Some name) l form h = name-numbered name l form h

  module _ (reps : List Representation) (originals : List (Option ℕ)) where
    from-numbered : (place : ℕ) (some : List Representation) → HaveNumbers u some → HaveNumbers u (renamed_from u reps originals place some)
    from-numbered place [] h = h
    from-numbered place (rep ∷ some) h =
        All-cons (λ (x : Representation). HasNumber u x.form) (renamed_as (original_name u reps originals place) (redirection_at u reps originals place) rep) (renamed_from u reps originals (suc place) some)
        (named-numbered (original_name u reps originals place) (name-if u reps originals (is_original originals place) place) (redirected (redirection_at u reps originals place) rep.form)
        (redirected-numbered (redirection_at u reps originals place) rep.form (All-head (λ (x : Representation). HasNumber u x.form) rep some h)))
        (from-numbered (suc place) some (All-tail (λ (x : Representation). HasNumber u x.form) rep some h))

pub versions-numbered : (t : NameTable) (reps : List Representation) (originals : List (Option ℕ)) → HaveNumbers t reps
    → HaveNumbers (with_versions t reps originals) (renamed (with_versions t reps originals) reps originals)
versions-numbered t reps originals h =
    let u = with_versions t reps originals in
    from-numbered u reps originals 0 reps (λ n rep l. form-below t u (versions-more t reps originals).many _ (h n rep l))
