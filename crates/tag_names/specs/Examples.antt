-- Tags outside of all elements.
use Rattle.std.specs.Prelude.{◌≡◌, ℕ, List, [], ◌∷◌, None, Some, codes}
use Rattle.std.specs.Str.{chars}
use Rattle.std.proofs.Common.{refl}
use Rattle.tag_names.specs.Scopes.{first_scope}
use Rattle.tag_names.specs.Tags.{named}
use Rattle.tag_names.specs.Faults.{name_fault}
use Rattle.tag_names.specs.declared.lines.AttributeLine.{AttributeLine}
use Rattle.tag_names.specs.declared.lines.Tag.{Tag}
use Rattle.tag_names.specs.declared.fault.NameReason.TheVariants.{ReservedName, UnboundPrefix, DoubleAttribute}

abbrev line : List ℕ → List ℕ → AttributeLine
line name value = record { name = name; value = value }

abbrev tag : List ℕ → List AttributeLine → Tag
tag name attributes = record { name = name; attributes = attributes }

-- <p:a p:b="1" xmlns:p="u"/>: a binding holds for the whole tag
whole_tag : named first_scope (tag (codes "p:a") (line (codes "p:b") (codes "1") ∷ line (codes "xmlns:p") (codes "u") ∷ [])) ≡ record {
  name = record { namespace = Some (codes "u"); local = codes "a" };
  bindings = record { prefix = codes "p"; namespace = codes "u" } ∷ [];
  attributes = record { name = record { namespace = Some (codes "u"); local = codes "b" }; value = codes "1" } ∷ [];
}
unfolding chars
whole_tag = refl

-- <a b="1" xmlns="d"/>: the default namespace is not that of an attribute
default_namespace : named first_scope (tag (codes "a") (line (codes "b") (codes "1") ∷ line (codes "xmlns") (codes "d") ∷ [])) ≡ record {
  name = record { namespace = Some (codes "d"); local = codes "a" };
  bindings = record { prefix = []; namespace = codes "d" } ∷ [];
  attributes = record { name = record { namespace = None; local = codes "b" }; value = codes "1" } ∷ [];
}
unfolding chars
default_namespace = refl

-- <a p:b="1"/>
unbound_prefix : name_fault first_scope (tag (codes "a") (line (codes "p:b") (codes "1") ∷ [])) ≡ Some UnboundPrefix
unfolding chars
unbound_prefix = refl

-- <a xmlns:p="" q:b="1"/>: the first reason of two
no_namespace : name_fault first_scope (tag (codes "a") (line (codes "xmlns:p") [] ∷ line (codes "q:b") (codes "1") ∷ [])) ≡ Some ReservedName
unfolding chars
no_namespace = refl

-- <a xmlns:p="u" xmlns:q="u" p:b="1" q:b="2"/>
one_name_by_two_prefixes : name_fault first_scope (tag (codes "a") (line (codes "xmlns:p") (codes "u") ∷ line (codes "xmlns:q") (codes "u") ∷ line (codes "p:b") (codes "1") ∷ line (codes "q:b") (codes "2") ∷ [])) ≡ Some DoubleAttribute
unfolding chars
one_name_by_two_prefixes = refl

-- <a xmlns="u" xmlns:p="u" b="1" p:b="2"/>
two_names : name_fault first_scope (tag (codes "a") (line (codes "xmlns") (codes "u") ∷ line (codes "xmlns:p") (codes "u") ∷ line (codes "b") (codes "1") ∷ line (codes "p:b") (codes "2") ∷ [])) ≡ None
unfolding chars
two_names = refl
