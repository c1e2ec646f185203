-- Which uses have to be looked at, and which name a use has.
use Rattle.std.proofs.Common.{◌≡◌, ℕ, ◌<◌, ◌≤◌, Bool, true, false, ◌||◌, ◌&&◌, ◌==◌, not, List, [], ◌∷◌, Option, None, Some, refl, sym, ap, ◌∙◌, true≢false, filter, length, subst}
use Rattle.std.specs.Prelude.{is_some, slice_get, if◌then◌else◌, IfSome, IfNone}
use Rattle.std.specs.Option.{option_and_then, option_map, option_or}
use Rattle.std.proofs.Math.Bool.{and-false}
use Rattle.std.proofs.lemmas.Option.{same_Some, slice_get_within, get_or_from_slice_get}
use Rattle.std.proofs.lemmas.List.Elements.{All-get_or}
use Rattle.xs_names.specs.Names.{NameTable}
use Rattle.attr_assess.specs.Added.{AreNamed}
use Rattle.std.proofs.lemmas.Bool.{eqb-true}
use Rattle.xs_components.specs.Tables.{Tables}
use Rattle.xs_components.specs.declared.attribute.AttributeDecl.{AttributeDecl}
use Rattle.xs_components.specs.declared.attribute.AttrUse.{AttrUse}
use Rattle.xs_components.specs.declared.common.ValueConstraint.{ValueConstraint}
use Rattle.attr_uses.specs.declared.entry.UseAt.{UseAt}
use Rattle.attr_uses.specs.Written.{use_at, use_name, is_name, has_name}
use Rattle.attr_uses.specs.Uses.{first_of, use_named}
use Rattle.attr_uses.specs.Tables.{gives_value, is_needed_use, is_needed_named, NoneNeeded}
use Rattle.assess_records.specs.declared.shape.NamedText.{NamedText}
use Rattle.attr_assess.specs.inside.Uses.{IsWritten, IsFoundUse}
use Rattle.attr_assess.specs.declared.found.FoundUse.{FoundUse}
use Rattle.attr_assess.specs.Lacking.{declared_constraint, effective_constraint, requires_one, gives_one, is_lacking, part_named, is_missing, is_added}

or-three : (a b c : Bool) → (a || b || c) ≡ false → (a ≡ false) × (b ≡ false) × (c ≡ false)
or-three false false false e = (refl, refl, refl)
or-three false false true e = absurd (true≢false e)
or-three false true c e = absurd (true≢false e)
or-three true b c e = absurd (true≢false e)

some-or : (a b : Option ValueConstraint) → is_some a ≡ false → is_some b ≡ false → is_some (option_or a b) ≡ false
some-or None b e f = f
some-or (Some x) b e f = absurd (true≢false e)

module _ (t : Tables) where
  some-declared : (o : Option AttributeDecl) → gives_value o ≡ is_some (option_and_then (λ decl. decl.value) o)
  some-declared None = refl
  some-declared (Some decl) = refl

  part-unneeded : (p : Option AttrUse) → is_needed_use t p ≡ false → (requires_one p ≡ false) × (gives_one t p ≡ false)
  part-unneeded None e = (refl, refl)
  part-unneeded (Some part) e =
      let parts = or-three part.required (is_some part.value) (gives_value (slice_get t.attributes.parts part.attribute)) e in (
        parts.0,
        ap (λ b. not part.required && b) (some-or part.value (declared_constraint t part) parts.1 (sym (some-declared (slice_get t.attributes.parts part.attribute)) ∙ parts.2))
            ∙ and-false (not part.required),
      )

  use-unneeded : (u : Option UseAt) → is_needed_named t u ≡ false → (requires_one (option_and_then (use_at t) u) ≡ false) × (gives_one t (option_and_then (use_at t) u) ≡ false)
  use-unneeded None e = (refl, refl)
  use-unneeded (Some u) e = part-unneeded (use_at t u) e

  module _ (uses : List UseAt) (given : List NamedText) where
    pub none-missing : (from to : ℕ) → NoneNeeded t uses from to → (name : ℕ) → from ≤ name → name < to → is_missing t uses given name ≡ false
    none-missing from to none name a b =
        ap (λ r. is_lacking given name && r) (use-unneeded (use_named t uses name) (none name a b)).0 ∙ and-false (is_lacking given name)

    pub none-added : (from to : ℕ) → NoneNeeded t uses from to → (name : ℕ) → from ≤ name → name < to → is_added t uses given name ≡ false
    none-added from to none name a b =
        ap (λ r. is_lacking given name && r) (use-unneeded (use_named t uses name) (none name a b)).1 ∙ and-false (is_lacking given name)

    -- a name without a use
    pub useless-missing : (name : ℕ) → part_named t uses name ≡ None → is_missing t uses given name ≡ false
    useless-missing name e = ap (λ p. is_lacking given name && requires_one p) e ∙ and-false (is_lacking given name)

    pub useless-added : (name : ℕ) → part_named t uses name ≡ None → is_added t uses given name ≡ false
    useless-added name e = ap (λ p. is_lacking given name && gives_one t p) e ∙ and-false (is_lacking given name)

  named-is : (o : Option ℕ) (name : ℕ) → is_name o name ≡ true → o ≡ Some name
  named-is None name e = absurd (true≢false (sym e))
  named-is (Some own) name e = ap Some (eqb-true own name e)

  -- the use of a name has that name
  pub use-name-is : (uses : List UseAt) (name : ℕ) (u : UseAt) → use_named t uses name ≡ Some u → use_name t u ≡ Some name
  use-name-is [] name u e = absurd (true≢false (sym (ap is_some e)))
  use-name-is (v ∷ vs) name u e = of (has_name t name v) refl e (use-name-is vs name u)
    where
      of : (b : Bool) → has_name t name v ≡ b → first_of (if b then v ∷ filter (has_name t name) vs else filter (has_name t name) vs) ≡ Some u →
          (first_of (filter (has_name t name) vs) ≡ Some u → use_name t u ≡ Some name) → use_name t u ≡ Some name
      of true is f more = ap (λ w. option_and_then (use_name t) w) (sym f) ∙ named-is (use_name t v) name is
      of false is f more = more f

  module _ (uses : List UseAt) (n : ℕ) (u : UseAt) (named : use_named t uses n ≡ Some u) where
    -- what is written for the use of a name, and that something is
    pub found-some : (r : Option FoundUse) → IfSome r (IsWritten t u) → IfSome r (IsFoundUse t uses n)
    found-some None w = tt
    found-some (Some found) w = record {
      name = same_Some found.decl.now.name n
          (ap (option_map (λ decl. decl.name)) (sym w.decl)
          ∙ (ap (option_and_then (λ part. option_map (λ decl. decl.name) (slice_get t.attributes.parts part.attribute))) (sym w.part) ∙ use-name-is uses n u named));
      named = named ∙ ap Some (sym w.place);
      part = ap (use_at t) w.place ∙ w.part;
      decl = w.decl;
    }

    pub found-none : (r : Option FoundUse) → IfNone r (use_name t u ≡ None) → IfNone r (part_named t uses n ≡ None)
    found-none None e = absurd (true≢false (ap is_some (sym (use-name-is uses n u named) ∙ e)))
    found-none (Some found) e = tt

-- the name of a declaration is in the table of names
pub name-there : (names : NameTable) (t : Tables) (n : ℕ) (decl : AttributeDecl) → AreNamed names t → slice_get t.attributes.parts n ≡ Some decl → decl.name < length names.names
name-there names t n decl all e =
    subst (λ (d : AttributeDecl). d.name < length names.names) (get_or_from_slice_get t.attributes.parts n decl decl e)
    (All-get_or (λ (d : AttributeDecl). d.name < length names.names) t.attributes.parts n decl (slice_get_within t.attributes.parts n decl e) all)
