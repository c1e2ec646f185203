-- What identity constraints see of what is kept has names of the table, so names that are added are no matter.
use Rattle.std.proofs.Common.{◌≡◌, ◌<◌, ℕ, List, [], ◌∷◌, ◌++◌, ◌==◌, if◌then◌else◌, Option, None, Some, true, length, refl, sym, ◌∙◌, subst, inl, inr}
use Rattle.std.proofs.lemmas.List.Elements.{All-nil, All-cons}
use Rattle.xs_names.specs.Names.{NameTable}
use Rattle.xs_components.specs.Tables.{Tables}
use Rattle.xpath_subset.specs.declared.paths.IdentityPaths.{IdentityPaths}
use Rattle.identity_constraints.specs.Seen.{KeyElement, KeyForest, none, element}
use Rattle.identity_constraints.specs.Satisfied.{identity_at, identity_codes}
use Rattle.what_is_found.specs.Identity.{seen}
use Rattle.tree_rows.specs.Forest.{Document, count}
use Rattle.path_walk.specs.Sight.{AreNamed, IsNamed}
use Rattle.scope_targets.specs.Found.{AreNamesOf}
use Rattle.scope_targets.specs.Kin.{AreAbove, AreSeen}
use Rattle.scope_targets.specs.Targetings.{targetings_of}
use Rattle.compiled_schema.specs.declared.compiled.Compiled.{Compiled}
use Rattle.doc_nodes.specs.Nodes.{Nodes, Has, is_element_at, element_children}
use Rattle.doc_changes.specs.Held.{parent_at}
use Rattle.kept_above.specs.from_kept_records.Found.{IsOver, SaysFound, found_in}
use Rattle.kept_above.specs.from_kept_state.KeptState.{KeptState}
use Rattle.kept_targets.specs.Kept.{AreTargets, kin_of}
use Rattle.kept_targets.specs.Seen.{seen_to}
use Rattle.kept_targets.specs.declared.keys.TargetKeys.{TargetKeys}
use Rattle.kept_targets.proofs.Links.{child-up}
use Rattle.kept_targets.proofs.Looking.{above-there, made-of, sound}
use Rattle.kept_targets.proofs.Named.{down-named, named-at}
use Rattle.kept_keys.specs.Keys.{IsWhole}
use Rattle.kept_keys.proofs.Whole.{siblings-seen}

-- ---- the names of what is seen

module _ (c : Compiled) (ns : Nodes) (k : KeptState) (whole : IsWhole c ns k) where
  -- siblings that are elements, with all that is below them
  seen-named : (xs : List ℕ) (f : KeyForest) → AreSeen (kin_of ns k.records.slots) xs f → ((x : ℕ) → Has x xs → is_element_at ns x ≡ true) → AreNamed c.names f
  seen-named [] none s are = tt
  seen-named [] (element own below next) s are = absurd s
  seen-named (x ∷ xs) none s are = absurd s
  seen-named (x ∷ xs) (element own below next) s are = (
    subst (IsNamed c.names) (sym s.0) (named-at c ns k whole x (made-of c ns k whole x (are x (inl refl)))),
    (
      seen-named (element_children ns x) below s.1.0 (λ y h. (child-up ns (sound c ns k whole) x y h).1),
      seen-named xs next s.1.1 (λ y h. are y (inr h)),
    ),
  )

  -- those above an element
  above-named : (o : Option ℕ) (es : List KeyElement) → AreAbove (kin_of ns k.records.slots) o es → ((p : ℕ) → o ≡ Some p → is_element_at ns p ≡ true) → AreNamesOf c.names es
  above-named None [] a are = All-nil (λ (e : KeyElement). e.name < length c.names.names)
  above-named None (e ∷ es) a are = absurd a
  above-named (Some p) [] a are = absurd a
  above-named (Some p) (e ∷ es) a are =
      All-cons (λ (x : KeyElement). x.name < length c.names.names) e es
      (subst (λ (x : KeyElement). x.name < length c.names.names) (sym a.0) (named-at c ns k whole p (made-of c ns k whole p (are p refl))).name)
      (above-named (parent_at ns p) es a.1 (above-there c ns k whole p))

  -- and all of the document
  all-named : (d : Document) → IsOver c ns k.records.slots d → AreNamed c.names (seen (found_in ns k.records.slots d.forest))
  all-named d over = subst (AreNamed c.names) (siblings-seen c ns k whole d over (seen_to k.records.slots ns (count d.forest) (1 ∷ [])) refl) (down-named c ns k whole (count d.forest) (1 ∷ []))

-- ---- codes

abbrev pub CodesStay : NameTable → NameTable → Tables → List IdentityPaths → Type 0
CodesStay old new t identities = (own : KeyElement) (below : KeyForest) → IsNamed old own → AreNamed old below → identity_codes new t identities own below ≡ identity_codes old t identities own below

identity-grown : (old new : NameTable) (t : Tables) (identities : List IdentityPaths) → CodesStay old new t identities → (n : ℕ) (f : KeyForest) → AreNamed old f → identity_at new t identities n f ≡ identity_at old t identities n f
identity-grown old new t identities same n none named = refl
identity-grown old new t identities same n (element own below next) named =
    let codes = same own below named.0 named.1.0 in
    let under = identity-grown old new t identities same n below named.1.0 in
    let behind = identity-grown old new t identities same n next named.1.1 in
    λ i. (if own.number == n then codes i else []) ++ (under i ++ behind i)

module _ (c : Compiled) (names : NameTable) (ns : Nodes) (k : KeptState) (whole : IsWhole c ns k) where
  pub says-grown : CodesStay c.names names c.parts c.identities.items → (d : Document) → IsOver c ns k.records.slots d → SaysFound c ns k.records.slots k.root_ids d → SaysFound (record c { names = names }) ns k.records.slots k.root_ids d
  says-grown same d over says = record {
    identity = λ n made. says.identity n made ∙ sym (identity-grown c.names names c.parts c.identities.items same n (seen (found_in ns k.records.slots d.forest)) (all-named c ns k whole d over));
    ids = says.ids;
  }

  pub targets-grown : ((own : KeyElement) (below : KeyForest) (above : List KeyElement) → IsNamed c.names own → AreNamed c.names below → AreNamesOf c.names above
      → targetings_of names c.parts c.identities.items above own below ≡ targetings_of c.names c.parts c.identities.items above own below) → (keys : TargetKeys) → AreTargets c ns k.records.slots keys → AreTargets (record c { names = names }) ns k.records.slots keys
  targets-grown same keys are = record {
    references = are.references;
    kept = are.kept;
    parents = are.parents;
    alone = are.alone;
    targets = λ n made above below is_above is_below.
        are.targets n made above below is_above is_below
        ∙ sym (same _ below above (named-at c ns k whole n made) (seen-named c ns k whole (element_children ns n) below is_below (λ y h. (child-up ns (sound c ns k whole) n y h).1))
        (above-named c ns k whole (parent_at ns n) above is_above (above-there c ns k whole n)));
    none = are.none;
    signs = are.signs;
  }
