-- What is asked of components is so of compiled ones.
use Rattle.std.proofs.Common.{◌≡◌, inr, ℕ, ◌<◌, ◌≤◌, ◌++◌, List, Option, None, Some, Ok, true, length, sym, ap, subst, ◌∙◌, arith}
use Rattle.std.specs.Prelude.{All, IfSome, slice_get}
use Rattle.std.proofs.lemmas.List.{length-append}
use Rattle.tree_rows.specs.Whole.{IsTree}
use Rattle.xs_codes.specs.declared.fault.Fault.{Fault}
use Rattle.xs_components.specs.Tables.{Tables}
use Rattle.xs_components.specs.declared.common.TypeId.{TypeId}
use Rattle.xs_components.specs.declared.complex.ComplexType.{ComplexType}
use Rattle.component_references.specs.Heights.{IsType}
use Rattle.component_references.specs.Ranked.{IsRanked}
use Rattle.type_derivation.specs.Derives.{is_simple}
use Rattle.type_derivation.specs.Within.{AreSimple}
use Rattle.type_derivation.specs.Bases.{IsWrongBase}
use Rattle.component_references.specs.Circles.{Ranks, with_all_ranks}
use Rattle.component_references.specs.References.{IsClosed, effective_of}
use Rattle.type_derivation.specs.Cycles.{IsGrown}
use Rattle.simple_types.specs.SimpleTypes.{AreWhole, IsWhole, IsSimpleTree}
use Rattle.simple_types.specs.Trees.{type_tree}
use Rattle.simple_types.specs.declared.types.SimpleTypes.{SimpleTypes}
use Rattle.component_tables.specs.ContentTypes.{content_of}
use Rattle.elem_assess.specs.Texts.{is_simple_content}
use Rattle.representations.specs.declared.source.Source.{Source}
use Rattle.build_components.specs.Built.{built}
use Rattle.build_components.specs.There.{AreThere}
use Rattle.elem_assess.specs.Own.{AreOwnSimple}
use Rattle.schema_check.specs.SimpleParts.{HasSimpleTypes}
use Rattle.schema_set.specs.declared.documents.SetDocument.{SetDocument}
use Rattle.schema_check.specs.Compilation.{IsCompilation}
use Rattle.schema_check.specs.OfTree.{IsOfTree}
use Rattle.schema_set.specs.declared.inputs.SchemaInput.{SchemaInput}
use Rattle.schema_check.specs.SetPhases.{AreParts, IsSetCompiled}
use Rattle.schema_check.specs.declared.documents.CompiledSet.{CompiledSet}
use Rattle.schema_compile.specs.Fit.{IsFit}
use Rattle.schema_compile.proofs.NamedLaws.{set-named, set-once}
use Rattle.schema_compile.proofs.KeptLaws.{grown-alike, element-types, attribute-types, wrong-was, own-simple}
use Rattle.schema_compile.proofs.ContentLaws.{contents-there}

-- components of the same representations are the same
same-built : (a b : Source) → a.reps.now ≡ b.reps.now → a.spaces.now ≡ b.spaces.now → a.scopes.now ≡ b.scopes.now → built a ≡ built b
same-built a b reps spaces scopes =
    ap (λ r. built (record a { reps = record a.reps { now = r } })) reps
    ∙ (ap (λ s. built (record a { reps = record a.reps { now = b.reps.now }; spaces = record a.spaces { now = s } })) spaces
    ∙ ap (λ s. built (record a { reps = record a.reps { now = b.reps.now }; spaces = record a.spaces { now = b.spaces.now }; scopes = record a.scopes { now = s } })) scopes)

same-parts : (set : List SetDocument) (originals : List (Option ℕ)) (a b : Tables) → AreParts set originals a → AreParts set originals b → a ≡ b
unfolding AreParts
same-parts set originals a b x y =
    x.4 ∙ (same-built x.0 y.0 (x.1 ∙ sym y.1) (x.2 ∙ sym y.2) (x.3 ∙ sym y.3) ∙ sym y.4)

-- no base is of the wrong kind
no-wrong : (set : List SetDocument) (originals : List (Option ℕ)) (made : CompiledSet) (is : IsSetCompiled set originals (Ok made)) → (fault : Fault) → IsWrongBase is.1.1 fault → ⊥
no-wrong set originals made is fault wrong =
    let phase = is.0.1.0 in
    let parts = same-parts set originals phase.0 is.1.1 phase.1 is.1.2 in
    phase.2 fault (inr (subst (λ (t : Tables). IsWrongBase t fault) (sym parts) wrong))

parts-more : (old new : Tables) (ranks : Ranks) → IsGrown (with_all_ranks old ranks) new → length old.particles.parts ≤ length new.particles.parts
parts-more old new ranks g =
    let many : length new.particles.parts ≡ length (old.particles.parts ++ g.particles) = ap (λ (t : Tables). length t.particles.parts) g.tables in
    omega (arith, many, length-append old.particles.parts g.particles)

some-more : (old new : ℕ) (effective : Option ℕ) → old ≤ new → IfSome effective (λ p. p < old) → IfSome effective (λ p. p < new)
some-more old new None l h = tt
some-more old new (Some p) l h = omega (arith, l, h)

-- the particles of effective contents are still there
effectives-there : (old new : Tables) (ranks : Ranks) → IsGrown (with_all_ranks old ranks) new → IsClosed old → (n : ℕ) (part : ComplexType) → slice_get new.complexes.parts n ≡ Some part
    → IfSome (effective_of part.content) (λ p. p < length new.particles.parts)
effectives-there old new ranks grown closed n part at =
    let was : slice_get old.complexes.parts n ≡ Some part = sym (ap (λ (xs : List ComplexType). slice_get xs n) (grown-alike old new ranks grown).complexes) ∙ at in
    some-more (length old.particles.parts) (length new.particles.parts) (effective_of part.content) (parts-more old new ranks grown) (closed.effectives n part was)

module _ (closed : (source : Source) (t : Tables) → t ≡ built source → IsClosed t)
    (there : (source : Source) (t : Tables) → t ≡ built source → AreThere t)
    (simple : (set : List SetDocument) (originals : List (Option ℕ)) (made : CompiledSet) → All IsOfTree set → IsSetCompiled set originals (Ok made) → HasSimpleTypes made.parts)
    (read : (t : Tables) (types : SimpleTypes) → IsRanked t → AreSimple t → AreOwnSimple t → ((fault : Fault) → IsWrongBase t fault → ⊥) → AreWhole t types
    → (of : TypeId) → IsType t of → is_simple_content (content_of t of) ≡ true → IsWhole types of)
    (trees : (t : Tables) → IsRanked t → AreSimple t → (of : TypeId) → IsType t of → is_simple of ≡ true → IsSimpleTree (type_tree t of))
  where
    parts-closed : (set : List SetDocument) (originals : List (Option ℕ)) (old : Tables) → AreParts set originals old → IsClosed old
    unfolding AreParts
    parts-closed set originals old are = closed are.0 old are.4

    parts-there : (set : List SetDocument) (originals : List (Option ℕ)) (old : Tables) → AreParts set originals old → AreThere old
    unfolding AreParts
    parts-there set originals old are = there are.0 old are.4

    set-fit : (set : List SetDocument) (originals : List (Option ℕ)) (made : CompiledSet) → All IsOfTree set → IsSetCompiled set originals (Ok made) → IsFit made
    set-fit set originals made of_trees is =
        let old = is.1.1 in
        let ready = is.1.3 in
        let ranks = ready.same.0 in
        let grown = ready.same.1.filled.grown in
        let alike = grown-alike old made.parts ranks grown in
        let was-there = parts-there set originals old is.1.2 in
        let types = simple set originals made of_trees is in
        let attributes = attribute-types old made.parts alike was-there in
        let own = own-simple old made.parts alike was-there types.used in
        let effectives = effectives-there old made.parts ranks grown (parts-closed set originals old is.1.2) in
        record {
          ranked = ready.ranked;
          simple = types.made;
          types = element-types old made.parts alike was-there;
          attributes = attributes;
          readable = λ n decl at. trees made.parts ready.ranked types.made decl.of (attributes n decl at) (types.used.attributes n decl at);
          once = set-once set originals made is;
          named = set-named set originals made is;
          judged = ready.judged;
          literals = ready.whole;
          whole = read made.parts made.types ready.ranked types.made own (λ fault wrong. no-wrong set originals made is fault (wrong-was old made.parts alike fault wrong)) ready.whole;
          own = own;
          contents = contents-there made.parts ready.ranked ready.contents effectives;
        }

    pub compiled-fit : ((documents : List SchemaInput) (start : ℕ) (made : CompiledSet) → All (λ input. IsTree input.tree) documents → IsCompilation documents start (Ok made) → (set : List SetDocument) × (originals : List (Option ℕ)) × All IsOfTree set × IsSetCompiled set originals (Ok made))
        → (documents : List SchemaInput) (start : ℕ) (made : CompiledSet) → All (λ input. IsTree input.tree) documents → IsCompilation documents start (Ok made) → IsFit made
    compiled-fit shaped documents start made trees_are is = let s = shaped documents start made trees_are is in set-fit s.0 s.1 made s.2 s.3
