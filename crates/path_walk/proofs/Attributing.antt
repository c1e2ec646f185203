-- Attributes with their values, one by one.
use Rattle.std.proofs.Common.{◌≡◌, ◌++◌, List, [], ◌∷◌, Bool, true, false, refl, sym, ap, subst, ◌∙◌, append_assoc, append-nil}
use Rattle.std.specs.Prelude.{Option, IsTrue, ◌↔◌}
use Rattle.std.specs.List.{flat_map}
use Rattle.simple_values.specs.declared.value.Value.{Value}
use Rattle.assess_records.specs.declared.record.AttrRecord.{AttrRecord}
use Rattle.xs_components.specs.Tables.{Tables}
use Rattle.identity_constraints.specs.Seen.{KeyAttribute}
use Rattle.identity_constraints.specs.Targets.{FieldNode}
use Rattle.path_walk.specs.Sight.{attributes_of}
use Rattle.path_walk.specs.declared.nodes.FieldNodes.{FieldNodes}
use Rattle.path_walk.specs.inside.Nodes.{AreAdded}

-- two tests of one fact
pub same_test : {P : Type 0} (a b : Bool) → IsTrue a ↔ P → IsTrue b ↔ P → a ≡ b
same_test true true p q = refl
same_test true false p q = sym (q.1 (p.0 refl))
same_test false true p q = p.1 (q.0 refl)
same_test false false p q = refl

pub attributes_first : (attrs more : List AttrRecord) (values others : List (Option Value)) (attr : AttrRecord) (value : Option Value) → attrs ≡ attr ∷ more → values ≡ value ∷ others
    → attributes_of attrs values ≡ record { name = attr.name; value = value } ∷ attributes_of more others
attributes_first attrs more values others attr value e d = λ i. attributes_of (e i) (d i)

pub attributes_none : (attrs : List AttrRecord) (values : List (Option Value)) → attrs ≡ [] → attributes_of attrs values ≡ []
attributes_none attrs values e = ap (λ xs. attributes_of xs values) e

pub values_none : (attrs : List AttrRecord) (values : List (Option Value)) → values ≡ [] → attributes_of attrs values ≡ []
values_none [] values e = refl
values_none (attr ∷ attrs) values e = ap (attributes_of (attr ∷ attrs)) e

module _ (t : Tables) (f : KeyAttribute → List FieldNode) where
  -- one attribute more
  pub all_next : (all rest more : List KeyAttribute) (done : List FieldNode) (a : KeyAttribute) → flat_map f all ≡ done ++ flat_map f rest → rest ≡ a ∷ more → flat_map f all ≡ (done ++ f a) ++ flat_map f more
  all_next all rest more done a so e = so ∙ ap (λ xs. done ++ flat_map f xs) e ∙ sym (append_assoc done (f a) (flat_map f more))

  -- no more
  pub all_done : (all rest : List KeyAttribute) (done : List FieldNode) (old new : FieldNodes) → flat_map f all ≡ done ++ flat_map f rest → rest ≡ [] → AreAdded t done old new → AreAdded t (flat_map f all) old new
  all_done all rest done old new so e added = subst (λ ns. AreAdded t ns old new) (sym (so ∙ ap (λ xs. done ++ flat_map f xs) e ∙ append-nil done)) added
