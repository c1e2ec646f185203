-- Names of a table that has grown.
use Rattle.std.proofs.Common.{◌≡◌, ℕ, ◌<◌, List, [], ◌∷◌, None, Some, if◌then◌else◌, length, refl, ap, ◌∙◌}
use Rattle.std.specs.Prelude.{All, slice_index_or, bytes_eq}
use Rattle.std.proofs.lemmas.List.{get_or_append_left}
use Rattle.std.proofs.lemmas.List.Elements.{All-head, All-tail}
use Rattle.std.proofs.lemmas.Option.{slice_get-get_or}
use Rattle.xs_names.specs.Names.{NameTable, Grown, IsSound, space_of, local_of}
use Rattle.xs_names.proofs.GrownLaws.{space_of-Grown, local_of-Grown}
use Rattle.assess_records.specs.Instance.{instance_namespace, attribute_named, instance_attribute, is_this, instance_text}
use Rattle.assess_records.specs.declared.instance_names.InstanceAttribute.{InstanceAttribute}
use Rattle.assess_records.specs.declared.shape.NamedText.{NamedText}

module _ (old new : NameTable) (g : Grown old new) where
  pub space-kept : (n : ℕ) → n < length old.spaces → slice_index_or new.spaces n [] ≡ slice_index_or old.spaces n []
  space-kept n l = ap (λ (spaces : List (List ℕ)). slice_index_or {A = List ℕ} spaces n []) g.spaces.1 ∙ get_or_append_left old.spaces g.spaces.0 [] n l

  module _ (sound : IsSound old) where
    pub space-within : (n : ℕ) → n < length old.names → space_of old n < length old.spaces
    space-within n l = sound.within n (space_of old n) (local_of old n) (slice_get-get_or old.names n (0, []) l)

    -- the namespace of a name
    pub text-kept : (n : ℕ) → n < length old.names → slice_index_or new.spaces (space_of new n) [] ≡ slice_index_or old.spaces (space_of old n) []
    text-kept n l = ap (λ (k : ℕ). slice_index_or {A = List ℕ} new.spaces k []) (space_of-Grown old new g n l) ∙ space-kept (space_of old n) (space-within n l)

    pub instance-kept : (n : ℕ) → n < length old.names → instance_attribute new n ≡ instance_attribute old n
    unfolding instance_attribute
    instance-kept n l =
        let space = text-kept n l in
        let local = local_of-Grown old new g n l in
        λ i. if bytes_eq (space i) instance_namespace then attribute_named (local i) else None

    pub instance-text-kept : (which : InstanceAttribute) (attrs : List NamedText) → All (λ (a : NamedText). a.name < length old.names) attrs → instance_text new attrs which ≡ instance_text old attrs which
    instance-text-kept which [] all = refl
    instance-text-kept which (a ∷ attrs) all =
        let own = instance-kept a.name (All-head (λ (b : NamedText). b.name < length old.names) a attrs all) in
        let rest = instance-text-kept which attrs (All-tail (λ (b : NamedText). b.name < length old.names) a attrs all) in
        λ i. if is_this which (own i) then Some a.text else rest i
