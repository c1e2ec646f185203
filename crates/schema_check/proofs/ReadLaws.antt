-- What is known of documents that were read and of the set that is closed of them.
use Rattle.std.proofs.Common.{◌≡◌, ℕ, ◌<◌, List, length, ap, subst, ◌∙◌, arith}
use Rattle.std.specs.Prelude.{All}
use Rattle.std.proofs.lemmas.List.{length-map}
use Rattle.schema_set.specs.declared.documents.Available.{Available}
use Rattle.schema_set.specs.declared.documents.SetDocument.{SetDocument}
use Rattle.schema_set.specs.declared.inputs.SchemaInput.{SchemaInput}
use Rattle.schema_set.specs.EffectiveSet.{IsEffectiveSet}
use Rattle.schema_set.specs.Order.{IsInOrder}
use Rattle.schema_set.specs.Documents.{available_of, available, IsSet}

pub place-available : (documents : List SchemaInput) (start : ℕ) (slice : List Available) → slice ≡ available documents → start < length documents → start < length slice
place-available documents start slice same place =
    let long : length slice ≡ length documents = ap length same ∙ length-map documents available_of in
    omega (arith, long, place)

-- the numbers of the documents of a set begin with 1
pub numbers : (slice : List Available) (start : ℕ) (set : List SetDocument) → IsEffectiveSet slice start set → All (λ d. 0 < d.number) set
numbers slice start set is = λ k d h. let there = is.there k d h in omega (arith, there.2)

pub read-set : (documents : List SchemaInput) (start : ℕ) (slice : List Available) (set : List SetDocument) → slice ≡ available documents → IsEffectiveSet slice start set → IsInOrder slice set → IsSet documents start set
read-set documents start slice set same is order =
    (subst (λ (l : List Available). IsEffectiveSet l start set) same is, subst (λ (l : List Available). IsInOrder l set) same order)
