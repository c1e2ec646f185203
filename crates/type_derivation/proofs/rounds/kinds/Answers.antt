use Rattle.std.proofs.Common.{◌≡◌, List, Option, Some, length, sym, ap, subst, arith}
use Rattle.std.specs.Prelude.{All}
use Rattle.std.proofs.lemmas.List.{with_items_is}
use Rattle.std.proofs.lemmas.List.Elements.{All-contains}
use Rattle.xs_components.specs.declared.common.TypeId.{TypeId}
use Rattle.type_derivation.specs.Contents.{HasContent}
use Rattle.type_derivation.specs.inside.Kinds.{LacksAt, kind_in}
use Rattle.component_tables.specs.declared.content_types.ContentType.{ContentType}
use Rattle.type_derivation.proofs.KindLaws.{kind-sound, complete}
use Rattle.type_derivation.proofs.rounds.kinds.Goals as goal

pub returns : goal.returns
returns c =
    let t = c.args.parts.now in
    let table = c.rounds.new.known in
    let same = with_items_is c.in_ok-known.known table (omega (arith, c.rounds.ensures.len, ap length c.as_mut_slice.ensures.value, c.in_ok-known.known.ok.0)) in
    let lacks : All (LacksAt t table) c.in_ok-order.order.items = subst (All (LacksAt t table)) c.as_slice.ensures.value c.rounds.ensures.lacks in
    record {
      exact = subst (λ (known : List (Option ContentType)). (of : TypeId) (kind : ContentType) → (kind_in known of ≡ Some kind → HasContent t of kind) × (HasContent t of kind → kind_in known of ≡ Some kind)) (sym same)
          (λ of kind. (
            kind-sound t table c.rounds.ensures.sound of kind,
            complete t table c.rounds.ensures.sound (λ n h. All-contains (LacksAt t table) c.in_ok-order.order.items n lacks (c.in_ok-order.ensures.each n h)) of kind,
          ));
    }
