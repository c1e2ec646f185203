use Rattle.std.proofs.Common.{◌≡◌, ◌<◌, false, Option, None, Some, length, length-set, slice_get, slice_index_or, refl, sym, ap, ◌∙◌, subst, arith}
use Rattle.std.specs.Prelude.{All, is_some}
use Rattle.std.proofs.lemmas.Bool.{true≢false}
use Rattle.std.proofs.lemmas.Option.{slice_get_read}
use Rattle.std.proofs.lemmas.List.{take_all}
use Rattle.std.proofs.lemmas.List.Elements.{All-more}
use Rattle.type_derivation.specs.inside.Kinds.{entry, LacksAt}
use Rattle.component_tables.specs.declared.content_types.ContentType.{ContentType}
use Rattle.type_derivation.proofs.KindLaws.{lacks-at, next-sound, sound-more, fewer}
use Rattle.type_derivation.proofs.rounds.round.Goals as goal

none-known : (o : Option ContentType) → is_some o ≡ false → o ≡ None
none-known None e = refl
none-known (Some k) e = absurd (true≢false e)

pub loop-x-preserved-in_default : goal.loop-x-preserved-in_default
loop-x-preserved-in_default c =
    let i = c.loop-x.x-index in
    let n = slice_index_or c.args.order.now i 0 in
    let part = c.index-complexes-number.result in
    let h : n < length c.args.parts.now.complexes.parts = c.requires.order i 0 (omega arith) in
    let within : n < length c.complexes.result.now = subst (λ l. n < length l) (sym c.complexes.ensures.parts) h in
    let is : slice_get c.args.parts.now.complexes.parts n ≡ Some part = ap (λ l. slice_get l n) (sym c.complexes.ensures.parts) ∙ slice_get_read c.complexes.result.now (length c.complexes.result.now) n part refl within c.index-complexes-number.is in
    record {
      len = c.loop-x.invariant.len;
      sound = c.loop-x.invariant.sound;
      lacks = λ e. All-more (LacksAt c.args.parts.now c.loop-x.known) c.args.order.now i 0 (omega arith) (c.loop-x.invariant.lacks e) (lacks-at c.args.parts.now c.loop-x.known n part is (sym c.kind_by.ensures ∙ c.in_default.is));
      fewer = c.loop-x.invariant.fewer;
      most = c.loop-x.invariant.most;
    }

pub loop-x-preserved : goal.loop-x-preserved
loop-x-preserved c =
    let i = c.loop-x.x-index in
    let n = slice_index_or c.args.order.now i 0 in
    let part = c.index-complexes-number.result in
    let h : n < length c.args.parts.now.complexes.parts = c.requires.order i 0 (omega arith) in
    let within : n < length c.complexes.result.now = subst (λ l. n < length l) (sym c.complexes.ensures.parts) h in
    let is : slice_get c.args.parts.now.complexes.parts n ≡ Some part = ap (λ l. slice_get l n) (sym c.complexes.ensures.parts) ∙ slice_get_read c.complexes.result.now (length c.complexes.result.now) n part refl within c.index-complexes-number.is in
    let there : n < length c.loop-x.known = omega (arith, h, c.loop-x.invariant.len) in
    let empty : entry c.loop-x.known n ≡ None = none-known (entry c.loop-x.known n) (cc) in
    let less = fewer c.args.parts.now c.loop-x.known n c.in-Some.kind there empty in
    record {
      len = simp length-set c.loop-x.invariant.len;
      sound = sound-more c.args.parts.now c.loop-x.known n c.in-Some.kind there c.loop-x.invariant.sound (next-sound c.args.parts.now c.loop-x.known c.loop-x.invariant.sound n part c.in-Some.kind is (sym c.kind_by.ensures ∙ c.in-Some.is));
      lacks = λ e. absurd (true≢false e);
      fewer = λ e. omega (arith, less, c.loop-x.invariant.most);
      most = omega (arith, less, c.loop-x.invariant.most);
    }

pub returns-clause-lacks : goal.returns-clause-lacks
returns-clause-lacks c = λ e. subst (All (LacksAt c.args.parts.now c.loop-x.known)) (take_all c.loop-x.x-index c.args.order.now (omega arith)) (c.loop-x.invariant.lacks e)
