use Rattle.std.proofs.Common.{◌≡◌, ◌+◌, ◌<◌, ◌↔◌, Some, true, false, length, slice_get, refl, sym, ap, ◌∙◌, subst, arith}
use Rattle.std.specs.Prelude.{IsTrue, slice_index_or}
use Rattle.std.proofs.lemmas.List.{length_push}
use Rattle.std.proofs.lemmas.Option.{slice_get_read}
use Rattle.xs_codes.specs.declared.builtin.Builtin.TheVariants.{Id}
use Rattle.xs_components.specs.declared.common.TypeId.TheVariants.{Builtin}
use Rattle.type_derivation.specs.Chains.{Derives}
use Rattle.derive_faults.specs.AttrFaults.{IsOfId}
use Rattle.derive_faults.proofs.AttrLaws.{marked-more, marked-all}
use Rattle.derive_faults.proofs.ids.id_marks.Goals as goal

pub loop-decl-preserved : goal.loop-decl-preserved
loop-decl-preserved c =
    let t = c.args.parts.now in
    let i = c.loop-decl.decl-index in
    let items = c.attributes-decl-items.result.now in
    let decl = c.decl-item.result in
    let mark = c.derives.result in
    let count = c.loop-decl.invariant.count in
    let read : slice_get items i ≡ Some decl = slice_get_read items (length items) i decl refl c.loop-decl-test.true c.decl-item.is in
    let is : slice_get t.attributes.parts (length c.loop-decl.marks) ≡ Some decl = subst (λ k. slice_get t.attributes.parts k ≡ Some decl) (sym count) (subst (λ xs. slice_get xs i ≡ Some decl) c.attributes-decl-items.ensures.parts read) in
    let told = subst (λ m. IsTrue mark ↔ Derives t m decl.of (Builtin Id)) c.no_methods-none.ensures (subst (λ b. IsTrue mark ↔ Derives t c.no_methods-none.result decl.of b) c.in_ok-within.ensures.base c.derives.ensures.derives) in
    let more = c.in_ok-push.ensures.ok in
    record {
      count = ap length more ∙ (length_push c.loop-decl.marks mark ∙ ap (λ k. k + 1) count);
      are = λ n l. subst (λ ms. (slice_index_or ms n false ≡ true) ↔ IsOfId t n) (sym more)
          (marked-more t c.loop-decl.marks mark decl is told (λ k h. c.loop-decl.invariant.are k (subst (λ x. k < x) count h)) n (subst (λ x. n < x + 1) (sym count) l));
    }

pub returns : goal.returns
returns c =
    let count = c.loop-decl.invariant.count in
    let past = c.loop-decl-test.false in
    let all = ap length c.attributes-decl-items.ensures.parts in
    record { marks = marked-all c.args.parts.now c.loop-decl.marks (omega (arith, count, past, all)) (λ k h. c.loop-decl.invariant.are k (subst (λ x. k < x) count h)) }
