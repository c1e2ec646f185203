use Rattle.std.proofs.Common.{◌≡◌, length, refl, sym, ap, ◌∙◌, subst, arith}
use Rattle.std.specs.Prelude.{IfSome}
use Rattle.std.proofs.lemmas.Option.{slice_get_within}
use Rattle.attr_uses.specs.declared.entry.UseAt.{UseAt}
use Rattle.attr_uses.specs.Written.{own_parts}
use Rattle.attr_assess.specs.Known.{IsKnownUse, AreKnownIn}
use Rattle.attr_assess.proofs.KnownLaws.{none-known, one-known, one-longer, written-here, written_at}
use Rattle.attr_assess.proofs.known.known_by.Goals as goal

pub uses-init : goal.uses-init
uses-init c = record {
  known = subst (AreKnownIn c.args.parts.now c.args.holder) (sym c.new-known.ensures) (none-known c.args.parts.now c.args.holder);
  same = refl;
}

pub added_by-requires-clause-written : goal.added_by-requires-clause-written
added_by-requires-clause-written c =
    written-here c.args.parts.now (written_at c.args.holder c.len.result) c.in-Some.found c.in-Some.ensures.found

pub uses-smaller : goal.uses-smaller
uses-smaller c =
    let within = slice_get_within (own_parts c.args.parts.now c.args.holder).uses c.len.result c.in-Some.found.part.now c.in-Some.ensures.found.part in
    let longer = ap length c.in_ok-push.ensures.ok ∙ one-longer c.uses.known c.in_ok-added.added (length c.uses.known) refl in
    omega (arith, within, longer, c.len.ensures)

pub uses-preserved : goal.uses-preserved
uses-preserved c =
    let t = c.args.parts.now in
    let holder = c.args.holder in
    let before = c.uses.invariant in
    let at : c.in-Some.found.at ≡ written_at holder (length c.uses.known) = c.in-Some.ensures.found.place ∙ ap (written_at holder) c.len.ensures in
    record {
      known = subst (AreKnownIn t holder) (sym c.in_ok-push.ensures.ok)
          (one-known t holder c.uses.known c.in_ok-added.added before.known
          (subst (λ (at : UseAt). IfSome c.in_ok-added.added (IsKnownUse t at)) at c.in_ok-added.ensures.added));
      same = c.added_by.ensures.same ∙ before.same;
    }
