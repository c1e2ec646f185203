use Rattle.std.proofs.Common.{ℕ, [], refl, sym, ap, ◌∙◌, subst, arith}
use Rattle.std.specs.Prelude.{All, slice_index_or}
use Rattle.std.proofs.lemmas.List.Elements.{All-push}
use Rattle.kept_next.specs.declared.symbol.SymbolName.TheVariants.{Name}
use Rattle.kept_next.specs.inside.Sorting.{HasTexts}
use Rattle.kept_next.proofs.Pushing.{listed-next}
use Rattle.kept_next.proofs.listing.add_names.Goals as goal

pub loop-number-preserved : goal.loop-number-preserved
loop-number-preserved c = record {
  symbols = listed-next Name c.args.listed.now c.loop-number.listed c.push.new.self _ 0 c.args.own.now c.loop-number.number c.index-own-number.result (c.loop-number.number) c.loop-number.invariant.symbols
      c.loop-number-test.true c.index-own-number.is (omega arith) refl c.in_ok-push.ensures.ok;
  texts = subst (All (HasTexts c.args.names.now)) (sym c.in_ok-push.ensures.ok)
      (All-push (HasTexts c.args.names.now) c.loop-number.listed _ c.loop-number.invariant.texts (record { space = c.space_name.ensures ∙ ap (λ (n : ℕ). slice_index_or c.args.names.now.spaces n []) c.ns.ensures.value; local = c.local.ensures.text }));
}
