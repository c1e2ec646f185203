use Rattle.std.proofs.Common.{◌+◌, refl, sym, subst, arith}
use Rattle.std.specs.Prelude.{All}
use Rattle.std.proofs.lemmas.List.Elements.{All-push}
use Rattle.kept_next.specs.declared.symbol.SymbolName.TheVariants.{Namespace}
use Rattle.kept_next.specs.inside.Sorting.{HasTexts}
use Rattle.kept_next.proofs.Pushing.{listed-next}
use Rattle.kept_next.proofs.listing.add_spaces.Goals as goal

pub loop-place-preserved : goal.loop-place-preserved
loop-place-preserved c = record {
  symbols = listed-next Namespace c.args.listed.now c.loop-place.listed c.push.new.self _ c.args.first c.args.spaces.now c.loop-place.place c.index-spaces-place.result (c.args.first + c.loop-place.place) c.loop-place.invariant.symbols
      c.loop-place-test.true c.index-spaces-place.is (omega arith) refl c.in_ok-push.ensures.ok;
  texts = subst (All (HasTexts c.args.names.now)) (sym c.in_ok-push.ensures.ok)
      (All-push (HasTexts c.args.names.now) c.loop-place.listed _ c.loop-place.invariant.texts (record { space = c.space_name.ensures; local = refl }));
}
