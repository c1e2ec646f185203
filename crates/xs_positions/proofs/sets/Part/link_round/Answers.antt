use Rattle.std.proofs.Common.{length, sym, refl, ap, ◌∙◌}
use Rattle.std.proofs.lemmas.List.{length-map}
use Rattle.xs_positions.specs.Parts.{sets_of, span_of}
use Rattle.xs_positions.proofs.Linking.{already_looped}
use Rattle.xs_positions.proofs.sets.Part.link_round.Goals as goal

pub link_apart-requires-clause-loops : goal.link_apart-requires-clause-loops
link_apart-requires-clause-loops c = rw (c.deref-2.ensures.value, c.deref-3.ensures.value, c.deref-4.ensures.value) c.requires.loops

pub returns-then-covers : goal.returns-then-covers
returns-then-covers c =
    let part = c.args.self.now in
    record {
      looped = already_looped c.args.base (length part.follow.items) (sets_of part) _ (sym (length-map part.follow.items (λ row. row.items))) (ap (λ n. span_of c.args.base n) c.len.ensures)
          (sym c.deref.ensures.value ∙ c.covers.ensures c.if-covers.true) c.requires.first c.requires.last c.requires.loops;
      nullable = refl;
    }
