use Rattle.std.proofs.Common.{◌≡◌, Some, None, take, take_all, ap, ◌∙◌, bytes_eq, if◌then◌else◌, arith}
use Rattle.std.specs.List.{list_any}
use Rattle.std.specs.Option.{option_or}
use Rattle.std.specs.HashMap.{get_by_text}
use Rattle.xs_names.specs.WhiteSpace.{collapsed}
use Rattle.schema_set.proofs.LocationLaws.{documents-more}
use Rattle.schema_set.proofs.sources.location_numbers.Goals as goal

pub loop-document-preserved : goal.loop-document-preserved
loop-document-preserved c =
    let inv = c.loop-document.invariant in
    record {
      counted = omega (arith, inv.counted);
      found = λ location.
          documents-more location c.args.available.now c.loop-document.document-index c.document-item.result c.loop-document.number
          (get_by_text c.loop-document.numbers (collapsed location)) (get_by_text c.note_locations.new.numbers (collapsed location)) c.loop-document-test.true c.document-item.is inv.counted
          (c.in_ok-note_locations.ensures (collapsed location)
          ∙ ap (λ xs. option_or (get_by_text c.loop-document.numbers (collapsed location)) (if list_any (λ other. bytes_eq (collapsed other) (collapsed location)) xs then Some c.loop-document.number else None)) c.as_slice.ensures)
          (inv.found location);
    }

pub returns : goal.returns
returns c = let all : take c.loop-document.document-index c.args.available.now ≡ c.args.available.now = take_all _ _ (omega arith) in rw all at c.loop-document.invariant.found
