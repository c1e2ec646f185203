use Rattle.std.proofs.Common.{◌≡◌, ◌++◌, [], ◌∷◌, arith}
use Rattle.xs_codes.specs.Least.{sooner}
use Rattle.xs_codes.specs.declared.code.Code.TheVariants.{CFieldsXpaths}
use Rattle.xpath_subset.specs.Grammar.{IsField}
use Rattle.xpath_subset.specs.Reads.{IsReadAs}
use Rattle.xpath_subset.specs.Faults.{IsUnreadable}
use Rattle.xpath_subset.proofs.FaultLaws.{known-least, known-read, least-all, zip-all}
use Rattle.xpath_subset.proofs.fault_reading.fields_reading.Goals as goal

pub loop-field-preserved : goal.loop-field-preserved
loop-field-preserved c =
    let fields = c.args.fields.now in
    let i = c.loop-field.field-index in
    let item = c.field-item.result in
    let before = c.loop-field.invariant in
    let read = c.in_ok-found.field-0 in
    let joined : c.sooner-fault.result ≡ sooner c.loop-field.fault read.fault = cc (c.sooner-fault.ensures.sooner) in
    let pushed : c.push.new.self ≡ c.loop-field.paths ++ read.paths ∷ [] = cc (c.in_ok-push.ensures.ok) in
    record {
      least = known-least (IsUnreadable IsField CFieldsXpaths) (IsReadAs IsField) fields i item (omega arith) c.field-item.is c.loop-field.fault read.fault c.sooner-fault.result joined before.least c.in_ok-found.ensures.least;
      paths = known-read (IsUnreadable IsField CFieldsXpaths) (IsReadAs IsField) fields i item (omega arith) c.field-item.is c.loop-field.fault read.fault c.sooner-fault.result joined
          c.loop-field.paths c.push.new.self read.paths pushed before.paths c.in_ok-found.ensures.paths;
    }

pub returns : goal.returns
returns c =
    let before = c.loop-field.invariant in
    record {
      least = least-all (IsUnreadable IsField CFieldsXpaths) c.args.fields.now c.loop-field.field-index c.loop-field.fault (omega arith) before.least;
      paths = λ none. zip-all (IsReadAs IsField) c.args.fields.now c.loop-field.paths c.loop-field.field-index (omega arith) (before.paths none);
    }
