use Rattle.std.proofs.Common.{refl, sym, ◌∙◌}
use Rattle.key_records.specs.References.{keyrefs_of}
use Rattle.key_records.specs.declared.records.KeyRecords.{KeyRecords}
use Rattle.key_records.proofs.OwnLaws.{referred-added, referred-added-changed, referred-settled, other-added, other-added-changed, through}
use Rattle.key_records.proofs.records.KeyRecords.add_own.Goals as goal

pub returns-then-is_referred : goal.returns-then-is_referred
returns-then-is_referred c =
    let refs = c.args.tree.now.references.now in
    let k = c.args.constraint in
    let tuple = c.args.tuple.now in
    let old = c.args.self.now in
    let middle : KeyRecords = record old { referred = c.add_tuple.new.tables } in
    let new = c.rematch_told.new.self in
    let told = c.add_tuple.new.told.items in
    let here = sym c.is_referred.ensures ∙ c.if-is_referred.true in
    let tables = c.in_ok-add_tuple.ensures in
    let again = c.in_ok-rematch_told.ensures in
    let right = through refs new tuple told c.as_slice.result.now c.keyrefs_of-keyrefs.result.now (keyrefs_of refs k) c.as_slice.ensures.value c.keyrefs_of-keyrefs.ensures again.matched in
    record {
      settled = λ t i p s. referred-settled refs c.requires.sound old middle new c.args.scope k tuple told refl refl tables.told.alike again.rematched right t (tables.settled t i p s);
      own = referred-added refs c.requires.sound old middle new c.args.scope k tuple told refl refl tables.told.alike again.rematched right here tables.own;
      changed = referred-added-changed refs c.requires.sound old middle new c.args.scope k tuple told refl refl tables.told.alike again.rematched right here tables.own;
    }

pub returns : goal.returns
returns c =
    let refs = c.args.tree.now.references.now in
    let old = c.args.self.now in
    let here = sym c.is_referred.ensures ∙ c.if-is_referred.false in
    let others = c.add.new.self in
    let made = c.in_ok-tuple.tuple in
    record {
      settled = λ t i p s. s;
      own = other-added refs old others c.args.scope c.args.constraint c.args.tuple.now made c.in_ok-tuple.ensures.cases here c.in_ok-add.ensures.ok;
      changed = other-added-changed refs old others c.args.scope c.args.constraint c.args.tuple.now made c.in_ok-tuple.ensures.cases here c.requires.once c.in_ok-add.ensures.ok;
    }
