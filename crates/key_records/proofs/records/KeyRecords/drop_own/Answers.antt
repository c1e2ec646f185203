use Rattle.std.proofs.Common.{refl, sym, ◌∙◌}
use Rattle.key_records.specs.References.{keyrefs_of, is_referred}
use Rattle.key_records.specs.declared.records.KeyRecords.{KeyRecords}
use Rattle.key_records.proofs.OwnLaws.{referred-dropped, referred-dropped-changed, referred-settled, other-dropped, other-dropped-changed, through, there-referred, there-other}
use Rattle.key_records.proofs.records.KeyRecords.drop_own.Goals as goal

pub drop_tuple-requires-clause-there : goal.drop_tuple-requires-clause-there
drop_tuple-requires-clause-there c =
    there-referred (is_referred c.args.tree.now.references.now c.args.constraint) c.args.self.now c.args.scope c.args.constraint c.args.tuple.now (sym c.is_referred.ensures ∙ c.if-is_referred.true) c.requires.there

pub drop_entry-requires : goal.drop_entry-requires
drop_entry-requires c =
    there-other (is_referred c.args.tree.now.references.now c.args.constraint) c.args.self.now c.args.scope c.args.constraint c.args.tuple.now (sym c.is_referred.ensures ∙ c.if-is_referred.false) c.requires.there

pub returns-then-is_referred : goal.returns-then-is_referred
returns-then-is_referred c =
    let refs = c.args.tree.now.references.now in
    let k = c.args.constraint in
    let tuple = c.args.tuple.now in
    let old = c.args.self.now in
    let middle : KeyRecords = record old { referred = c.drop_tuple.new.tables } in
    let new = c.rematch_told.new.self in
    let told = c.drop_tuple.new.told.items in
    let here = sym c.is_referred.ensures ∙ c.if-is_referred.true in
    let tables = c.in_ok-drop_tuple.ensures in
    let again = c.in_ok-rematch_told.ensures in
    let right = through refs new tuple told c.as_slice.result.now c.keyrefs_of-keyrefs.result.now (keyrefs_of refs k) c.as_slice.ensures.value c.keyrefs_of-keyrefs.ensures again.matched in
    record {
      settled = λ t i p s. referred-settled refs c.requires.sound old middle new c.args.scope k tuple told refl refl tables.told.alike again.rematched right t (tables.settled t i p s);
      own = referred-dropped refs c.requires.sound old middle new c.args.scope k tuple told refl refl tables.told.alike again.rematched right here tables.own;
      changed = referred-dropped-changed refs c.requires.sound old middle new c.args.scope k tuple told refl refl tables.told.alike again.rematched right here tables.own;
    }

pub returns : goal.returns
returns c =
    let refs = c.args.tree.now.references.now in
    let old = c.args.self.now in
    let here = sym c.is_referred.ensures ∙ c.if-is_referred.false in
    let others = c.drop_entry.new.self in
    record {
      settled = λ t i p s. s;
      own = other-dropped refs old others c.args.scope c.args.constraint c.args.tuple.now here c.drop_entry.ensures;
      changed = other-dropped-changed refs old others c.args.scope c.args.constraint c.args.tuple.now here c.requires.once c.drop_entry.ensures;
    }
