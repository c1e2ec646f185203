use Rattle.std.proofs.Common.{refl}
use Rattle.schema_set.specs.inside.Entries.{entry_of, entry_at}
use Rattle.schema_set.proofs.EntryLaws.{entries-more}
use Rattle.schema_set.proofs.entries.add_entry.Goals as goal

pub returns : goal.returns
returns c = λ more.
    entries-more entry_of (entry_at c.args.available.now) c.args.documents.now c.push.new.self c.in_ok-document.document c.args.x more _ c.in_ok-push.ensures.ok c.in_ok-document.ensures refl
