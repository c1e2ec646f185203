use Rattle.std.proofs.Common.{ap, ◌∙◌}
use Rattle.std.specs.HashMap.{get_by}
use Rattle.std.specs.Option.{option_map}
use Rattle.std.specs.Str.{bytes_eq}
use Rattle.std.proofs.lemmas.Map.Text.{hash_map_updates_str}
use Rattle.redefine_originals.specs.inside.Entries.{version_entry}
use Rattle.redefine_originals.specs.inside.Named.{found}
use Rattle.redefine_originals.proofs.NamedLaws.{noted-first, written-view}
use Rattle.redefine_originals.proofs.named.NamedVersions.note.Goals as goal

pub returns-in_ok-insert-in-None : goal.returns-in_ok-insert-in-None
returns-in_ok-insert-in-None c = λ q.
    ap (option_map version_entry) (hash_map_updates_str c.args.name.now c.args.self.now.inner c.insert.new.self _ c.in_ok-insert-in-None.ensures.updates q)
    ∙ written-view version_entry (λ name. get_by (λ k. bytes_eq name k.now) c.args.self.now.inner) c.args.name.now c.args.version q
    ∙ noted-first (found c.args.self.now) c.args.name.now (version_entry c.args.version) c.in-None.ensures q
