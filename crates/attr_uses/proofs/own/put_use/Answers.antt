use Rattle.std.proofs.Common.{nat_eq, [], ◌∷◌, ◌++◌, Some, sym, ap, ◌∙◌}
use Rattle.std.specs.Prelude.{if◌then◌else◌}
use Rattle.std.proofs.lemmas.Result.{IfOk-weaker}
use Rattle.attr_uses.specs.Entries.{joined}
use Rattle.attr_uses.specs.Maps.{IsMapOf, KeepsMaps}
use Rattle.attr_uses.specs.declared.join.Join.TheVariants.{Union}
use Rattle.attr_uses.specs.Tables.{entry_for}
use Rattle.attr_uses.proofs.EntryLaws.{entry-named, entry-nameless, entry-more, entry-unnamed}
use Rattle.attr_uses.proofs.KeptLaws.{maps-itself, map-same}
use Rattle.attr_uses.proofs.own.put_use.Goals as goal

pub returns-in-Some : goal.returns-in-Some
returns-in-Some c =
    let t = c.args.parts.now in
    let ids = c.args.ids.now in
    let u = c.args.at in
    let named = entry-named t ids u c.in-Some.name c.in-Some.entry (sym c.entry_at.ensures ∙ c.in-Some.is) in
    record {
      made = λ us is. IfOk-weaker c.put.result
          (λ made. IsMapOf c.put.new.self made.top (λ key. if nat_eq key c.in-Some.name then joined Union (entry_for t ids us key) (Some c.in-Some.entry) else entry_for t ids us key))
          (λ made. KeepsMaps c.args.maps.now c.put.new.self × IsMapOf c.put.new.self made.top (entry_for t ids (us ++ u ∷ [])))
          (λ made m. (
            c.put.ensures.kept,
            map-same c.put.new.self made.top _ _
                (λ key h. ap (λ e. if nat_eq key c.in-Some.name then joined Union (entry_for t ids us key) (Some e) else entry_for t ids us key) named.1 ∙ entry-more t ids us u c.in-Some.name named.0 key) m,
          ))
          (c.put.ensures.map (entry_for t ids us) is);
    }

pub returns-in-None : goal.returns-in-None
returns-in-None c =
    let t = c.args.parts.now in
    let ids = c.args.ids.now in
    record {
      made = λ us is. (maps-itself c.args.maps.now, map-same c.args.maps.now c.args.map.top _ _ (λ key h. entry-unnamed t ids us c.args.at (entry-nameless t ids c.args.at (sym c.entry_at.ensures ∙ c.in-None.is)) key) is);
    }
