use Rattle.std.proofs.Common.{ap, ◌∙◌, map}
use Rattle.session_model.specs.Asking.{code_total}
use Rattle.compiled_schema.specs.Usable.{set_of}
use Rattle.tree_assess.specs.Entries.{entry_of}
use Rattle.what_is_found.specs.Identity.{beside_of}
use Rattle.plain_session.proofs.Known.{found_by, are_named}
use Rattle.plain_session.proofs.stock.assessed.Goals as goal

pub returns-in-Some-clause-stock : goal.returns-in-Some-clause-stock
returns-in-Some-clause-stock c =
    let set = c.args.set.now in
    let d = c.args.tree.now in
    let es = c.in_ok-entries.entries.items in
    let are = c.in_ok-entries.ensures.assessed in
    record {
      found_is = found_by set d es are c.requires.ready c.next_free-free.ensures.tree;
      named = are_named set d es are
          (c.entries_are_named.ensures.named set (beside_of (set_of set) set.identities.items d.forest are.found) d.forest are.found c.requires.ready.usable c.requires.names are.assessed);
      total_is = c.in-Some.ensures ∙ ap (λ xs. code_total (map entry_of xs)) c.deref.ensures.value;
    }
