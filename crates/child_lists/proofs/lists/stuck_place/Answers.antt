use Rattle.std.proofs.Common.{length, sym, ◌∙◌}
use Rattle.doc_changes.specs.Readers.{name_at}
use Rattle.doc_nodes.specs.Nodes.{element_children}
use Rattle.child_listing.specs.from_kept_records.Slots.{kept_at}
use Rattle.child_lists.specs.Family.{model_of, symbols_of}
use Rattle.child_lists.proofs.Listed.{listed-as, listed-stuck, unlisted, unlisted-stuck, one-more-step}
use Rattle.child_lists.proofs.Terms.{many-symbols}
use Rattle.child_lists.proofs.lists.stuck_place.Goals as goal

pub returns-in-None-clause-stuck : goal.returns-in-None-clause-stuck
returns-in-None-clause-stuck g c =
    let k = c.args.kept.now in
    let p = c.args.parent in
    let model = model_of c.args.set.now k p in
    let symbols = symbols_of c.args.set.now c.args.doc.now k p in
    unlisted-stuck model symbols (unlisted k.lists model (kept_at k.records.slots p).list symbols c.in-None.ensures c.requires.listed)

pub stuck-requires : goal.stuck-requires
stuck-requires g c =
    let set = c.args.set.now in
    let ns = c.args.doc.now in
    let k = c.args.kept.now in
    let p = c.args.parent in
    let model = model_of set k p in
    let symbols = symbols_of set ns k p in
    let found = c.in-Some.ensures in (
      symbols,
      listed-as k.lists model (kept_at k.records.slots p).list symbols c.in-Some.list c.in-Some.automaton.now found.0 found.1 c.requires.listed,
      c.child_elements.ensures ∙ sym (many-symbols set.names model (name_at ns) (element_children ns p)),
    )

pub returns-in-Some-clause-stuck : goal.returns-in-Some-clause-stuck
returns-in-Some-clause-stuck g c =
    let k = c.args.kept.now in
    let p = c.args.parent in
    let model = model_of c.args.set.now k p in
    let symbols = symbols_of c.args.set.now c.args.doc.now k p in
    let found = c.in-Some.ensures in
    listed-stuck model symbols c.in-Some.automaton.now c.stuck.result found.1
    (c.stuck.ensures.stuck symbols (listed-as k.lists model (kept_at k.records.slots p).list symbols c.in-Some.list c.in-Some.automaton.now found.0 found.1 c.requires.listed))

pub returns-in-Some-clause-steps : goal.returns-in-Some-clause-steps
returns-in-Some-clause-steps g c =
    let set = c.args.set.now in
    let ns = c.args.doc.now in
    let k = c.args.kept.now in
    let p = c.args.parent in
    let model = model_of set k p in
    let symbols = symbols_of set ns k p in
    let found = c.in-Some.ensures in
    one-more-step c.args.steps.now c.stuck.new.steps (length symbols) (length (element_children ns p)) (many-symbols set.names model (name_at ns) (element_children ns p))
    (c.stuck.ensures.steps symbols (listed-as k.lists model (kept_at k.records.slots p).list symbols c.in-Some.list c.in-Some.automaton.now found.0 found.1 c.requires.listed))
