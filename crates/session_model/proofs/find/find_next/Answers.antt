use Rattle.std.proofs.Common.{◌≡◌, ℕ, suc, ◌+◌, length, map, Some, refl, sym, ap, ◌∙◌, arith}
use Rattle.std.specs.Prelude.{slice_get}
use Rattle.std.specs.Option.{option_map}
use Rattle.std.proofs.lemmas.Option.{slice_get_read, slice_get-map}
use Rattle.tree_assess.specs.Entries.{entry_of}
use Rattle.session_model.proofs.Near.{near_number, number_of}
use Rattle.session_model.proofs.find.find_next.Goals as goal

pub returns-in-Some : goal.returns-in-Some
returns-in-Some c = λ once.
    let at = slice_get_read c.args.entries.now (length c.args.entries.now) c.args.place c.in-Some.entry.now refl c.in-Some.ensures.lookup.3.0 c.in-Some.ensures.lookup.1 in
    let there : slice_get (map entry_of c.args.entries.now) c.args.place ≡ Some (entry_of c.in-Some.entry.now) = slice_get-map entry_of c.args.entries.now c.args.place ∙ ap (option_map entry_of) at in
    let behind : c.args.place + 1 ≡ suc c.args.place = omega arith in
    c.number_at.ensures ∙ ap (λ (k : ℕ). option_map number_of (slice_get (map entry_of c.args.entries.now) k)) behind ∙ sym (near_number c.args.node (entry_of c.in-Some.entry.now) c.if-entry-node.true (map entry_of c.args.entries.now) c.args.place there once)
