use Rattle.std.proofs.Common.{List, ap, ◌∙◌}
use Rattle.std.specs.Option.{option_map}
use Rattle.assessment.specs.Assessment.{Entry}
use Rattle.session_model.specs.Asking.{entry_at}
use Rattle.plain_session.proofs.Known.{entries_now, named_now, once_now}
use Rattle.plain_session.proofs.session.PlainSessionSession.records.Goals as goal

pub returns-clause-element : goal.returns-clause-element
returns-clause-element c = λ open_now.
    let once = once_now c.self.inside c.args.self.now c.self.view_is c.self.invariant open_now c.each_element_is_found_once.ensures.once c.deref.result.now c.deref.ensures.value c.args.node in
    c.find_records.ensures.element once ∙ ap (λ (es : List Entry). option_map (λ (e : Entry). e.element) (entry_at c.args.node es))
    (entries_now c.self.inside c.args.self.now c.self.view_is c.deref.result.now c.deref.ensures.value)

pub returns-clause-attrs : goal.returns-clause-attrs
returns-clause-attrs c = λ open_now.
    let once = once_now c.self.inside c.args.self.now c.self.view_is c.self.invariant open_now c.each_element_is_found_once.ensures.once c.deref.result.now c.deref.ensures.value c.args.node in
    c.find_records.ensures.attrs once ∙ ap (λ (es : List Entry). option_map (λ (e : Entry). e.attrs) (entry_at c.args.node es))
    (entries_now c.self.inside c.args.self.now c.self.view_is c.deref.result.now c.deref.ensures.value)

pub returns-clause-element_named : goal.returns-clause-element_named
returns-clause-element_named c = λ open_now.
    let once = once_now c.self.inside c.args.self.now c.self.view_is c.self.invariant open_now c.each_element_is_found_once.ensures.once c.deref.result.now c.deref.ensures.value c.args.node in
    c.find_records.ensures.element_named c.args.self.now.set once
    (named_now c.self.inside c.args.self.now c.self.view_is c.self.invariant open_now c.deref.result.now c.deref.ensures.value)

pub returns-clause-attrs_named : goal.returns-clause-attrs_named
returns-clause-attrs_named c = λ open_now.
    let once = once_now c.self.inside c.args.self.now c.self.view_is c.self.invariant open_now c.each_element_is_found_once.ensures.once c.deref.result.now c.deref.ensures.value c.args.node in
    c.find_records.ensures.attrs_named c.args.self.now.set once
    (named_now c.self.inside c.args.self.now c.self.view_is c.self.invariant open_now c.deref.result.now c.deref.ensures.value)
