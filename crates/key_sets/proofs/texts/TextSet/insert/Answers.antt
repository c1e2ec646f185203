use Rattle.std.proofs.Common.{◌≡◌, ◌∷◌, [], List, ℕ, Some, None, not, map, position, bytes_eq, length, arith, ap, subst, sym, ◌∙◌}
use Rattle.std.specs.Rc.{rc_str_bytes}
use Rattle.std.proofs.lemmas.List.{length-append, length-map}
use Rattle.key_sets.specs.Keys.{AreTextPlaces}
use Rattle.key_sets.proofs.Placing.{any-absent, any-present, with_key-old, with_key-new, text_places-more, texts-more}
use Rattle.key_sets.proofs.texts.TextSet.insert.Goals as goal
use Rattle.key_sets.proofs.texts.TextSet.insert.Goals.{in-Ok, in-Err}

pub returns-in-Some-clause-added : goal.returns-in-Some-clause-added
returns-in-Some-clause-added c = ap not (sym (any-present (bytes_eq c.args.text.now) _ c.args.self.now (sym c.in-Some.ensures.index)))

pub returns-in-Some-clause-keys : goal.returns-in-Some-clause-keys
returns-in-Some-clause-keys c = sym (with_key-old bytes_eq c.args.self.now c.args.text.now _ (sym c.in-Some.ensures.index))

pub returns-clause-added : goal.returns-clause-added
returns-clause-added c = elim c.match-insert.branch [
  | in-Ok w ↦ rw w.result-is (ap not (sym (any-absent (bytes_eq c.args.text.now) c.args.self.now (sym c.in_default.ensures.index))))
  | in-Err w ↦ rw w.result-is tt
]

pub returns-clause-keys : goal.returns-clause-keys
returns-clause-keys c = elim c.match-insert.branch [
  | in-Ok w ↦
      let keys = c.self.inside.texts.items in
      let text = c.args.text.now in
      let absent : position (bytes_eq text) (map rc_str_bytes keys) ≡ None = rw c.self.view_is (sym c.in_default.ensures.index) in
      let grown = texts-more rc_str_bytes keys c.push.new.self.items c.in_ok-clone.field-0 text c.in_ok-push.ensures.items (c.in_ok-clone.ensures.cases ∙ c.in_ok-key.ensures.ok) in
      rw w.result-is (rw w.self-is (rw (← c.self.view_is) (grown ∙ sym (with_key-new bytes_eq (map rc_str_bytes keys) text absent))))
  | in-Err w ↦ rw w.result-is tt
]

pub returns-clause-len : goal.returns-clause-len
returns-clause-len c = elim c.match-insert.branch [
  | in-Ok w ↦
      let keys = c.self.inside.texts.items in
      let text = c.args.text.now in
      let grown = texts-more rc_str_bytes keys c.push.new.self.items c.in_ok-clone.field-0 text c.in_ok-push.ensures.items (c.in_ok-clone.ensures.cases ∙ c.in_ok-key.ensures.ok) in
      rw w.result-is (rw w.self-is (rw (← c.self.view_is) (ap length grown ∙ length-append (map rc_str_bytes keys) (text ∷ []))))
  | in-Err w ↦ rw w.result-is tt
]

pub invariant_of-self-in-Ok : goal.invariant_of-self-in-Ok
invariant_of-self-in-Ok c =
    let keys = c.self.inside.texts.items in
    let texts = map rc_str_bytes keys in
    let key = c.in_ok-key.key in
    let of_text : position (bytes_eq c.args.text.now) texts ≡ None = rw c.self.view_is (sym c.in_default.ensures.index) in
    let absent : position (bytes_eq (rc_str_bytes key)) texts ≡ None = subst (λ (t : List ℕ). position (bytes_eq t) texts ≡ None) (sym c.in_ok-key.ensures.ok) of_text in
    let place : c.len-place.result ≡ length texts = omega (arith, c.len-place.ensures, c.self.inside.texts.ok.0, length-map keys rc_str_bytes) in
    let grown = texts-more rc_str_bytes keys c.push.new.self.items c.in_ok-clone.field-0 (rc_str_bytes key) c.in_ok-push.ensures.items c.in_ok-clone.ensures.cases in
    subst (λ (ts : List (List ℕ)). AreTextPlaces rc_str_bytes ts c.insert.new.self.entries) (sym grown)
    (text_places-more rc_str_bytes texts key c.self.inside.places.entries c.insert.new.self.entries absent (c.in-Ok.ensures.updates.1 ∙ ap Some place) c.in-Ok.ensures.updates.3 c.self.invariant)
