use Rattle.std.proofs.Common.{◌≡◌, ℕ, List, [], ◌∷◌, All, map, true, inl, inr, refl, sym, ap, ◌∙◌, subst}
use Rattle.std.proofs.lemmas.List.Elements.{All-nil, All-cons}
use Rattle.what_is_found.specs.Identity.{seen}
use Rattle.compiled_schema.specs.declared.compiled.Compiled.{Compiled}
use Rattle.doc_nodes.specs.Nodes.{Nodes, Has, is_element_at}
use Rattle.kept_above.specs.from_kept_records.Found.{found_in}
use Rattle.kept_above.specs.from_kept_records.Slots.{IsMade}
use Rattle.kept_above.specs.from_kept_state.KeptState.{KeptState}
use Rattle.kept_targets.proofs.Looking.{made-of}
use Rattle.kept_keys.specs.Keys.{IsWhole, codes_at}
use Rattle.kept_keys.proofs.codes.codes_of.Goals as goal

-- something is kept of each element
all-made : (c : Compiled) (ns : Nodes) (k : KeptState) → IsWhole c ns k → (xs : List ℕ) → ((x : ℕ) → Has x xs → is_element_at ns x ≡ true) → All (IsMade k.records.slots) xs
all-made c ns k whole [] each = All-nil (IsMade k.records.slots)
all-made c ns k whole (x ∷ xs) each = All-cons (IsMade k.records.slots) x xs (made-of c ns k whole x (each x (inl refl))) (all-made c ns k whole xs (λ y h. each y (inr h)))

pub codes_each-requires-clause-made : goal.codes_each-requires-clause-made
codes_each-requires-clause-made c =
    subst (All (IsMade c.args.kept.now.records.slots)) (sym c.as_slice.ensures.value)
    (all-made c.args.set.now c.args.doc.now c.args.kept.now c.requires.whole c.in_ok-numbers.numbers.items c.in_ok-numbers.ensures.scopes)

pub codes_each-requires-clause-targets : goal.codes_each-requires-clause-targets
codes_each-requires-clause-targets c = (c.args.doc.now, c.in_ok-numbers.ensures.targets)

pub returns-clause-made : goal.returns-clause-made
returns-clause-made c = all-made c.args.set.now c.args.doc.now c.args.kept.now c.requires.whole c.in_ok-numbers.numbers.items c.in_ok-numbers.ensures.scopes

pub returns-clause-codes : goal.returns-clause-codes
returns-clause-codes c = λ d over.
    c.in_ok-codes.ensures c.args.doc.now d c.requires.whole c.in_ok-numbers.ensures.targets over
    ∙ ap (map (codes_at c.args.set.now (seen (found_in c.args.doc.now c.args.kept.now.records.slots d.forest)))) c.as_slice.ensures.value
