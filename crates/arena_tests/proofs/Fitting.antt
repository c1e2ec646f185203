-- What an edit that was made leaves, and what an element may be given.
use Rattle.std.proofs.Common.{◌≡◌, ℕ, ◌+◌, ◌<◌, ◌≤◌, ◌^◌, List, length, get_or, ◌==◌, true, inl, inr, Option, Some, None, Result, Ok, Err, refl, sym, ap, ◌∙◌, subst, eq-eqb, arith}
use Rattle.std.specs.Prelude.{slice_get, nat_lt}
use Rattle.std.specs.Option.{option_map}
use Rattle.std.proofs.lemmas.Bool.{ltb-true}
use Rattle.std.proofs.lemmas.List.{length-map}
use Rattle.std.proofs.lemmas.List.Folds.{list_any_at}
use Rattle.std.proofs.lemmas.Option.{same_Some, none-some, slice_get_within, slice_get-get_or, slice_get_cases}
use Rattle.xs_names.specs.Names.{NameTable}
use Rattle.tree_rows.specs.Forest.{Document}
use Rattle.tree_edits.specs.Tests.{first_refusal, tests_of, made, unless_refused, edited}
use Rattle.tree_edits.specs.declared.edit.Edit.{Edit}
use Rattle.tree_edits.specs.declared.edit.EditError.{EditError}
use Rattle.doc_nodes.specs.Nodes.{Nodes, node}
use Rattle.doc_nodes.specs.declared.content.NameAttribute.{NameAttribute}
use Rattle.doc_changes.specs.Held.{attributes_at, bindings_at, has_number, HasRoom}
use Rattle.doc_changes.specs.Stands.{StandsFor, binding_of}
use Rattle.doc_tree.proofs.Answering.{bindings_are, few_bindings}

unrefused : (o : Option EditError) (d e : Document) → unless_refused o d ≡ Ok e → (o ≡ None) × (e ≡ d)
unrefused None d e h = (refl, cc)
unrefused (Some error) d e h = cc

-- what an edit that was made leaves
pub edited_is : (d e : Document) (edit : Edit) → edited d edit ≡ Ok e → e ≡ made d edit
edited_is d e edit h = (unrefused (first_refusal (tests_of d edit)) (made d edit) e h).1

-- the nodes that stand for what an edit makes stand for what it left
pub stands_by : (t : NameTable) (ns : Nodes) (d e : Document) (edit : Edit) → edited d edit ≡ Ok e → StandsFor t ns (made d edit) → StandsFor t ns e
stands_by t ns d e edit h z = subst (StandsFor t ns) (sym (edited_is d e edit h)) z

-- no more than this many
past : {X : Type 0} (xs : List X) (i : ℕ) → slice_get xs i ≡ None → length xs ≤ i
past xs i e = elim (slice_get_cases xs i).1 [
  | inl z ↦ absurd (none-some z.0 (sym e ∙ z.2))
  | inr z ↦ z.0
]

-- an element with few attributes and bindings has room for one more
pub has_room : (t : NameTable) (ns : Nodes) (d : Document) → StandsFor t ns d → (n count name : ℕ) → slice_get (attributes_at ns n) 20 ≡ None → (length (bindings_at ns n) < 2 ^ 32 → count ≡ length (bindings_at ns n))
    → nat_lt count 20 ≡ true → HasRoom ns n name
has_room t ns d z n count name none is few =
    let e = ap length (bindings_are t ns d z n (node ns n) refl) in
    let l = length-map (bindings_at ns n) (binding_of t) in
    let most = few_bindings d.next_free n d.forest z.tree.nodes in
    let here = is (omega (arith, e, l, most)) in
    let own = past (attributes_at ns n) 20 none in
    let less = ltb-true count 20 few in
    inr (omega (arith, here, own, less))

-- the attribute of a place is one of its name
is_there : (xs : List NameAttribute) (i : ℕ) (x : NameAttribute) → slice_get xs i ≡ Some x → has_number x.name xs ≡ true
is_there xs i x e =
    let l = slice_get_within xs i x e in
    let k = same_Some (get_or xs i x) x (sym (slice_get-get_or xs i x l) ∙ e) in
    list_any_at (λ (a : NameAttribute). a.name == x.name) xs i x l (ap (λ (a : NameAttribute). a.name == x.name) k ∙ eq-eqb x.name x.name refl)

pub pair_is_there : {X : Type 0} (f : X → NameAttribute) (xs : List NameAttribute) (i : ℕ) (o : Option X) → option_map f o ≡ slice_get xs i → (x : X) → o ≡ Some x → has_number (f x).name xs ≡ true
pair_is_there f xs i o e x k = is_there xs i (f x) (sym e ∙ ap (option_map f) k)
