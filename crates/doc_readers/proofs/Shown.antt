-- What nodes hold is what their heads and names show.
use Rattle.std.proofs.Common.{◌≡◌, ℕ, ◌+◌, ◌<◌, List, [], ◌∷◌, ◌++◌, length, map, take, get_or, Bool, true, false, Option, Some, None, refl, sym, ap, ◌∙◌}
use Rattle.std.specs.Prelude.{filter, unwrap_or}
use Rattle.std.specs.Option.{option_map, option_and_then}
use Rattle.std.proofs.lemmas.List.Elements.{filter-append}
use Rattle.std.proofs.lemmas.List.{append-nil, map-append, take_more}
use Rattle.std.proofs.lemmas.Option.{same_Some, none-some}
use Rattle.doc_nodes.specs.Nodes.{Node, Nodes, node, is_element, is_element_by, is_element_at}
use Rattle.doc_nodes.specs.declared.content.Content.{Content}
use Rattle.doc_nodes.specs.declared.content.Content.TheVariants as contents
use Rattle.doc_nodes.specs.declared.content.Element.{Element}
use Rattle.doc_changes.specs.Held.{name_in, attributes_in, attributes_by, bindings_in, bindings_by}
use Rattle.doc_changes.specs.Readers.{name_by, name_at}

-- the node holds this of an element
pub record IsHeld (o : Option Node) (e : Element) : Type 0 where
  pub name : name_by o ≡ e.name
  pub attributes : attributes_by o ≡ e.attributes
  pub bindings : bindings_by o ≡ e.bindings

pub held : (o : Option Node) (e : Element) → Some (contents.Element e) ≡ option_map (λ (it : Node). it.content) o → IsHeld o e
held None e is = absurd (none-some (contents.Element e) (sym is))
held (Some it) e is =
    let q : contents.Element e ≡ it.content = same_Some (contents.Element e) it.content is in
    record {
      name = ap (λ (c : Content). unwrap_or (name_in c) 0) (sym q);
      attributes = ap attributes_in (sym q);
      bindings = ap bindings_in (sym q);
    }

-- a node that has a name is an element, and one that has none is not
record IsNamed (o : Option Node) (name : ℕ) : Type 0 where
  pub element : is_element_by o ≡ true
  pub is : name_by o ≡ name

by_content : (c : Content) (name : ℕ) → Some name ≡ name_in c → (is_element c ≡ true) × (unwrap_or (name_in c) 0 ≡ name)
by_content (contents.Element e) name is = (refl, sym (same_Some name e.name is))
by_content (contents.Chars chars) name is = absurd (none-some name (sym is))

named : (o : Option Node) (name : ℕ) → Some name ≡ option_and_then (λ (it : Node). name_in it.content) o → IsNamed o name
named None name is = absurd (none-some name (sym is))
named (Some it) name is = let z = by_content it.content name is in record { element = z.0; is = z.1 }

no_content : (c : Content) → None ≡ name_in c → is_element c ≡ false
no_content (contents.Element e) is = absurd (none-some e.name is)
no_content (contents.Chars chars) is = refl

unnamed : (o : Option Node) → None ≡ option_and_then (λ (it : Node). name_in it.content) o → is_element_by o ≡ false
unnamed None is = refl
unnamed (Some it) is = no_content it.content is

one_kept : (f : ℕ → ℕ) (p : ℕ → Bool) (n name : ℕ) → p n ≡ true → f n ≡ name → map f (filter p (n ∷ [])) ≡ name ∷ []
one_kept f p n name kept is = rw kept (ap (λ x. x ∷ []) is)

none_kept : (f : ℕ → ℕ) (p : ℕ → Bool) (n : ℕ) → p n ≡ false → map f (filter p (n ∷ [])) ≡ []
none_kept f p n out = rw out refl

module _ (ns : Nodes) (n : ℕ) where
  pub one_named : (name : ℕ) → Some name ≡ option_and_then (λ (it : Node). name_in it.content) (node ns n) → map (name_at ns) (filter (is_element_at ns) (n ∷ [])) ≡ name ∷ []
  one_named name is = let z = named (node ns n) name is in one_kept (name_at ns) (is_element_at ns) n name z.element z.is

  pub none_named : None ≡ option_and_then (λ (it : Node). name_in it.content) (node ns n) → map (name_at ns) (filter (is_element_at ns) (n ∷ [])) ≡ []
  none_named is = none_kept (name_at ns) (is_element_at ns) n (unnamed (node ns n) is)

-- one child further
pub more_named : (f : ℕ → ℕ) (p : ℕ → Bool) (xs : List ℕ) (i : ℕ) → i < length xs
    → map f (filter p (take i xs)) ++ map f (filter p (get_or xs i 0 ∷ [])) ≡ map f (filter p (take (i + 1) xs))
more_named f p xs i l =
    sym (ap (λ ys. map f (filter p ys)) (take_more xs i 0 l)
    ∙ ap (map f) (filter-append p (take i xs) (get_or xs i 0 ∷ []))
    ∙ map-append f (filter p (take i xs)) (filter p (get_or xs i 0 ∷ [])))

-- a name more, or none
pub some_more : (f : ℕ → ℕ) (p : ℕ → Bool) (old new : List ℕ) (n name : ℕ) → map f (filter p (n ∷ [])) ≡ name ∷ [] → new ≡ old ++ name ∷ [] → new ≡ old ++ map f (filter p (n ∷ []))
some_more f p old new n name one is = is ∙ ap (λ l. old ++ l) (sym one)

pub none_more : (f : ℕ → ℕ) (p : ℕ → Bool) (old : List ℕ) (n : ℕ) → map f (filter p (n ∷ [])) ≡ [] → old ≡ old ++ map f (filter p (n ∷ []))
none_more f p old n none = sym (ap (λ l. old ++ l) none ∙ append-nil old)
