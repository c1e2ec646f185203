-- What is read of the list of an element, and how an edit of it makes it that of the child elements as they are now.
use Rattle.std.proofs.Common.{◌≡◌, ◌⊎◌, ℕ, ◌+◌, ◌*◌, ◌<◌, ◌≤◌, List, [], ◌∷◌, length, map, set, true, false, Option, None, Some, refl, sym, ap, ◌∙◌, subst, inl, inr, arith}
use Rattle.std.specs.Prelude.{insert, remove, slice_get, slice_index}
use Rattle.std.specs.Option.{option_and_then}
use Rattle.std.proofs.lemmas.Bool.{false≢true}
use Rattle.std.proofs.lemmas.Option.{none-some, same_Some}
use Rattle.std.proofs.lemmas.List.{length-set}
use Rattle.std.proofs.lemmas.List.Edits.{length-remove}
use Rattle.child_trees.specs.Bits.{bits}
use Rattle.xs_names.specs.Names.{NameTable}
use Rattle.tree_rows.specs.Forest.{Document}
use Rattle.xs_components.specs.declared.common.TypeId.{TypeId}
use Rattle.content_models.specs.declared.automaton.ContentAutomaton.{ContentAutomaton}
use Rattle.compiled_schema.specs.Usable.{IsUsable}
use Rattle.compiled_schema.specs.declared.compiled.Compiled.{Compiled}
use Rattle.model_terms.specs.Symbols.{AreSymbolsBy, child_symbols}
use Rattle.model_terms.specs.Terms.{is_ambivalent_symbol, stuck_in, term_in}
use Rattle.model_lists.specs.Lists.{ListsView, IsListOf}
use Rattle.model_lists.specs.declared.handle.ModelList.{ModelList}
use Rattle.model_lists.specs.declared.handle.ListedChild.{ListedChild}
use Rattle.doc_nodes.specs.Nodes.{Node, Nodes, node, Lacks, is_element, is_element_by, is_element_at, children_by, element_children}
use Rattle.doc_nodes.specs.declared.content.Content.{Content}
use Rattle.doc_nodes.specs.declared.content.Content.TheVariants as contents
use Rattle.doc_changes.specs.Held.{name_in}
use Rattle.doc_changes.specs.Stands.{StandsFor}
use Rattle.doc_changes.specs.Readers.{name_by, name_at}
use Rattle.doc_readers.proofs.Showing.{name_number}
use Rattle.child_listing.specs.from_kept_records.Slots.{kept_at, pair_at}
use Rattle.child_listing.specs.from_kept_records.Fit.{models_of, IsListed}
use Rattle.child_listing.specs.from_kept_state.KeptState.{KeptState}
use Rattle.child_listing.proofs.from_kept_judging.Heads.{element-kind}
use Rattle.child_listing.proofs.Symbols.{model-of, are-symbols}
use Rattle.child_lists.specs.Places.{IsPlaceOf}
use Rattle.child_lists.specs.Family.{IsListedBy, marked_places, model_of, symbols_of}
use Rattle.child_lists.specs.declared.place.ChildPlace.{ChildPlace}
use Rattle.child_lists.proofs.Edits.{get-map, get-within, index-get, insert-removed, passes, set-again, unmarked}
use Rattle.child_lists.proofs.Terms.{symbol_by, symbol-at, many-symbols}

-- ---- where there is a list, and where there is none

pub listed-as : (v : ListsView) (model : Option ContentAutomaton) (list : Option ModelList) (symbols : List ℕ) (h : ModelList) (a : ContentAutomaton) → list ≡ Some h → model ≡ Some a →
    IsListed v model list symbols → IsListOf v h a symbols
listed-as v model list symbols h a e f l = subst (λ x. IsListed v x (Some h) symbols) f (subst (λ x. IsListed v model x symbols) e l)

pub listed-back : (v : ListsView) (model : Option ContentAutomaton) (list : Option ModelList) (symbols : List ℕ) (h : ModelList) (a : ContentAutomaton) → list ≡ Some h → model ≡ Some a →
    IsListOf v h a symbols → IsListed v model list symbols
listed-back v model list symbols h a e f l = subst (λ x. IsListed v model x symbols) (sym e) (subst (λ x. IsListed v x (Some h) symbols) (sym f) l)

-- without a list there is no content model, nor is there one without the other
pub unlisted : (v : ListsView) (model : Option ContentAutomaton) (list : Option ModelList) (symbols : List ℕ) → (list ≡ None) ⊎ (model ≡ None) → IsListed v model list symbols → model ≡ None
unlisted v None list symbols h l = refl
unlisted v (Some a) None symbols h l = absurd l
unlisted v (Some a) (Some g) symbols (inl e) l = absurd (none-some g (sym e))
unlisted v (Some a) (Some g) symbols (inr e) l = absurd (none-some a (sym e))

pub unlisted-any : (v : ListsView) (model : Option ContentAutomaton) (list : Option ModelList) (symbols others : List ℕ) → (list ≡ None) ⊎ (model ≡ None) → IsListed v model list symbols → IsListed v model list others
unlisted-any v None None symbols others h l = tt
unlisted-any v None (Some g) symbols others h l = l
unlisted-any v (Some a) None symbols others h l = l
unlisted-any v (Some a) (Some g) symbols others (inl e) l = absurd (none-some g (sym e))
unlisted-any v (Some a) (Some g) symbols others (inr e) l = absurd (none-some a (sym e))

pub unlisted-stuck : (model : Option ContentAutomaton) (symbols : List ℕ) → model ≡ None → None ≡ stuck_in model symbols
unlisted-stuck model symbols e = ap (λ a. stuck_in a symbols) (sym e)

pub unlisted-term : (model : Option ContentAutomaton) (symbols : List ℕ) (place : ℕ) → model ≡ None → None ≡ term_in model symbols place
unlisted-term model symbols place e = ap (λ a. term_in a symbols place) (sym e)

pub unlisted-places : (model : Option ContentAutomaton) (symbols : List ℕ) (number : ℕ) → model ≡ None → slice_get (marked_places model symbols) number ≡ None
unlisted-places model symbols number e = ap (λ a. slice_get (marked_places a symbols) number) e

pub listed-stuck : (model : Option ContentAutomaton) (symbols : List ℕ) (a : ContentAutomaton) (r : Option ℕ) → model ≡ Some a → r ≡ stuck_in (Some a) symbols → r ≡ stuck_in model symbols
listed-stuck model symbols a r e f = f ∙ ap (λ x. stuck_in x symbols) (sym e)

-- ---- the name of an element

name-in : (content : Content) → is_element content ≡ true → name_in content ≡ Some (name_by (Some (record { parent = None; depth = 0; content = content; children = [] })))
name-in (contents.Element e) is = refl
name-in (contents.Chars chars) is = absurd (false≢true is)

name-of : (o : Option Node) → is_element_by o ≡ true → option_and_then (λ (it : Node). name_in it.content) o ≡ Some (name_by o)
name-of None is = absurd (false≢true is)
name-of (Some it) is = name-in it.content is

pub name-there : (ns : Nodes) (n : ℕ) → is_element_at ns n ≡ true → option_and_then (λ (it : Node). name_in it.content) (node ns n) ≡ Some (name_at ns n)
name-there ns n is = name-of (node ns n) is

pub name-is : (ns : Nodes) (n name : ℕ) → is_element_at ns n ≡ true → Some name ≡ option_and_then (λ (it : Node). name_in it.content) (node ns n) → name ≡ name_at ns n
name-is ns n name is e = same_Some name (name_at ns n) (e ∙ name-there ns n is)

-- it is in the table
pub name-within : (t : NameTable) (ns : Nodes) (d : Document) → StandsFor t ns d → (n name : ℕ) → is_element_at ns n ≡ true →
    Some name ≡ option_and_then (λ (it : Node). name_in it.content) (node ns n) → name < length t.names
name-within t ns d z n name is e = subst (λ x. x < length t.names) (sym (name-is ns n name is e)) (name_number t ns d z n (element-kind ns n is))

-- ---- a child element

pub child-element : (ns : Nodes) (spot : ChildPlace) → IsPlaceOf ns spot → is_element_at ns spot.node ≡ true
child-element ns spot place = passes (is_element_at ns) (children_by (node ns spot.parent)) spot.place spot.node place.node_is

-- its symbol is one of the automaton
pub symbol-alone : (c : Compiled) → IsUsable c → (of : Option TypeId) (a : ContentAutomaton) → models_of c of ≡ Some a → (symbol name : ℕ) → symbol ≡ symbol_by c.names (Some a) name →
    AreSymbolsBy a (symbol ∷ [])
symbol-alone c usable of a e symbol name f = subst (λ n. AreSymbolsBy a (n ∷ [])) (sym f) (are-symbols c a (model-of c usable of a e) (name ∷ []))

-- and so are those of all child elements
pub symbols-all : (c : Compiled) → IsUsable c → (ns : Nodes) (k : KeptState) (n : ℕ) (a : ContentAutomaton) → model_of c k n ≡ Some a → AreSymbolsBy a (symbols_of c ns k n)
symbols-all c usable ns k n a e =
    let names = map (name_at ns) (element_children ns n) in
    subst (λ (m : Option ContentAutomaton). AreSymbolsBy a (child_symbols c.names m names)) (sym e)
    (are-symbols c a (model-of c usable (pair_at k.records.slots n).of a e) names)

-- ---- a child element in the list

module _ (c : Compiled) (ns : Nodes) (k : KeptState) (spot : ChildPlace) (place : IsPlaceOf ns spot) where
  abbrev p : ℕ
  p = spot.parent

  abbrev symbols : List ℕ
  symbols = symbols_of c ns k p

  pub symbols-many : length (symbols_of c ns k p) ≡ length (element_children ns p)
  symbols-many = many-symbols c.names (model_of c k p) (name_at ns) (element_children ns p)

  pub symbol-there : (symbol : ℕ) → symbol ≡ symbol_by c.names (model_of c k p) (name_at ns spot.node) → slice_get (symbols_of c ns k p) spot.place ≡ Some symbol
  symbol-there symbol e =
      symbol-at c.names (model_of c k p) (map (name_at ns) (element_children ns p)) spot.place (name_at ns spot.node) (get-map (name_at ns) (element_children ns p) spot.place spot.node place.node_is)
      ∙ ap Some (sym e)

  pub symbol-by : (a : ContentAutomaton) (symbol : ℕ) → model_of c k p ≡ Some a → symbol ≡ symbol_by c.names (Some a) (name_at ns spot.node) → slice_get (symbols_of c ns k p) spot.place ≡ Some symbol
  symbol-by a symbol e f = symbol-there symbol (f ∙ ap (λ x. symbol_by c.names x (name_at ns spot.node)) (sym e))

  pub place-within : spot.place < length (symbols_of c ns k p)
  place-within = let l = get-within (element_children ns p) spot.place spot.node place.node_is in let n = symbols-many in omega (arith, l, n)

  pub place-removed : spot.place ≤ length (remove (symbols_of c ns k p) spot.place)
  place-removed = let l = place-within in let n = length-remove symbols spot.place l in omega (arith, l, n)

  pub removed-many : length (remove (symbols_of c ns k p) spot.place) + 2 ≡ length (element_children ns p) + 1
  removed-many = let l = place-within in let n = length-remove symbols spot.place l in let m = symbols-many in omega (arith, n, m)

  module _ (a : ContentAutomaton) (symbol : ℕ) (is : slice_get (symbols_of c ns k p) spot.place ≡ Some symbol) (v : ListsView) (h : ModelList) where
    pub put-in : IsListOf v h a (insert (remove (symbols_of c ns k p) spot.place) spot.place symbol) → IsListOf v h a (symbols_of c ns k p)
    put-in l = subst (IsListOf v h a) (insert-removed symbols spot.place symbol is) l

    pub put-again : (was : ℕ) → IsListOf v h a (set (set (symbols_of c ns k p) spot.place was) spot.place symbol) → IsListOf v h a (symbols_of c ns k p)
    put-again was l = subst (IsListOf v h a) (set-again symbols spot.place symbol was is) l

    pub symbol-index : slice_index (symbols_of c ns k p) spot.place ≡ symbol
    symbol-index = index-get symbols spot.place symbol is

    pub not-ambivalent : model_of c k p ≡ Some a → Lacks spot.place (marked_places (model_of c k p) (symbols_of c ns k p)) → is_ambivalent_symbol a symbol ≡ false
    not-ambivalent e lacks =
        ap (is_ambivalent_symbol a) (sym symbol-index)
        ∙ unmarked (is_ambivalent_symbol a) symbols spot.place place-within (subst (λ x. Lacks spot.place (marked_places x symbols)) e lacks)

  -- as it is listed, by the automaton of the content model
  module _ (a : ContentAutomaton) (h : ModelList) (e : (kept_at k.records.slots spot.parent).list ≡ Some h) (f : model_of c k spot.parent ≡ Some a) (child : ListedChild)
      (own : child.place ≡ spot.place) (symbol : child.symbol ≡ symbol_by c.names (Some a) (name_at ns spot.node)) where
    is : slice_get (symbols_of c ns k p) spot.place ≡ Some child.symbol
    is = symbol-by a child.symbol f symbol

    pub in-list : (others : List ℕ) → IsListedBy c k p others → IsListOf k.lists h a others
    in-list others l = listed-as k.lists (model_of c k p) (kept_at k.records.slots p).list others h a e f l

    by-list : (w : ListsView) (others : List ℕ) → IsListOf w h a others → IsListed w (model_of c k p) (kept_at k.records.slots p).list others
    by-list w others l = listed-back w (model_of c k p) (kept_at k.records.slots p).list others h a e f l

    pub place-free : child.place ≤ length (remove (symbols_of c ns k p) spot.place)
    place-free = let l = place-removed in omega (arith, l, own)

    pub place-taken : (was : ℕ) → child.place < length (set (symbols_of c ns k p) spot.place was)
    place-taken was = let l = place-within in let n = length-set symbols spot.place was in omega (arith, l, n, own)

    pub place-there : child.place < length (symbols_of c ns k p)
    place-there = let l = place-within in omega (arith, l, own)

    pub symbol-here : slice_index (symbols_of c ns k p) child.place ≡ child.symbol
    symbol-here = ap (slice_index symbols) own ∙ symbol-index a child.symbol is k.lists h

    pub listed-in : (w : ListsView) → IsListOf w h a (insert (remove (symbols_of c ns k p) spot.place) child.place child.symbol) → IsListed w (model_of c k p) (kept_at k.records.slots p).list (symbols_of c ns k p)
    listed-in w l =
        by-list w symbols (put-in a child.symbol is w h (subst (λ i. IsListOf w h a (insert (remove symbols spot.place) i child.symbol)) own l))

    pub listed-again : (w : ListsView) (was : ℕ) → IsListOf w h a (set (set (symbols_of c ns k p) spot.place was) child.place child.symbol) →
        IsListed w (model_of c k p) (kept_at k.records.slots p).list (symbols_of c ns k p)
    listed-again w was l =
        by-list w symbols (put-again a child.symbol is w h was (subst (λ i. IsListOf w h a (set (set symbols spot.place was) i child.symbol)) own l))

    pub set-many : (was : ℕ) → length (set (symbols_of c ns k p) spot.place was) + 1 ≡ length (element_children ns p) + 1
    set-many was = let n = length-set symbols spot.place was in let m = symbols-many in omega (arith, n, m)

    pub unmarked-here : Lacks spot.place (marked_places (model_of c k p) (symbols_of c ns k p)) → is_ambivalent_symbol a child.symbol ≡ false
    unmarked-here lacks = not-ambivalent a child.symbol is k.lists h f lacks

-- ---- steps

pub as-many-steps : (old new n m : ℕ) → n ≡ m → new ≤ old + 16 * (bits n + 1) → new ≤ old + 16 * (bits m + 1)
as-many-steps old new n m e l = subst (λ x. new ≤ old + 16 * (bits x + 1)) e l

pub as-few-steps : (old new n m : ℕ) → n ≡ m → new ≤ old + 8 * (bits (n + 1) + 1) → new ≤ old + 8 * (bits (m + 1) + 1)
as-few-steps old new n m e l = subst (λ x. new ≤ old + 8 * (bits (x + 1) + 1)) e l

pub one-more-step : (old new n m : ℕ) → n ≡ m → new ≤ old + (8 * (bits (n + 1) + 1) + 1) → new ≤ old + (8 * (bits (m + 1) + 1) + 1)
one-more-step old new n m e l = subst (λ x. new ≤ old + (8 * (bits (x + 1) + 1) + 1)) e l
