-- The child elements of an element with their names, and what governs each.
use Rattle.std.proofs.Common.{◌≡◌, ℕ, zero, suc, ◌+◌, ◌<◌, ◌≤◌, ◌^◌, List, [], ◌∷◌, ◌++◌, map, take, cond, length, min, append-nil, All, true, false, Option, None, Some, get_or, refl, sym, ap, ◌∙◌, subst, inl, inr, arith}
use Rattle.std.specs.Prelude.{filter, slice_get, slice_index_or, unwrap_or}
use Rattle.std.specs.Option.{is_some, option_and_then}
use Rattle.std.specs.List.{range_with_len}
use Rattle.std.proofs.lemmas.List.{length-map, take_all, map-append, map_more, length-append}
use Rattle.std.proofs.lemmas.List.Elements.{filter_more, All-nil, All-cons}
use Rattle.std.proofs.lemmas.List.FromFn.{length-range_with_len, get_or-map-range_with_len}
use Rattle.std.proofs.lemmas.Option.{none-some, same_Some, slice_get_within}
use Rattle.xs_names.specs.Names.{NameTable}
use Rattle.tree_rows.specs.Forest.{Document}
use Rattle.elem_governing.specs.declared.pairs.Governing.{Governing}
use Rattle.content_models.specs.declared.automaton.ContentAutomaton.{ContentAutomaton}
use Rattle.compiled_schema.specs.Usable.{set_of}
use Rattle.compiled_schema.specs.declared.compiled.Compiled.{Compiled}
use Rattle.model_terms.specs.Symbols.{child_symbols}
use Rattle.model_terms.specs.Terms.{stuck_in, term_in, terms_in}
use Rattle.model_lists.specs.Lists.{ListsView, IsListOf, IsLive}
use Rattle.model_lists.specs.declared.handle.ModelList.{ModelList}
use Rattle.child_terms.specs.declared.attribution.Attribution.{Attribution}
use Rattle.doc_nodes.specs.Nodes.{Node, Nodes, node, Has, children_by, is_element, is_element_by, is_element_at, element_children}
use Rattle.doc_nodes.specs.declared.content.Content.{Content}
use Rattle.doc_nodes.specs.declared.content.Content.TheVariants as contents
use Rattle.doc_changes.specs.Held.{name_in}
use Rattle.doc_changes.specs.Stands.{StandsFor}
use Rattle.doc_changes.specs.Readers.{name_by, name_at}
use Rattle.doc_readers.proofs.Showing.{name_number}
use Rattle.kept_judging.specs.from_kept_records.Slots.{kept_at}
use Rattle.kept_judging.specs.from_kept_records.Fit.{models_of, head_at, IsListed}
use Rattle.kept_judging.specs.from_kept_records.Books.{HaveOwnLists}
use Rattle.kept_judging.specs.from_kept_state.Kept.{CanGovern}
use Rattle.kept_judging.specs.from_kept_state.Governed.{Governed}
use Rattle.kept_judging.specs.from_kept_state.KeptState.{KeptState}
use Rattle.kept_judging.specs.Judged.{symbols_by, given_pair}
use Rattle.kept_judging.proofs.Heads.{element-kind}
use Rattle.child_listing.specs.Children.{IsSpare, IsFresh, AreListed, AreGoverned, IsListing}
use Rattle.child_listing.specs.declared.listing.Listing.{Listing}
use Rattle.child_listing.proofs.Depths.{few-children}
use Rattle.child_listing.proofs.Distinct.{filtered}
use Rattle.child_listing.proofs.Symbols.{symbol-count}

-- ---- child elements with their names

abbrev pub named : Nodes → ℕ → ℕ × ℕ
named ns child = (child, name_at ns child)

-- a node with a name is an element of it, and one without a name is none
content-named : (c : Content) (name : ℕ) → name_in c ≡ Some name → is_element c ≡ true
content-named (contents.Element e) name h = refl
content-named (contents.Chars chars) name h = absurd (none-some name h)

node-named : (o : Option Node) (name : ℕ) → Some name ≡ option_and_then (λ (it : Node). name_in it.content) o → (is_element_by o ≡ true) × (name_by o ≡ name)
node-named None name h = absurd (none-some name (sym h))
node-named (Some it) name h = (content-named it.content name (sym h), by (name_in it.content) (sym h))
  where
    by : (n : Option ℕ) → n ≡ Some name → unwrap_or n 0 ≡ name
    by n e = ap (λ (o : Option ℕ). unwrap_or o 0) e

content-nameless : (c : Content) → name_in c ≡ None → is_element c ≡ false
content-nameless (contents.Element e) h = absurd (none-some e.name (sym h))
content-nameless (contents.Chars chars) h = refl

node-nameless : (o : Option Node) → None ≡ option_and_then (λ (it : Node). name_in it.content) o → is_element_by o ≡ false
node-nameless None h = refl
node-nameless (Some it) h = content-nameless it.content (sym h)

module _ (ns : Nodes) (children : List ℕ) where
  abbrev pub named-front : ℕ → List (ℕ × ℕ)
  named-front i = map (named ns) (filter (is_element_at ns) (take i children))

  front-by : (i : ℕ) → i < length children → named-front (i + 1) ≡ named-front i ++ map (named ns) (cond (is_element_at ns (get_or children i 0)) (get_or children i 0 ∷ []) [])
  front-by i l =
      ap (map (named ns)) (filter_more (is_element_at ns) children i 0 l)
      ∙ map-append (named ns) (filter (is_element_at ns) (take i children)) (cond (is_element_at ns (get_or children i 0)) (get_or children i 0 ∷ []) [])

  -- one more of the children is an element
  pub named-more : (i name : ℕ) (found : List (ℕ × ℕ)) → i < length children → found ≡ named-front i →
      Some name ≡ option_and_then (λ (it : Node). name_in it.content) (node ns (get_or children i 0)) → found ++ (get_or children i 0, name) ∷ [] ≡ named-front (i + 1)
  named-more i name found l so h =
      let it = node-named (node ns (get_or children i 0)) name h in
      (λ k. so k ++ (get_or children i 0, sym it.1 k) ∷ [])
      ∙ ap (λ b. named-front i ++ map (named ns) (cond b (get_or children i 0 ∷ []) [])) (sym it.0) ∙ sym (front-by i l)

  -- or none
  pub nameless-more : (i : ℕ) (found : List (ℕ × ℕ)) → i < length children → found ≡ named-front i →
      None ≡ option_and_then (λ (it : Node). name_in it.content) (node ns (get_or children i 0)) → found ≡ named-front (i + 1)
  nameless-more i found l so h =
      so ∙ sym (append-nil (named-front i))
      ∙ ap (λ b. named-front i ++ map (named ns) (cond b (get_or children i 0 ∷ []) [])) (sym (node-nameless (node ns (get_or children i 0)) h)) ∙ sym (front-by i l)

  pub named-all : (i : ℕ) (found : List (ℕ × ℕ)) → found ≡ named-front i → length children ≤ i → found ≡ map (named ns) (filter (is_element_at ns) children)
  named-all i found so l = so ∙ ap (λ xs. map (named ns) (filter (is_element_at ns) xs)) (take_all i children l)

-- where there is no first child element there is none
pub none-named : (ns : Nodes) (xs : List ℕ) → is_some (slice_get xs 0) ≡ false → [] ≡ map (named ns) xs
none-named ns [] e = refl
none-named ns (x ∷ xs) e = absurd (let z : true ≡ false = e in cc)

-- ---- of an element

module _ (c : Compiled) (ns : Nodes) (d : Document) (z : StandsFor c.names ns d) (n : ℕ) (elements : List (ℕ × ℕ)) (are : elements ≡ map (named ns) (element_children ns n)) where
  all-named : (P : ℕ × ℕ → Type 0) (xs : List ℕ) → ((x : ℕ) → Has x xs → P (named ns x)) → All P (map (named ns) xs)
  all-named P [] h = All-nil P
  all-named P (x ∷ xs) h = All-cons P (named ns x) (map (named ns) xs) (h x (inl refl)) (all-named P xs (λ y k. h y (inr k)))

  child-element : (x : ℕ) → Has x (element_children ns n) → is_element_at ns x ≡ true
  child-element x h = (filtered (is_element_at ns) (children_by (node ns n)) x h).1

  pub are-elements : All (λ (e : ℕ × ℕ). is_element_at ns e.0 ≡ true) elements
  are-elements = subst (All (λ (e : ℕ × ℕ). is_element_at ns e.0 ≡ true)) (sym are) (all-named (λ (e : ℕ × ℕ). is_element_at ns e.0 ≡ true) (element_children ns n) child-element)

  pub have-names : All (λ (e : ℕ × ℕ). e.1 < length c.names.names) elements
  have-names =
      subst (All (λ (e : ℕ × ℕ). e.1 < length c.names.names)) (sym are)
      (all-named (λ (e : ℕ × ℕ). e.1 < length c.names.names) (element_children ns n) (λ x h. name_number c.names ns d z x (element-kind ns x (child-element x h))))

  firsts-of : (xs : List ℕ) → map (λ (e : ℕ × ℕ). e.0) (map (named ns) xs) ≡ xs
  firsts-of [] = refl
  firsts-of (x ∷ xs) = ap (λ ys. x ∷ ys) (firsts-of xs)

  names-of : (xs : List ℕ) → map (λ (e : ℕ × ℕ). e.1) (map (named ns) xs) ≡ map (name_at ns) xs
  names-of [] = refl
  names-of (x ∷ xs) = ap (λ ys. name_at ns x ∷ ys) (names-of xs)

  pub numbers-are : map (λ (e : ℕ × ℕ). e.0) elements ≡ element_children ns n
  numbers-are = ap (map (λ (e : ℕ × ℕ). e.0)) are ∙ firsts-of (element_children ns n)

  pub names-are : map (λ (e : ℕ × ℕ). e.1) elements ≡ map (name_at ns) (element_children ns n)
  names-are = ap (map (λ (e : ℕ × ℕ). e.1)) are ∙ names-of (element_children ns n)

  pub so-many : length elements ≡ length (element_children ns n)
  so-many = ap length are ∙ length-map (element_children ns n) (named ns)

  pub few-elements : length elements < 2 ^ 32
  few-elements = let a = so-many in let b = few-children ns z.links n in omega (arith, a, b)

  -- ---- attributed and governed

  module _ (parent : Governed) (own : parent.node ≡ n) (old new : KeptState) (same : new ≡ record old { lists = new.lists }) (lists : HaveOwnLists old.lists old.records.slots)
      (list : Option ModelList) (found : Attribution)
      (listed : AreListed old.lists new.lists (models_of c parent.pair.of) (child_symbols c.names (models_of c parent.pair.of) (map (λ (e : ℕ × ℕ). e.1) elements)) list found) where
    abbrev symbols : List ℕ
    symbols = child_symbols c.names (models_of c parent.pair.of) (map (λ (e : ℕ × ℕ). e.1) elements)

    symbols-are : symbols ≡ symbols_by c ns parent.pair.of parent.node
    symbols-are = ap (child_symbols c.names (models_of c parent.pair.of)) (names-are ∙ ap (λ m. map (name_at ns) (element_children ns m)) (sym own))

    symbols-many : length symbols ≡ length elements
    symbols-many = symbol-count c.names (models_of c parent.pair.of) (map (λ (e : ℕ × ℕ). e.1) elements) ∙ length-map elements (λ (e : ℕ × ℕ). e.1)

    pub terms-many : length found.terms.items ≡ length elements
    terms-many = ap length listed.terms_are ∙ length-map (range_with_len 0 (length symbols)) (term_in (models_of c parent.pair.of) symbols) ∙ length-range_with_len 0 (length symbols) ∙ symbols-many

    -- no element has the new list
    is-live : (model : Option ContentAutomaton) (o : Option ModelList) (xs : List ℕ) → IsListed new.lists model o xs → (h : ModelList) → o ≡ Some h → IsLive new.lists h
    is-live None None xs is h e = absurd (none-some h e)
    is-live None (Some g) xs is h e = absurd is
    is-live (Some a) None xs is h e = absurd is
    is-live (Some a) (Some g) xs is h e = (a, xs, subst (λ (q : ModelList). IsListOf new.lists q a xs) (same_Some g h e) is)

    spare : IsSpare new list
    spare h e = (
      is-live (models_of c parent.pair.of) list symbols listed.list_is h e,
      λ m f. listed.fresh h e (lists.live m h (sym (ap (λ (k : KeptState). (kept_at k.records.slots m).list) same) ∙ f)),
    )

    module _ (pairs : List Governed) (nodes : map (λ (g : Governed). g.node) pairs ≡ map (λ (e : ℕ × ℕ). e.0) elements)
        (given : (place : ℕ) (child : Governed) → slice_get pairs place ≡ Some child → child.pair ≡ given_pair (set_of c) parent.pair (slice_index_or found.terms.items place None) (head_at (set_of c) ns child.node))
        (may : (place : ℕ) (child : Governed) → slice_get pairs place ≡ Some child → CanGovern c.parts child.pair) where
      pairs-many : length pairs ≡ length elements
      pairs-many = sym (length-map pairs (λ (g : Governed). g.node)) ∙ ap length nodes ∙ length-map elements (λ (e : ℕ × ℕ). e.0)

      term-at : (place : ℕ) → place < length pairs → slice_index_or found.terms.items place None ≡ term_in (models_of c parent.pair.of) (symbols_by c ns parent.pair.of parent.node) place
      term-at place l =
          let a = pairs-many in
          let b = symbols-many in
          ap (λ ts. get_or ts place None) listed.terms_are
          ∙ get_or-map-range_with_len (term_in (models_of c parent.pair.of) symbols) 0 (length symbols) place place None (omega (arith, a, b, l)) (omega arith)
          ∙ ap (λ xs. term_in (models_of c parent.pair.of) xs place) symbols-are

      pub are-governed : AreGoverned c ns parent pairs
      are-governed = record {
        nodes = nodes ∙ numbers-are ∙ ap (element_children ns) (sym own);
        pairs = λ place child e. given place child e ∙ ap (λ term. given_pair (set_of c) parent.pair term (head_at (set_of c) ns child.node)) (term-at place (slice_get_within pairs place child e));
        may = may;
        few = (let a = pairs-many in let b = few-elements in omega (arith, a, b));
      }

      pub is-listing : (listing : Listing) → listing.list ≡ list → listing.stuck ≡ found.stuck → listing.children.items ≡ pairs → IsListing c ns old new parent listing
      is-listing listing list_is stuck_is children_are = record {
        children_are = subst (AreGoverned c ns parent) (sym children_are) are-governed;
        list_is =
            subst (λ (o : Option ModelList). IsListed new.lists (models_of c parent.pair.of) o (symbols_by c ns parent.pair.of parent.node)) (sym list_is)
            (subst (IsListed new.lists (models_of c parent.pair.of) list) symbols-are listed.list_is);
        stuck_is = stuck_is ∙ listed.stuck_is ∙ ap (stuck_in (models_of c parent.pair.of)) symbols-are;
        spare = subst (IsSpare new) (sym list_is) spare;
        fresh = subst (IsFresh old.lists) (sym list_is) listed.fresh;
      }

-- an element whose type has no content model
pub none-listed : (v : ListsView) (t : NameTable) (model : Option ContentAutomaton) (elements : List (ℕ × ℕ)) (found : Attribution) → model ≡ None →
    ((symbols : List ℕ) → found.stuck ≡ stuck_in None symbols) → ((symbols : List ℕ) → length symbols ≡ length elements → found.terms.items ≡ terms_in None symbols) →
    AreListed v v model (child_symbols t model (map (λ (e : ℕ × ℕ). e.1) elements)) None found
none-listed v t model elements found none stuck terms =
    let names = map (λ (e : ℕ × ℕ). e.1) elements in
    subst (λ (m : Option ContentAutomaton). AreListed v v m (child_symbols t m names) None found) (sym none) (record {
      list_is = tt;
      fresh = λ h e. absurd (none-some h e);
      stuck_is = stuck (child_symbols t None names);
      terms_are = terms (child_symbols t None names) (symbol-count t None names ∙ length-map elements (λ (e : ℕ × ℕ). e.1));
    })

-- ---- what governs them, one after another

-- each has this at its place
abbrev pub EachHas : (ℕ → Governed → Type 0) → List Governed → Type 0
EachHas given pairs = (place : ℕ) (child : Governed) → slice_get pairs place ≡ Some child → given place child

each-more : (given : ℕ → Governed → Type 0) (pairs : List Governed) (x : Governed) → EachHas given pairs → given (length pairs) x →
    (place : ℕ) (child : Governed) → slice_get (pairs ++ x ∷ []) place ≡ Some child → given place child
each-more given [] x each own zero child e = subst (given zero) (same_Some x child e) own
each-more given [] x each own (suc place) child e = absurd (none-some child e)
each-more given (y ∷ ys) x each own zero child e = each zero child e
each-more given (y ∷ ys) x each own (suc place) child e = each-more (λ p. given (suc p)) ys x (λ p g q. each (suc p) g q) own place child e

module _ (given : ℕ → Governed → Type 0) (elements : List (ℕ × ℕ)) where
  -- what governs the first so many of them
  pub record AreUpTo (i : ℕ) (pairs : List Governed) : Type 0 where
    pub count : length pairs ≡ i
    pub nodes : map (λ (g : Governed). g.node) pairs ≡ map (λ (e : ℕ × ℕ). e.0) (take i elements)
    pub each : EachHas given pairs

  pub none-yet : AreUpTo 0 []
  none-yet = record { count = refl; nodes = refl; each = λ place child e. absurd (none-some child e) }

  pub one-further : (i k : ℕ) (pairs : List Governed) (x : Governed) → AreUpTo i pairs → k ≡ i + 1 → i < length elements → ((d : ℕ × ℕ) → x.node ≡ (get_or elements i d).0) → given i x → AreUpTo k (pairs ++ x ∷ [])
  one-further i k pairs x before next within node own =
      subst (λ (m : ℕ). AreUpTo m (pairs ++ x ∷ [])) (sym next) (record {
        count = length-append pairs (x ∷ []) ∙ ap (λ m. m + 1) before.count;
        nodes =
            map-append (λ (g : Governed). g.node) pairs (x ∷ [])
            ∙ (λ j. before.nodes j ++ node (0, 0) j ∷ [])
            ∙ sym (map_more (λ (e : ℕ × ℕ). e.0) elements i (0, 0) within);
        each = each-more given pairs x before.each (subst (λ (m : ℕ). given m x) (sym before.count) own);
      })

  pub all-nodes : (i : ℕ) (pairs : List Governed) → AreUpTo i pairs → length elements ≤ i → map (λ (g : Governed). g.node) pairs ≡ map (λ (e : ℕ × ℕ). e.0) elements
  all-nodes i pairs are l = are.nodes ∙ ap (map (λ (e : ℕ × ℕ). e.0)) (take_all i elements l)

-- as many as both
pub least-of-same : (i a b : ℕ) → i ≡ min a b → b ≡ a → a ≤ i
least-of-same i a b least same = omega (arith, least, same)

-- a child element that is governed so
module _ (c : Compiled) (ns : Nodes) (parent : Governing) (terms : List (Option ℕ)) where
  abbrev pub IsGivenAt : ℕ → Governed → Type 0
  IsGivenAt place child = (child.pair ≡ given_pair (set_of c) parent (slice_index_or terms place None) (head_at (set_of c) ns child.node)) × CanGovern c.parts child.pair

  pub given-at : (place node : ℕ) (term : Option ℕ) (child : Governed) → child.node ≡ node → term ≡ slice_index_or terms place None → child.pair ≡ given_pair (set_of c) parent term (head_at (set_of c) ns node) →
      CanGovern c.parts child.pair → IsGivenAt place child
  given-at place node term child own is pair may = (pair ∙ (λ i. given_pair (set_of c) parent (is i) (head_at (set_of c) ns (sym own i))), may)
