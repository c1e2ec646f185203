-- What is found from a node upwards is what the tree says.
use Rattle.std.proofs.Common.{◌≡◌, ℕ, zero, suc, ◌+◌, ◌<◌, List, [], ◌∷◌, ◌++◌, length, map, drop, sym, ap, ◌∙◌, subst, Bool, true, false, ◌==◌, ◌||◌, if◌then◌else◌, Option, Some, None, refl, inl, inr, arith, All}
use Rattle.std.proofs.lemmas.List.Elements.{All-head, All-tail}
use Rattle.std.specs.Prelude.{slice_get, find, codes, IfSome}
use Rattle.std.specs.Option.{option_or, option_and_then, is_some, option_map}
use Rattle.std.proofs.lemmas.Bool.{or_parts, or_cases, eq-eqb, eqb-true, false≢true, true≢false}
use Rattle.std.proofs.lemmas.Option.{same_Some, none-some, slice_get_past, get_or_from_slice_get}
use Rattle.xs_names.specs.Names.{NameTable, xml_name, first_spaces, IsSound as AreNames}
use Rattle.xs_names.specs.Scope as numbered
use Rattle.xs_names.proofs.NumberingLaws.{slice_get-Begins}
use Rattle.doc_nodes.specs.declared.content.Content as links_content
use Rattle.tree_rows.specs.Forest.{Forest, none, text, element, Document}
use Rattle.tree_rows.specs.Whole.{HasRoot}
use Rattle.tree_rows.specs.declared.row.Attribute.{Attribute}
use Rattle.tree_rows.specs.declared.row.Binding.{Binding}
use Rattle.tree_rows.specs.declared.row.Content.{Content}
use Rattle.tree_rows.specs.declared.row.Content.TheVariants as rows
use Rattle.tag_names.specs.Scopes.{binding_in, first_scope}
use Rattle.tree_edits.specs.Edits.{has, scope_in}
use Rattle.doc_nodes.specs.declared.content.NameBinding.{NameBinding}
use Rattle.doc_nodes.specs.Nodes.{Node, Nodes, node, IsNode, IsChildAt, IsSound, Has, is_element_at, children_by, depth_by}
use Rattle.doc_changes.specs.Stands.{firsts, StandFor, StandsFor, binding_of}
use Rattle.doc_changes.specs.Held.{parent_at, bindings_in, bindings_at}
use Rattle.doc_changes.proofs.Changing.{some_place}
use Rattle.doc_tree.specs.Following.{first_element, next_in, next_of, past_in, past_of}
use Rattle.doc_tree.proofs.Upwards.{IsChildIn, child_of, first_is, past_top, scope_top}
use Rattle.doc_tree.proofs.Answering.{no_such, is_at}
use Rattle.doc_tree.proofs.Reading.{Shows}

-- a node with a parent has a place among its children
pub child_place : (ns : Nodes) (n p : ℕ) → IsSound ns → parent_at ns n ≡ Some p → (place : ℕ) × IsChildAt ns p place n
child_place ns n p sound h = by (node ns n) refl
  where
    by : (o : Option Node) → node ns n ≡ o → (place : ℕ) × IsChildAt ns p place n
    by None e = absurd (none-some p (sym (ap (option_and_then (λ (y : Node). y.parent)) e) ∙ h))
    by (Some x) e =
        let u = sound.up n p x e (sym (ap (option_and_then (λ (y : Node). y.parent)) e) ∙ h) in
        let r = some_place n u.parent.children u.has in
        (r.0, (u.parent, u.is, r.1))

-- a node without a parent stands at the top
top : (t : NameTable) (ns : Nodes) → IsSound ns → (n : ℕ) → parent_at ns n ≡ None → (f : Forest) → StandFor t ns f → has n f ≡ true → Has n (firsts f)
top t ns sound n bare none s h = absurd (false≢true h)
top t ns sound n bare (text number chars next) s h = elim (or_cases (number == n) (has n next) h) [
  | inl e ↦ inl (eqb-true number n e)
  | inr k ↦ inr (top t ns sound n bare next s.1 k)
]
top t ns sound n bare (element number name bindings attributes children next) s h = elim (or_cases (number == n) (has n children || has n next) h) [
  | inl e ↦ inl (eqb-true number n e)
  | inr k ↦ elim (or_cases (has n children) (has n next) k) [
    | inl j ↦
        let c = top t ns sound n bare children s.1 j in
        let d = sound.down number n s.0.it s.0.is (subst (Has n) (sym s.0.children_are) c) in
        absurd (none-some number (sym bare ∙ ap (option_and_then (λ (y : Node). y.parent)) d.is ∙ d.parent))
    | inr j ↦ inr (top t ns sound n bare next s.2 j)
  ]
]

root_only : (f : Forest) → HasRoot f → (n : ℕ) → Has n (firsts f) → (firsts f ≡ n ∷ [])
root_only none r n h = absurd r
root_only (text number chars next) r n h = absurd r
root_only (element number name bindings attributes children next) r n h = elim h [
  | inl e ↦ ap (λ m. m ∷ firsts next) e ∙ ap (λ g. n ∷ firsts g) r.1
  | inr k ↦ absurd (subst (λ g. Has n (firsts g)) r.1 k)
]

-- what is carried downwards past elements, and in scopes
abbrev past_down : List Binding → Forest → Option ℕ → Option ℕ
past_down bindings next x = option_or (first_element next) x

abbrev scope_down : List Binding → Forest → List Binding → List Binding
scope_down bindings next x = bindings ++ x

module _ (t : NameTable) (ns : Nodes) (d : Document) (z : StandsFor t ns d) where
  past_child : (p place c : ℕ) (k : IsChildAt ns p place c)
      → IsChildIn t ns past_in past_down
      (λ key x n chars next q. ap (λ b. if b then option_or (first_element next) x else past_in key x next) q)
      (λ key x n name bindings attributes children next q h. ap (λ b. if b then option_or (first_element next) x else (if has key children then past_in key (option_or (first_element next) x) children else past_in key x next)) q ∙ ap (λ b. if b then past_in key (option_or (first_element next) x) children else past_in key x next) h)
      (λ key x n name bindings attributes children next q h. ap (λ b. if b then option_or (first_element next) x else (if has key children then past_in key (option_or (first_element next) x) children else past_in key x next)) q ∙ ap (λ b. if b then past_in key (option_or (first_element next) x) children else past_in key x next) h)
      p c place d.forest None k.0.children
  past_child p place c k = child_of t ns past_in past_down _ _ _ p c place k.0 k.1 k.2 d.forest None z.nodes z.tree.differ (z.only p k.0 k.1)

  -- past a child come its next siblings, and then what comes past its parent
  pub past_step : (p place c : ℕ) → IsChildAt ns p place c → past_of c d.forest ≡ option_or (find (is_element_at ns) (drop (place + 1) (children_by (node ns p)))) (past_of p d.forest)
  past_step p place c k =
      let r = past_child p place c k in
      let self : past_in p r.at (element p r.name r.bindings r.attributes r.children r.next) ≡ option_or (first_element r.next) r.at =
      ap (λ b. if b then option_or (first_element r.next) r.at else (if has p r.children then past_in p (option_or (first_element r.next) r.at) r.children else past_in p r.at r.next)) (eq-eqb p p refl) in
      r.child
      ∙ past_top t ns r.children (option_or (first_element r.next) r.at) place c r.below r.differ r.placed
      ∙ ap (λ l. option_or (find (is_element_at ns) (drop (place + 1) l)) (option_or (first_element r.next) r.at)) (sym r.are ∙ sym (ap children_by k.1))
      ∙ ap (option_or (find (is_element_at ns) (drop (place + 1) (children_by (node ns p))))) (sym (r.own ∙ self))

  scope_child : (x : List Binding) (p place c : ℕ) (k : IsChildAt ns p place c)
      → IsChildIn t ns scope_in scope_down
      (λ key x n chars next q. ap (λ b. if b then x else scope_in key x next) q)
      (λ key x n name bindings attributes children next q h. ap (λ b. if b then bindings ++ x else (if has key children then scope_in key (bindings ++ x) children else scope_in key x next)) q ∙ ap (λ b. if b then scope_in key (bindings ++ x) children else scope_in key x next) h)
      (λ key x n name bindings attributes children next q h. ap (λ b. if b then bindings ++ x else (if has key children then scope_in key (bindings ++ x) children else scope_in key x next)) q ∙ ap (λ b. if b then scope_in key (bindings ++ x) children else scope_in key x next) h)
      p c place d.forest x k.0.children
  scope_child x p place c k = child_of t ns scope_in scope_down _ _ _ p c place k.0 k.1 k.2 d.forest x z.nodes z.tree.differ (z.only p k.0 k.1)

  -- a child's scope is that of its parent, with its own bindings
  pub scope_step : (x : List Binding) (p place c : ℕ) → IsChildAt ns p place c → scope_in c x d.forest ≡ map (binding_of t) (bindings_at ns c) ++ scope_in p x d.forest
  scope_step x p place c k =
      let r = scope_child x p place c k in
      let self : scope_in p r.at (element p r.name r.bindings r.attributes r.children r.next) ≡ r.bindings ++ r.at =
      ap (λ b. if b then r.bindings ++ r.at else (if has p r.children then scope_in p (r.bindings ++ r.at) r.children else scope_in p r.at r.next)) (eq-eqb p p refl) in
      r.child
      ∙ scope_top t ns r.children (r.bindings ++ r.at) place c r.below r.differ r.placed
      ∙ ap (λ l. map (binding_of t) (bindings_at ns c) ++ l) (sym (r.own ∙ self))

  -- nothing comes past the root, and its scope is its own
  at_top : (n : ℕ) (it : Node) → IsNode ns n it → parent_at ns n ≡ None → firsts d.forest ≡ n ∷ []
  at_top n it there bare = root_only d.forest z.tree.root n (top t ns z.links n bare d.forest z.nodes (z.only n it there))

  pub past_root : (n : ℕ) (it : Node) → IsNode ns n it → parent_at ns n ≡ None → past_of n d.forest ≡ None
  past_root n it there bare =
      let one = at_top n it there bare in
      past_top t ns d.forest None 0 n z.nodes z.tree.differ (ap (λ l. slice_get l 0) one) ∙ ap (λ l. option_or (find (is_element_at ns) (drop (0 + 1) l)) None) one

  pub scope_root : (x : List Binding) (n : ℕ) (it : Node) → IsNode ns n it → parent_at ns n ≡ None → scope_in n x d.forest ≡ map (binding_of t) (bindings_at ns n) ++ x
  scope_root x n it there bare = scope_top t ns d.forest x 0 n z.nodes z.tree.differ (ap (λ l. slice_get l 0) (at_top n it there bare))

-- where there is no such node, nothing comes
past_absent : (n : ℕ) (x : Option ℕ) (f : Forest) → has n f ≡ false → past_in n x f ≡ None
past_absent n x none h = refl
past_absent n x (text number chars next) h =
    let o = or_parts (number == n) (has n next) h in
    ap (λ b. if b then option_or (first_element next) x else past_in n x next) o.0 ∙ past_absent n x next o.1
past_absent n x (element number name bindings attributes children next) h =
    let o = or_parts (number == n) (has n children || has n next) h in let k = or_parts (has n children) (has n next) o.1 in
    ap (λ b. if b then option_or (first_element next) x else (if has n children then past_in n (option_or (first_element next) x) children else past_in n x next)) o.0
    ∙ ap (λ b. if b then past_in n (option_or (first_element next) x) children else past_in n x next) k.0
    ∙ past_absent n x next k.1

next_absent : (n : ℕ) (x : Option ℕ) (f : Forest) → has n f ≡ false → next_in n x f ≡ None
next_absent n x none h = refl
next_absent n x (text number chars next) h =
    let o = or_parts (number == n) (has n next) h in
    ap (λ b. if b then option_or (first_element next) x else next_in n x next) o.0 ∙ next_absent n x next o.1
next_absent n x (element number name bindings attributes children next) h =
    let o = or_parts (number == n) (has n children || has n next) h in let k = or_parts (has n children) (has n next) o.1 in
    ap (λ b. if b then option_or (first_element children) (option_or (first_element next) x) else (if has n children then next_in n (option_or (first_element next) x) children else next_in n x next)) o.0
    ∙ ap (λ b. if b then next_in n (option_or (first_element next) x) children else next_in n x next) k.0
    ∙ next_absent n x next k.1

-- what an element says of a number, where the test of its own is given
abbrev here : ℕ → Option ℕ → Forest → Forest → Bool → Option ℕ
here n x children next b =
    if b then option_or (first_element children) (option_or (first_element next) x) else (if has n children then next_in n (option_or (first_element next) x) children else next_in n x next)

abbrev beside : ℕ → Option ℕ → Forest → Forest → Bool → Option ℕ
beside n x children next b =
    if b then option_or (first_element next) x else (if has n children then past_in n (option_or (first_element next) x) children else past_in n x next)

-- the next element is the first child that is one, or comes past the node
module _ (t : NameTable) (ns : Nodes) (n : ℕ) (it : Node) (there : IsNode ns n it) where
  next_read : (x : Option ℕ) (f : Forest) → StandFor t ns f → has n f ≡ true → next_in n x f ≡ option_or (find (is_element_at ns) it.children) (past_in n x f)
  next_read x none s h = absurd (false≢true h)
  next_read x (text number chars next) s h = by (λ k. next_read x next s.1 k) (number == n) refl
    where
      by : (has n next ≡ true → next_in n x next ≡ option_or (find (is_element_at ns) it.children) (past_in n x next)) → (b : Bool) → (number == n) ≡ b
          → (if number == n then option_or (first_element next) x else next_in n x next) ≡ option_or (find (is_element_at ns) it.children) (if number == n then option_or (first_element next) x else past_in n x next)
      by rest true q =
          let same = same_Some s.0.text it (sym s.0.is ∙ ap (node ns) (eqb-true number n q) ∙ there) in
          let bare : it.children ≡ [] = sym (ap (λ (y : Node). y.children) same) ∙ s.0.no_children in
          ap (λ b. if b then option_or (first_element next) x else next_in n x next) q
          ∙ sym (ap (λ b. if b then option_or (first_element next) x else past_in n x next) q)
          ∙ ap (λ l. option_or (find (is_element_at ns) l) (if number == n then option_or (first_element next) x else past_in n x next)) (sym bare)
      by rest false q =
          ap (λ b. if b then option_or (first_element next) x else next_in n x next) q
          ∙ rest (sym (ap (λ b. b || has n next) q) ∙ h)
          ∙ ap (option_or (find (is_element_at ns) it.children)) (sym (ap (λ b. if b then option_or (first_element next) x else past_in n x next) q))
  next_read x (element number name bindings attributes children next) s h = by (λ k. next_read (option_or (first_element next) x) children s.1 k) (λ k. next_read x next s.2 k) (number == n) refl (has n children) refl
    where
      by : (has n children ≡ true → next_in n (option_or (first_element next) x) children ≡ option_or (find (is_element_at ns) it.children) (past_in n (option_or (first_element next) x) children))
          → (has n next ≡ true → next_in n x next ≡ option_or (find (is_element_at ns) it.children) (past_in n x next))
          → (b : Bool) → (number == n) ≡ b → (e : Bool) → has n children ≡ e → here n x children next (number == n) ≡ option_or (find (is_element_at ns) it.children) (beside n x children next (number == n))
      by inner rest true q e r =
          let same = same_Some s.0.it it (sym s.0.is ∙ ap (node ns) (eqb-true number n q) ∙ there) in
          let are : it.children ≡ firsts children = sym (ap (λ (y : Node). y.children) same) ∙ s.0.children_are in
          ap (here n x children next) q
          ∙ ap (λ o. option_or o (option_or (first_element next) x)) (sym (ap (find (is_element_at ns)) are ∙ first_is t ns children s.1))
          ∙ ap (option_or (find (is_element_at ns) it.children)) (sym (ap (beside n x children next) q))
      by inner rest false q true r =
          ap (here n x children next) q
          ∙ ap (λ b. if b then next_in n (option_or (first_element next) x) children else next_in n x next) r
          ∙ inner r
          ∙ ap (option_or (find (is_element_at ns) it.children)) (sym (ap (beside n x children next) q ∙ ap (λ b. if b then past_in n (option_or (first_element next) x) children else past_in n x next) r))
      by inner rest false q false r =
          ap (here n x children next) q
          ∙ ap (λ b. if b then next_in n (option_or (first_element next) x) children else next_in n x next) r
          ∙ rest (sym (ap (λ b. b || (has n children || has n next)) q ∙ ap (λ b. b || has n next) r) ∙ h)
          ∙ ap (option_or (find (is_element_at ns) it.children)) (sym (ap (beside n x children next) q ∙ ap (λ b. if b then past_in n (option_or (first_element next) x) children else past_in n x next) r))

module _ (t : NameTable) (ns : Nodes) (d : Document) (z : StandsFor t ns d) (n : ℕ) where
  pub past_none : parent_at ns n ≡ None → past_of n d.forest ≡ None
  past_none bare = by (node ns n) refl
    where
      by : (o : Option Node) → node ns n ≡ o → past_of n d.forest ≡ None
      by None e = past_absent n None d.forest (no_such t ns d z n e)
      by (Some it) e = past_root t ns d z n it e bare

  pub next_is : next_of n d.forest ≡ option_or (find (is_element_at ns) (children_by (node ns n))) (past_of n d.forest)
  next_is = by (node ns n) refl
    where
      by : (o : Option Node) → node ns n ≡ o → next_of n d.forest ≡ option_or (find (is_element_at ns) (children_by (node ns n))) (past_of n d.forest)
      by None e =
          let out = no_such t ns d z n e in
          next_absent n None d.forest out ∙ sym (past_absent n None d.forest out) ∙ ap (λ o. option_or (find (is_element_at ns) (children_by o)) (past_of n d.forest)) (sym e)
      by (Some it) e = next_read t ns n it e None d.forest z.nodes (z.only n it e) ∙ ap (λ o. option_or (find (is_element_at ns) (children_by o)) (past_of n d.forest)) (sym e)

-- bindings that are bound, by the names of their namespaces
pub bound_more : (t : NameTable) (bs : List NameBinding) (old : List (List ℕ × ℕ))
    → map (binding_in t) (map (λ (b : NameBinding). (b.prefix, b.namespace)) bs ++ old) ≡ map (binding_of t) bs ++ map (binding_in t) old
bound_more t [] old = refl
bound_more t (b ∷ bs) old = ap (λ l. binding_of t b ∷ l) (bound_more t bs old)

pub bound_within : (n : ℕ) (bs : List NameBinding) (old : List (List ℕ × ℕ)) → All (λ b. b.namespace < n) bs → All (λ b. b.1 < n) old
    → All (λ b. b.1 < n) (map (λ (b : NameBinding). (b.prefix, b.namespace)) bs ++ old)
bound_within n [] old k o = o
bound_within n (b ∷ bs) old k o = by (bound_within n bs old (All-tail (λ b. b.namespace < n) b bs k) o)
  where
    by : All (λ b. b.1 < n) (map (λ (b : NameBinding). (b.prefix, b.namespace)) bs ++ old) → All (λ b. b.1 < n) ((b.prefix, b.namespace) ∷ (map (λ (b : NameBinding). (b.prefix, b.namespace)) bs ++ old))
    by rest zero d l = All-head (λ b. b.namespace < n) b bs k
    by rest (suc i) d l = rest i d (omega (arith, l))

-- the table has the namespaces of a node's bindings
pub known_bindings : (t : NameTable) (ns : Nodes) (d : Document) → StandsFor t ns d → (n : ℕ) (it : Node) → IsNode ns n it → All (λ b. b.namespace < length t.spaces) (bindings_in it.content)
known_bindings t ns d z n it there = let r = is_at t ns d z n it there in by r.at.content r.at.bindings r.at.attributes r.at.children r.shows
  where
    by : (c : Content) (b : List Binding) (a : List Attribute) (f : Forest) → Shows t ns n c b a f → All (λ b. b.namespace < length t.spaces) (bindings_in it.content)
    by (rows.Element name) b a f s =
        subst (λ l. All (λ (b : NameBinding). b.namespace < length t.spaces) l)
        (sym (ap bindings_in (ap (λ (y : Node). y.content) (same_Some it s.0.it (sym there ∙ s.0.is)) ∙ s.0.content))) s.0.known.bindings
    by (rows.Chars chars) b a f s =
        subst (λ l. All (λ (b : NameBinding). b.namespace < length t.spaces) l)
        (sym (ap bindings_in (ap (λ (y : Node). y.content) (same_Some it s.0.text (sym there ∙ s.0.is)) ∙ s.0.content))) (λ i d l. absurd (omega (arith, l)))

-- a child is one level deeper than its parent, and has it as its parent
pub above_depth : (ns : Nodes) (n p : ℕ) → IsSound ns → parent_at ns n ≡ Some p → depth_by (node ns n) ≡ depth_by (node ns p) + 1
above_depth ns n p sound h = by (node ns n) refl
  where
    by : (o : Option Node) → node ns n ≡ o → depth_by (node ns n) ≡ depth_by (node ns p) + 1
    by None e = absurd (none-some p (sym (ap (option_and_then (λ (y : Node). y.parent)) e) ∙ h))
    by (Some x) e =
        let u = sound.up n p x e (sym (ap (option_and_then (λ (y : Node). y.parent)) e) ∙ h) in
        let k = sound.down p n u.parent u.is u.has in
        ap depth_by k.is ∙ k.below ∙ sym (ap (λ o. depth_by o + 1) u.is)

has_at : (xs : List ℕ) (place c : ℕ) → slice_get xs place ≡ Some c → Has c xs
has_at [] place c e = absurd (none-some c (sym (slice_get_past [] place (omega arith)) ∙ e))
has_at (x ∷ xs) zero c e = inl (same_Some x c e)
has_at (x ∷ xs) (suc place) c e = inr (has_at xs place c e)

child_parent : (ns : Nodes) (n place c : ℕ) → IsSound ns → (o : Option Node) → node ns n ≡ o → slice_get (children_by o) place ≡ Some c → parent_at ns c ≡ Some n
child_parent ns n place c sound None e q = absurd (none-some c (sym (slice_get_past [] place (omega arith)) ∙ q))
child_parent ns n place c sound (Some it) e q = let k = sound.down n c it e (has_at it.children place c q) in ap (option_and_then (λ (y : Node). y.parent)) k.is ∙ k.parent

-- a child has its parent
pub placed_parent : (ns : Nodes) (p place c : ℕ) → IsSound ns → IsChildAt ns p place c → parent_at ns c ≡ Some p
placed_parent ns p place c sound k = child_parent ns p place c sound (Some k.0) k.1 k.2

pub if_child : (ns : Nodes) (n place : ℕ) → IsSound ns → (r : Option ℕ) → r ≡ slice_get (children_by (node ns n)) place → IfSome r (λ c. parent_at ns c ≡ Some n)
if_child ns n place sound None e = tt
if_child ns n place sound (Some c) e = child_parent ns n place c sound (node ns n) refl (sym e)

-- what is found first stands
or_some : (o p : Option ℕ) → is_some o ≡ true → option_or o p ≡ o
or_some None p h = absurd (false≢true h)
or_some (Some x) p h = refl

or_none : (o p : Option ℕ) → is_some o ≡ false → option_or o p ≡ p
or_none None p h = refl
or_none (Some x) p h = absurd (true≢false h)

module _ (t : NameTable) (ns : Nodes) (d : Document) (z : StandsFor t ns d) (n p : ℕ) (h : parent_at ns n ≡ Some p) (r : Option ℕ)
    (is : (place : ℕ) → IsChildAt ns p place n → r ≡ find (is_element_at ns) (drop (place + 1) (children_by (node ns p)))) where
  step_is : past_of n d.forest ≡ option_or r (past_of p d.forest)
  step_is = let k = child_place ns n p z.links h in past_step t ns d z p k.0 n k.1 ∙ ap (λ o. option_or o (past_of p d.forest)) (sym (is k.0 k.1))

  pub past_found : is_some r ≡ true → r ≡ past_of n d.forest
  past_found s = sym (step_is ∙ or_some r (past_of p d.forest) s)

  pub past_on : is_some r ≡ false → past_of p d.forest ≡ past_of n d.forest
  past_on s = sym (step_is ∙ or_none r (past_of p d.forest) s)

module _ (t : NameTable) (ns : Nodes) (d : Document) (z : StandsFor t ns d) (n : ℕ) (r : Option ℕ) (is : r ≡ find (is_element_at ns) (children_by (node ns n))) where
  pub next_found : is_some r ≡ true → r ≡ next_of n d.forest
  next_found s = sym (next_is t ns d z n ∙ ap (λ o. option_or o (past_of n d.forest)) (sym is) ∙ or_some r (past_of n d.forest) s)

  pub next_past : is_some r ≡ false → past_of n d.forest ≡ next_of n d.forest
  next_past s = sym (next_is t ns d z n ∙ ap (λ o. option_or o (past_of n d.forest)) (sym is) ∙ or_none r (past_of n d.forest) s)

-- a scope in which a node's bindings were bound behind those of its parent
module _ (t : NameTable) (ns : Nodes) (d : Document) (z : StandsFor t ns d) (n : ℕ) (old mid : List (List ℕ × ℕ)) where
  pub scope_under : (p : ℕ) → parent_at ns n ≡ Some p → ((it : Node) → IsNode ns p it → map (binding_in t) mid ≡ scope_in p (map (binding_in t) old) d.forest)
      → map (binding_of t) (bindings_at ns n) ++ map (binding_in t) mid ≡ scope_in n (map (binding_in t) old) d.forest
  scope_under p h is =
      let k = child_place ns n p z.links h in
      ap (λ l. map (binding_of t) (bindings_at ns n) ++ l) (is k.1.0 k.1.1) ∙ sym (scope_step t ns d z (map (binding_in t) old) p k.0 n k.1)

  pub scope_outmost : (it : Node) → IsNode ns n it → parent_at ns n ≡ None → mid ≡ old → map (binding_of t) (bindings_at ns n) ++ map (binding_in t) mid ≡ scope_in n (map (binding_in t) old) d.forest
  scope_outmost it there h e = ap (λ m. map (binding_of t) (bindings_at ns n) ++ map (binding_in t) m) e ∙ sym (scope_root t ns d z (map (binding_in t) old) n it there h)

  pub scope_made : (new : List (List ℕ × ℕ)) (bs : List NameBinding) → new ≡ map (λ (b : NameBinding). (b.prefix, b.namespace)) bs ++ mid → bs ≡ bindings_at ns n
      → map (binding_of t) (bindings_at ns n) ++ map (binding_in t) mid ≡ scope_in n (map (binding_in t) old) d.forest → map (binding_in t) new ≡ scope_in n (map (binding_in t) old) d.forest
  scope_made new bs e own rest = ap (map (binding_in t)) e ∙ bound_more t bs mid ∙ ap (λ l. map (binding_of t) l ++ map (binding_in t) mid) own ∙ rest

-- a node by what it holds
pub content_node : (o : Option Node) (y : links_content.Content) → option_map (λ (it : Node). it.content) o ≡ Some y → (it : Node) × (o ≡ Some it) × (it.content ≡ y)
content_node None y e = absurd (none-some y e)
content_node (Some it) y e = (it, refl, same_Some it.content y e)

-- the bindings that were bound have their namespaces in the table
pub within_made : (t : NameTable) (ns : Nodes) (d : Document) → StandsFor t ns d → (n : ℕ) (y : links_content.Content) → option_map (λ (it : Node). it.content) (node ns n) ≡ Some y
    → (new mid : List (List ℕ × ℕ)) (bs : List NameBinding) → new ≡ map (λ (b : NameBinding). (b.prefix, b.namespace)) bs ++ mid → bs ≡ bindings_in y
    → All (λ b. b.1 < length t.spaces) mid → All (λ b. b.1 < length t.spaces) new
within_made t ns d z n y e new mid bs made own k =
    let c = content_node (node ns n) y e in
    let known = subst (λ l. All (λ (b : NameBinding). b.namespace < length t.spaces) l) (ap bindings_in c.2 ∙ sym own) (known_bindings t ns d z n c.0 c.1) in
    subst (λ l. All (λ (b : List ℕ × ℕ). b.1 < length t.spaces) l) (sym made) (bound_within (length t.spaces) bs mid known k)

-- the scope outside of all elements
pub first_bound : (t : NameTable) → AreNames t → map (binding_in t) numbered.first_scope ≡ first_scope
first_bound t sound = ap (λ l. record { prefix = codes "xml"; namespace = l } ∷ []) (get_or_from_slice_get t.spaces 1 xml_name [] (slice_get-Begins first_spaces t.spaces sound.begins 1 xml_name refl))
