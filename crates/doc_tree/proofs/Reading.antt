-- The nodes of a tree, read by their numbers.
use Rattle.std.proofs.Common.{◌≡◌, ℕ, zero, suc, ◌-◌, List, [], ◌∷◌, sym, ap, ◌∙◌, subst, true, false, ◌==◌, ◌||◌, if◌then◌else◌, Option, Some, None, refl, inl, inr, arith}
use Rattle.std.specs.Prelude.{slice_get}
use Rattle.std.specs.Option.{option_map}
use Rattle.std.proofs.lemmas.Bool.{or_parts, eqb-true, ne_eqb, false≢true, true≢false}
use Rattle.std.proofs.lemmas.Option.{same_Some}
use Rattle.xs_names.specs.Names.{NameTable}
use Rattle.tree_rows.specs.Forest.{Forest, none, text, element}
use Rattle.tree_rows.specs.Kinds.{kind_of, first_kind}
use Rattle.tree_rows.specs.declared.name.Expanded.{Expanded}
use Rattle.tree_rows.specs.declared.row.Attribute.{Attribute}
use Rattle.tree_rows.specs.declared.row.Binding.{Binding}
use Rattle.tree_rows.specs.declared.row.Content.{Content}
use Rattle.tree_rows.specs.declared.row.Content.TheVariants as contents
use Rattle.tree_rows.specs.declared.row.NodeKind.{NodeKind}
use Rattle.tree_rows.specs.declared.row.NodeKind.TheVariants as kinds
use Rattle.tree_edits.specs.Edits.{has}
use Rattle.plain_tree.specs.Nodes.{first_of, node_at, number_at}
use Rattle.plain_tree.specs.Nodes as plain
use Rattle.doc_nodes.specs.Nodes.{Node, Nodes, IsNode, Has, IsSound}
use Rattle.doc_changes.specs.Stands.{firsts, IsText, IsElement, StandFor}
use Rattle.doc_tree.specs.Readers.{parent_in}

-- what the tree says of a node is what the node says
abbrev pub Shows : NameTable → Nodes → ℕ → Content → List Binding → List Attribute → Forest → Type 0
Shows t ns n (contents.Element name) bindings attributes children = IsElement t ns n name bindings attributes children × StandFor t ns children
Shows t ns n (contents.Chars chars) bindings attributes children = IsText ns n chars × ((bindings ≡ []) × ((attributes ≡ []) × (children ≡ none)))

pub record IsRead (t : NameTable) (ns : Nodes) (n : ℕ) (o : Option plain.Node) : Type 0 where
  pub at : plain.Node
  pub is : o ≡ Some at
  pub shows : Shows t ns n at.content at.bindings at.attributes at.children

pub absent : (n : ℕ) (f : Forest) → has n f ≡ false → node_at n f ≡ None
absent n none h = refl
absent n (text number chars next) h =
    elim (number == n) as (λ b. (b || has n next) ≡ false → (if b then Some (record { content = contents.Chars chars; bindings = []; attributes = []; children = none }) else node_at n next) ≡ None) [
      | true ↦ λ k. absurd (true≢false k)
      | false ↦ λ k. absent n next k
    ] h
absent n (element number name bindings attributes children next) h =
    elim (number == n) as (λ b. (b || (has n children || has n next)) ≡ false
    → (if b then Some (record { content = contents.Element name; bindings = bindings; attributes = attributes; children = children }) else first_of (node_at n children) (node_at n next)) ≡ None) [
      | true ↦ λ k. absurd (true≢false k)
      | false ↦ λ k. let z = or_parts (has n children) (has n next) k in ap (λ o. first_of o (node_at n next)) (absent n children z.0) ∙ absent n next z.1
    ] h

module _ (t : NameTable) (ns : Nodes) (n : ℕ) where
  pub read : (f : Forest) → StandFor t ns f → has n f ≡ true → IsRead t ns n (node_at n f)
  read none s h = absurd (false≢true h)
  read (text number chars next) s h =
      elim (number == n) as (λ b. (number == n) ≡ b → (b || has n next) ≡ true
      → IsRead t ns n (if b then Some (record { content = contents.Chars chars; bindings = []; attributes = []; children = none }) else node_at n next)) [
        | true ↦ λ q k. record {
          at = record { content = contents.Chars chars; bindings = []; attributes = []; children = none };
          is = refl;
          shows = (subst (λ m. IsText ns m chars) (eqb-true number n q) s.0, (refl, (refl, refl)));
        }
        | false ↦ λ q k. read next s.1 k
      ] refl h
  read (element number name bindings attributes children next) s h =
      elim (number == n) as (λ b. (number == n) ≡ b → (b || (has n children || has n next)) ≡ true
      → IsRead t ns n (if b then Some (record { content = contents.Element name; bindings = bindings; attributes = attributes; children = children }) else first_of (node_at n children) (node_at n next))) [
        | true ↦ λ q k. record {
          at = record { content = contents.Element name; bindings = bindings; attributes = attributes; children = children };
          is = refl;
          shows = (subst (λ m. IsElement t ns m name bindings attributes children) (eqb-true number n q) s.0, s.1);
        }
        | false ↦ λ q k.
            elim (has n children) as (λ b. has n children ≡ b → (b || has n next) ≡ true → IsRead t ns n (first_of (node_at n children) (node_at n next))) [
              | true ↦ λ p j. let z = read children s.1 p in record { at = z.at; is = ap (λ o. first_of o (node_at n next)) z.is; shows = z.shows }
              | false ↦ λ p j. subst (λ o. IsRead t ns n (first_of o (node_at n next))) (sym (absent n children p)) (read next s.2 j)
            ] refl k
      ] refl h

-- an element or a text
abbrev pub kind_by : Content → NodeKind
kind_by (contents.Element name) = kinds.Element
kind_by (contents.Chars chars) = kinds.Chars

first-kind : (a b : Option plain.Node) → first_kind (option_map (λ (x : plain.Node). kind_by x.content) a) (option_map (λ (x : plain.Node). kind_by x.content) b) ≡ option_map (λ (x : plain.Node). kind_by x.content) (first_of a b)
first-kind None b = refl
first-kind (Some x) b = refl

pub kind_read : (n : ℕ) (f : Forest) → kind_of n f ≡ option_map (λ (x : plain.Node). kind_by x.content) (node_at n f)
kind_read n none = refl
kind_read n (text number chars next) =
    elim (number == n) as (λ b. (if b then Some kinds.Chars else kind_of n next)
    ≡ option_map (λ (x : plain.Node). kind_by x.content) (if b then Some (record { content = contents.Chars chars; bindings = []; attributes = []; children = none }) else node_at n next)) [
      | true ↦ refl
      | false ↦ kind_read n next
    ]
kind_read n (element number name bindings attributes children next) =
    elim (number == n) as (λ b. (if b then Some kinds.Element else first_kind (kind_of n children) (kind_of n next))
    ≡ option_map (λ (x : plain.Node). kind_by x.content) (if b then Some (record { content = contents.Element name; bindings = bindings; attributes = attributes; children = children }) else first_of (node_at n children) (node_at n next))) [
      | true ↦ refl
      | false ↦ (λ i. first_kind (kind_read n children i) (kind_read n next i)) ∙ first-kind (node_at n children) (node_at n next)
    ]

-- the siblings have this parent
abbrev pub Under : Nodes → Option ℕ → List ℕ → Type 0
Under ns above cs = (c : ℕ) (it : Node) → Has c cs → IsNode ns c it → it.parent ≡ above

pub under_next : (ns : Nodes) (above : Option ℕ) (c : ℕ) (cs : List ℕ) → Under ns above (c ∷ cs) → Under ns above cs
under_next ns above c cs u = λ d it k h. u d it (inr k) h

module _ (t : NameTable) (ns : Nodes) (sound : IsSound ns) (n : ℕ) (it : Node) (there : IsNode ns n it) where
  under_children : (number : ℕ) (name : Expanded) (bindings : List Binding) (attributes : List Attribute) (children : Forest) → IsElement t ns number name bindings attributes children
      → Under ns (Some number) (firsts children)
  under_children number name bindings attributes children e = λ c x k h.
      let d = sound.down number c e.it e.is (subst (Has c) (sym e.children_are) k) in
      ap (λ (y : Node). y.parent) (same_Some x d.child (sym h ∙ d.is)) ∙ d.parent

  pub parent_read : (above : Option ℕ) (f : Forest) → StandFor t ns f → Under ns above (firsts f) → has n f ≡ true → parent_in above n f ≡ it.parent
  parent_read above none s u h = absurd (false≢true h)
  parent_read above (text number chars next) s u h =
      elim (number == n) as (λ b. (number == n) ≡ b → (b || has n next) ≡ true → (if b then above else parent_in above n next) ≡ it.parent) [
        | true ↦ λ q k. sym (u n it (inl (eqb-true number n q)) there)
        | false ↦ λ q k. parent_read above next s.1 (under_next ns above number (firsts next) u) k
      ] refl h
  parent_read above (element number name bindings attributes children next) s u h =
      elim (number == n) as (λ b. (number == n) ≡ b → (b || (has n children || has n next)) ≡ true
      → (if b then above else (if has n children then parent_in (Some number) n children else parent_in above n next)) ≡ it.parent) [
        | true ↦ λ q k. sym (u n it (inl (eqb-true number n q)) there)
        | false ↦ λ q k.
            elim (has n children) as (λ b. has n children ≡ b → (b || has n next) ≡ true → (if b then parent_in (Some number) n children else parent_in above n next) ≡ it.parent) [
              | true ↦ λ p j. parent_read (Some number) children s.1 (under_children number name bindings attributes children s.0) p
              | false ↦ λ p j. parent_read above next s.2 (under_next ns above number (firsts next) u) j
            ] refl k
      ] refl h

pub parent_absent : (above : Option ℕ) (n : ℕ) (f : Forest) → has n f ≡ false → parent_in above n f ≡ None
parent_absent above n none h = refl
parent_absent above n (text number chars next) h =
    elim (number == n) as (λ b. (b || has n next) ≡ false → (if b then above else parent_in above n next) ≡ None) [
      | true ↦ λ k. absurd (true≢false k)
      | false ↦ λ k. parent_absent above n next k
    ] h
parent_absent above n (element number name bindings attributes children next) h =
    elim (number == n) as (λ b. (b || (has n children || has n next)) ≡ false
    → (if b then above else (if has n children then parent_in (Some number) n children else parent_in above n next)) ≡ None) [
      | true ↦ λ k. absurd (true≢false k)
      | false ↦ λ k.
          let z = or_parts (has n children) (has n next) k in
          ap (λ b. if b then parent_in (Some number) n children else parent_in above n next) z.0 ∙ parent_absent above n next z.1
    ] h

-- the children of a place
step : (place number : ℕ) (next : Forest) → (if suc place == 0 then Some number else number_at (suc place - 1) next) ≡ number_at place next
step place number next =
    let less : suc place - 1 ≡ place = omega arith in
    ap (λ b. if b then Some number else number_at (suc place - 1) next) (ne_eqb (suc place) 0 (λ e. absurd (omega (arith, e)))) ∙ ap (λ k. number_at k next) less

pub number_read : (place : ℕ) (f : Forest) → number_at place f ≡ slice_get (firsts f) place
number_read place none = refl
number_read zero (text number chars next) = refl
number_read (suc place) (text number chars next) = step place number next ∙ number_read place next
number_read zero (element number name bindings attributes children next) = refl
number_read (suc place) (element number name bindings attributes children next) = step place number next ∙ number_read place next
