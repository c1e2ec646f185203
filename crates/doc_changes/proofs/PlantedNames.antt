-- Names and namespaces that a table has under their numbers.
use Rattle.std.proofs.Common.{◌≡◌, ℕ, zero, suc, ◌+◌, ◌<◌, List, [], ◌∷◌, ◌++◌, length, map, take, get_or, add-one, sym, ap, ◌∙◌, subst, if◌then◌else◌, Option, Some, None, refl, arith}
use Rattle.std.specs.Prelude.{slice_index_or, bytes_eq, ◌↔◌, IsSome}
use Rattle.std.proofs.lemmas.Bool.{eq-eqb, ne_eqb}
use Rattle.std.proofs.lemmas.List.Elements.{All-push}
use Rattle.std.proofs.lemmas.Option.{get_or_from_slice_get}
use Rattle.std.proofs.lemmas.Slice.Eq.{bytes_eq-Decides}
use Rattle.xs_names.specs.Names.{NameTable, Grown, IsSound, same_name, absent_space, space_number, name_number}
use Rattle.xs_names.proofs.NumberingLaws.{slice_get-number_of, same_name-Decides, slice_get-Begins}
use Rattle.tree_rows.specs.Whole.{IsNamespace, AreNamespaces}
use Rattle.tree_rows.specs.declared.row.Attribute.{Attribute}
use Rattle.tree_rows.specs.declared.row.Binding.{Binding}
use Rattle.doc_nodes.specs.declared.content.Element.{Element}
use Rattle.doc_nodes.specs.declared.content.NameAttribute.{NameAttribute}
use Rattle.doc_nodes.specs.declared.content.NameBinding.{NameBinding}
use Rattle.xs_names.proofs.GrownLaws.{Grown-trans}
use Rattle.doc_changes.specs.Named.{IsCalled, space_text, HasAttributes, HasBindings}
use Rattle.plain_tree.specs.Found as found
use Rattle.doc_changes.proofs.Standing.{expanded_grown, attributes_grown, bindings_grown, more_attributes, more_bindings, known_grown}
use Rattle.tree_rows.specs.declared.name.Expanded.{Expanded}
use Rattle.doc_changes.specs.Stands.{namespace_of, expanded_of, attribute_of, binding_of}

pub space_is : (t : NameTable) (ns : ℕ) (name : List ℕ) → space_number t name ≡ Some ns → slice_index_or t.spaces ns [] ≡ name
space_is t ns name e = get_or_from_slice_get t.spaces ns name [] (slice_get-number_of bytes_eq bytes_eq-Decides t.spaces name ns e)

-- a namespace keeps its name where the table grows
pub space_later : (t u : NameTable) (ns : ℕ) (name : List ℕ) → Grown t u → space_number t name ≡ Some ns → slice_index_or u.spaces ns [] ≡ name
space_later t u ns name g e =
    get_or_from_slice_get u.spaces ns name [] (slice_get-Begins t.spaces u.spaces g.spaces ns name (slice_get-number_of bytes_eq bytes_eq-Decides t.spaces name ns e))

pub namespace_is : (t u : NameTable) (ns : ℕ) (o : Option (List ℕ)) → IsNamespace o → Grown t u → space_number t (space_text o) ≡ Some ns → ((ns ≡ absent_space) ↔ (space_text o ≡ [])) → namespace_of u ns ≡ o
namespace_is t u ns None is g e absent = ap (λ b. if b then None else Some (slice_index_or u.spaces ns [])) (eq-eqb ns absent_space (absent.1 refl))
namespace_is t u ns (Some name) is g e absent =
    ap (λ b. if b then None else Some (slice_index_or u.spaces ns [])) (ne_eqb ns absent_space (λ k. let empty = ap length (absent.0 k) in absurd (omega (arith, is, empty))))
    ∙ ap Some (space_later t u ns name g e)

pub expanded_is : (t u : NameTable) (ns n : ℕ) (name : Expanded) → IsNamespace name.namespace → Grown t u → space_number t (space_text name.namespace) ≡ Some ns
    → ((ns ≡ absent_space) ↔ (space_text name.namespace ≡ [])) → name_number u ns name.local ≡ Some n → expanded_of u n ≡ name
expanded_is t u ns n name is g e absent number =
    let pair = get_or_from_slice_get u.names n (ns, name.local) (0, []) (slice_get-number_of same_name same_name-Decides u.names (ns, name.local) n number) in
    ap (λ (p : ℕ × List ℕ). record { namespace = namespace_of u p.0; local = p.1 }) pair
    ∙ ap (λ s. record { namespace = s; local = name.local }) (namespace_is t u ns name.namespace is g e absent)

-- so many of an element's attributes, and so many of its bindings, have their numbers
pub record AttributesSoFar (t u : NameTable) (made : List NameAttribute) (attributes : List Attribute) : Type 0 where
  pub has : HasAttributes u made attributes
  pub grown : Grown t u
  pub sound : IsSound u
  pub known : found.HasAttributes t attributes → u ≡ t

pub record BindingsSoFar (t u : NameTable) (made : List NameBinding) (bindings : List Binding) : Type 0 where
  pub has : HasBindings u made bindings
  pub grown : Grown t u
  pub sound : IsSound u
  pub known : found.HasBindings t bindings → u ≡ t

take_suc : {A : Type 0} (xs : List A) (i : ℕ) (x : A) → i < length xs → x ≡ get_or xs i x → take (suc i) xs ≡ take i xs ++ x ∷ []
take_suc [] i x lt is = absurd (omega (arith, lt))
take_suc (y ∷ ys) zero x lt is = ap (λ z. z ∷ []) (sym is)
take_suc (y ∷ ys) (suc i) x lt is = ap (λ l. y ∷ l) (take_suc ys i x (omega (arith, lt)) is)

take_next : {A : Type 0} (xs : List A) (i : ℕ) (x : A) → i < length xs → x ≡ get_or xs i x → take (i + 1) xs ≡ take i xs ++ x ∷ []
take_next xs i x lt is = ap (λ n. take n xs) (add-one i) ∙ take_suc xs i x lt is

map_push : {A B : Type 0} (f : A → B) (xs : List A) (x : A) → map f (xs ++ x ∷ []) ≡ map f xs ++ f x ∷ []
map_push f [] x = refl
map_push f (y ∷ ys) x = ap (λ l. f y ∷ l) (map_push f ys x)

attributes_parted : (t : NameTable) (xs : List Attribute) (x : Attribute) → found.HasAttributes t (xs ++ x ∷ []) → found.HasAttributes t xs × found.HasName t x.name
attributes_parted t [] x h = (tt, h.0)
attributes_parted t (y ∷ ys) x h = let p = attributes_parted t ys x h.1 in ((h.0, p.0), p.1)

bindings_parted : (t : NameTable) (xs : List Binding) (x : Binding) → found.HasBindings t (xs ++ x ∷ []) → found.HasBindings t xs × IsSome (space_number t x.namespace)
bindings_parted t [] x h = (tt, h.0)
bindings_parted t (y ∷ ys) x h = let p = bindings_parted t ys x h.1 in ((h.0, p.0), p.1)

pub attributes_next : (t u w : NameTable) (made : List NameAttribute) (xs : List Attribute) (i : ℕ) (a : NameAttribute) (x : Attribute) → AttributesSoFar t u made (take i xs) → Grown u w → IsSound w
    → (IsSound u → found.HasName u x.name → w ≡ u) → attribute_of w a ≡ x → a.name < length w.names → i < length xs → x ≡ get_or xs i x → AttributesSoFar t w (made ++ a ∷ []) (take (i + 1) xs)
attributes_next t u w made xs i a x so g sound known is within lt at = record {
  has = record {
    known = All-push (λ a. a.name < length w.names) made a (more_attributes u w g so.sound made so.has.known) within;
    are = map_push (attribute_of w) made a ∙ (λ k. (attributes_grown u w g so.sound made so.has.known ∙ so.has.are) k ++ is k ∷ []) ∙ sym (take_next xs i x lt at);
  };
  grown = Grown-trans t u w so.grown g;
  sound = sound;
  known = λ h. let p = attributes_parted t (take i xs) x (subst (found.HasAttributes t) (take_next xs i x lt at) h) in let e = so.known p.0 in known so.sound (subst (λ y. found.HasName y x.name) (sym e) p.1) ∙ e;
}

pub bindings_next : (t u w : NameTable) (made : List NameBinding) (xs : List Binding) (i : ℕ) (a : NameBinding) (x : Binding) → BindingsSoFar t u made (take i xs) → Grown u w → IsSound w
    → (IsSome (space_number u x.namespace) → w ≡ u) → binding_of w a ≡ x → a.namespace < length w.spaces → i < length xs → x ≡ get_or xs i x → BindingsSoFar t w (made ++ a ∷ []) (take (i + 1) xs)
bindings_next t u w made xs i a x so g sound known is within lt at = record {
  has = record {
    known = All-push (λ b. b.namespace < length w.spaces) made a (more_bindings u w g so.sound made so.has.known) within;
    are = map_push (binding_of w) made a ∙ (λ k. (bindings_grown u w g so.sound made so.has.known ∙ so.has.are) k ++ is k ∷ []) ∙ sym (take_next xs i x lt at);
  };
  grown = Grown-trans t u w so.grown g;
  sound = sound;
  known = λ h. let p = bindings_parted t (take i xs) x (subst (found.HasBindings t) (take_next xs i x lt at) h) in let e = so.known p.0 in known (subst (λ y. IsSome (space_number y x.namespace)) (sym e) p.1) ∙ e;
}

-- a namespace of an attribute of a place
pub namespace_at : (xs : List Attribute) (i : ℕ) (x : Attribute) → AreNamespaces xs → i < length xs → x ≡ get_or xs i x → IsNamespace x.name.namespace
namespace_at [] i x a lt is = absurd (omega (arith, lt))
namespace_at (y ∷ ys) zero x a lt is = subst (λ (z : Attribute). IsNamespace z.name.namespace) (sym is) a.0
namespace_at (y ∷ ys) (suc i) x a lt is = namespace_at ys i x a.1 (omega (arith, lt)) is

-- what an element holds is called by its parts
pub called : (t u w : NameTable) (e : Element) (name : Expanded) (bindings : List Binding) (attributes : List Attribute) → IsSound t → IsSound u
    → expanded_of t e.name ≡ name → e.name < length t.names → Grown t u → HasBindings u e.bindings bindings → Grown u w → HasAttributes w e.attributes attributes
    → IsCalled w e name bindings attributes
called t u w e name bindings attributes st su name_is within g b h a =
    let gw = Grown-trans t u w g h in
    record {
      known = record { name = (let m = gw.more_names in omega (arith, within, m)); attributes = a.known; bindings = more_bindings u w h su e.bindings b.known };
      name_is = expanded_grown t w gw st e.name within ∙ name_is;
      bindings_are = bindings_grown u w h su e.bindings b.known ∙ b.are;
      attributes_are = a.are;
    }

-- where the table grows
pub called_grown : (t u : NameTable) → Grown t u → IsSound t → (e : Element) (name : Expanded) (bindings : List Binding) (attributes : List Attribute) → IsCalled t e name bindings attributes → IsCalled u e name bindings attributes
called_grown t u g sound e name bindings attributes c = record {
  known = known_grown t u g sound e c.known;
  name_is = expanded_grown t u g sound e.name c.known.name ∙ c.name_is;
  bindings_are = bindings_grown t u g sound e.bindings c.known.bindings ∙ c.bindings_are;
  attributes_are = attributes_grown t u g sound e.attributes c.known.attributes ∙ c.attributes_are;
}
