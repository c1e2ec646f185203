-- The element that gets new children, in the document and among its nodes.
use Rattle.std.proofs.Common.{◌≡◌, ℕ, zero, suc, ◌+◌, ◌<◌, ◌≤◌, ◌^◌, List, [], ◌∷◌, ◌++◌, length, sym, ap, ◌∙◌, subst, Bool, true, false, nat_lt, if◌then◌else◌, Option, Some, None, Result, Ok, Err, OnErr, refl, arith}
use Rattle.std.specs.List.{insert_slice}
use Rattle.std.proofs.lemmas.Bool.{or_parts, false≢true, true≢false, false_from_ne_true}
use Rattle.std.proofs.lemmas.Bool.Decides.{nat_tests}
use Rattle.std.proofs.lemmas.List.{get_or_past, length_push}
use Rattle.std.proofs.lemmas.Option.{same_Some}
use Rattle.xs_names.specs.Names.{NameTable}
use Rattle.tree_rows.specs.Forest.{Forest, none, text, element, Document, count, deepest_of}
use Rattle.tree_rows.specs.declared.name.Expanded.{Expanded}
use Rattle.tree_rows.specs.declared.row.Attribute.{Attribute}
use Rattle.tree_rows.specs.declared.row.Binding.{Binding}
use Rattle.tree_building.proofs.Numbers.{numbers_differ}
use Rattle.tree_edits.specs.Edits.{has, Found, found, width, renumbered, too_many_more, put_within}
use Rattle.tree_edits.specs.Tests.{is_element, width_of, depth_of, element_node, with_nodes}
use Rattle.tree_edits.specs.declared.edit.EditError.TheVariants.{TooManyNodes, TooDeep}
use Rattle.tree_edits.proofs.BlockNaming.{HaveNames}
use Rattle.tree_edits.proofs.Keeping.{IsAlone, found_alone, IsPlace, numbered_renumbered}
use Rattle.tree_edits.proofs.Lying.{lies, deepest_here}
use Rattle.doc_nodes.specs.declared.content.Content.TheVariants as contents
use Rattle.doc_nodes.specs.Nodes.{Node, Nodes, node, IsNode, Inserts, IsSound as AreSound}
use Rattle.doc_changes.specs.Stands.{firsts, IsElement, StandFor, StandsFor}
use Rattle.doc_changes.proofs.Lain.{firsts_lies, stand_lies, at, depth_at}
use Rattle.doc_changes.specs.Fits.{Fits}
use Rattle.doc_changes.specs.Planted.{Plants}
use Rattle.doc_changes.specs.inside.Growing.{numbered_by, before, CanPlant, CanGrow, Planted}
use Rattle.doc_changes.proofs.Numbering.{deepest_numbered, count_numbered, names_numbered, number_within}
use Rattle.doc_changes.proofs.Growth.{slice_of_one, planted_text}

-- an element of a document, with its node
pub record IsParent (t : NameTable) (ns : Nodes) (d : Document) (parent : ℕ) : Type 0 where
  pub depth : ℕ
  pub name : Expanded
  pub bindings : List Binding
  pub attributes : List Attribute
  pub children : Forest
  pub is_found : found parent 1 d.forest ≡ Some (record { depth = depth; node = element parent name bindings attributes children none })
  pub shown : IsElement t ns parent name bindings attributes children
  pub below : StandFor t ns children

parent_by : (t : NameTable) (ns : Nodes) (d : Document) (parent depth : ℕ) (one : Forest) → found parent 1 d.forest ≡ Some (record { depth = depth; node = one })
    → element_node one ≡ true → IsAlone one → firsts one ≡ parent ∷ [] → StandFor t ns one → IsParent t ns d parent
parent_by t ns d parent depth none f e alone first s = absurd (false≢true e)
parent_by t ns d parent depth (text n chars next) f e alone first s = absurd (false≢true e)
parent_by t ns d parent depth (element n name bindings attributes children next) f e alone first s =
    let k : n ≡ parent = cc first in
    record {
      depth = depth;
      name = name;
      bindings = bindings;
      attributes = attributes;
      children = children;
      is_found = f ∙ ap (λ g. Some (record { depth = depth; node = element n name bindings attributes children g })) alone ∙ ap (λ m. Some (record { depth = depth; node = element m name bindings attributes children none })) k;
      shown = subst (λ m. IsElement t ns m name bindings attributes children) k s.0;
      below = s.1;
    }

pub parent_of : (t : NameTable) (ns : Nodes) (d : Document) (parent : ℕ) → StandsFor t ns d → is_element (found parent 1 d.forest) ≡ true → IsParent t ns d parent
parent_of t ns d parent z e = by (found parent 1 d.forest) refl
  where
    by : (o : Option Found) → found parent 1 d.forest ≡ o → IsParent t ns d parent
    by None f = absurd (false≢true (sym (ap is_element f) ∙ e))
    by (Some it) f =
        parent_by t ns d parent it.depth it.node f (sym (ap is_element f) ∙ e) (found_alone parent d.forest it f)
        (firsts_lies t ns parent 1 d.forest it (lies parent 1 d.forest it f)) (stand_lies t ns parent 1 d.forest it (lies parent 1 d.forest it f) z.nodes)

pub width_firsts : (f : Forest) → length (firsts f) ≡ width f
width_firsts none = refl
width_firsts (text n chars next) = let h = width_firsts next in omega (arith, h)
width_firsts (element n name bindings attributes children next) = let h = width_firsts next in omega (arith, h)

-- a part of one root has its first number
pub firsts_alone : (free : ℕ) (f : Forest) → IsAlone f → firsts (renumbered free f) ≡ free ∷ []
firsts_alone free none a = absurd a
firsts_alone free (text n chars next) a = ap (λ g. free ∷ firsts (renumbered (free + 1) g)) a
firsts_alone free (element n name bindings attributes children next) a = ap (λ g. free ∷ firsts (renumbered (free + 1 + count children) g)) a

pub no_node_past : (ns : Nodes) (m : ℕ) → length ns ≤ m → node ns m ≡ None
no_node_past ns m l = get_or_past ns m None l

module _ (t : NameTable) (ns : Nodes) (d : Document) (parent place : ℕ) (f : Forest) (z : StandsFor t ns d) (fits : Fits d parent place f) where
  abbrev pub own : IsParent t ns d parent
  own = parent_of t ns d parent z fits.element

  abbrev own_found : Found
  own_found = record { depth = (own).depth; node = element parent (own).name (own).bindings (own).attributes (own).children none }

  pub own_depth : (own).shown.it.depth ≡ (own).depth
  own_depth =
      depth_at t ns d z parent (own).shown.it (own).shown.is
      ∙ ap (λ (i : Found). i.depth) (same_Some (at t ns d z parent (own).shown.it (own).shown.is).0 own_found (sym (at t ns d z parent (own).shown.it (own).shown.is).1 ∙ (own).is_found))

  own_high : (own).shown.it.depth ≤ 128
  own_high =
      let a = deepest_here parent 1 d.forest own_found (lies parent 1 d.forest own_found (own).is_found) in
      let b = z.tree.shallow in let c = own_depth in omega (arith, a, b, c)

  pub few_more : (count d.forest + count f ≤ 131072) × (d.next_free + count f ≤ 4294967295)
  few_more =
      let few = or_parts (nat_lt 131072 (count d.forest + count f)) (nat_lt 4294967295 (d.next_free + count f)) fits.few in
      (grind (arith, nat_tests, few.0), grind (arith, nat_tests, few.1))

  -- the part can be put below the node
  pub can_grow : HaveNames f → IsAlone f → (until : ℕ) → until ≡ length ns + count f → CanGrow ns parent place f until
  can_grow names alone until numbers = record {
    it = (own).shown.it;
    is = (own).shown.is;
    within = (
        let a = fits.within in let b = ap width_of (own).is_found in let c = ap length (own).shown.children_are in let e = width_firsts (own).children in
        omega (arith, a, b, c, e)
        );
    high = own_high;
    shallow = (let a = fits.shallow in let b = ap (λ o. deepest_of (depth_of o + 1) f) (own).is_found in let c = ap (λ k. deepest_of (k + 1) f) own_depth in omega (arith, a, b, c));
    names = names;
    few = (let a = (few_more).0 in omega (arith, a));
    alone = alone;
    numbers = numbers;
    sound = z.links;
  }

  -- what the insertion makes of the document
  pub place_is : IsPlace d.forest parent (put_within d parent place f) (with_nodes d parent place f)
  place_is = record {
    depth = (own).depth;
    number = parent;
    name = (own).name;
    bindings = (own).bindings;
    attributes = (own).attributes;
    children = (own).children;
    is_found = (own).is_found;
    ends = ends_if (too_many_more d (count f)) fits.few (nat_lt 128 (deepest_of ((own).depth + 1) f)) shallow;
  }
    where
      low : deepest_of ((own).depth + 1) f ≤ 128
      low = let a = fits.shallow in let b = ap (λ o. deepest_of (depth_of o + 1) f) (own).is_found in omega (arith, a, b)

      shallow : nat_lt 128 (deepest_of ((own).depth + 1) f) ≡ false
      shallow = grind (arith, nat_tests, low)

      ends_if : (a : Bool) → a ≡ false → (b : Bool) → b ≡ false → (if a then Err TooManyNodes else (if b then Err TooDeep else Ok (with_nodes d parent place f))) ≡ Ok (with_nodes d parent place f)
      ends_if true h b k = absurd (true≢false h)
      ends_if false h true k = absurd (true≢false k)
      ends_if false h false k = refl

-- numbers were given out, and no node is another
module _ (old mid : Nodes) (p place until : ℕ) (f : Forest) (can : CanGrow old p place f until) (same : (m : ℕ) → node mid m ≡ node old m) (size : length mid ≡ until) (sound : AreSound mid) where
  abbrev part : Forest
  part = numbered_by (length old) f

  pub can_grown : CanPlant mid p part
  can_grown = record {
    it = can.it;
    is = same p ∙ can.is;
    high = can.high;
    shallow = (let a = deepest_numbered (length old) (can.it.depth + 1) f in let b = can.shallow in omega (arith, a, b));
    free = λ m h.
        let w = number_within (length old) m f h in
        (same m ∙ no_node_past old m w.0, (let a = size in let b = can.numbers in omega (arith, a, b, w.1)));
    differ = λ m. numbers_differ m (length old) part (numbered_renumbered (length old) f);
    names = names_numbered (length old) f can.names;
    few = (let a = count_numbered (length old) f in let b = can.few in omega (arith, a, b));
    sound = sound;
  }

  pub within_grown : (it : Node) → IsNode mid p it → place ≤ length it.children
  within_grown it h = subst (λ (x : Node). place ≤ length x.children) (same_Some can.it it (sym (same p ∙ can.is) ∙ h)) can.within

  pub grown : (t : NameTable) (new : Nodes) → Planted t mid new p (before place) part → Plants t old new p place f
  grown t new planted = record {
    size = planted.size ∙ size ∙ can.numbers;
    parent = λ it h.
        planted.parent it (same p ∙ h)
        ∙ ap (λ l. Some (record it { children = l })) (ap (λ l. insert_slice it.children place l) (firsts_alone (length old) f can.alone) ∙ sym (slice_of_one it.children place (length old)));
    stand = planted.stand;
    others = λ m l d. planted.others m (false_from_ne_true (has m part) (λ h. let w = number_within (length old) m f h in absurd (omega (arith, l, w.0)))) d ∙ same m;
  }

-- numbers below this one were given out, and no node is another
pub record GivesMore (old now : Nodes) (until : ℕ) : Type 0 where
  pub more : length old ≤ length now
  pub within : length now ≤ until
  pub same : (m : ℕ) → node now m ≡ node old m

node_past_end : (ns : Nodes) (m : ℕ) → node (ns ++ None ∷ []) m ≡ node ns m
node_past_end [] zero = refl
node_past_end [] (suc m) = refl
node_past_end (x ∷ ns) zero = refl
node_past_end (x ∷ ns) (suc m) = node_past_end ns m

pub one_more : (old now new : Nodes) (until : ℕ) → GivesMore old now until → length now < until → new ≡ now ++ None ∷ [] → GivesMore old new until
one_more old now new until g l e =
    let size = ap length e ∙ length_push now None in let more = g.more in
    record { more = omega (arith, more, size); within = omega (arith, l, size); same = λ m. ap (λ ns. node ns m) e ∙ node_past_end now m ∙ g.same m }

-- a text is put under the number that is given out next
module _ (ns mid : Nodes) (parent place : ℕ) (chars : List ℕ) (can : CanGrow ns parent place (text 0 chars none) (length ns + 1)) (pushed : mid ≡ ns ++ None ∷ []) (sound : AreSound mid) where
  same_pushed : (m : ℕ) → node mid m ≡ node ns m
  same_pushed m = ap (λ x. node x m) pushed ∙ node_past_end ns m

  pub pushed_parent : (it : Node) × IsNode mid parent it × (place ≤ length it.children) × (it.depth + 1 < 2 ^ 32)
  pushed_parent = let high = can.high in (can.it, same_pushed parent ∙ can.is, can.within, omega (arith, high))

  pub text_plants : (t : NameTable) (new : Nodes) (n : ℕ) → n ≡ length ns → Inserts mid new parent place n (contents.Chars chars) → AreSound new → Plants t ns new parent place (text 0 chars none)
  text_plants t new n e inserts after =
      grown ns mid parent place (length ns + 1) (text 0 chars none) can same_pushed (ap length pushed ∙ length_push ns None) sound t new
      (planted_text t mid new parent place (length ns) can.it (same_pushed parent ∙ can.is) chars (subst (λ k. Inserts mid new parent place k (contents.Chars chars)) e inserts) after)

-- what is asked of an error alone
pub on_err : {A E P : Type 0} (r : Result A E) → P → OnErr r P
on_err (Ok x) p = tt
on_err (Err e) p = p
