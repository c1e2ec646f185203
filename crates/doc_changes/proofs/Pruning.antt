-- An element that was put is taken away again with what was put below it.
use Rattle.std.proofs.Common.{◌≡◌, ◌≢◌, ℕ, zero, suc, ◌+◌, ◌≤◌, List, [], ◌∷◌, length, insert, remove, sym, ap, ◌∙◌, Bool, true, false, Some, None, refl, inl, inr, arith}
use Rattle.std.specs.Prelude.{slice_get}
use Rattle.std.specs.Option.{option_and_then}
use Rattle.std.proofs.lemmas.Bool.{false_from_ne_true}
use Rattle.std.proofs.lemmas.List.{ext_get_or}
use Rattle.std.proofs.lemmas.Option.{none-some}
use Rattle.xs_names.specs.Names.{NameTable}
use Rattle.tree_rows.specs.Forest.{Forest, none, element, count, deepest_of}
use Rattle.tree_rows.specs.Whole.{times}
use Rattle.tree_rows.specs.declared.name.Expanded.{Expanded}
use Rattle.tree_rows.specs.declared.row.Attribute.{Attribute}
use Rattle.tree_rows.specs.declared.row.Binding.{Binding}
use Rattle.tree_edits.specs.Edits.{has}
use Rattle.tree_edits.proofs.Lying.{count-append, times-append, deepest_append}
use Rattle.doc_nodes.specs.declared.content.Content.{Content}
use Rattle.doc_nodes.specs.Nodes.{Node, Nodes, node, IsNode, IsChildAt, Inserts, IsSound as AreSound}
use Rattle.doc_nodes.proofs.Among.{same_or_other}
use Rattle.doc_changes.specs.Stands.{firsts}
use Rattle.doc_changes.specs.Held.{parent_at}
use Rattle.doc_changes.specs.Parts.{IsOver, Prunes}
use Rattle.doc_changes.proofs.Standing.{has_left}
use Rattle.doc_changes.specs.inside.Growing.{at_end, CanPlant, PlantedFirst}
use Rattle.doc_changes.proofs.Growth.{not_parent, own_in, below_in, not_own}

insert_got : (xs : List ℕ) (i n : ℕ) → i ≤ length xs → slice_get (insert xs i n) i ≡ Some n
insert_got [] zero n l = refl
insert_got [] (suc i) n l = absurd (omega (arith, l))
insert_got (x ∷ xs) zero n l = refl
insert_got (x ∷ xs) (suc i) n l = insert_got xs i n (omega (arith, l))

insert_removed : (xs : List ℕ) (i n : ℕ) → i ≤ length xs → remove (insert xs i n) i ≡ xs
insert_removed [] zero n l = refl
insert_removed [] (suc i) n l = absurd (omega (arith, l))
insert_removed (x ∷ xs) zero n l = refl
insert_removed (x ∷ xs) (suc i) n l = ap (λ l. x ∷ l) (insert_removed xs i n (omega (arith, l)))

-- nodes that are the same by number are the same
pub same_nodes : (new old : Nodes) → length new ≡ length old → ((m : ℕ) → node new m ≡ node old m) → new ≡ old
same_nodes new old size same = ext_get_or None new old size (λ i l. same i)

module _ (t : NameTable) (old mid late : Nodes) (p place n : ℕ) (content : Content) (name : Expanded) (bindings : List Binding) (attributes : List Attribute) (children : Forest)
    (can : CanPlant old p (element n name bindings attributes children none)) (within : (it : Node) → IsNode old p it → place ≤ length it.children) (i : Inserts old mid p place n content)
    (sound : AreSound mid) (first : PlantedFirst t mid late n at_end children) where
  abbrev child : Node
  child = record { parent = Some p; depth = can.it.depth + 1; content = content; children = firsts first.part }

  late_child : IsNode late n child
  late_child = first.planted.parent (record { parent = Some p; depth = can.it.depth + 1; content = content; children = [] }) (i.child can.it can.is)

  part_in : (m : ℕ) → has m first.part ≡ true → has m children ≡ true
  part_in m h = ap (has m) first.split ∙ has_left m first.part first.rest h

  own_at : (m : ℕ) → has m first.part ≡ true → m ≢ n
  own_at m h = not_own old mid p place n content name bindings attributes children can i sound m (part_in m h)

  inside : (m : ℕ) → has m first.part ≡ true → has m (element n name bindings attributes children none) ≡ true
  inside m h = below_in old mid p place n content name bindings attributes children can i sound m (part_in m h)

  apart : n ≢ p
  apart = not_parent old p (element n name bindings attributes children none) can n (own_in old mid p place n content name bindings attributes children can i sound)

  pub over : IsOver t late n first.part
  over = record {
    it = child;
    is = late_child;
    children = refl;
    stand = first.planted.stand;
    differ = λ m. let a = ap (times m) first.split in let b = times-append m first.part first.rest in let c = can.differ m in omega (arith, a, b, c);
    outside = false_from_ne_true (has n first.part) (λ h. own_at n h refl);
    high = inr (let s = can.shallow in omega (arith, s));
    shallow = (
        let k = can.it.depth + 1 + 1 in
        let a = ap (deepest_of k) first.split in let b = deepest_append k first.part first.rest in let c = can.shallow in omega (arith, a, b, c)
        );
    few = (let a = ap count first.split in let b = count-append first.part first.rest in let c = can.few in omega (arith, a, b, c));
    sound = first.planted.sound;
  }

  pub below_parent : parent_at late n ≢ None
  below_parent e = none-some p (sym e ∙ ap (option_and_then (λ (it : Node). it.parent)) late_child)

  late_parent : IsNode late p (record can.it { children = insert can.it.children place n })
  late_parent = first.planted.others p (false_from_ne_true (has p first.part) (λ h. not_parent old p (element n name bindings attributes children none) can p (inside p h) refl)) (λ e. apart (sym e)) ∙ i.parent can.it can.is

  at : IsChildAt late p place n
  at = (record can.it { children = insert can.it.children place n }, late_parent, insert_got can.it.children place n (within can.it can.is))

  module _ (final : Nodes) (prunes : (q k : ℕ) → IsChildAt late q k n → Prunes late final q k n first.part) where
    abbrev r : Prunes late final p place n first.part
    r = prunes p place at

    same_at : (m : ℕ) → node final m ≡ node old m
    same_at m = elim (same_or_other m p) [
      | inl e ↦ ap (node final) e ∙ r.parent (record can.it { children = insert can.it.children place n }) late_parent
          ∙ ap (λ l. Some (record can.it { children = l })) (insert_removed can.it.children place n (within can.it can.is)) ∙ sym can.is ∙ ap (node old) (sym e)
      | inr d ↦ elim (same_or_other m n) [
        | inl e ↦ ap (node final) e ∙ r.here ∙ sym (can.free n (own_in old mid p place n content name bindings attributes children can i sound)).0 ∙ ap (node old) (sym e)
        | inr k ↦ by m d k (has m first.part) refl
      ]
    ]
      where
        by : (m : ℕ) → m ≢ p → m ≢ n → (b : Bool) → has m first.part ≡ b → node final m ≡ node old m
        by m d k true h = r.gone m h ∙ sym (can.free m (inside m h)).0
        by m d k false h = r.others m d k h ∙ first.planted.others m h k ∙ i.others m d k

    -- all is as it was
    pub pruned : final ≡ old
    pruned = same_nodes final old (r.size ∙ first.planted.size ∙ i.size) same_at
