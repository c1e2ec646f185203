-- The insertion of a block, step by step.
use Rattle.std.proofs.Common.{◌≡◌, ℕ, ◌+◌, ◌≤◌, List, [], length, Bool, true, false, if◌then◌else◌, nat_lt, Option, Some, None, Result, Ok, Err, sym, ap, ◌∙◌, refl, arith}
use Rattle.std.specs.List.{list_any}
use Rattle.std.proofs.lemmas.Bool.{or_parts}
use Rattle.std.proofs.lemmas.Bool.Decides.{nat_tests}
use Rattle.item_listing.specs.declared.item.Item.{Item}
use Rattle.tree_rows.specs.Forest.{Document, count, deepest_of}
use Rattle.tree_rows.specs.Whole.{IsTree}
use Rattle.tree_rows.specs.declared.row.Binding.{Binding}
use Rattle.tree_building.specs.Blocks.{one_element}
use Rattle.tree_building.specs.Building.{block}
use Rattle.tree_building.specs.Shape.{AreWhole, AreSound}
use Rattle.tree_building.proofs.RowCounts.{count-rows}
use Rattle.tree_rows.specs.Rows.{siblings}
use Rattle.tree_rows.specs.declared.row.Row.{Row}
use Rattle.tree_edits.proofs.Putting.{deep-whole}
use Rattle.tree_edits.specs.Blocks.{tags_in, judged, early, late, has_too_many, has_double}
use Rattle.tree_edits.specs.Edits.{put_within, insert_within, unless, then_unless, too_many_more}
use Rattle.tree_edits.specs.Refusals.{IsWhy}
use Rattle.tree_edits.specs.declared.edit.EditError.{EditError}
use Rattle.tree_edits.specs.declared.edit.EditError.TheVariants.{TooManyAttributes, DoubleAttribute}
use Rattle.tree_edits.specs.declared.names.BlockNames.{BlockNames}
use Rattle.tree_edits.proofs.Inserting.{why_is, limit_is}
use Rattle.tree_edits.proofs.Trees.{block_tree}
use Rattle.doc_edits.specs.inside.Tested.{HasRoom}

-- what an insertion comes to, by its parts
comes_to : (d : Document) (parent place : ℕ) (scope : List Binding) (its : List Item) (depth : ℕ) (names : BlockNames) (first last : Option EditError)
    (within : Result Document EditError) → names ≡ judged (tags_in scope [] its) → early names ≡ first → late names ≡ last
    → put_within d parent place (block scope its) depth ≡ within → insert_within d parent place scope its depth ≡ unless first (then_unless within last)
comes_to d parent place scope its depth names first last within is e l w =
    let one : early (judged (tags_in scope [] its)) ≡ first = ap early (sym is) ∙ e in
    let two : late (judged (tags_in scope [] its)) ≡ last = ap late (sym is) ∙ l in
    ap (λ r. unless (early (judged (tags_in scope [] its))) (then_unless r (late (judged (tags_in scope [] its))))) w
    ∙ ap (λ x. unless x (then_unless within (late (judged (tags_in scope [] its))))) one ∙ ap (λ x. unless first (then_unless within x)) two

pub room_refused : (d : Document) (parent place : ℕ) (scope : List Binding) (its : List Item) (depth : ℕ) (names : BlockNames) (e : EditError)
    → names ≡ judged (tags_in scope [] its) → early names ≡ None → put_within d parent place (block scope its) depth ≡ Err e → IsWhy (insert_within d parent place scope its depth) e
room_refused d parent place scope its depth names e is first w =
    limit_is d parent place scope its depth names (block scope its) e is first refl (why_is (put_within d parent place (block scope its) depth) e w)

pub late_refused : (d : Document) (parent place : ℕ) (scope : List Binding) (its : List Item) (depth : ℕ) (names : BlockNames) (e : EditError) (x : Document)
    → names ≡ judged (tags_in scope [] its) → early names ≡ None → late names ≡ Some e → put_within d parent place (block scope its) depth ≡ Ok x
    → IsWhy (insert_within d parent place scope its depth) e
late_refused d parent place scope its depth names e x is first last w =
    why_is (insert_within d parent place scope its depth) e (comes_to d parent place scope its depth names None (Some e) (Ok x) is first last w)

pub inserted : (d : Document) (parent place : ℕ) (scope : List Binding) (its : List Item) (depth : ℕ) (names : BlockNames) (x : Document)
    → names ≡ judged (tags_in scope [] its) → early names ≡ None → late names ≡ None → put_within d parent place (block scope its) depth ≡ Ok x
    → insert_within d parent place scope its depth ≡ Ok x
inserted d parent place scope its depth names x is first last w = comes_to d parent place scope its depth names None None (Ok x) is first last w

late_none : (a b : Bool) → (if a then Some TooManyAttributes else (if b then Some DoubleAttribute else None)) ≡ None → (a ≡ false) × (b ≡ false)
late_none true b is = absurd (cc is)
late_none false true is = absurd (cc is)
late_none false false is = (refl, refl)

few_nodes : (d : Document) (more : ℕ) → too_many_more d more ≡ false → more ≤ 131072
few_nodes d more e =
    let z = (or_parts (nat_lt 131072 (count d.forest + more)) (nat_lt 4294967295 (d.next_free + more)) e).0 in
    grind (arith, nat_tests, z)

-- the block is a tree of its own
pub part_tree : (d : Document) (parent : ℕ) (scope : List Binding) (its : List Item) (names : BlockNames) (more deepest : ℕ) → one_element its ≡ true
    → names ≡ judged (tags_in scope [] its) → late names ≡ None → HasRoom d parent more deepest → count (block scope its) ≡ more → deepest_of 1 (block scope its) ≡ deepest
    → IsTree (record { forest = block scope its; next_free = 1 + count (block scope its) })
part_tree d parent scope its names more deepest one is last room size reach =
    let two : late (judged (tags_in scope [] its)) ≡ None = ap late (sym is) ∙ last in
    let fine = late_none (list_any has_too_many (tags_in scope [] its)) (list_any has_double (tags_in scope [] its)) two in
    let few = few_nodes d more room.few in let low = room.shallow in
    block_tree scope its one fine.0 fine.1 (omega (arith, few, size)) (omega (arith, low, reach))

-- rows of a tree, which are as many as its nodes
pub rows_sound : (rows : List Row) (free : ℕ) → AreWhole rows → IsTree (record { forest = siblings rows 1; next_free = free }) → AreSound rows × (length rows ≡ count (siblings rows 1))
rows_sound rows free whole tree =
    let deep = deep-whole 0 rows whole in let low = tree.shallow in
    (record { whole = whole; shallow = omega (arith, deep, low) }, ap length whole ∙ count-rows 1 (siblings rows 1))
