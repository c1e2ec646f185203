-- What a block comes to, by what stands against its names and by the limits.
use Rattle.std.proofs.Common.{◌≡◌, ◌≢◌, ℕ, ◌+◌, List, [], Option, Some, None, Result, Ok, Err, refl, sym, ap, ◌∙◌, subst, take, reverse}
use Rattle.item_listing.specs.declared.item.Item.{Item}
use Rattle.tree_rows.specs.Forest.{Forest, Document, text, none, count, deepest_of}
use Rattle.tree_rows.specs.Rows.{siblings}
use Rattle.tree_rows.specs.declared.row.Binding.{Binding}
use Rattle.tree_rows.specs.declared.row.Row.{Row}
use Rattle.tree_building.specs.Building.{block}
use Rattle.tree_edits.specs.Blocks.{tags_in, judged, early, late}
use Rattle.tag_names.specs.Scopes.{first_scope}
use Rattle.tree_edits.specs.Places.{scope_above}
use Rattle.tree_edits.specs.declared.places.Spot.{Spot}
use Rattle.tree_edits.specs.Edits.{put, put_within, insert_within, unless, then_unless}
use Rattle.tree_building.specs.Shape.{AreWhole}
use Rattle.tree_edits.specs.Refusals.{IsWhy}
use Rattle.tree_edits.specs.Spots.{tree_of, inserting, IsSpot, Puts, Inserts, HasRoom}
use Rattle.tree_edits.specs.declared.names.BlockNames.{BlockNames}
use Rattle.tree_edits.specs.declared.edit.EditError.{EditError}
use Rattle.tree_edits.specs.declared.edit.EditError.TheVariants as errors
use Rattle.tree_edits.proofs.Putting.{put_ok}

pub why_is : (end : Result Document EditError) (e : EditError) → end ≡ Err e → IsWhy end e
why_is end errors.UnknownNode is = is
why_is end errors.NotElement is = is
why_is end errors.NotText is = is
why_is end errors.RootFixed is = is
why_is end errors.BadIndex is = is
why_is end errors.BadName is = is
why_is end errors.UnboundPrefix is = is
why_is end errors.ReservedName is = is
why_is end errors.NoSuchAttribute is = is
why_is end errors.TooManyNodes is = is
why_is end errors.TooDeep is = is
why_is end errors.TooManyAttributes is = is
why_is end errors.Memory is = tt
why_is end errors.DoubleAttribute is = is

-- the same where an error is not want of memory
pub why_but_memory : (end : Result Document EditError) (e : EditError) → (e ≢ errors.Memory → end ≡ Err e) → IsWhy end e
why_but_memory end errors.UnknownNode f = f (λ q. cc)
why_but_memory end errors.NotElement f = f (λ q. cc)
why_but_memory end errors.NotText f = f (λ q. cc)
why_but_memory end errors.RootFixed f = f (λ q. cc)
why_but_memory end errors.BadIndex f = f (λ q. cc)
why_but_memory end errors.BadName f = f (λ q. cc)
why_but_memory end errors.UnboundPrefix f = f (λ q. cc)
why_but_memory end errors.ReservedName f = f (λ q. cc)
why_but_memory end errors.NoSuchAttribute f = f (λ q. cc)
why_but_memory end errors.TooManyNodes f = f (λ q. cc)
why_but_memory end errors.TooDeep f = f (λ q. cc)
why_but_memory end errors.TooManyAttributes f = f (λ q. cc)
why_but_memory end errors.Memory f = tt
why_but_memory end errors.DoubleAttribute f = f (λ q. cc)

pub why_same : (end other : Result Document EditError) (e : EditError) → (end ≡ Err e → other ≡ Err e) → IsWhy end e → IsWhy other e
why_same end other errors.UnknownNode f is = f is
why_same end other errors.NotElement f is = f is
why_same end other errors.NotText f is = f is
why_same end other errors.RootFixed f is = f is
why_same end other errors.BadIndex f is = f is
why_same end other errors.BadName f is = f is
why_same end other errors.UnboundPrefix f is = f is
why_same end other errors.ReservedName f is = f is
why_same end other errors.NoSuchAttribute f is = f is
why_same end other errors.TooManyNodes f is = f is
why_same end other errors.TooDeep f is = f is
why_same end other errors.TooManyAttributes f is = f is
why_same end other errors.Memory f is = tt
why_same end other errors.DoubleAttribute f is = f is

-- the parts of an insertion, one by one
comes_to : (d : Document) (parent place : ℕ) (scope : List Binding) (its : List Item) (depth : ℕ) (names : BlockNames) (first last : Option EditError)
    (within : Result Document EditError) → names ≡ judged (tags_in scope [] its) → early names ≡ first → late names ≡ last
    → put_within d parent place (block scope its) depth ≡ within → insert_within d parent place scope its depth ≡ unless first (then_unless within last)
comes_to d parent place scope its depth names first last within is e l w =
    let one : early (judged (tags_in scope [] its)) ≡ first = ap early (sym is) ∙ e in
    let two : late (judged (tags_in scope [] its)) ≡ last = ap late (sym is) ∙ l in
    ap (λ r. unless (early (judged (tags_in scope [] its))) (then_unless r (late (judged (tags_in scope [] its))))) w
    ∙ ap (λ x. unless x (then_unless within (late (judged (tags_in scope [] its))))) one ∙ ap (λ x. unless first (then_unless within x)) two

pub early_is : (d : Document) (parent place : ℕ) (scope : List Binding) (its : List Item) (depth : ℕ) (names : BlockNames) (e : EditError)
    → names ≡ judged (tags_in scope [] its) → early names ≡ Some e → IsWhy (insert_within d parent place scope its depth) e
early_is d parent place scope its depth names e is first =
    why_is (insert_within d parent place scope its depth) e
    (comes_to d parent place scope its depth names (Some e) (late names) (put_within d parent place (block scope its) depth) is first refl refl)

pub limit_is : (d : Document) (parent place : ℕ) (scope : List Binding) (its : List Item) (depth : ℕ) (names : BlockNames) (g : Forest) (e : EditError)
    → names ≡ judged (tags_in scope [] its) → early names ≡ None → g ≡ block scope its → IsWhy (put_within d parent place g depth) e
    → IsWhy (insert_within d parent place scope its depth) e
limit_is d parent place scope its depth names g e is first g_is why =
    why_same (put_within d parent place g depth) (insert_within d parent place scope its depth) e
    (λ w. comes_to d parent place scope its depth names None (late names) (Err e) is first refl
    (ap (λ x. put_within d parent place x depth) (sym g_is) ∙ w)) why

pub late_is : (rows : List Row) (next parent place : ℕ) (scope : List Binding) (its : List Item) (depth : ℕ) (names : BlockNames) (e : EditError) (more deepest : ℕ)
    → AreWhole rows → HasRoom rows next more depth deepest → count (block scope its) ≡ more → deepest_of 1 (block scope its) ≡ deepest
    → names ≡ judged (tags_in scope [] its) → early names ≡ None → late names ≡ Some e
    → IsWhy (insert_within (tree_of rows next) parent place scope its depth) e
late_is rows next parent place scope its depth names e more deepest whole room size deep is first last =
    let (d, ok) = put_ok rows next more depth deepest parent place (block scope its) whole room size deep in
    why_is (insert_within (tree_of rows next) parent place scope its depth) e
    (comes_to (tree_of rows next) parent place scope its depth names None (Some e) (Ok d) is first last ok)

pub inserted : (rows new changed : List Row) (next free parent place : ℕ) (scope : List Binding) (its : List Item) (depth : ℕ) (names : BlockNames)
    → names ≡ judged (tags_in scope [] its) → early names ≡ None → late names ≡ None → siblings new 1 ≡ block scope its
    → Puts rows changed next free parent place depth new → Inserts rows changed next free parent place depth scope its
inserted rows new changed next free parent place scope its depth names is first last g_is puts = record {
  inserts = comes_to (tree_of rows next) parent place scope its depth names None None (Ok (tree_of changed free)) is first last
      (ap (λ x. put_within (tree_of rows next) parent place x depth) (sym g_is) ∙ puts.puts);
  sound = puts.sound;
}

-- what is put at the spot of a place
pub block_at : (rows : List Row) (next parent place : ℕ) (s : Spot) (scope : List Binding) (its : List Item) → IsSpot rows parent place s
    → scope ≡ scope_above (s.depth + 1) first_scope (reverse (take (s.parent + 1) rows))
    → insert_within (tree_of rows next) parent place scope its s.depth ≡ put (siblings rows 1) parent place (inserting rows next parent place its)
block_at rows next parent place s scope its spot is =
    ap (λ x. insert_within (tree_of rows next) parent place x its s.depth) (is ∙ sym (spot.scoped first_scope))
    ∙ sym (spot.puts (inserting rows next parent place its))

pub text_at : (rows new : List Row) (next parent place : ℕ) (s : Spot) (chars : List ℕ) → IsSpot rows parent place s → siblings new 1 ≡ text 0 chars none
    → put_within (tree_of rows next) parent place (siblings new 1) s.depth ≡ put (siblings rows 1) parent place (put_within (tree_of rows next) parent place (text 0 chars none))
text_at rows new next parent place s chars spot is =
    ap (λ g. put_within (tree_of rows next) parent place g s.depth) is
    ∙ sym (spot.puts (put_within (tree_of rows next) parent place (text 0 chars none)))

-- a refusal of what is the same
pub why_of : (end other : Result Document EditError) (e : EditError) → end ≡ other → IsWhy end e → IsWhy other e
why_of end other e is why = subst (λ (r : Result Document EditError). IsWhy r e) is why
