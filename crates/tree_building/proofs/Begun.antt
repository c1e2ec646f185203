-- Items after which a builder goes on begin a document's spelling, and items that it refuses do not.
use Rattle.std.proofs.Common.{◌≡◌, ℕ, ◌+◌, List, [], ◌∷◌, ◌++◌, Bool, true, false, ◌==◌, Result, Ok, Err, None, length, refl, sym, ap, ◌∙◌, arith, append_assoc, append-nil, subst}
use Rattle.std.specs.Prelude.{codes}
use Rattle.std.specs.Str.{chars}
use Rattle.item_listing.specs.declared.item.Item.{Item}
use Rattle.item_listing.specs.declared.item.Item.TheVariants as items
use Rattle.tag_names.specs.Faults.{name_fault}
use Rattle.tag_names.specs.declared.lines.Tag.{Tag}
use Rattle.tree_rows.specs.Forest.{Document, count}
use Rattle.tree_rows.specs.Rows.{siblings}
use Rattle.tree_rows.specs.declared.row.Binding.{Binding}
use Rattle.tree_rows.specs.declared.row.Row.{Row}
use Rattle.tree_building.specs.Building.{◌>>=◌, tag_by, settled_by, started, ended, took, finished, ended_all, after_all, built, document, nothing}
use Rattle.tree_building.specs.Nest.{OpenElement}
use Rattle.tree_building.specs.Rules.{document_rules}
use Rattle.tree_building.specs.declared.pending.Pending.TheVariants as pending
use Rattle.tree_building.specs.declared.building.Building.{Building}
use Rattle.tree_building.specs.declared.build.Built.{Built}
use Rattle.tree_building.specs.declared.fault.TreeFault.{TreeFault}
use Rattle.tree_building.specs.Refusals.{Begin}
use Rattle.tree_building.proofs.States.{At, Outside, after_fault}
use Rattle.tree_building.proofs.Reading.{document_read, same_bytes, by_found}
use Rattle.tree_building.proofs.Unreading.{document_spelled, err_ok}

pub after_both : (state : Result Building TreeFault) (its more : List Item) → after_all state (its ++ more) ≡ after_all (after_all state its) more
after_both state [] more = refl
after_both (Ok b) (item ∷ its) more = after_both (took b item) its more
after_both (Err fault) (item ∷ its) more = after_both (Err fault) its more

abbrev pub start : List Binding → Result Building TreeFault
start scope = Ok (nothing document_rules scope)

pub begin_by : (scope : List Binding) (front more : List Item) (b : Building) (end : Built) → after_all (start scope) front ≡ Ok b → (after_all (Ok b) more >>= ended_all) ≡ Ok end → Begin scope front
begin_by scope front more b end reached ends =
    let d : Document = record { forest = siblings end.rows 1; next_free = end.next } in
    let whole : document (built document_rules scope (front ++ more)) ≡ Ok d =
    ap (λ r. document (r >>= ended_all)) (after_both (start scope) front more ∙ ap (λ r. after_all r more) reached) ∙ ap document ends in
    let spelled = document_spelled d scope (front ++ more) whole in
    record { more = more; tree = d.forest; is_document = spelled.0; spells = spelled.1 }

-- the ends of what is open
abbrev closings : List OpenElement → List Item
closings [] = []
closings (e ∷ elements) = items.Close e.name ∷ closings elements

closed_all : (elements : List OpenElement) (rows : List Row) (outer : List Binding) (next taken : ℕ)
    → (after_all (Ok (At rows outer elements pending.Nothing next taken)) (closings elements) >>= ended_all) ≡ Ok (record { rows = rows; next = next })
closed_all [] rows outer next taken = refl
closed_all (e ∷ elements) rows outer next taken =
    let same : ended e.name (At rows outer (e ∷ elements) pending.Nothing next taken) ≡ Ok (At rows outer elements pending.Nothing next (taken + 1)) = rw (same_bytes e.name) refl in
    ap (λ r. after_all r (closings elements) >>= ended_all) same ∙ closed_all elements rows outer next (taken + 1)

settled_closed : (elements : List OpenElement) (b : Building) (rows : List Row) (outer : List Binding) (next taken : ℕ)
    → settled_by b b.pending ≡ Ok (At rows outer elements pending.Nothing next taken)
    → (after_all (Ok b) (closings elements) >>= ended_all) ≡ Ok (record { rows = rows; next = next })
settled_closed [] b rows outer next taken s = ap (λ r. r >>= finished) s
settled_closed (e ∷ elements) b rows outer next taken s =
    ap (λ r. after_all (r >>= ended e.name) (closings elements) >>= ended_all) s ∙ closed_all (e ∷ elements) rows outer next taken

pub begin_inside : (scope : List Binding) (front : List Item) (b : Building) (rows : List Row) (elements : List OpenElement) (next taken : ℕ)
    → after_all (start scope) front ≡ Ok b → settled_by b b.pending ≡ Ok (At rows scope elements pending.Nothing next taken) → Begin scope front
begin_inside scope front b rows elements next taken reached s =
    begin_by scope front (closings elements) b _ reached (settled_closed elements b rows scope next taken s)

-- a root of this name
abbrev any : Tag
any = record { name = codes "r"; attributes = [] }

any_well : (scope : List Binding) → name_fault scope any ≡ None
unfolding chars
any_well scope = refl

pub begin_outside : (scope : List Binding) (front : List Item) (taken : ℕ) → after_all (start scope) front ≡ Ok (Outside [] scope false 1 taken) → Begin scope front
begin_outside scope front taken reached =
    let b : Building = At [] scope [] (pending.Start any taken) 1 (taken + 1) in
    begin_by scope front (items.Start any.name ∷ items.Close any.name ∷ []) (Outside [] scope false 1 taken) _ reached
    (ap (λ r. (r >>= ended any.name) >>= ended_all) (by_found b any taken _ (any_well scope)))

-- items behind which one is refused do not begin a spelling with it
pub no_begin : (scope : List Binding) (front : List Item) (item : Item) (b : Building) (fault : TreeFault) → after_all (start scope) front ≡ Ok b → took b item ≡ Err fault
    → Begin scope (front ++ item ∷ []) → ⊥
no_begin scope front item b fault reached refused begin =
    let built_so = document_read begin.tree scope ((front ++ item ∷ []) ++ begin.more) begin.is_document begin.spells in
    let stays : after_all (start scope) ((front ++ item ∷ []) ++ begin.more) ≡ Err fault =
    after_both (start scope) (front ++ item ∷ []) begin.more ∙ ap (λ r. after_all r begin.more) (after_both (start scope) front (item ∷ []) ∙ ap (λ r. after_all r (item ∷ [])) reached ∙ refused)
    ∙ after_fault fault begin.more in
    err_ok fault _ (sym (ap (λ r. document (r >>= ended_all)) stays) ∙ built_so)
