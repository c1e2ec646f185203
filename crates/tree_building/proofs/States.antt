-- States of a builder whose root has begun, and outside of the root.
use Rattle.std.proofs.Common.{◌≡◌, ℕ, ◌+◌, ◌≤◌, List, [], ◌∷◌, ◌++◌, Bool, true, false, ◌==◌, Result, Ok, Err, length, refl, sym, ap, ◌∙◌, arith, nat_lt}
use Rattle.std.proofs.lemmas.Bool.Decides.{nat_tests}
use Rattle.item_listing.specs.declared.item.Item.{Item}
use Rattle.tag_names.specs.declared.named.Named.{Named}
use Rattle.tag_names.specs.declared.lines.Tag.{Tag}
use Rattle.tag_names.specs.Tags.{named}
use Rattle.tree_rows.specs.declared.row.Binding.{Binding}
use Rattle.tree_rows.specs.declared.row.Row.{Row}
use Rattle.tree_rows.specs.declared.row.Content.TheVariants as contents
use Rattle.tree_building.specs.Building.{◌>>=◌, text_begun, after_all}
use Rattle.tree_building.specs.Nest.{OpenElement}
use Rattle.tree_building.specs.Rules.{document_rules}
use Rattle.tree_building.specs.declared.pending.Pending.{Pending}
use Rattle.tree_building.specs.declared.pending.Pending.TheVariants as pending
use Rattle.tree_building.specs.declared.building.Building.{Building}
use Rattle.tree_building.specs.declared.fault.TreeFault.{TreeFault}

-- the root has begun
abbrev pub At : List Row → List Binding → List OpenElement → Pending → ℕ → ℕ → Building
At rows outer elements p next taken =
    record { rules = document_rules; rows = rows; nest = record { outer = outer; elements = elements }; pending = p; rooted = true; next = next; taken = taken }

-- outside of the root, before it or behind it
abbrev pub Outside : List Row → List Binding → Bool → ℕ → ℕ → Building
Outside rows outer rooted next taken =
    record { rules = document_rules; rows = rows; nest = record { outer = outer; elements = [] }; pending = pending.Nothing; rooted = rooted; next = next; taken = taken }

-- the row of the element of a tag
abbrev pub tag_row : ℕ → ℕ → Named → Row
tag_row number depth says = record { number = number; depth = depth; content = contents.Element says.name; bindings = says.bindings; attributes = says.attributes }

-- the row of a text
abbrev pub chars_row : ℕ → ℕ → List ℕ → Row
chars_row number depth chars = record { number = number; depth = depth; content = contents.Chars chars; bindings = []; attributes = [] }

-- what an element holds is open
abbrev pub opened_in : List Binding → Tag → OpenElement
opened_in scope tag = record { name = tag.name; scope = (named scope tag).bindings ++ scope }

pub some_open : (e : OpenElement) (elements : List OpenElement) → (length (e ∷ elements) == 0) ≡ false
some_open e elements = let some : 1 ≤ length (e ∷ elements) = omega arith in grind (arith, nat_tests, some)

-- no characters change nothing but the count of items
pub empty_text : (rows : List Row) (outer : List Binding) (e : OpenElement) (elements : List OpenElement) (next taken : ℕ)
    → text_begun [] (At rows outer (e ∷ elements) pending.Nothing next taken) ≡ Ok (At rows outer (e ∷ elements) pending.Nothing next (taken + 1))
empty_text rows outer e elements next taken = rw (some_open e elements) refl

pub text_starts : (own : List ℕ) (rows : List Row) (outer : List Binding) (e : OpenElement) (elements : List OpenElement) (next taken : ℕ)
    → (own ≡ [] → ⊥) → next ≤ 131072
    → text_begun own (At rows outer (e ∷ elements) pending.Nothing next taken) ≡ Ok (At rows outer (e ∷ elements) (pending.Chars own) next (taken + 1))
text_starts [] rows outer e elements next taken some few = absurd (some refl)
text_starts (b ∷ own) rows outer e elements next taken some few =
    let fits : nat_lt 131072 next ≡ false = grind (arith, nat_tests, few) in
    let filled : (length (b ∷ own) == 0) ≡ false = (let some : 1 ≤ length (b ∷ own) = omega arith in grind (arith, nat_tests, some)) in
    rw (some_open e elements, filled, fits) refl

-- a fault stays
pub after_fault : (fault : TreeFault) (more : List Item) → after_all (Err fault) more ≡ Err fault
after_fault fault [] = refl
after_fault fault (item ∷ more) = after_fault fault more
