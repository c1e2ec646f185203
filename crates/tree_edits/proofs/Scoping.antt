-- The scopes of a walk, and those of rows from the last one on.
use Rattle.std.proofs.Common.{◌≡◌, ℕ, ◌-◌, ◌≤◌, ◌<◌, List, [], ◌∷◌, ◌++◌, Bool, true, false, ◌||◌, length, drop, reverse, refl, sym, ap, ◌∙◌, arith, nat_lt}
use Rattle.std.specs.List.{list_any}
use Rattle.std.proofs.lemmas.Bool.Decides.{nat_tests}
use Rattle.std.proofs.lemmas.Grind.{common_steps}
use Rattle.std.proofs.lemmas.List.{reverse-append}
use Rattle.std.proofs.Math.Seq.{drop-append_seam}
use Rattle.tree_rows.specs.declared.row.Binding.{Binding}
use Rattle.tree_rows.specs.declared.row.Row.{Row}
use Rattle.tree_edits.specs.Places.{scope_above}
use Rattle.item_listing.specs.declared.item.Item.{Item}
use Rattle.item_listing.specs.declared.item.Item.TheVariants as items
use Rattle.tag_names.specs.Tags.{bindings_in}
use Rattle.tag_names.specs.declared.lines.AttributeLine.{AttributeLine}
use Rattle.tag_names.specs.declared.lines.Tag.{Tag}
use Rattle.tree_edits.specs.Blocks.{Placed, lines_of, tags_in, has_bad_name, has_unbound, uses_reserved, has_too_many, has_double}
use Rattle.tag_names.specs.Resolving.{faults_of}
use Rattle.tag_names.specs.declared.fault.TagFaults.{TagFaults}
use Rattle.tree_edits.specs.Walks.{scopes_around, joined, with_faults}
use Rattle.tree_edits.specs.declared.names.BlockNames.{BlockNames}

-- the last of some rows
last_first : (row : Row) (earlier : List Row) → reverse (earlier ++ (row ∷ [])) ≡ row ∷ reverse earlier
last_first row earlier = reverse-append earlier (row ∷ [])

pub above_here : (depth : ℕ) (scope : List Binding) (row : Row) (rows earlier : List Row) → rows ≡ earlier ++ (row ∷ []) → row.depth < depth
    → scope_above depth scope (reverse rows) ≡ row.bindings ++ scope_above row.depth scope (reverse earlier)
above_here depth scope row rows earlier is less =
    let yes : nat_lt row.depth depth ≡ true = grind (arith, nat_tests) in
    let here : scope_above depth scope (row ∷ reverse earlier) ≡ row.bindings ++ scope_above row.depth scope (reverse earlier) = rw yes refl in
    ap (λ l. scope_above depth scope (reverse l)) is ∙ ap (scope_above depth scope) (last_first row earlier) ∙ here

pub above_before : (depth : ℕ) (scope : List Binding) (row : Row) (rows earlier : List Row) → rows ≡ earlier ++ (row ∷ []) → depth ≤ row.depth
    → scope_above depth scope (reverse rows) ≡ scope_above depth scope (reverse earlier)
above_before depth scope row rows earlier is more =
    let no : nat_lt row.depth depth ≡ false = grind (arith, nat_tests) in
    let here : scope_above depth scope (row ∷ reverse earlier) ≡ scope_above depth scope (reverse earlier) = rw no refl in
    ap (λ l. scope_above depth scope (reverse l)) is ∙ ap (scope_above depth scope) (last_first row earlier) ∙ here

-- bindings that come into scope leave the scopes around
pub back : (bindings scope : List Binding) → drop (length (bindings ++ scope) - length scope) (bindings ++ scope) ≡ scope
back bindings scope =
    let size : length (bindings ++ scope) - length scope ≡ length bindings = grind (arith, common_steps) in
    ap (λ k. drop k (bindings ++ scope)) size ∙ drop-append_seam bindings scope

pub around_start : (bindings scope : List Binding) (sizes : List ℕ)
    → scopes_around (bindings ++ scope) (length scope ∷ sizes) ≡ scope ∷ scopes_around scope sizes
around_start bindings scope sizes = ap (λ s. s ∷ scopes_around s sizes) (back bindings scope)

any_one : (a b c : Bool) → ((a || (b || false)) || c) ≡ (a || (b || c))
any_one false false c = refl
any_one false true c = refl
any_one true b c = refl

same_names : (a b c d e a2 b2 c2 d2 e2 : Bool) → a ≡ a2 → b ≡ b2 → c ≡ c2 → d ≡ d2 → e ≡ e2
    → (let x : BlockNames = record { bad = a; unbound = b; reserved = c; many = d; double = e } in
    let y : BlockNames = record { bad = a2; unbound = b2; reserved = c2; many = d2; double = e2 } in x ≡ y)
same_names a b c d e a2 b2 c2 d2 e2 p q r s t = cc

or_false : (b : Bool) → b || false ≡ b
or_false true = refl
or_false false = refl

one_or : (a b : Bool) → (a || b) ≡ (a || (b || false))
one_or a true = refl
one_or a false = refl

-- no tag more
pub joined_none : (names : BlockNames) → names ≡ joined names []
joined_none names = sym (same_names _ _ _ _ _ _ _ _ _ _ (or_false names.bad) (or_false names.unbound) (or_false names.reserved) (or_false names.many) (or_false names.double))

-- one tag more, which was judged in its scope
pub joined_one : (names : BlockNames) (placed : Placed) (faults : TagFaults) → faults ≡ faults_of placed.scope placed.tag → with_faults names faults ≡ joined names (placed ∷ [])
joined_one names placed faults is =
    ap (with_faults names) is
    ∙ same_names _ _ _ _ _ _ _ _ _ _ (one_or names.bad (has_bad_name placed)) (one_or names.unbound (has_unbound placed)) (one_or names.reserved (uses_reserved placed)) (one_or names.many (has_too_many placed))
    (one_or names.double (has_double placed))

-- a tag, and then the others
joined_more : (names : BlockNames) (tag : Placed) (tags : List Placed) → joined (joined names (tag ∷ [])) tags ≡ joined names (tag ∷ tags)
joined_more names tag tags =
    let bad = any_one names.bad (has_bad_name tag) (list_any has_bad_name tags) in
    let unbound = any_one names.unbound (has_unbound tag) (list_any has_unbound tags) in
    let reserved = any_one names.reserved (uses_reserved tag) (list_any uses_reserved tags) in
    let many = any_one names.many (has_too_many tag) (list_any has_too_many tags) in
    let double = any_one names.double (has_double tag) (list_any has_double tags) in
    same_names _ _ _ _ _ _ _ _ _ _ bad unbound reserved many double

abbrev tag_with : List ℕ → List AttributeLine → Tag
tag_with name lines = record { name = name; attributes = lines }

tag_is : (tag : Tag) (name : List ℕ) (lines : List AttributeLine) → tag.name ≡ name → tag.attributes ≡ lines → tag ≡ tag_with name lines
tag_is tag name lines p q = ap (λ (n : List ℕ). tag_with n tag.attributes) p ∙ ap (λ (l : List AttributeLine). tag_with name l) q

-- a start tag was judged, and its bindings came into scope
pub started : (names new : BlockNames) (scope within bindings : List Binding) (sizes pushed : List ℕ) (size : ℕ) (tag : Tag) (name : List ℕ) (rest : List Item)
    → tag.name ≡ name → tag.attributes ≡ lines_of rest → new ≡ joined names (record { scope = scope; tag = tag } ∷ [])
    → bindings ≡ bindings_in tag.attributes → within ≡ bindings ++ scope → size ≡ length scope → pushed ≡ sizes ++ (size ∷ [])
    → joined new (tags_in within (scopes_around within (reverse pushed)) rest)
    ≡ joined names (tags_in scope (scopes_around scope (reverse sizes)) (items.Start name ∷ rest))
started names new scope within bindings sizes pushed size tag name rest is_name is_lines is_new is_bindings is_within is_size is_pushed =
    let own : List Binding = bindings_in (lines_of rest) in
    let start : Placed = record { scope = scope; tag = record { name = name; attributes = lines_of rest } } in
    let all : reverse pushed ≡ length scope ∷ reverse sizes =
    ap reverse is_pushed ∙ reverse-append sizes (size ∷ []) ∙ ap (λ k. k ∷ reverse sizes) is_size in
    let inside : within ≡ own ++ scope = is_within ∙ ap (λ b. b ++ scope) (is_bindings ∙ ap bindings_in is_lines) in
    let judged_is : new ≡ joined names (start ∷ []) = is_new ∙ ap (λ (t : Tag). joined names (record { scope = scope; tag = t } ∷ [])) (tag_is tag name (lines_of rest) is_name is_lines) in
    ap (λ r. joined new (tags_in within (scopes_around within r) rest)) all
    ∙ ap (λ s. joined new (tags_in s (scopes_around s (length scope ∷ reverse sizes)) rest)) inside
    ∙ ap (λ l. joined new (tags_in (own ++ scope) l rest)) (around_start own scope (reverse sizes))
    ∙ ap (λ x. joined x (tags_in (own ++ scope) (scope ∷ scopes_around scope (reverse sizes)) rest)) judged_is
    ∙ joined_more names start (tags_in (own ++ scope) (scope ∷ scopes_around scope (reverse sizes)) rest)
