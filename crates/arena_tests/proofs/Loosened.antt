-- Items that are a tree by the rules of a document are the same nodes by those of a block.
use Rattle.std.proofs.Common.{◌≡◌, ℕ, ◌+◌, List, [], ◌∷◌, ◌++◌, length, sym, ap, ◌∙◌, Bool, true, false, ◌==◌, ◌&&◌, if◌then◌else◌, Option, Some, None, Result, Ok, Err, refl}
use Rattle.tree_rows.specs.Forest.{Forest, Document}
use Rattle.tree_rows.specs.Rows.{siblings}
use Rattle.tree_rows.specs.declared.row.Binding.{Binding}
use Rattle.item_listing.specs.declared.item.Item.{Item}
use Rattle.item_listing.specs.declared.item.Item.TheVariants as items
use Rattle.tag_names.specs.declared.fault.NameReason.{NameReason}
use Rattle.tag_names.specs.declared.lines.Tag.{Tag}
use Rattle.tree_building.specs.Building.{◌>>=◌, nothing, with_element, element_row, text_row, with_row, fault_of, tag_by, tag_closed_by, settled_by, settled, counted, started, lined, is_empty, is_white, text_begun, text_by, ended, took, finished, ended_all, after, after_all, built, document, forest_of, block}
use Rattle.tree_building.specs.Nest.{closes, closed, scope_in}
use Rattle.tree_building.specs.Rules.{past, document_rules, block_rules}
use Rattle.tree_building.specs.declared.pending.Pending.{Pending}
use Rattle.tree_building.specs.declared.pending.Pending.TheVariants as pending
use Rattle.tree_building.specs.declared.building.Building.{Building}
use Rattle.tree_building.specs.declared.build.Built.{Built}
use Rattle.tree_building.specs.declared.fault.TreeFault.{TreeFault}

abbrev loose : Building → Building
loose b = record b { rules = block_rules }

ok_is : {A : Type 0} (x y : A) → ◌≡◌ {A = Result A TreeFault} (Ok x) (Ok y) → x ≡ y
ok_is x y e = cc

goes_on : (r s : Result Building TreeFault) (f : Building → Result Building TreeFault) → ((x : Building) → r ≡ Ok x → s ≡ Ok (loose x)) → ((b x : Building) → f b ≡ Ok x → f (loose b) ≡ Ok (loose x))
    → (x : Building) → (r >>= f) ≡ Ok x → (s >>= f) ≡ Ok (loose x)
goes_on (Ok b) s f h g x e = ap (λ r. r >>= f) (h b refl) ∙ g b x e
goes_on (Err fault) s f h g x e = cc

tagged : (b : Building) (tag : Tag) (item : ℕ) (o : Option NameReason) (x : Building) → tag_by b tag item o ≡ Ok x → tag_by (loose b) tag item None ≡ Ok (loose x)
tagged b tag item (Some reason) x e = cc
tagged b tag item None x e = ap (λ y. Ok (loose y)) (ok_is (with_element b tag.name (element_row b tag)) x e)

settles : (b : Building) (p : Pending) (x : Building) → settled_by b p ≡ Ok x → settled_by (loose b) p ≡ Ok (loose x)
settles b pending.Nothing x e = ap (λ y. Ok (loose y)) (ok_is b x e)
settles b (pending.Start tag item) x e = tagged b tag item (fault_of b.rules (scope_in b.nest) tag) x e
settles b (pending.Chars chars) x e = ap (λ y. Ok (loose y)) (ok_is (with_row b (text_row b chars)) x e)

closes_tag : (b : Building) (p : Pending) (x : Building) → tag_closed_by b p ≡ Ok x → tag_closed_by (loose b) p ≡ Ok (loose x)
closes_tag b pending.Nothing x e = ap (λ y. Ok (loose y)) (ok_is b x e)
closes_tag b (pending.Start tag item) x e = tagged b tag item (fault_of b.rules (scope_in b.nest) tag) x e
closes_tag b (pending.Chars chars) x e = ap (λ y. Ok (loose y)) (ok_is b x e)

-- a test that only one side makes
unless_one : (b : Bool) (fault : TreeFault) (r s : Result Building TreeFault) → ((x : Building) → r ≡ Ok x → s ≡ Ok (loose x)) → (x : Building) → (if b then Err fault else r) ≡ Ok x → s ≡ Ok (loose x)
unless_one true fault r s h x e = cc
unless_one false fault r s h x e = h x e

-- and one that both make
unless_both : (b : Bool) (fault other : TreeFault) (r s : Result Building TreeFault) → ((x : Building) → r ≡ Ok x → s ≡ Ok (loose x)) → (x : Building) → (if b then Err fault else r) ≡ Ok x
    → (if b then Err other else s) ≡ Ok (loose x)
unless_both true fault other r s h x e = cc
unless_both false fault other r s h x e = h x e

on_both : (b : Bool) (r s u v : Result Building TreeFault) → ((x : Building) → r ≡ Ok x → s ≡ Ok (loose x)) → ((x : Building) → u ≡ Ok x → v ≡ Ok (loose x)) → (x : Building)
    → (if b then r else u) ≡ Ok x → (if b then s else v) ≡ Ok (loose x)
on_both true r s u v h k x e = h x e
on_both false r s u v h k x e = k x e

goes : (y x : Building) → ◌≡◌ {A = Result Building TreeFault} (Ok y) (Ok x) → ◌≡◌ {A = Result Building TreeFault} (Ok (loose y)) (Ok (loose x))
goes y x e = ap (λ z. Ok (loose z)) (ok_is y x e)

starts : (name : List ℕ) (b x : Building) → started name b ≡ Ok x → started name (loose b) ≡ Ok (loose x)
starts name b x e =
    unless_both (length b.nest.elements == 0 && b.rooted) _ _ _ _
    (unless_one (past b.rules.levels (length b.nest.elements + 1)) _ _ _ (unless_one (past b.rules.nodes b.next) _ _ _ (goes _))) x e

begins : (text : List ℕ) (b x : Building) → text_begun text b ≡ Ok x → text_begun text (loose b) ≡ Ok (loose x)
begins text b x e =
    on_both (length b.nest.elements == 0) _ _ _ _ (on_both (is_white text) _ _ _ _ (goes (counted b)) (λ z k. cc))
    (on_both (is_empty text) _ _ _ _ (goes (counted b)) (unless_one (past b.rules.nodes b.next) _ _ _ (goes _))) x e

lines : (b : Building) (p : Pending) (name value : List ℕ) (x : Building) → lined b p (record { name = name; value = value }) ≡ Ok x → lined (loose b) p (record { name = name; value = value }) ≡ Ok (loose x)
lines b pending.Nothing name value x e = cc
lines b (pending.Start tag item) name value x e = goes _ x e
lines b (pending.Chars chars) name value x e = cc

texts : (text : List ℕ) (b : Building) (p : Pending) (x : Building) → text_by text b p ≡ Ok x → text_by text (loose b) p ≡ Ok (loose x)
texts text b pending.Nothing x e = begins text b x e
texts text b (pending.Start tag item) x e = goes_on (tag_closed_by b (pending.Start tag item)) (tag_closed_by (loose b) (pending.Start tag item)) (text_begun text) (closes_tag b (pending.Start tag item)) (begins text) x e
texts text b (pending.Chars chars) x e = goes _ x e

ends : (name : List ℕ) (b x : Building) → ended name b ≡ Ok x → ended name (loose b) ≡ Ok (loose x)
ends name b x e = on_both (closes name b.nest.elements) _ _ _ _ (goes _) (λ z k. cc) x e

takes : (b : Building) (item : Item) (x : Building) → took b item ≡ Ok x → took (loose b) item ≡ Ok (loose x)
takes b (items.Start name) x e = goes_on (settled b) (settled (loose b)) (started name) (settles b b.pending) (starts name) x e
takes b (items.Attr name value) x e = lines b b.pending name value x e
takes b (items.Chars text) x e = texts text b b.pending x e
takes b (items.Close name) x e = goes_on (settled b) (settled (loose b)) (ended name) (settles b b.pending) (ends name) x e
takes b items.Instruction x e = goes_on (tag_closed_by b b.pending) (tag_closed_by (loose b) b.pending) (λ y. Ok (counted y)) (closes_tag b b.pending) (λ y z k. goes (counted y) z k) x e
takes b (items.Schema locations) x e = cc
takes b items.Document x e = cc
takes b items.Edits x e = cc
takes b items.End x e = cc
takes b items.Dot x e = cc
takes b (items.Command line) x e = cc

all : (its : List Item) (b x : Building) → after_all (Ok b) its ≡ Ok x → after_all (Ok (loose b)) its ≡ Ok (loose x)
all [] b x e = goes b x e
all (item ∷ more) b x e = by (took b item) refl e (all more)
  where
    failed : (more : List Item) (fault : TreeFault) → after_all (Err fault) more ≡ Err fault
    failed [] fault = refl
    failed (item ∷ more) fault = failed more fault

    by : (r : Result Building TreeFault) → took b item ≡ r → after_all r more ≡ Ok x → ((b x : Building) → after_all (Ok b) more ≡ Ok x → after_all (Ok (loose b)) more ≡ Ok (loose x))
        → after_all (took (loose b) item) more ≡ Ok (loose x)
    by (Ok y) q k rest = ap (λ r. after_all r more) (takes b item y q) ∙ rest y x k
    by (Err fault) q k rest = let f : Err fault ≡ Ok x = sym (failed more fault) ∙ k in cc

finishes : (b : Building) (end : Built) → finished b ≡ Ok end → finished (loose b) ≡ Ok end
finishes b end e = e

ends_all : (b : Building) (end : Built) → ended_all b ≡ Ok end → ended_all (loose b) ≡ Ok end
ends_all b end e = by (settled b) refl e
  where
    by : (r : Result Building TreeFault) → settled b ≡ r → (r >>= finished) ≡ Ok end → ended_all (loose b) ≡ Ok end
    by (Ok y) q k = ap (λ r. r >>= finished) (settles b b.pending y q) ∙ k
    by (Err fault) q k = cc

built_loose : (scope : List Binding) (its : List Item) (end : Built) → built document_rules scope its ≡ Ok end → built block_rules scope its ≡ Ok end
built_loose scope its end e = by (after_all (Ok (nothing document_rules scope)) its) refl e
  where
    by : (r : Result Building TreeFault) → after_all (Ok (nothing document_rules scope)) its ≡ r → (r >>= ended_all) ≡ Ok end → built block_rules scope its ≡ Ok end
    by (Ok y) q k = ap (λ r. r >>= ended_all) (all its (nothing document_rules scope) y q) ∙ ends_all y end k
    by (Err fault) q k = cc

-- the tree of a fragment is the element of its block
pub fragment_block : (scope : List Binding) (its : List Item) (d : Document) → document (built document_rules scope its) ≡ Ok d → d.forest ≡ block scope its
fragment_block scope its d e = by (built document_rules scope its) refl e
  where
    by : (r : Result Built TreeFault) → built document_rules scope its ≡ r → document r ≡ Ok d → d.forest ≡ block scope its
    by (Ok end) q k = sym (ap (λ (x : Document). x.forest) (ok_is (record { forest = siblings end.rows 1; next_free = end.next }) d k)) ∙ sym (ap forest_of (built_loose scope its end q))
    by (Err fault) q k = cc
