-- An element as the first of some siblings.
use Rattle.std.proofs.Common.{◌≡◌, ◌+◌, ◌-◌, ℕ, drop, Option, None, Some, true, refl, sym, ap, ◌∙◌, arith}
use Rattle.std.specs.Prelude.{slice_get, unwrap_or}
use Rattle.std.specs.Option.{option_and_then}
use Rattle.std.proofs.lemmas.Option.{none-some}
use Rattle.tree_rows.specs.declared.limits.TheConstants.{MAX_DEPTH}
use Rattle.identity_constraints.specs.Seen as keys
use Rattle.identity_constraints.specs.Seen.{KeyForest}
use Rattle.compiled_schema.specs.declared.compiled.Compiled.{Compiled}
use Rattle.doc_nodes.specs.Nodes.{Nodes, is_element_at, element_children}
use Rattle.doc_changes.specs.Held.{parent_at}
use Rattle.child_lists.proofs.from_kept_forgetting.Placed.{root-alone}
use Rattle.child_lists.specs.from_kept_state.KeptState.{KeptState}
use Rattle.kept_targets.specs.Kept.{IsFrom}
use Rattle.kept_targets.specs.Seen.{elements_under, seen_to}
use Rattle.kept_targets.specs.Whole.{IsWhole}
use Rattle.kept_targets.proofs.Around.{seen-under}
use Rattle.kept_targets.proofs.Firsts.{first-is}
use Rattle.kept_targets.proofs.Looking.{doc, made-of}
use Rattle.kept_targets.proofs.Touching.{kept-seen}

module _ (c : Compiled) (ns : Nodes) (k : KeptState) (whole : IsWhole c ns k) (n : ℕ) (is : is_element_at ns n ≡ true) where
  -- it has its place among the child elements of its parent
  there : (place parent : Option ℕ) → parent ≡ parent_at ns n → ((p : ℕ) → parent_at ns n ≡ Some p → is_element_at ns n ≡ true → option_and_then (slice_get (element_children ns p)) place ≡ Some n) → (parent_at ns n ≡ None → place ≡ None)
      → slice_get (elements_under ns parent) (unwrap_or place 0) ≡ Some n
  there place parent same element none = by (parent_at ns n) refl
    where
      placed : (p : ℕ) (o : Option ℕ) → option_and_then (slice_get (element_children ns p)) o ≡ Some n → slice_get (element_children ns p) (unwrap_or o 0) ≡ Some n
      placed p None e = absurd (none-some n e)
      placed p (Some i) e = e

      by : (o : Option ℕ) → parent_at ns n ≡ o → slice_get (elements_under ns parent) (unwrap_or place 0) ≡ Some n
      by None e =
          let root = root-alone c.names ns (doc c ns k whole) whole.beside.over.1.stands n is e in
          (λ i. slice_get (elements_under ns ((same ∙ e) i)) (unwrap_or (none e i) 0)) ∙ ap Some (sym root)
      by (Some p) e = (λ i. slice_get (elements_under ns ((same ∙ e) i)) (unwrap_or place 0)) ∙ placed p place (element p e is)

  pub from-is : (place parent : Option ℕ) → parent ≡ parent_at ns n → ((p : ℕ) → parent_at ns n ≡ Some p → is_element_at ns n ≡ true → option_and_then (slice_get (element_children ns p)) place ≡ Some n) → (parent_at ns n ≡ None → place ≡ None)
      → IsFrom ns k.records.slots n (seen_to k.records.slots ns MAX_DEPTH (drop (unwrap_or place 0) (elements_under ns parent)))
  from-is place parent same element none =
      let made = made-of c ns k whole n is in
      let first = first-is k.records.slots ns MAX_DEPTH (elements_under ns parent) (unwrap_or place 0) n made.0 (omega arith) (there place parent same element none) made.1 in
      record {
        below = seen_to k.records.slots ns (MAX_DEPTH - 1) (element_children ns n);
        next = seen_to k.records.slots ns MAX_DEPTH (drop (unwrap_or place 0 + 1) (elements_under ns parent));
        is = first ∙ ap (λ own. keys.element own (seen_to k.records.slots ns (MAX_DEPTH - 1) (element_children ns n)) (seen_to k.records.slots ns MAX_DEPTH (drop (unwrap_or place 0 + 1) (elements_under ns parent)))) (kept-seen k.records.slots n made.0 made.1);
        seen = seen-under c ns k whole n is;
      }
