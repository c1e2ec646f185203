-- The places of the child elements whose names are ambivalent, one after another.
use Rattle.std.proofs.Common.{◌≡◌, ℕ, zero, suc, ◌+◌, ◌*◌, ◌<◌, ◌≤◌, List, [], ◌∷◌, length, map, drop, cond, Bool, true, false, Option, None, Some, refl, ap, ◌∙◌, subst, arith}
use Rattle.std.specs.Prelude.{filter, slice_get}
use Rattle.std.proofs.lemmas.Option.{none-some}
use Rattle.std.proofs.lemmas.List.{length-map}
use Rattle.std.proofs.Math.Nat.{mul-le-mul_left}
use Rattle.elem_governing.specs.declared.pairs.Governing.{Governing}
use Rattle.content_models.specs.declared.automaton.ContentAutomaton.{ContentAutomaton}
use Rattle.compiled_schema.specs.declared.compiled.Compiled.{Compiled}
use Rattle.model_terms.specs.Terms.{is_ambivalent_symbol}
use Rattle.doc_nodes.specs.Nodes.{Node, Nodes, node, IsSound, children_by, is_element_at, element_children}
use Rattle.doc_changes.specs.Held.{parent_at}
use Rattle.doc_changes.specs.Readers.{name_at}
use Rattle.child_lists.specs.from_kept_records.Slots.{pair_at}
use Rattle.child_lists.specs.from_kept_records.Fit.{models_of}
use Rattle.child_lists.proofs.from_kept_records.Nodes.{child-parent}
use Rattle.child_lists.specs.from_kept_state.KeptState.{KeptState}
use Rattle.child_lists.specs.from_kept_judging.Judged.{symbols_by}
use Rattle.child_lists.specs.Family.{AreGivenBut, marked_places, model_of, symbols_of}
use Rattle.kept_children.specs.Steps.{places_of}
use Rattle.child_lists.proofs.Edits.{drop-get, drop-none, few-marked, marked-below, some-get}
use Rattle.child_lists.proofs.Terms.{many-symbols}

pub few-places : (model : Option ContentAutomaton) (symbols : List ℕ) → length (marked_places model symbols) ≤ length symbols
few-places None symbols = omega arith
few-places (Some a) symbols = let h = few-marked (map (is_ambivalent_symbol a) symbols) 0 in let n = length-map symbols (is_ambivalent_symbol a) in omega (arith, h, n)

place-in : (model : Option ContentAutomaton) (symbols : List ℕ) (number place : ℕ) → slice_get (marked_places model symbols) number ≡ Some place → place < length symbols
place-in None symbols number place e = absurd (none-some place e)
place-in (Some a) symbols number place e = marked-below (is_ambivalent_symbol a) symbols number place e

module _ (c : Compiled) (ns : Nodes) where
  -- they go by what governs the parent
  pub places-stay : (old new : KeptState) (n : ℕ) → pair_at new.records.slots n ≡ pair_at old.records.slots n → places_of c ns new n ≡ places_of c ns old n
  places-stay old new n e = ap (λ (g : Governing). marked_places (models_of c g.of) (symbols_by c ns g.of n)) e

  module _ (k : KeptState) (n : ℕ) where
    -- at each there is a child element
    pub child-there : (number place : ℕ) → slice_get (places_of c ns k n) number ≡ Some place → (child : ℕ) × (slice_get (element_children ns n) place ≡ Some child)
    child-there number place e =
        let l = place-in (model_of c k n) (symbols_of c ns k n) number place e in
        let m = many-symbols c.names (model_of c k n) (name_at ns) (element_children ns n) in
        some-get (element_children ns n) place (omega (arith, l, m))

    pub few-there : length (places_of c ns k n) ≤ length (element_children ns n)
    few-there = let h = few-places (model_of c k n) (symbols_of c ns k n) in let m = many-symbols c.names (model_of c k n) (name_at ns) (element_children ns n) in omega (arith, h, m)

  -- those from a number on wait: the first of them, and then the others
  pub places-next : (k : KeptState) (n : ℕ) (places : List ℕ) (number place : ℕ) → slice_get places number ≡ Some place → AreGivenBut c ns k n (drop number places) →
      AreGivenBut c ns k n (place ∷ drop (number + 1) places)
  places-next k n places number place e given =
      let next : suc number ≡ number + 1 = omega arith in
      subst (AreGivenBut c ns k n) (drop-get places number place e ∙ ap (λ m. place ∷ drop m places) next) given

  pub places-ended : (k : KeptState) (n : ℕ) (places : List ℕ) (number : ℕ) → slice_get places number ≡ None → AreGivenBut c ns k n (drop number places) → AreGivenBut c ns k n []
  places-ended k n places number e given = subst (AreGivenBut c ns k n) (drop-none places number e) given

  get-past : (xs : List ℕ) (i : ℕ) → length xs ≤ i → slice_get xs i ≡ None
  get-past [] i le = refl
  get-past (x ∷ xs) zero le = absurd (omega (arith, le))
  get-past (x ∷ xs) (suc i) le = get-past xs i (omega (arith, le))

  pub places-past : (k : KeptState) (n : ℕ) (places : List ℕ) (number : ℕ) → length places ≤ number → AreGivenBut c ns k n (drop number places) → AreGivenBut c ns k n []
  places-past k n places number le given = places-ended k n places number (get-past places number le) given

-- ---- where they stand

-- the parent of a child element
pub child-up : (ns : Nodes) → IsSound ns → (n place child : ℕ) → slice_get (element_children ns n) place ≡ Some child → parent_at ns child ≡ Some n
child-up ns sound n place child e = by (node ns n) refl e
  where
    by : (o : Option Node) → node ns n ≡ o → slice_get (filter (is_element_at ns) (children_by o)) place ≡ Some child → parent_at ns child ≡ Some n
    by None q f = absurd (none-some child f)
    by (Some it) q f = child-parent ns sound n it q place child e

few-passed : (p : ℕ → Bool) (xs : List ℕ) → length (filter p xs) ≤ length xs
few-passed p [] = omega arith
few-passed p (x ∷ xs) = by (p x) (few-passed p xs)
  where
    by : (b : Bool) → length (filter p xs) ≤ length xs → length (cond b (x ∷ filter p xs) (filter p xs)) ≤ suc (length xs)
    by true h = omega (arith, h)
    by false h = omega (arith, h)

-- there are no more than children
pub few-marked-children : (c : Compiled) (ns : Nodes) (k : KeptState) (n : ℕ) → length (places_of c ns k n) ≤ length (children_by (node ns n))
few-marked-children c ns k n = let a = few-there c ns k n in let b = few-passed (is_element_at ns) (children_by (node ns n)) in omega (arith, a, b)

-- ---- the steps of those that were asked

pub asked-next : (d n first left now was still more : ℕ) → left + 3 * still ≤ first + (8 * d * n + 3 * was) → now + 3 * more ≤ left + (8 * d + 3 * still) → now + 3 * more ≤ first + (8 * d * (n + 1) + 3 * was)
asked-next d n first left now was still more a b = omega (arith, a, b)

all-asked : (d n count : ℕ) → n ≤ count → 8 * d * n ≤ 8 * d * count
all-asked d n count l = mul-le-mul_left (8 * d) l

pub asked-all : (d n count first left was still : ℕ) → n ≤ count → left + 3 * still ≤ first + (8 * d * n + 3 * was) → left ≤ first + (8 * d * count + 3 * was)
asked-all d n count first left was still l a = let m = all-asked d n count l in omega (arith, a, m)

pub asked-stopped : (d n count first left now was still : ℕ) → n < count → left + 3 * still ≤ first + (8 * d * n + 3 * was) → now ≤ left + (8 * d + 3 * still) → now ≤ first + (8 * d * count + 3 * was)
asked-stopped d n count first left now was still l a b = let m = all-asked d (n + 1) count (omega (arith, l)) in omega (arith, a, b, m)
