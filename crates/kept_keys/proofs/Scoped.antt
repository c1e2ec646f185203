-- Each element gets its codes in turn, the last first.
use Rattle.std.proofs.Common.{◌≡◌, ℕ, List, [], ◌∷◌, ◌++◌, length, map, sym, ap, ◌∙◌, subst, inl, inr, arith}
use Rattle.std.proofs.lemmas.Bool.{cases_eq}
use Rattle.std.proofs.lemmas.List.{length_push, map_push, same_from_push}
use Rattle.xs_codes.specs.declared.fault.Found.{Found}
use Rattle.tree_rows.specs.Forest.{Document}
use Rattle.identity_constraints.specs.Seen.{KeyForest}
use Rattle.what_is_found.specs.Identity.{seen}
use Rattle.compiled_schema.specs.declared.compiled.Compiled.{Compiled}
use Rattle.doc_nodes.specs.Nodes.{Nodes, Lacks}
use Rattle.kept_above.specs.from_kept_records.Slots.{IsMade, kept_at}
use Rattle.kept_above.specs.from_kept_records.Found.{IsOver, found_in}
use Rattle.kept_above.specs.from_kept_state.KeptState.{KeptState}
use Rattle.kept_keys.specs.Keys.{IsWhole, IsCoded, KeepsElements, codes_at}
use Rattle.kept_keys.proofs.Lists.{lacks-last}
use Rattle.kept_keys.proofs.Plain.{none-coded}
use Rattle.kept_keys.proofs.Whole.{seen-stays}

-- these are the codes of the elements of these numbers, in a forest as identity constraints see it, and all others have theirs
pub record AreCodedBut (c : Compiled) (f : KeyForest) (k : KeptState) (numbers : List ℕ) (codes : List (List Found)) : Type 0 where
  pub codes_are : codes ≡ map (codes_at c f) numbers
  pub others : (n : ℕ) → IsMade k.records.slots n → Lacks n numbers → (kept_at k.records.slots n).identity ≡ codes_at c f n

-- the last of them gets its codes
module _ (c : Compiled) (f : KeyForest) (old new : KeptState) (numbers rest : List ℕ) (codes less : List (List Found)) (n : ℕ) (own : List Found) (popped : numbers ≡ rest ++ n ∷ [])
    (taken : codes ≡ less ++ own ∷ []) (coded : IsCoded old new n own) (before : AreCodedBut c f old numbers codes) where
  last : (less ≡ map (codes_at c f) rest) × (own ≡ codes_at c f n)
  last =
      same_from_push less (map (codes_at c f) rest) own (codes_at c f n)
      (sym taken ∙ before.codes_are ∙ ap (map (codes_at c f)) popped ∙ map_push (codes_at c f) rest n)

  pub coded-more : AreCodedBut c f new rest less
  coded-more = record {
    codes_are = last.0;
    others = λ m made lacks. elim (cases_eq m n) [
      | inl e ↦ ap (λ (q : ℕ). (kept_at new.records.slots q).identity) e ∙ coded.here ∙ last.1 ∙ ap (codes_at c f) (sym e)
      | inr other ↦
          coded.others m other
          ∙ before.others m ((coded.elements.made m).1 made) (subst (Lacks m) (sym popped) (lacks-last m rest n lacks (λ e. other (sym e))))
    ];
  }

-- there are as many numbers as codes
pub coded-short : (c : Compiled) (f : KeyForest) (k : KeptState) (numbers : List ℕ) (codes less : List (List Found)) (own : List Found) → numbers ≡ [] → codes ≡ less ++ own ∷ [] →
    AreCodedBut c f k numbers codes → ⊥
coded-short c f k numbers codes less own none taken coded =
    let many = length_push less own in
    let all = ap length (sym taken ∙ coded.codes_are ∙ ap (map (codes_at c f)) none) in
    omega (arith, many, all)

-- none waits
module _ (c : Compiled) (ns : Nodes) (old new : KeptState) (before : IsWhole c ns old) (after : IsWhole c ns new) (elements : KeepsElements old new) (d : Document) (over : IsOver c ns new.records.slots d) where
  pub coded-all : (numbers : List ℕ) (codes : List (List Found)) → codes ≡ [] → AreCodedBut c (seen (found_in ns old.records.slots d.forest)) new numbers codes →
      (n : ℕ) → IsMade new.records.slots n → (kept_at new.records.slots n).identity ≡ codes_at c (seen (found_in ns new.records.slots d.forest)) n
  coded-all [] codes none coded n made = coded.others n made tt ∙ ap (λ (f : KeyForest). codes_at c f n) (sym (seen-stays c ns old new before after elements d over))
  coded-all (m ∷ more) codes none coded n made = absurd (no-more (map (codes_at c (seen (found_in ns old.records.slots d.forest))) more) (sym none ∙ coded.codes_are))
    where
      no-more : {X : Type 0} {x : X} (xs : List X) → [] ≡ x ∷ xs → ⊥
      no-more xs e = cc

-- there are no identity constraints
pub coded-plain : (c : Compiled) (ns : Nodes) (k : KeptState) → IsWhole c ns k → c.identities.items ≡ [] → (f : KeyForest) (n : ℕ) → (kept_at k.records.slots n).identity ≡ codes_at c f n
coded-plain c ns k whole none f n = whole.beside.plain none n ∙ sym (none-coded c whole.beside.over.1.usable none f n)
