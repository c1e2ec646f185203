-- Cells of pairs, by those of the pairs before them.
use Rattle.std.proofs.Common.{◌≡◌, ℕ, zero, suc, ◌+◌, ◌*◌, ◌<◌, ◌↔◌, ◌&&◌, inl, inr, Bool, IsTrue, List, [], ◌∷◌, ◌++◌, Some, None, Option, length, get_or, slice_get, refl, sym, ap, subst, ◌∙◌, arith}
use Rattle.std.specs.Prelude.{All as Each}
use Rattle.std.proofs.lemmas.Bool.{and_parts, and_from, cases_eq, cases_lt}
use Rattle.std.proofs.lemmas.List.{get_or_append_left, get_or_push}
use Rattle.std.proofs.lemmas.List.Elements.{All-get_or}
use Rattle.xs_components.specs.declared.common.TypeId.{TypeId}
use Rattle.particle_models.specs.Trees.{Tree, Trees, leaf, group, once}
use Rattle.particle_models.specs.Parts.{tree_in, tree_of, members_at, trees_from, MembersBelow}
use Rattle.particle_models.specs.declared.part.Bounds.{Bounds}
use Rattle.particle_models.specs.declared.part.Compositor.{Compositor}
use Rattle.particle_models.specs.declared.part.Part.{Part}
use Rattle.particle_restrict.specs.Totals.{total, emptiable_members}
use Rattle.particle_restrict.specs.Occurrence.{IsRangeOk, any_number}
use Rattle.particle_restrict.specs.Terms.{IsElement, IsWildcard}
use Rattle.particle_restrict.specs.Groups.{GroupRestricts}
use Rattle.particle_restrict.specs.Restricts.{count, tree_nth, LeafRestrictsNth, Restricts, AllRestrict, NthRestricts, GroupRestrictsLeaf}
use Rattle.particle_restrict.specs.Tables.{AreOrdered, no_cell, IsCell, AreCells, HaveCells}
use Rattle.particle_restrict.specs.declared.cells.Cell.{Cell}
use Rattle.particle_restrict.specs.declared.terms.Term.{Term}
use Rattle.particle_restrict.specs.declared.terms.Term.TheVariants.{Element, Any}
use Rattle.particle_models.proofs.GroupGrowing.{tree_is}
use Rattle.particle_restrict.proofs.MemberLaws.{count-members, length-emptiable, nth-members, leaf-nth, nth-restricts, all-restrict}
use Rattle.particle_restrict.proofs.GroupLaws.{group-to}

-- rows of one width
pub row_below : (i d n j : ℕ) → i < d → j < n → i * n + j < d * n
row_below i zero n j l m = absurd (omega arith)
row_below i (suc d) n j l m = elim (cases_eq i d) [
  | inl e ↦ (let r : suc d * n ≡ d * n + n = omega arith in rw (e, r) (omega arith))
  | inr e ↦ (let r : suc d * n ≡ d * n + n = omega arith in let k = row_below i d n j (omega arith) m in rw r (omega arith))
]

place_same : (i d n j b : ℕ) → j < n → b < n → i * n + j ≡ d * n + b → (i ≡ d) × (j ≡ b)
place_same i d n j b l m e = elim (cases_lt i d) [
  | inl less ↦ (let k = row_below i d n j less l in absurd (omega arith))
  | inr more ↦ elim (cases_lt d i) [
    | inl less ↦ (let k = row_below d i n b less m in absurd (omega arith))
    | inr both ↦ (let s : i ≡ d = omega arith in (s, (let e2 = rw s at e in omega arith)))
  ]
]

module _ (terms : List Term) (derives : TypeId → TypeId → Bool) (derived base : List Part) where
  abbrev n : ℕ
  n = length base

  -- the next cell
  pub cells-more : (cells : List Cell) (d b : ℕ) (cell : Cell) → b < n → length cells ≡ d * n + b → AreCells terms derives derived base cells →
      IsCell terms derives (tree_in derived d) (tree_in base b) cell → AreCells terms derives derived base (cells ++ cell ∷ [])
  cells-more cells d b cell l e all is i j m h = elim (cases_lt (i * n + j) (length cells)) [
    | inl before ↦ subst (IsCell terms derives (tree_in derived i) (tree_in base j)) (sym (get_or_append_left cells (cell ∷ []) no_cell (i * n + j) before)) (all i j m before)
    | inr behind ↦ (let k = length_more cells cell in
        let at : length cells ≡ i * n + j = omega arith in
        let s = place_same i d n j b m l (sym at ∙ e) in
        subst (IsCell terms derives (tree_in derived i) (tree_in base j)) (sym (get_or_push cells cell no_cell (i * n + j) at))
        (subst (λ (x : ℕ). IsCell terms derives (tree_in derived x) (tree_in base j) cell) (sym s.0) (subst (λ (y : ℕ). IsCell terms derives (tree_in derived d) (tree_in base y) cell) (sym s.1) is)))
  ]
    where
      length_more : (cells : List Cell) (cell : Cell) → length (cells ++ cell ∷ []) ≡ length cells + 1
      length_more [] cell = refl
      length_more (c ∷ cells) cell = let r = length_more cells cell in omega arith

  -- the cells of members, which come first
  pub have-below : (cells : List Cell) (members base_members : List ℕ) → AreCells terms derives derived base cells → ((i j : ℕ) → i < length members → j < length base_members → get_or members i 0 * n + get_or base_members j 0 < length cells) →
      Each (λ j. j < n) base_members → HaveCells terms derives derived base cells members base_members
  have-below cells members base_members all there low i j l m = (
    there i j l m,
    (all (get_or members i 0) (get_or base_members j 0) (All-get_or (λ j. j < n) base_members j 0 m low) (there i j l m)).restricts,
  )

  abbrev R : Tree → Tree → Type 0
  R a b = Restricts terms derives a b

  -- an element over a group
  pub leaf-group : (d t : ℕ) (bounds q : Bounds) (k : Compositor) (ns : List ℕ) → tree_in derived d ≡ leaf bounds t → IsElement (slice_get terms t) →
      R (tree_in derived d) (group q k (members_at (trees_from [] base) ns)) ↔
      GroupRestricts (λ i j. R (tree_in derived (get_or (d ∷ []) i 0)) (tree_in base (get_or ns j 0))) once q 1 (emptiable_members (members_at (trees_from [] base) ns)) k k
  leaf-group d t bounds q k ns e element =
      let flags : List Bool = emptiable_members (members_at (trees_from [] base) ns) in
      let long : length flags ≡ length ns = length-emptiable (trees_from [] base) ns in
      let S : ℕ → ℕ → Type 0 = λ i j. LeafRestrictsNth terms derives bounds t (members_at (trees_from [] base) ns) j in
      let Q : ℕ → ℕ → Type 0 = λ i j. R (tree_in derived (get_or (d ∷ []) i 0)) (tree_in base (get_or ns j 0)) in
      let same : (i j : ℕ) → i < 1 → j < length flags → S i j ↔ Q i j = (λ i j l m. one i j l (omega arith)) in (
        (λ h. group-to S Q once q 1 flags (λ i j l m x. (same i j l m).0 x) (λ i j l m x. (same i j l m).1 x) k k (rw e at h).1),
        (λ h. rw e (element, group-to Q S once q 1 flags (λ i j l m x. (same i j l m).1 x) (λ i j l m x. (same i j l m).0 x) k k h)),
      )
    where
      one : (i j : ℕ) → i < 1 → j < length ns → LeafRestrictsNth terms derives bounds t (members_at (trees_from [] base) ns) j ↔ R (tree_in derived (get_or (d ∷ []) i 0)) (tree_in base (get_or ns j 0))
      one zero j l m = rw e (leaf-nth terms derives (trees_from [] base) bounds t ns j m)
      one (suc i) j l m = absurd (omega arith)

  -- a group over a group
  pub group-group : (d : ℕ) (p q : Bounds) (k l : Compositor) (ms ns : List ℕ) → tree_in derived d ≡ group p k (members_at (trees_from [] derived) ms) →
      R (tree_in derived d) (group q l (members_at (trees_from [] base) ns)) ↔
      GroupRestricts (λ i j. R (tree_in derived (get_or ms i 0)) (tree_in base (get_or ns j 0))) p q (length ms) (emptiable_members (members_at (trees_from [] base) ns)) k l
  group-group d p q k l ms ns e =
      let dm : Trees = members_at (trees_from [] derived) ms in
      let bm : Trees = members_at (trees_from [] base) ns in
      let flags : List Bool = emptiable_members bm in
      let long : length flags ≡ length ns = length-emptiable (trees_from [] base) ns in
      let many : count dm ≡ length ms = count-members (trees_from [] derived) ms in
      let S : ℕ → ℕ → Type 0 = λ i j. NthRestricts terms derives dm i (tree_nth bm j) in
      let Q : ℕ → ℕ → Type 0 = λ i j. R (tree_in derived (get_or ms i 0)) (tree_in base (get_or ns j 0)) in
      let same : (i j : ℕ) → i < length ms → j < length flags → S i j ↔ Q i j = (λ i j x y.
      rw (nth-members (trees_from [] base) ns j (omega arith)) (nth-restricts terms derives (trees_from [] derived) (tree_in base (get_or ns j 0)) ms i x)) in (
        (λ h. group-to S Q p q (length ms) flags (λ i j x y z. (same i j x y).0 z) (λ i j x y z. (same i j x y).1 z) k l (subst (λ (c : ℕ). GroupRestricts S p q c flags k l) many (rw e at h))),
        (λ h. rw e (subst (λ (c : ℕ). GroupRestricts S p q c flags k l) (sym many) (group-to Q S p q (length ms) flags (λ i j x y z. (same i j x y).1 z) (λ i j x y z. (same i j x y).0 z) k l h))),
      )

  -- a group over a wildcard or an element
  pub group-leaf : (p q : Bounds) (k : Compositor) (ms : List ℕ) (u : ℕ) →
      R (group p k (members_at (trees_from [] derived) ms)) (leaf q u) ↔
      (IsWildcard (slice_get terms u) × Each (λ m. R (tree_in derived m) (leaf any_number u)) ms × IsRangeOk (total (group p k (members_at (trees_from [] derived) ms))).least (total (group p k (members_at (trees_from [] derived) ms))).most q)
  group-leaf p q k ms u = of (slice_get terms u)
    where
      each : AllRestrict terms derives (members_at (trees_from [] derived) ms) (leaf any_number u) ↔ Each (λ m. R (tree_in derived m) (leaf any_number u)) ms
      each = all-restrict terms derives (trees_from [] derived) (leaf any_number u) ms

      of : (o : Option Term) → GroupRestrictsLeaf (total (group p k (members_at (trees_from [] derived) ms))) (λ b. AllRestrict terms derives (members_at (trees_from [] derived) ms) b) q u o ↔
          (IsWildcard o × Each (λ m. R (tree_in derived m) (leaf any_number u)) ms × IsRangeOk (total (group p k (members_at (trees_from [] derived) ms))).least (total (group p k (members_at (trees_from [] derived) ms))).most q)
      of None = ((λ h. absurd h), (λ h. absurd h.0))
      of (Some (Element element)) = ((λ h. absurd h), (λ h. absurd h.0))
      of (Some (Any space)) = ((λ h. (tt, each.0 h.each, h.range_ok)), (λ h. record { each = each.1 h.1; range_ok = h.2 }))

-- ---- parts as they are read
module _ (parts : List Part) (i : ℕ) (p : Part) (ordered : AreOrdered parts) (there : i < length parts) (is : p ≡ get_or parts i p) where
  pub part-read : (q : Part) → p ≡ q → tree_in parts i ≡ tree_of (trees_from [] parts) q
  part-read q e = tree_is parts i p ordered there ∙ ap (tree_of (trees_from [] parts)) (sym is ∙ e)

  pub members-read : (q : Part) → p ≡ q → MembersBelow i q
  members-read q e = rw (sym e) (rw is (ordered i p there))

module _ (terms : List Term) (derives : TypeId → TypeId → Bool) (derived base : List Part) (cells : List Cell) (d b : ℕ) (count-is : length cells ≡ d * length base + b) (all : AreCells terms derives derived base cells) where
  -- the cells of members and a particle of the base come first
  pub members-first : b < length base → (ms : List ℕ) → Each (λ m. m < d) ms → Each (λ m. m * length base + b < length cells) ms
  members-first l ms low i e h = let k = row_below (get_or ms i e) d (length base) b (low i e h) l in omega arith

  -- the cells of a particle and members of the base come first
  pub base-first : (ns : List ℕ) → Each (λ j. j < b) ns → Each (λ j. d * length base + j < length cells) ns
  base-first ns low i e h = let k = low i e h in omega arith

  -- a group over an element or a wildcard
  pub group-cell : (u : ℕ) (p q : Bounds) (k : Compositor) (ms : List ℕ) (wild each ok : Bool) → b < length base → tree_in derived d ≡ group p k (members_at (trees_from [] derived) ms) → tree_in base b ≡ leaf q u →
      Each (λ m. m < d) ms → (IsTrue wild ↔ IsWildcard (slice_get terms u)) → (IsTrue each ↔ Each (λ m. IsTrue (get_or cells (m * length base + b) no_cell).within) ms) →
      (IsTrue ok ↔ IsRangeOk (total (tree_in derived d)).least (total (tree_in derived d)).most q) →
      IsCell terms derives (tree_in derived d) (leaf q u) (record { restricts = (wild && each) && ok; within = wild && each })
  group-cell u p q k ms wild each ok l e f low w x o =
      let first = members-first l ms low in
      let one : (m : ℕ) → m * length base + b < length cells → IsTrue (get_or cells (m * length base + b) no_cell).within ↔ Restricts terms derives (tree_in derived m) (leaf any_number u) =
      (λ m h. rw f at (all m b l h).within) in
      let members : IsTrue each ↔ Each (λ m. Restricts terms derives (tree_in derived m) (leaf any_number u)) ms = (
        (λ h i z y. (one (get_or ms i z) (first i z y)).0 (x.0 h i z y)),
        (λ h. x.1 (λ i z y. (one (get_or ms i z) (first i z y)).1 (h i z y))),
      ) in
      let law : (r : Bounds) → Restricts terms derives (tree_in derived d) (leaf r u) ↔
      (IsWildcard (slice_get terms u) × Each (λ m. Restricts terms derives (tree_in derived m) (leaf any_number u)) ms × IsRangeOk (total (tree_in derived d)).least (total (tree_in derived d)).most r) =
      (λ r. rw e (group-leaf terms derives derived base p r k ms u)) in
      let any : IsRangeOk (total (tree_in derived d)).least (total (tree_in derived d)).most any_number = record { not_less = omega arith; not_more = tt } in
      record {
        restricts = (
          (λ h. let a = and_parts (wild && each) ok h in let c = and_parts wild each a.0 in (law q).1 (w.0 c.0, members.0 c.1, o.0 a.1)),
          (λ h. let a = (law q).0 h in and_from (wild && each) ok (and_from wild each (w.1 a.0) (members.1 a.1)) (o.1 a.2)),
        );
        within = (
          (λ h. let c = and_parts wild each h in (law any_number).1 (w.0 c.0, members.0 c.1, any)),
          (λ h. let a = (law any_number).0 h in and_from wild each (w.1 a.0) (members.1 a.1)),
        );
      }
